use Rattle.std.proofs.Common.{◌≤◌, arith, rules, inr, ◌∙◌}
use Rattle.mq_outside.proofs.Moments.{chained}
use Rattle.log_model.proofs.OutsideLemmas.{outside_then}
use Rattle.log_model.proofs.StoredLemmas.{keeps_flushed}
use Rattle.segment_files.proofs.Turns.{on_err, writes_exact, writes_moved}
use Rattle.segment_files.proofs.Ready.{starts, ready_turns, ready_first, ready_second, ready_flushed, places_on, synced_both}
use Rattle.segment_files.specs.Turn.{IsOpened}
use Rattle.segment_files.proofs.last_file.LastFile.write_batch.Goals as goal

pub returns-in_err-open_next-clause-turned : goal.returns-in_err-open_next-clause-turned
returns-in_err-open_next-clause-turned g c tells it behind can =
    let start = starts it behind c.args.batch _ can in
    let stays = c.in_err-open_next.ensures.stays in
    let quiet = c.open_next.ensures.any_moment tells it.geometry it.log it.flushed _ _ start.writes start.goes.goes_on.opens in
    let still = writes_moved (c.open_next.ensures.still tells it.geometry it.log it.flushed _ _ start.writes start.goes.goes_on.opens) stays.0 stays.1 in
    record {
      any_moment = keeps_flushed it.log it.flushed start.writes.stores.within quiet;
      fault = on_err _ (ready_turns it _ _ (ready_first _ _ _ start still c.open_next.ensures.ahead c.in_err-open_next.ensures.due));
      flushed = search rules;
      exact = λ none low. search rules;
      ahead = c.open_next.ensures.ahead;
    }

pub returns-in_err-piece-clause-turned : goal.returns-in_err-piece-clause-turned
returns-in_err-piece-clause-turned g c tells it behind can =
    let start = starts it behind c.args.batch _ can in
    let opened = c.in_ok-open_next.ensures.opened tells it.geometry it.log it.flushed _ _ start.writes start.goes.goes_on.opens in
    let quiet = chained (c.open_next.ensures.any_moment tells it.geometry it.log it.flushed _ _ start.writes start.goes.goes_on.opens)
    (c.store.ensures.any_moment tells it.geometry it.log it.flushed _ _ _ opened start.goes.goes_on.records) in
    let same = c.store.ensures.ahead ∙ c.open_next.ensures.ahead in
    let ahead : c.open_next.new.self.ahead ≤ it.geometry.size = omega (arith, c.open_next.ensures.ahead, start.ahead) in
    let still = writes_moved (c.store.ensures.still tells it.geometry it.log it.flushed _ _ _ opened start.goes.goes_on.records ahead) c.store.ensures.base c.in_err-piece.ensures.stays in
    record {
      any_moment = keeps_flushed it.log it.flushed start.writes.stores.within quiet;
      fault = on_err _ (ready_turns it _ _ (ready_second _ _ _ start still same
          (omega (arith, start.short, c.open_next.ensures.ahead, c.in_ok-open_next.ensures.moved.1, c.in_err-piece.ensures.stays))));
      flushed = search rules;
      exact = λ none low. search rules;
      ahead = same;
    }

pub returns-clause-turned : goal.returns-clause-turned
returns-clause-turned g c tells it behind can =
    let start = starts it behind c.args.batch _ can in
    let opened = c.in_ok-open_next.ensures.opened tells it.geometry it.log it.flushed _ _ start.writes start.goes.goes_on.opens in
    let quiet = chained (c.open_next.ensures.any_moment tells it.geometry it.log it.flushed _ _ start.writes start.goes.goes_on.opens)
    (c.store.ensures.any_moment tells it.geometry it.log it.flushed _ _ _ opened start.goes.goes_on.records) in
    let same = c.store.ensures.ahead ∙ c.open_next.ensures.ahead in
    let ahead : c.open_next.new.self.ahead ≤ it.geometry.size = omega (arith, c.open_next.ensures.ahead, start.ahead) in
    let stored = c.in_ok-piece.ensures.flushed tells it.geometry it.log it.flushed _ _ _ opened start.goes.goes_on.records ahead in
    record {
      any_moment = keeps_flushed it.log it.flushed start.writes.stores.within quiet;
      fault = tt;
      flushed = ready_flushed it c.args.batch.count _ _ _ stored (omega (arith, same, start.ahead))
          (omega (arith, start.short, c.open_next.ensures.ahead, c.in_ok-open_next.ensures.moved.1, c.in_ok-piece.ensures.moved));
      exact = λ none low. writes_exact
          (omega (arith, none, low, start.short, c.open_next.ensures.ahead, c.in_ok-open_next.ensures.moved.1, c.in_ok-piece.ensures.moved)) stored;
      ahead = same;
    }

pub returns-in_err-piece-clause-outside : goal.returns-in_err-piece-clause-outside
returns-in_err-piece-clause-outside g c tells = outside_then (c.open_next.ensures.outside tells) (c.store.ensures.outside tells)

pub returns-clause-outside : goal.returns-clause-outside
returns-clause-outside g c tells = outside_then (c.open_next.ensures.outside tells) (c.store.ensures.outside tells)

pub returns-clause-synced : goal.returns-clause-synced
returns-clause-synced g c = synced_both _ _ _ _ c.in_ok-open_next.ensures.synced c.open_next.ensures.quiet c.in_ok-piece.ensures.synced

pub returns-in_err-piece-clause-places : goal.returns-in_err-piece-clause-places
returns-in_err-piece-clause-places g c it well is placed =
    let moved = c.in_ok-open_next.ensures.moved in
    let opened : IsOpened c.args.batch c.args.self.now c.store.new.self = record { base = c.store.ensures.base ∙ moved.0; offset = c.in_err-piece.ensures.stays ∙ moved.1 } in
    record { ok = search rules; err = on_err _ ((places_on it c.args.batch c.args.self.now c.store.new.self well is placed).1 (inr opened)) }

pub returns-clause-places : goal.returns-clause-places
returns-clause-places g c it well is placed =
    let moved = c.in_ok-open_next.ensures.moved in
    record {
      ok = (places_on it c.args.batch c.args.self.now c.store.new.self well is placed).0 (c.store.ensures.base ∙ moved.0) (omega (arith, c.in_ok-piece.ensures.moved, moved.1));
      err = tt;
    }
