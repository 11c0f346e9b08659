use Rattle.std.proofs.Common.{sym, subst, arith, ◌∷◌, []}
use Rattle.record_codec.specs.Drafts.{entry_of}
use Rattle.log_model.specs.Numbered.{with_appended}
use Rattle.half_records.specs.declared.halves.Halves.{Halves}
use Rattle.half_records.specs.OfLog.{HasHalves}
use Rattle.level_records.specs.declared.levels.Levels.{Levels}
use Rattle.level_records.specs.OfLog.{HasLevels}
use Rattle.core_log.specs.Appends.{HasFewDelivered}
use Rattle.core_log.proofs.LevelLemmas.{halves_kept}
use Rattle.core_log.proofs.parts.Parts.append_delivery.Goals as goal

pub delivered-requires-clause-few : goal.delivered-requires-clause-few
delivered-requires-clause-few c l there =
    subst (λ (levels : Levels). HasFewDelivered levels c.args.level) (sym c.append.ensures.levels) c.requires.few l there

pub returns-clause-appended : goal.returns-clause-appended
returns-clause-appended c s are may =
    let d = c.args.draft.now in
    let p = c.args.place.now in
    let r = entry_of d p in
    let dispatched = are.state.dispatched in
    let flushed = are.state.flushed in
    let has = subst (λ (levels : Levels). HasLevels s.log s.dispatched levels) (sym c.append.ensures.levels) are.levels in
    c.in_ok-append.ensures.appended s c.append.new.self.halves c.delivered.new.self are may (λ layout. record {
      halves = subst (λ (halves : Halves). HasHalves (with_appended s.log (r ∷ [])) halves) (sym c.append.ensures.halves)
          (halves_kept c.args.self.now s d p are may layout c.requires.message);
      levels = c.delivered.ensures s.log s.dispatched r has (omega (arith, dispatched, flushed)) c.requires.copy;
    })
