use Rattle.std.proofs.Common.{◌≡◌, ◌∙◌, ap, sym, subst, arith, ℕ, ◌-◌, List, ◌∷◌, []}
use Rattle.record_codec.specs.Entry.{Entry}
use Rattle.record_codec.specs.Drafts.{entry_of}
use Rattle.half_records.specs.declared.halves.Halves.{Halves}
use Rattle.half_records.specs.OfLog.{HasHalves}
use Rattle.level_records.specs.declared.levels.Levels.{Levels}
use Rattle.level_records.specs.OfLog.{HasLevels, HasRoomFor}
use Rattle.delay_view.specs.OfLog.{IsMessageOf}
use Rattle.log_model.specs.Admissible.{level_topic}
use Rattle.log_model.specs.Numbered.{with_appended, queue_max}
use Rattle.core_log.proofs.LevelLemmas.{halves_kept}
use Rattle.core_log.proofs.parts.Parts.append_whole.Goals as goal

pub add-requires-clause-room : goal.add-requires-clause-room
add-requires-clause-room c = subst (λ (levels : Levels). HasRoomFor levels (c.args.level - 1)) (sym c.append.ensures.levels) c.requires.line

pub add-requires-clause-store : goal.add-requires-clause-store
add-requires-clause-store c = (let some = c.requires.some in some.2.next.time)

pub returns-clause-appended : goal.returns-clause-appended
returns-clause-appended c s are may =
    let d = c.args.draft.now in
    let p = c.args.place.now in
    let r = entry_of d p in
    let is = c.requires.delayed in
    let dispatched = are.state.dispatched in
    let flushed = are.state.flushed in
    let has = subst (λ (levels : Levels). HasLevels s.log s.dispatched levels) (sym c.append.ensures.levels) are.levels in
    let number : p.queue_offset ≡ queue_max s.log level_topic (c.args.level - 1) =
    may.next.queue_offset ∙ ap (λ (t : List ℕ). queue_max s.log t d.queue) is.topic ∙ ap (λ (q : ℕ). queue_max s.log level_topic q) is.queue in
    let fed = c.add.ensures s.log s.dispatched has (omega (arith, dispatched, flushed)) in
    c.in_ok-append.ensures.appended s c.append.new.self.halves c.add.new.self are may (λ layout. record {
      halves = subst (λ (halves : Halves). HasHalves (with_appended s.log (r ∷ [])) halves) (sym c.append.ensures.halves)
          (halves_kept c.args.self.now s d p are may layout c.requires.message);
      levels = subst (λ (w : Entry). HasLevels (with_appended s.log (w ∷ [])) s.dispatched c.add.new.self) c.requires.whole
          (fed (subst (λ (w : Entry). IsMessageOf c.args.level w) (sym c.requires.whole) is) number (ap (λ (w : Entry). w.store) (sym c.requires.whole)));
    })
