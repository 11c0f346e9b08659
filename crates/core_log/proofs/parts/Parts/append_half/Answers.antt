use Rattle.std.proofs.Common.{sym, subst, ◌∷◌, []}
use Rattle.record_codec.specs.Drafts.{entry_of}
use Rattle.log_model.specs.Numbered.{with_appended}
use Rattle.half_records.specs.declared.halves.Halves.{Halves}
use Rattle.half_records.specs.Tables.{HasRoomFor}
use Rattle.level_records.specs.declared.levels.Levels.{Levels}
use Rattle.level_records.specs.OfLog.{HasLevels}
use Rattle.core_log.proofs.LevelLemmas.{half_added, levels_kept}
use Rattle.core_log.proofs.parts.Parts.append_half.Goals as goal

pub add-requires-clause-store : goal.add-requires-clause-store
add-requires-clause-store c = (let some = c.requires.some in some.2.next.time)

pub add-requires-clause-room : goal.add-requires-clause-room
add-requires-clause-room c = subst (λ (halves : Halves). HasRoomFor halves c.args.named c.args.kept) (sym c.append.ensures.halves) c.requires.ready

pub returns-clause-appended : goal.returns-clause-appended
returns-clause-appended c s are may =
    let d = c.args.draft.now in
    let p = c.args.place.now in
    let r = entry_of d p in
    c.in_ok-append.ensures.appended s c.add.new.self c.append.new.self.levels are may (λ layout. record {
      halves = half_added c.args.self.now s d p c.args.named c.append.new.self.halves c.add.new.self c.args.kept c.args.whole are may layout c.requires.half c.requires.whole c.requires.kept c.append.ensures.halves c.add.ensures.records;
      levels = subst (λ (levels : Levels). HasLevels (with_appended s.log (r ∷ [])) s.dispatched levels) (sym c.append.ensures.levels)
          (levels_kept c.args.self.now s d p are c.requires.half.other);
    })
