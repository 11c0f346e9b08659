use Rattle.std.proofs.Common.{sym, subst, ◌∙◌, ◌∷◌, []}
use Rattle.record_codec.specs.Drafts.{entry_of}
use Rattle.log_model.specs.Numbered.{with_appended}
use Rattle.log_model.specs.declared.origin.OriginState.TheVariants.{RolledBack}
use Rattle.level_records.specs.declared.levels.Levels.{Levels}
use Rattle.level_records.specs.OfLog.{HasLevels}
use Rattle.core_log.proofs.LevelLemmas.{half_settled, levels_kept, number_is, number_low, op_settles}
use Rattle.core_log.proofs.parts.Parts.append_op.Goals as goal

pub settle-requires : goal.settle-requires
settle-requires c = number_low c.args.self.now c.requires.some.0 c.end-number.result c.requires.some.1 c.end-number.ensures.value

pub returns-clause-appended : goal.returns-clause-appended
returns-clause-appended c s are may =
    let old = c.args.self.now in
    let d = c.args.draft.now in
    let p = c.args.place.now in
    let r = entry_of d p in
    let is = c.requires.op in
    c.in_ok-append.ensures.appended s c.settle.new.self c.append.new.self.levels are may (λ layout. record {
      halves = half_settled old s d p c.args.origin c.end-number.result RolledBack c.append.new.self.halves c.settle.new.self are may layout (op_settles old.halves.view c.args.origin r is)
          (c.end-number.ensures.value ∙ number_is old s are) c.append.ensures.halves c.settle.ensures.records;
      levels = subst (λ (levels : Levels). HasLevels (with_appended s.log (r ∷ [])) s.dispatched levels) (sym c.append.ensures.levels)
          (levels_kept old s d p are is.other);
    })
