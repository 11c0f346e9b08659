use Rattle.std.proofs.Common.{subst}
use Rattle.record_codec.specs.Drafts.{entry_of}
use Rattle.core_log.specs.declared.kind.Kind.{Kind}
use Rattle.core_log.specs.Stands.{IsKeptAs}
use Rattle.core_log.proofs.LevelLemmas.{halves_kept, levels_kept}
use Rattle.core_log.proofs.StoreLemmas.{on_ok}
use Rattle.core_log.proofs.parts.Parts.append_message.Goals as goal

pub returns-in-Plain-clause-appended : goal.returns-in-Plain-clause-appended
returns-in-Plain-clause-appended c =
    let old = c.args.self.now in
    let d = c.args.draft.now in
    let p = c.args.place.now in
    let is = subst (λ (kind : Kind). IsKeptAs kind (entry_of d p)) c.in-Plain.is c.requires.kept in
    on_ok c.append.result c.append.ensures.plain (λ done s are may. done s are may (λ layout. record {
      halves = halves_kept old s d p are may layout is.0;
      levels = levels_kept old s d p are is.1;
    }))
