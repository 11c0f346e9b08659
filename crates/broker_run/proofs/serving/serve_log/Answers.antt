use Rattle.core_log.specs.declared.parts.Parts.{Parts}
use Rattle.core_log.specs.Represents.{Represents}
use Rattle.std.proofs.Common.{sym, subst}
use Rattle.broker_run.proofs.CauseLemmas.{counts_status}
use Rattle.broker_run.proofs.KeptLemmas.{can_keep, ends_kept, told_after, counts_end}
use Rattle.broker_run.proofs.RunLemmas.{run_from, run_placed, run_with}
use Rattle.broker_run.proofs.serving.serve_log.Goals as goal

pub returns-clause-served : goal.returns-clause-served
returns-clause-served g c = record {
  ended = c.serve_to_end-ended.result.reading;
  last = c.serve_to_end-ended.result.last;
  replaced = c.keep_core-kept.result;
  tells = told_after c.status_kept.result c.status_of.result c.serve_to_end-ended.result.reading c.serve_to_end-ended.result.last c.keep_core-kept.result
      c.status_of.ensures.tells c.status_kept.ensures.tells;
  runs = λ setup saved log opens.
      run_with setup saved log c.serve_to_end-ended.result.reading c.serve_to_end-ended.result.last _ _ _ _
      (λ reached represents. ends_kept c.status_kept.result c.status_of.result _ reached c.keep_core-kept.result
      (c.keep_core-kept.ensures.kept reached (subst (λ (core : Parts). Represents core reached) (sym c.into_core-core.ensures) represents))
      c.status_kept.ensures.tells c.keep_core-kept.ensures.cause (can_keep c.serve_to_end-ended.new.calls.core reached represents))
      (run_from c.args.opened c.serve_to_end-ended.result _ setup saved log c.new-calls.result c.serve_to_end-ended.new.calls _ opens c.new-calls.ensures c.serve_to_end-ended.ensures.served);
}

pub returns-clause-others : goal.returns-clause-others
returns-clause-others g c = λ told.
    let over = c.requires.over in
    let ran = run_from c.args.opened c.serve_to_end-ended.result _ over.0 over.1 over.2 c.new-calls.result c.serve_to_end-ended.new.calls _ over.3 c.new-calls.ensures
    c.serve_to_end-ended.ensures.served in
    ((c.keep_core-kept.ensures.kept ran.reached (subst (λ (core : Parts). Represents core ran.reached) (sym c.into_core-core.ensures) ran.done.1)).puts told).reads.others

pub returns-clause-cause : goal.returns-clause-cause
returns-clause-cause g c =
    counts_end c.status_kept.result c.status_of.result c.keep_core-kept.result _ _ _ _ _ _ _ _ _ _ c.status_kept.ensures.tells c.keep_core-kept.ensures.cause
    (counts_status c.status_of.result c.serve_to_end-ended.result _ _ _ _ _ _ _ _ c.status_of.ensures.tells c.serve_to_end-ended.ensures.cause)

pub status_of-requires-clause-reading : goal.status_of-requires-clause-reading
status_of-requires-clause-reading g c =
    let over = c.requires.over in
    (run_placed c.args.opened c.serve_to_end-ended.result _ over.0 over.1 over.2 c.new-calls.result c.serve_to_end-ended.new.calls _ over.3 c.new-calls.ensures
    c.serve_to_end-ended.ensures.served).0

pub status_of-requires-clause-last : goal.status_of-requires-clause-last
status_of-requires-clause-last g c =
    let over = c.requires.over in
    (run_placed c.args.opened c.serve_to_end-ended.result _ over.0 over.1 over.2 c.new-calls.result c.serve_to_end-ended.new.calls _ over.3 c.new-calls.ensures
    c.serve_to_end-ended.ensures.served).1
