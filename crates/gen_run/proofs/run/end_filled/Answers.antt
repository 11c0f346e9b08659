use Rattle.std.proofs.Common.{[], refl, subst}
use Rattle.tool_run.specs.Writes.{Told}
use Rattle.tool_run.proofs.WriteLemmas.{told_more, told_none}
use Rattle.gen_run.specs.Sums.{summary_text}
use Rattle.gen_run.proofs.run.end_filled.Goals as goal

pub returns-in-Ok-clause-done : goal.returns-in-Ok-clause-done
returns-in-Ok-clause-done g c code =
    let none = told_none g.K.Sink c.new-lines.result c.new-lines.ensures.held c.new-lines.ensures.well in
    let told = subst (λ k. Told g.K.Sink k c.new-lines.result []) c.new-lines.ensures.sink none in
    let text = summary_text c.args.summary in
    c.end_whole.ensures.done c.args.sink text (told_more g.K.Sink c.args.sink c.new-lines.result
    (record { sink = c.new-lines.result.sink; held = c.push_summary.new.out; failed = c.new-lines.result.failed }) [] text refl refl c.in-Ok.ensures told) code

pub returns-in-Ok-clause-failed : goal.returns-in-Ok-clause-failed
returns-in-Ok-clause-failed g c code =
    let none = told_none g.K.Sink c.new-lines.result c.new-lines.ensures.held c.new-lines.ensures.well in
    let told = subst (λ k. Told g.K.Sink k c.new-lines.result []) c.new-lines.ensures.sink none in
    let text = summary_text c.args.summary in
    c.end_whole.ensures.failed c.args.sink text (told_more g.K.Sink c.args.sink c.new-lines.result
    (record { sink = c.new-lines.result.sink; held = c.push_summary.new.out; failed = c.new-lines.result.failed }) [] text refl refl c.in-Ok.ensures told) code
