use Rattle.std.proofs.Common.{◌∙◌, [], ap, subst}
use Rattle.tool_run.specs.Writes.{Told}
use Rattle.tool_run.proofs.WriteLemmas.{told_none}
use Rattle.gen_run.proofs.EndLemmas.{wrote_damaged}
use Rattle.gen_run.proofs.run.end_in_damage.Goals as goal

pub returns-clause-wrote : goal.returns-clause-wrote
returns-clause-wrote g c =
    let none = told_none g.K.Sink c.new-lines.result c.new-lines.ensures.held c.new-lines.ensures.well in
    let told = subst (λ k. Told g.K.Sink k c.new-lines.result []) c.new-lines.ensures.sink none in
    wrote_damaged c.end_damaged.result.status _ c.args.status.place c.args.status.name c.end_damaged.ensures.known (λ eight. c.end_damaged.ensures.damaged c.args.sink [] told eight) c.end_damaged.ensures.told
    (λ seven. ap g.K.Sink.taken (c.end_damaged.ensures.memory seven ∙ c.new-lines.ensures.sink))
