use Rattle.std.proofs.Common.{◌∙◌}
use Rattle.half_records.proofs.VerdictLemmas.{judged_is}
use Rattle.half_records.proofs.halves.Halves.judged.Goals as goal

pub returns : goal.returns
returns c segment log well has = c.judge.ensures ∙ judged_is segment log c.args.self.now well has c.args.half c.args.place c.args.group.now c.args.id.now
