use Rattle.std.proofs.Common.{◌∙◌, sym}
use Rattle.table_check.proofs.replayed.Replayed.is_in.Goals as goal

pub returns-then-is_same : goal.returns-then-is_same
returns-then-is_same c segment log is lawful =
    let same = c.is_same.ensures.0 c.if-is_same.true in
    let are = is.halves segment lawful in
    let tells = c.have_delivered.ensures log (is.delivered segment lawful) in (
      λ yes. (record { low = sym same.0 ∙ are.low; halves = sym same.1 ∙ are.halves }, tells.0 yes),
      λ both. tells.1 both.1,
    )
