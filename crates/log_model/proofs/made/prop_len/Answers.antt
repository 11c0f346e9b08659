use Rattle.std.proofs.Common.{arith}
use Rattle.log_model.proofs.MadeLemmas.{prop_low}
use Rattle.log_model.proofs.made.prop_len.Goals as goal

pub overflow_add-result-in-Some : goal.overflow_add-result-in-Some
overflow_add-result-in-Some c = omega (arith, prop_low c.args.name.now c.in-Some.value.now c.args.view.now c.in-Some.ensures, c.size-whole.ensures, c.size-whole.type_inv)

pub returns-in-Some-clause-low : goal.returns-in-Some-clause-low
returns-in-Some-clause-low c = omega (arith, prop_low c.args.name.now c.in-Some.value.now c.args.view.now c.in-Some.ensures, c.size-whole.ensures, c.size-whole.type_inv)
