use Rattle.std.proofs.Common.{arith}
use Rattle.request_fields.proofs.Items.{too_many, few_enough}
use Rattle.request_fields.proofs.members.few.Goals as goal

pub returns-then-items-gt4096-clause-items : goal.returns-then-items-gt4096-clause-items
returns-then-items-gt4096-clause-items c = too_many c.args.items.now (omega arith)

pub returns-clause-items : goal.returns-clause-items
returns-clause-items c = few_enough c.args.items.now (omega arith)
