use Rattle.std.proofs.Common.{arith}
use Rattle.record_codec.proofs.TestLaws.{found_by, none_by}
use Rattle.record_codec.proofs.reading.test.Goals as goal

pub returns-clause-found : goal.returns-clause-found
returns-clause-found c = found_by c.args.bytes.now _ (λ i. omega (arith, c.type_inv.bytes i)) c.view_of.ensures

pub returns-clause-none : goal.returns-clause-none
returns-clause-none c = none_by c.args.bytes.now _ c.view_of.ensures
