use Rattle.std.proofs.Common.{sym, subst, arith}
use Rattle.log_model.specs.Bases.{Base, geometry}
use Rattle.log_model.specs.Log.{IsGeometry}
use Rattle.log_model.proofs.Places.{whole_geometry}
use Rattle.log_tests.proofs.recovery_tests.read.Goals as goal

pub read_kept-answer-requires : goal.read_kept-answer-requires
read_kept-answer-requires c = record { size = subst (λ (b : Base). IsGeometry (geometry 4096 b)) (sym c.none.ensures) (whole_geometry 4096 (record { low = omega arith; high = omega arith })) }
