use Rattle.std.proofs.Common.{sym, subst, arith}
use Rattle.log_model.specs.Bases.{Base, geometry}
use Rattle.log_model.specs.Log.{IsGeometry}
use Rattle.log_model.proofs.Places.{whole_geometry}
use Rattle.log_tests.proofs.recovery_tests.recovered.Goals as goal

pub recover-answer-requires : goal.recover-answer-requires
recover-answer-requires c = record { size = subst (λ (b : Base). IsGeometry (geometry 4096 b)) (sym c.none.ensures) (whole_geometry 4096 (record { low = omega arith; high = omega arith })) }
