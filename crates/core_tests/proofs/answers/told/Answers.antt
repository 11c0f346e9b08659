use Rattle.std.specs.Prelude.{refl}
use Rattle.core_tests.proofs.answers.told.Goals as goal

pub give-requires-clause-accepted : goal.give-requires-clause-accepted
give-requires-clause-accepted c = c.if-not-is_answered.ensures.accepted refl

pub give-requires-clause-stays : goal.give-requires-clause-stays
give-requires-clause-stays c = c.if-not-is_answered.ensures.stays refl
