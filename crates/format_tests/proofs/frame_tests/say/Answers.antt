use Rattle.format_tests.proofs.frame_tests.say.Goals as goal

pub write-requires-clause-bits : goal.write-requires-clause-bits
write-requires-clause-bits c = λ binary. absurd cc

pub write-requires-clause-lengths : goal.write-requires-clause-lengths
write-requires-clause-lengths c = λ binary. absurd cc
