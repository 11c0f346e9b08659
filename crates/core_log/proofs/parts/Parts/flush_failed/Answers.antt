use Rattle.core_log.proofs.TurnLemmas.{fails}
use Rattle.core_log.proofs.parts.Parts.flush_failed.Goals as goal

pub returns-clause-carries : goal.returns-clause-carries
returns-clause-carries c s are = fails c.args.self.now s c.args.count c.failed.new.self are c.requires.out c.failed.ensures.failed (c.failed.ensures.log s.log are.pending)
