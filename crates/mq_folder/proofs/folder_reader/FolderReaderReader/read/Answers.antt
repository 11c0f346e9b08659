use Rattle.std.proofs.Common.{ℕ, subst}
use Rattle.mq_outside.specs.Counts.{Rises}
use Rattle.mq_folder.proofs.folder_reader.FolderReaderReader.read.Goals as goal

-- src/folder_reader.rt:120:5
pub returns-in-Err-clause-cause : goal.returns-in-Err-clause-cause
returns-in-Err-clause-cause g c = subst (λ (n : ℕ). Rises n c.count_fault.new.self.faults) c.read_log.ensures.faults c.count_fault.ensures.faults
