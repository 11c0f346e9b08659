-- What a run of the generator does, by the status with which it ends.
use Rattle.std.specs.Prelude.{◌≡◌, ◌≢◌, ℕ, List, codes}
use Rattle.mq_outside.specs.Disk.{DiskState}
use Rattle.store_open.specs.declared.format.Sizes.{Sizes}
use Rattle.store_open.specs.declared.status.Status.{Status}
use Rattle.store_open.specs.declared.gen_words.GenCommand.{GenCommand}
use Rattle.store_open.specs.Formats.{no_sizes}
use Rattle.store_open.specs.GenWords.{IsGenCommand}
use Rattle.store_open.specs.Openings.{IsOpened, StoreTold}
use Rattle.tool_run.specs.Texts.{foreign_line, damaged_line}
use Rattle.tool_run.specs.Tools.{Failed as SinkFailed, SinkSeen, TookAll, TookOrFailed}
use Rattle.gen_run.specs.Fills.{FindsDamage, HasFilled}
use Rattle.gen_run.specs.Sums.{summary_text}
use Rattle.gen_run.specs.declared.summary.Summary.{Summary}

-- The store was opened with these sizes, and filled by the items that the command asks for, and the lines of the summary went to the sink:
-- all of them at status 0, and first ones at status 4.
pub record Fills (words : List (List ℕ)) (status : Status) (sink : SinkSeen) (tells : Type 0) (old new : DiskState)
    (store : StoreTold) (keep : DiskState) : Type 0 where
  pub command : GenCommand
  pub asked : IsGenCommand words command
  pub sizes : Sizes
  pub opened_as : IsOpened no_sizes sizes store keep
  pub summary : Summary
  pub filled : HasFilled tells sizes.segment command.items command.start summary old new
  pub took : status.code ≡ 0 → TookAll sink (summary_text summary)
  pub broke : status.code ≡ 4 → SinkFailed sink (summary_text summary)

-- It was not: the line of a store that is foreign, or has records, or is damaged, was written, and else nothing.
pub record WroteLine (status : Status) (sink : SinkSeen) : Type 0 where
  pub foreign : status.code ≡ 6 → TookOrFailed sink (foreign_line status.name)
  pub damaged : status.code ≡ 8 → TookOrFailed sink (damaged_line status.name status.place)
  pub nothing : status.code ≢ 6 → status.code ≢ 8 → sink.taken_then ≡ sink.taken

-- The store is this program's, was opened with these sizes, and is said to have records.
pub record HasRecords (status : Status) (store : StoreTold) (keep : DiskState) : Type 0 where
  pub named : status.name ≡ codes "records"
  pub sizes : Sizes
  pub opened_as : IsOpened no_sizes sizes store keep

-- It was opened, and its log is damaged, or says something else than the items that the command asks for, which were given.
pub record IsUnsound (words : List (List ℕ)) (status : Status) (old new : DiskState) (store : StoreTold) (keep : DiskState) : Type 0 where
  pub command : GenCommand
  pub asked : IsGenCommand words command
  pub sizes : Sizes
  pub opened_as : IsOpened no_sizes sizes store keep
  pub damage : FindsDamage sizes.segment command.items command.start status old new
