-- A source that was served to its end, with the last flush turns behind it.
use Rattle.std.specs.Prelude.{ℕ, ◌≤◌, List, Option, Some, None, Result, Ok, Err}
use Rattle.mq_outside.specs.Counts.{Rises}
use Rattle.mq_outside.specs.Files.{Same}
use Rattle.mq_outside.specs.Disk.{Moves}
use Rattle.worker_turns.specs.Acts.{Acted, Place, change_of}
use Rattle.worker_turns.specs.Turning.{AreAllTurns}
use Rattle.pipe_stream.specs.Serving.{Sides, Point, point_of}
use Rattle.pipe_stream.specs.Piping.{SourceSeen, Piped, CountsPipe}
use Rattle.broker_run.specs.declared.ended.Ended.{Ended}
use Rattle.worker_turns.specs.declared.broken.Broken.{Broken}
use Rattle.worker_turns.specs.declared.broken.Broken.TheVariants.{Misplaced, Memory}
use Rattle.pipe_stream.specs.declared.stop.Halt.{Halt}
use Rattle.pipe_stream.specs.declared.stop.Halt.TheVariants.{BadFrame, Read, Stopped}
use Rattle.pipe_stream.specs.declared.stop.Stop.TheVariants as stops
use Rattle.pipe_stream.specs.Telling.{FaultCounts}

-- no batch that begins elsewhere than where the flusher writes ended the reading
abbrev pub ReadsPlaced : {A : Type 0} → Result A Halt → Type 0
ReadsPlaced (Ok done) = Unit {0}
ReadsPlaced (Err (BadFrame place)) = Unit {0}
ReadsPlaced (Err Read) = Unit {0}
ReadsPlaced (Err (Stopped stops.Clock)) = Unit {0}
ReadsPlaced (Err (Stopped stops.Sink)) = Unit {0}
ReadsPlaced (Err (Stopped stops.Memory)) = Unit {0}
ReadsPlaced (Err (Stopped stops.Misplaced)) = ⊥

-- nor the last flush turns
abbrev pub FlushesPlaced : {A : Type 0} → Result A Broken → Type 0
FlushesPlaced (Ok done) = Unit {0}
FlushesPlaced (Err Misplaced) = ⊥
FlushesPlaced (Err Memory) = Unit {0}

-- what ended the reading of the requests, and what came of the last flush turns
abbrev pub ended_as : Result (Unit {0}) Halt → Result (Option ℕ) Broken → Ended
ended_as reading last = record { reading = reading; last = last }

-- who makes the broker's steps at the end, the disk, what the sink took, and the readings that the clock gave
pub record Ending (C D : Type 0) : Type 0 where
  pub calls : C
  pub disk : D
  pub taken : List ℕ
  pub readings : List ℕ

abbrev pub ending_of : {C D : Type 0} → C → D → List ℕ → List ℕ → Ending C D
ending_of calls disk taken readings = record { calls = calls; disk = disk; taken = taken; readings = readings }

-- The requests of the source were served, then flush turns were made, and the reader was given back.
pub record ServesToEnd {C D : Type 0} (sides : Sides C D) (ended : Ended) (source : SourceSeen) (x : C) (old : Point D)
    (ending : Ending C D) : Type 0 where
  pub served : C
  pub mid : Place D
  pub final : Place D
  pub reads : ℕ
  pub piped : Piped sides ended.reading source (change_of x old served (point_of mid reads ending.taken ending.readings))
  pub flushed : Acted sides.makes sides.disk (AreAllTurns ended.last) (change_of served mid ending.calls final)
  pub back : sides.disk.tells → Moves Same (sides.disk.state final.disk) (sides.disk.state ending.disk)

-- the last flush turn failed
abbrev pub IsFailed : {E : Type 0} → Result (Option ℕ) E → Type 0
IsFailed (Ok None) = ⊥
IsFailed (Ok (Some count)) = Unit {0}
IsFailed (Err fault) = ⊥

-- the counts of the source, the sink and the clock rise as the reading says; the disk's rises where the last flush turn failed
pub record CountsRun (ended : Ended) (source sink disk clock : FaultCounts) : Type 0 where
  pub reading : CountsPipe ended.reading source sink clock
  pub disk_rises : IsFailed ended.last → Rises disk.old disk.new
  pub disk_grows : disk.old ≤ disk.new
