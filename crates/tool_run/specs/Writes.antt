-- What text does on its way to a sink, and what a tool keeps of the records that it was handed.
use Rattle.std.specs.Prelude.{◌≡◌, ℕ, List, [], ◌++◌, length, true, false}
use Rattle.mq_outside.specs.Counts.{Rises}
use Rattle.mq_outside.specs.declared.stream.Sink.{Ghosts}
use Rattle.record_codec.specs.Entry.{Entry}
use Rattle.core_log.specs.Loads.{IsLoadedFrom}
use Rattle.table_check.specs.Beside.{IsBeside, IsOfSame}
use Rattle.tool_run.specs.Texts.{dump_text}
use Rattle.tool_run.specs.Tools.{TookFront}
use Rattle.tool_run.specs.declared.beside.Beside.{Beside}
use Rattle.tool_run.specs.declared.dump.Dump.{Dump}
use Rattle.tool_run.specs.declared.lines.Lines.{Lines}
use Rattle.tool_run.specs.declared.loading.Loading.{Loading}

-- From this sink on there was this text: the sink took first bytes of it, the rest is held, and nothing failed.
pub record Told {K : Type 0} (it : Ghosts K) (first : K) (lines : Lines K) (text : List ℕ) : Type 0 where
  pub front : List ℕ
  pub taken_is : it.tells → it.taken lines.sink ≡ it.taken first ++ front
  pub parts : front ++ lines.held.items ≡ text
  pub faults : it.faults lines.sink ≡ it.faults first
  pub well : lines.failed ≡ false

-- From this sink on there should have been this text: the sink took first bytes of it, and it failed, or memory ran out.
pub record Broke {K : Type 0} (it : Ghosts K) (first : K) (lines : Lines K) (text : List ℕ) : Type 0 where
  pub took : it.tells → TookFront (it.taken first) (it.taken lines.sink) text
  pub failed : lines.failed ≡ true → Rises (it.faults first) (it.faults lines.sink)

-- the lines of these records were told
abbrev pub HasDumped : {K : Type 0} → Ghosts K → Dump K → List Entry → Dump K → Type 0
HasDumped it first records now = Told it first.lines.sink now.lines (dump_text records)

-- the lines of some records should have been told
abbrev pub HasBroken : {K : Type 0} → Ghosts K → Dump K → Dump K → Type 0
HasBroken it first now = (records : List Entry) × Broke it first.lines.sink now.lines (dump_text records)

-- these records were loaded and counted
pub record HasLoaded (records : List Entry) (loading : Loading) : Type 0 where
  pub loaded : IsLoadedFrom [] records loading.loaded
  pub count : loading.records ≡ length records

-- the same tables were gone through beside these records
pub record HasGoneBeside (first : Beside) (records : List Entry) (now : Beside) : Type 0 where
  pub same : IsOfSame first.comparing now.comparing
  pub beside : IsBeside records now.comparing
