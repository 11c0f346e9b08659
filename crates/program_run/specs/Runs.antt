-- What one run of the program does, by what its words ask for: what `run_pipe` promises, or what `run_serve` does.
use Rattle.std.specs.Prelude.{◌≡◌, ◌≢◌, ℕ, List, [], ◌∷◌, codes, Option, Some, IfSome, IfNone}
use Rattle.mq_outside.specs.Disk.{Moves}
use Rattle.mq_outside.specs.Files.{Same}
use Rattle.log_model.specs.Stored.{StaysOutside}
use Rattle.core_log.specs.declared.parts.Parts.{Parts}
use Rattle.config_store.specs.Configs.{OFFSETS, TOPICS}
use Rattle.store_open.specs.Openings.{FORMAT, IsForeign, IsOpened, own_format, store_told}
use Rattle.store_open.specs.Statuses.{FitsTable}
use Rattle.store_open.specs.Words.{IsCommand, IsFirstWrong}
use Rattle.store_open.specs.ServeWords.{IsServeCommand, IsFirstWrongOfServe}
use Rattle.store_open.specs.declared.format.Sizes.{Sizes}
use Rattle.store_open.specs.declared.words.Command.{Command}
use Rattle.store_open.specs.declared.serve_words.ServeCommand.{ServeCommand}
use Rattle.store_open.specs.declared.status.Status.{Status}
use Rattle.broker_run.specs.Promise as pipe
use Rattle.broker_run.specs.Promise.{AllFaults, Call, EndsWell, IsQuiet, KeepSeen, Seen, before, behind}
use Rattle.event_loops.specs.Doors.{GaveAll}
use Rattle.loop_threads.specs.Kept.{KeepOver}
use Rattle.serve_threads.specs.Served.{Views}
use Rattle.serve_threads.specs.Causes.{ServeFaults}
use Rattle.broker_serve.specs.Causes.{Causes}
use Rattle.broker_serve.specs.Serves.{AllLinks, HasServed, PutsAllAlong, run_over, setup_by}
use Rattle.broker_serve.specs.Statuses.{TellsWhy}
use Rattle.broker_serve.specs.Unserved.{ServesNobody}
use Rattle.exit_status.specs.Stores.{store_over}

-- the words ask for links: the first of them is `serve`
abbrev pub AsksLinks : List (List ℕ) → Type 0
AsksLinks [] = ⊥
AsksLinks (word ∷ words) = word ≡ codes "serve"

-- ---- a stream

-- What a run over a stream does: each field is the clause of `run_pipe` with its name.
pub record Pipes {D : Type 0} (words : List (List ℕ)) (status : Status) (seen : Seen D) (keep : KeepSeen) (old new : AllFaults)
    : Type 0 where
  pub usage : status.code ≡ 1 → IsFirstWrong words status.place
  pub wrong : ((command : Command) → IsCommand words command → ⊥) → status.code ≡ 1
  pub fits : status.code ≢ 1 → Call words status seen keep
  pub foreign : seen.disk.tells → keep.tells → status.code ≡ 6 → (command : Command) × IsCommand words command
      × IsForeign (before seen).reads (keep.old.reads FORMAT) command.sizes status.name
  pub theirs : keep.tells → status.code ≡ 6 → Moves Same keep.old keep.new
  pub outside : seen.disk.tells → StaysOutside (before seen) (behind seen)
  pub stands : keep.tells → (text : List ℕ) → keep.old.reads FORMAT ≡ Some text → keep.new.reads FORMAT ≡ Some text
  pub kept : keep.tells → (name : List ℕ) → name ≢ FORMAT → name ≢ OFFSETS → name ≢ TOPICS
      → keep.new.reads name ≡ keep.old.reads name
  pub table : FitsTable status
  pub causes : pipe.Causes status old new
  pub complete : IsQuiet words seen keep old new → EndsWell status

-- ---- links

-- A run over links: what is seen of it, the disk before it and behind it, how often readers of such a disk failed, the keep, the core
-- that is left, where links were served, that the ledgers of links that have ended tell, and how many links the door gave before it and
-- behind it.
pub record ServeSeen (D : Type 0) : Type 1 where
  pub views : Views D
  pub old : D
  pub new : D
  pub read_faults : D → ℕ
  pub keep : KeepOver
  pub core : Option Parts
  pub ends : Type 0
  pub gave : ℕ × ℕ

-- What a run over links does: each field is the clause of `run_serve` with its name.
pub record Serves {D : Type 0} (words : List (List ℕ)) (status : Status) (seen : ServeSeen D) (old new : ServeFaults) : Type 0 where
  pub usage : status.code ≡ 1 → IsFirstWrongOfServe words status.place
  pub wrong : ((command : ServeCommand) → IsServeCommand words command → ⊥) → status.code ≡ 1
  pub served : IfSome seen.core (λ left. (command : ServeCommand) × (sizes : Sizes) × (IsServeCommand words command
      × IsOpened command.sizes sizes
      (store_told seen.views.disk.tells (seen.views.disk.state seen.old).reads seen.keep.tells seen.keep.old.reads) seen.keep.new)
      × HasServed seen.views (setup_by command sizes.segment)
      (run_over status seen.old seen.new seen.read_faults seen.keep)
      (λ start history. PutsAllAlong (own_format (seen.keep.old.reads FORMAT) command.sizes) start history seen.keep.old seen.keep.new)
      left)
  pub unserved : IfNone seen.core (ServesNobody words status
      (store_over seen.views.disk.tells (seen.views.disk.state seen.old) (seen.views.disk.state seen.new)
      seen.keep.tells seen.keep.old seen.keep.new))
  pub why : IfNone seen.core (TellsWhy words
      (store_told seen.views.disk.tells (seen.views.disk.state seen.old).reads seen.keep.tells seen.keep.old.reads) status old new)
  pub foreign : seen.views.disk.tells → seen.keep.tells → status.code ≡ 6 → (command : ServeCommand) × IsServeCommand words command
      × IsForeign (seen.views.disk.state seen.old).reads (seen.keep.old.reads FORMAT) command.sizes status.name
  pub theirs : seen.keep.tells → status.code ≡ 6 → Moves Same seen.keep.old seen.keep.new
  pub outside : seen.views.disk.tells → StaysOutside (seen.views.disk.state seen.old) (seen.views.disk.state seen.new)
  pub stands : seen.keep.tells → (text : List ℕ) → seen.keep.old.reads FORMAT ≡ Some text → seen.keep.new.reads FORMAT ≡ Some text
  pub kept : seen.keep.tells → (name : List ℕ) → name ≢ FORMAT → name ≢ OFFSETS → name ≢ TOPICS
      → seen.keep.new.reads name ≡ seen.keep.old.reads name
  pub came : status.code ≡ 0 → (command : ServeCommand) × IsServeCommand words command
      × GaveAll command.connections seen.gave.0 seen.gave.1
  pub links : IfSome seen.core (λ left. AllLinks seen.ends status seen.gave seen.views.links)
  pub table : FitsTable status
  pub cause : Causes status old new
