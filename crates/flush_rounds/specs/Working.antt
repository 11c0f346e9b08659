-- What a flush turn works on, before and behind the work of whoever had it.
use Rattle.std.specs.Prelude.{◌≡◌, ◌⊎◌, ◌≤◌, None}
use Rattle.log_model.specs.Stored.{StaysOutside}
use Rattle.segment_files.specs.Turn.{IsInside}
use Rattle.broker_events.specs.Shown.{Shown}
use Rattle.worker_turns.specs.Turns.{Steps}
use Rattle.worker_turns.specs.Acts.{Acted, DiskView, change_of, place_of}
use Rattle.flush_rounds.specs.Asking.{AreSameWays, asking_of}
use Rattle.flush_rounds.specs.Causes.{BlamesDisk}
use Rattle.flush_rounds.specs.Flushing.{FlushesBetween}
use Rattle.flush_rounds.specs.Timing.{ClockView, clock_from}
use Rattle.flush_rounds.specs.declared.state.FlushState.{FlushState}

module _ {C D K Reader : Type 0} (has_key : C → Type 0) (shown : C → Shown) (view : DiskView D) where
  -- a flush turn can be made
  pub record IsReady (it : FlushState C D K Reader) : Type 0 where
    pub key : has_key it.calls
    pub none_out : (shown it.calls).out ≡ None
    pub inside : view.tells → IsInside it.flusher.file.base it.flusher.file.offset (view.state it.disk)

-- Acts of the flusher lead from the first to the second: flush turns, each with the dispatch behind it, deliveries, checks and looks. Of
-- the disk only the log's folder was changed, the check-backs go by the same ways, and a flush turn that failed last blames the disk.
pub record Worked {C D K Reader : Type 0} (makes : Steps C) (has_key : C → Type 0) (shown : C → Shown) (view : DiskView D)
    (clock : ClockView K) (old new : FlushState C D K Reader) : Type 0 where
  pub acted : Acted makes view
      (FlushesBetween (clock_from clock old.timetable.clock new.timetable.clock) (asking_of old.ways) (asking_of new.ways))
      (change_of old.calls (place_of old.flusher.file old.disk) new.calls (place_of new.flusher.file new.disk))
  pub ways : AreSameWays old.ways new.ways
  pub outside : view.tells → StaysOutside (view.state old.disk) (view.state new.disk)
  pub grow : view.faults old.disk ≤ view.faults new.disk
  pub cause : (new.last ≡ old.last) ⊎ BlamesDisk new.last (view.faults old.disk) (view.faults new.disk)
  pub ready : IsReady has_key shown view new
