-- What was made on the state of the flush turns, from its opening to its end.
use Rattle.std.proofs.Common.{◌≡◌, ⊎_elim, sym, ◌∙◌, subst}
use Rattle.broker_events.specs.Shown.{Shown}
use Rattle.worker_turns.specs.Turns.{Steps}
use Rattle.worker_turns.specs.Acts.{Acted, DiskView, change_of, place_of}
use Rattle.worker_turns.specs.declared.flush.FlushEnd.{FlushEnd}
use Rattle.worker_turns.specs.declared.flush.FlushEnd.TheVariants.{Idle}
use Rattle.flush_rounds.specs.Asking.{HasNoneAsked, put_of}
use Rattle.flush_rounds.specs.Causes.{BlamesDisk}
use Rattle.flush_rounds.specs.Flushing.{FlushesTo}
use Rattle.flush_rounds.specs.Timing.{ClockView, clock_from}
use Rattle.flush_rounds.specs.Working.{Worked}
use Rattle.flush_rounds.specs.declared.state.FlushState.{FlushState}
use Rattle.flush_rounds.proofs.Turns.{flushes_to}

module _ {C D K Reader : Type 0} (makes : Steps C) (has_key : C → Type 0) (shown : C → Shown) (view : DiskView D) (clock : ClockView K) (start old new : FlushState C D K Reader) (same : start ≡ old)
    (worked : Worked makes has_key shown view clock start new) where
  -- it is of the state that was put under the lock
  pub worked_from : Worked makes has_key shown view clock old new
  worked_from = subst (λ (it : FlushState C D K Reader). Worked makes has_key shown view clock it new) same worked

  -- all that was made, where nobody was asked before
  pub flushed_from : HasNoneAsked old.ways
      → Acted makes view (FlushesTo (clock_from clock old.timetable.clock new.timetable.clock) (put_of new.ways)) (change_of old.calls (place_of old.flusher.file old.disk) new.calls (place_of new.flusher.file new.disk))
  flushed_from none =
      flushes_to makes view (clock_from clock old.timetable.clock new.timetable.clock) old.calls new.calls (place_of old.flusher.file old.disk) (place_of new.flusher.file new.disk) old.ways new.ways none worked_from.acted

  -- what the last flush turn blames, where none had been made
  pub blames_from : old.last ≡ Idle → BlamesDisk new.last (view.faults old.disk) (view.faults new.disk)
  blames_from idle =
      ⊎_elim (λ still. subst (λ (end : FlushEnd). BlamesDisk end (view.faults old.disk) (view.faults new.disk)) (sym (still ∙ idle)) tt) (λ blames. blames) worked_from.cause
