-- Work on the state, one piece after another.
use Rattle.std.proofs.Common.{◌≡◌, ◌⊎◌, ⊎_elim, inl, inr, ℕ, ◌≤◌, refl, sym, ◌∙◌, subst, arith}
use Rattle.log_model.proofs.OutsideLemmas.{outside_start, outside_then}
use Rattle.broker_events.specs.Shown.{Shown}
use Rattle.worker_turns.specs.Turns.{Steps}
use Rattle.worker_turns.specs.Acts.{DiskView, place_of}
use Rattle.worker_turns.specs.declared.flush.FlushEnd.{FlushEnd}
use Rattle.flush_rounds.specs.Asking.{asking_of}
use Rattle.flush_rounds.specs.Causes.{BlamesDisk}
use Rattle.flush_rounds.specs.Timing.{ClockView}
use Rattle.flush_rounds.specs.Working.{IsReady, Worked}
use Rattle.flush_rounds.specs.declared.state.FlushState.{FlushState}
use Rattle.flush_rounds.proofs.Asking.{ways_still, ways_then}
use Rattle.flush_rounds.proofs.Counting.{disk_blamed, blamed_more}
use Rattle.flush_rounds.proofs.Turns.{no_flushes, flushes_then}

-- how the last flush turn ended, and what it blames, over two pieces of work
pub cause_then : (one mid last : FlushEnd) (old now new : ℕ) → old ≤ now → now ≤ new → (mid ≡ one) ⊎ BlamesDisk mid old now
    → (last ≡ mid) ⊎ BlamesDisk last now new → (last ≡ one) ⊎ BlamesDisk last old new
cause_then one mid last old now new grows more first later =
    ⊎_elim
    (λ same. ⊎_elim (λ is. inl (same ∙ is)) (λ blames. inr (subst (λ (e : FlushEnd). BlamesDisk e old new) (sym same) (blamed_more mid old now new more blames))) first)
    (λ blames. inr (disk_blamed last old now new grows blames)) later

module _ {C D K Reader : Type 0} (makes : Steps C) (has_key : C → Type 0) (shown : C → Shown) (view : DiskView D) (clock : ClockView K) where
  -- nothing was done
  pub worked_none : (it : FlushState C D K Reader) → IsReady has_key shown view it → Worked makes has_key shown view clock it it
  worked_none it ready = record {
    acted = no_flushes makes view clock.tells (clock.readings it.timetable.clock) it.calls (place_of it.flusher.file it.disk) (asking_of it.ways);
    ways = ways_still it.ways;
    outside = λ tells. outside_start _;
    grow = omega arith;
    cause = inl refl;
    ready = ready;
  }

  -- the second was done behind the first
  pub worked_then : (one mid last : FlushState C D K Reader) → Worked makes has_key shown view clock one mid → Worked makes has_key shown view clock mid last
      → Worked makes has_key shown view clock one last
  worked_then one mid last first later = record {
    acted = flushes_then makes view clock.tells (clock.readings one.timetable.clock) (clock.readings mid.timetable.clock) (clock.readings last.timetable.clock) one.calls mid.calls last.calls (place_of one.flusher.file one.disk) (place_of mid.flusher.file mid.disk) (place_of last.flusher.file last.disk)
        (asking_of one.ways) (asking_of mid.ways) (asking_of last.ways) first.acted later.acted;
    ways = ways_then one.ways mid.ways last.ways first.ways later.ways;
    outside = λ tells. outside_then (first.outside tells) (later.outside tells);
    grow = omega (arith, first.grow, later.grow);
    cause = cause_then one.last mid.last last.last (view.faults one.disk) (view.faults mid.disk) (view.faults last.disk) first.grow later.grow first.cause later.cause;
    ready = later.ready;
  }
