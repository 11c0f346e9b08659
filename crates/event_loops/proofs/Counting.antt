-- The counts of what is outside a loop, over several calls.
use Rattle.std.proofs.Common.{◌≡◌, ◌≢◌, ℕ, Option, Some, None, Result, Ok, Err, refl, sym, subst, arith}
use Rattle.std.specs.Prelude.{IsErrAnd}
use Rattle.event_loops.specs.declared.event_loop.LoopEnd.{LoopEnd}
use Rattle.event_loops.specs.declared.event_loop.LoopEnd.TheVariants.{Done, Stopped, Clock, Door, Poll, Memory}
use Rattle.event_loops.specs.Causes.{LoopFaults, GrowsAt, RisesAt, Grow, Blames, CountsEnd, IsFault, CountsLoop}

-- ---- nothing was called

grows_at : (door : Option ℕ) → GrowsAt door door
grows_at None = refl
grows_at (Some count) = omega arith

pub grow_none : (faults : LoopFaults) → Grow faults faults
grow_none faults = record { ready = omega arith; clock = omega arith; door = grows_at faults.door }

-- ---- one after another

grows_then : (old mid new : Option ℕ) → GrowsAt old mid → GrowsAt mid new → GrowsAt old new
grows_then None None new h k = k
grows_then None (Some mid) new h k = absurd (cc h)
grows_then (Some old) None new h k = absurd h
grows_then (Some old) (Some mid) None h k = absurd k
grows_then (Some old) (Some mid) (Some new) h k = omega (arith, h, k)

rises_then : (old mid new : Option ℕ) → GrowsAt old mid → RisesAt mid new → RisesAt old new
rises_then None None new h k = k
rises_then None (Some mid) new h k = absurd (cc h)
rises_then (Some old) None new h k = absurd h
rises_then (Some old) (Some mid) None h k = absurd k
rises_then (Some old) (Some mid) (Some new) h k = (omega (arith, h, k.0), omega (arith, h, k.1))

pub grow_then : (old mid new : LoopFaults) → Grow old mid → Grow mid new → Grow old new
grow_then old mid new h k = record {
  ready = omega (arith, h.ready, k.ready);
  clock = omega (arith, h.clock, k.clock);
  door = grows_then old.door mid.door new.door h.door k.door;
}

blames_then : (end : LoopEnd) (old mid new : LoopFaults) → Grow old mid → Blames end mid new → Blames end old new
blames_then Done old mid new h k = tt
blames_then Stopped old mid new h k = tt
blames_then Clock old mid new h k = (omega (arith, h.clock, k.0), omega (arith, h.clock, k.1))
blames_then Door old mid new h k = rises_then old.door mid.door new.door h.door k
blames_then Poll old mid new h k = (omega (arith, h.ready, k.0), omega (arith, h.ready, k.1))
blames_then Memory old mid new h k = tt

pub ends_then : (end : LoopEnd) (old mid new : LoopFaults) → Grow old mid → CountsEnd end mid new → CountsEnd end old new
ends_then end old mid new h k = record { grow = grow_then old mid new h k.grow; blames = blames_then end old mid new h k.blames }

-- the end of a call is handed on
pub passed_on : {A : Type 0} (result : Result A LoopEnd) (end : LoopEnd) (old mid new : LoopFaults) → IsErrAnd result (λ e. e ≡ end) → Grow old mid → CountsEnd end mid new × IsFault end
    → CountsLoop result old new
passed_on (Ok done) end old mid new is h k = absurd is
passed_on (Err e) end old mid new is h k = subst (λ (f : LoopEnd). CountsEnd f old new × IsFault f) (sym is) (ends_then end old mid new h k.0, k.1)

-- a fault is no end of itself
pub never_done : (end : LoopEnd) → IsFault end → end ≢ Done
never_done Done fault is = fault
never_done Stopped fault is = fault
never_done Clock fault is = cc is
never_done Door fault is = cc is
never_done Poll fault is = cc is
never_done Memory fault is = cc is
