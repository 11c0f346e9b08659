-- The requests that a talk gives, served one after another.
use Rattle.std.proofs.Common.{◌≡◌, ℕ, suc, ◌+◌, ◌-◌, ◌≤◌, ◌++◌, List, [], ◌∷◌, Option, Some, None, Result, Ok, Err, length, refl, ap, sym, subst, arith}
use Rattle.mq_outside.specs.Counts.{Rises}
use Rattle.remoting_frame.specs.Held.{Held}
use Rattle.remoting_frame.specs.Frames.{next_of}
use Rattle.remoting_frame.specs.Streams.{BeginsWith}
use Rattle.remoting_frame.specs.declared.frame.Frame.{Frame}
use Rattle.remoting_frame.specs.declared.fault.FrameFault.{FrameFault}
use Rattle.remoting_frame.specs.declared.fault.FrameFault.TheVariants as faults
use Rattle.remoting_frame.proofs.StreamLaws.{next_shorter}
use Rattle.session.specs.Hearing.{Hears, HearsNext, HearsNone}
use Rattle.session.specs.declared.heard.Heard.{Heard}
use Rattle.pipe_stream.specs.Serving.{Sides, Point, Ran, Broke}
use Rattle.pipe_stream.specs.Telling.{CountsTelling, fault_counts}
use Rattle.pipe_stream.specs.Piping.{CountsStop, CountsHalt, IsFaultAt, FaultAt, halt_of, NextHeard, ServedHeld, ServesHeld}
use Rattle.pipe_stream.specs.declared.stop.Stop.{Stop}
use Rattle.pipe_stream.specs.declared.stop.Stop.TheVariants as stops
use Rattle.pipe_stream.specs.declared.stop.Halt.{Halt}
use Rattle.pipe_stream.specs.declared.stop.Halt.TheVariants.{BadFrame, Read, Stopped}
use Rattle.pipe_stream.proofs.ServingLemmas.{no_requests, ran_nothing, ran_then, broke_then, broke_memory, skipped_ran, skipped_broke}
use Rattle.worker_turns.specs.Acts.{change_of}

-- ---- a frame is never empty

rest_most : (at : ℕ) (bytes : List ℕ) (frames : List Frame) (end : ℕ) (rest : List ℕ) → BeginsWith at bytes frames end rest → length rest ≤ length bytes
rest_most at bytes [] end rest begins = omega (arith, ap length begins.1)
rest_most at bytes (f ∷ frames) end rest begins =
    omega (arith, next_shorter at bytes f begins.0 begins.1, rest_most (at + (length bytes - length begins.0)) begins.0 frames end rest begins.2)

rest_strict : (at : ℕ) (bytes : List ℕ) (skipped : List Frame) (frame : Frame) (end : ℕ) (rest : List ℕ) → BeginsWith at bytes (skipped ++ frame ∷ []) end rest → suc (length rest) ≤ length bytes
rest_strict at bytes [] frame end rest begins = omega (arith, next_shorter at bytes frame begins.0 begins.1, ap length begins.2.1)
rest_strict at bytes (f ∷ skipped) frame end rest begins =
    omega (arith, next_shorter at bytes f begins.0 begins.1, rest_strict (at + (length bytes - length begins.0)) begins.0 skipped frame end rest begins.2)

-- what a talk gave
pub hears_next : (heard : Option Heard) (old new : Held) → Hears old (Ok heard) new → NextHeard old (Ok heard) new
hears_next (Some heard) old new hears = hears
hears_next None old new hears = hears

fault_here : (place : ℕ) (fault : FrameFault) (old new : Held) → IsFaultAt place fault → HearsNone old new (next_of new.at new.bytes ≡ Err fault) → HearsNone old new (FaultAt place new)
fault_here place fault old new at none = record { skipped = none.skipped; skips = none.skips; here = record { fault = fault; is = none.here; at = at } }

pub hears_fault : (fault : FrameFault) (old new : Held) → Hears old (Err fault) new → NextHeard old (Err (halt_of fault)) new
hears_fault (faults.BadLength at) old new hears = fault_here at (faults.BadLength at) old new refl hears
hears_fault (faults.BadForm at) old new hears = fault_here at (faults.BadForm at) old new refl hears
hears_fault (faults.BadHeader at) old new hears = fault_here at (faults.BadHeader at) old new refl hears
hears_fault faults.Memory old new hears = record { skipped = hears.skipped; skips = hears.skips; here = refl }

-- ---- causes

-- the clock gave a reading, and the request was served
pub counts_stop : {A : Type 0} (result : Result A Stop) (sink sink_then clock clock_then : ℕ) → CountsTelling result sink sink_then → clock_then ≡ clock → CountsStop result (fault_counts sink sink_then) (fault_counts clock clock_then)
counts_stop (Ok done) sink sink_then clock clock_then counts same = (counts, same)
counts_stop (Err stops.Clock) sink sink_then clock clock_then counts same = absurd counts
counts_stop (Err stops.Sink) sink sink_then clock clock_then counts same = counts
counts_stop (Err stops.Memory) sink sink_then clock clock_then counts same = tt
counts_stop (Err stops.Misplaced) sink sink_then clock clock_then counts same = tt

-- behind requests that were served
pub counts_later : (stop : Stop) (sink sink_mid sink_then clock clock_mid clock_then : ℕ) → sink_mid ≡ sink → clock_mid ≡ clock
    → CountsStop {A = Unit {0}} (Err stop) (fault_counts sink_mid sink_then) (fault_counts clock_mid clock_then) → CountsHalt {A = Unit {0}} (Err (Stopped stop)) (fault_counts sink sink_then) (fault_counts clock clock_then)
counts_later stops.Clock sink sink_mid sink_then clock clock_mid clock_then same_sink same_clock counts = subst (λ (n : ℕ). Rises n clock_then) same_clock counts
counts_later stops.Sink sink sink_mid sink_then clock clock_mid clock_then same_sink same_clock counts = subst (λ (n : ℕ). Rises n sink_then) same_sink counts
counts_later stops.Memory sink sink_mid sink_then clock clock_mid clock_then same_sink same_clock counts = tt
counts_later stops.Misplaced sink sink_mid sink_then clock clock_mid clock_then same_sink same_clock counts = tt

-- no request was found
pub counts_none : (halt : Halt) (old new : Held) (sink sink_then clock clock_then : ℕ) → NextHeard old (Err halt) new → CountsHalt {A = Unit {0}} (Err halt) (fault_counts sink sink_then) (fault_counts clock clock_then)
counts_none (BadFrame place) old new sink sink_then clock clock_then none = tt
counts_none Read old new sink sink_then clock clock_then none = absurd none
counts_none (Stopped stop) old new sink sink_then clock clock_then none =
    subst (λ (s : Stop). CountsStop {A = Unit {0}} (Err s) (fault_counts sink sink_then) (fault_counts clock clock_then)) (sym none.here) tt

-- ---- requests that are held

-- after a request fewer bytes are held
pub heard_strict : (heard : Heard) (old new : Held) → HearsNext heard old new → suc (length new.bytes) ≤ length old.bytes
heard_strict heard old new hears = rest_strict old.at old.bytes hears.skipped hears.frame new.at new.bytes hears.begins

pub begins_then : (at : ℕ) (bytes : List ℕ) (frames more : List Frame) (mid end : ℕ) (held rest : List ℕ) → BeginsWith at bytes frames mid held → BeginsWith mid held more end rest
    → BeginsWith at bytes (frames ++ more) end rest
begins_then at bytes [] more mid end held rest first then =
    subst (λ (n : ℕ). BeginsWith n bytes more end rest) (sym first.0) (subst (λ (l : List ℕ). BeginsWith mid l more end rest) (sym first.1) then)
begins_then at bytes (frame ∷ frames) more mid end held rest first then = (first.0, first.1, begins_then (at + (length bytes - length first.0)) first.0 frames more mid end held rest first.2 then)

module _ {C D : Type 0} (sides : Sides C D) (from : Held) (x : C) (p : Point D) where
  -- nothing was asked for yet
  pub held_start : ServedHeld sides from from (change_of x p x p)
  held_start = record { frames = []; cut = (refl, refl); ran = ran_nothing sides [] x p refl }

  -- one request more
  pub held_more : (heard : Heard) (old new : Held) (y z : C) (q r : Point D) → ServedHeld sides from old (change_of x p y q) → (hears : HearsNext heard old new) → Ran sides (hears.frame ∷ []) (change_of y q z r)
      → ServedHeld sides from new (change_of x p z r)
  held_more heard old new y z q r served hears ran = record {
    frames = served.frames ++ (hears.skipped ++ hears.frame ∷ []);
    cut = begins_then from.at from.bytes served.frames (hears.skipped ++ hears.frame ∷ []) old.at new.at old.bytes new.bytes served.cut hears.begins;
    ran = ran_then sides served.frames (hears.skipped ++ hears.frame ∷ []) x y z p q r served.ran (skipped_ran sides hears.skipped (hears.frame ∷ []) y z q r hears.responses ran);
  }

  -- one at which something ended it
  pub held_broke : {A : Type 0} (stop : Stop) (heard : Heard) (old new : Held) (y z : C) (q r : Point D) → ServedHeld sides from old (change_of x p y q) → (hears : HearsNext heard old new)
      → Broke sides stop (hears.frame ∷ []) (change_of y q z r) → ServesHeld {A = A} sides (Err (Stopped stop)) from new (change_of x p z r)
  held_broke stop heard old new y z q r served hears broke = record {
    frames = served.frames ++ (hears.skipped ++ hears.frame ∷ []);
    cut = begins_then from.at from.bytes served.frames (hears.skipped ++ hears.frame ∷ []) old.at new.at old.bytes new.bytes served.cut hears.begins;
    ran = broke_then sides stop served.frames (hears.skipped ++ hears.frame ∷ []) x y z p q r served.ran (skipped_broke sides stop hears.skipped (hears.frame ∷ []) y z q r hears.responses broke);
    halts = tt;
  }

  -- only responses were left
  rest_ran : {P : Type 0} (old new : Held) (y : C) (q : Point D) (served : ServedHeld sides from old (change_of x p y q)) → (none : HearsNone old new P) → Ran sides (served.frames ++ none.skipped) (change_of x p y q)
  rest_ran old new y q served none =
      ran_then sides served.frames none.skipped x y y p q q served.ran (ran_nothing sides none.skipped y q (no_requests none.skipped none.skips.responses))

  rest_cut : {P : Type 0} (old new : Held) (y : C) (q : Point D) (served : ServedHeld sides from old (change_of x p y q)) → (none : HearsNone old new P)
      → BeginsWith from.at from.bytes (served.frames ++ none.skipped) new.at new.bytes
  rest_cut old new y q served none = begins_then from.at from.bytes served.frames none.skipped old.at new.at old.bytes new.bytes served.cut none.skips.begins

  pub held_ended : (old new : Held) (y : C) (q : Point D) → ServedHeld sides from old (change_of x p y q) → HearsNone old new (next_of new.at new.bytes ≡ Ok None)
      → ServesHeld {A = Unit {0}} sides (Ok tt) from new (change_of x p y q)
  held_ended old new y q served none =
      record { frames = served.frames ++ none.skipped; cut = rest_cut old new y q served none; ran = rest_ran old new y q served none; halts = none.here }

  pub held_halted : (halt : Halt) (old new : Held) (y : C) (q : Point D) → ServedHeld sides from old (change_of x p y q) → NextHeard old (Err halt) new → ServesHeld {A = Unit {0}} sides (Err halt) from new (change_of x p y q)
  held_halted (BadFrame place) old new y q served none =
      record { frames = served.frames ++ none.skipped; cut = rest_cut old new y q served none; ran = rest_ran old new y q served none; halts = none.here }
  held_halted Read old new y q served none = absurd none
  held_halted (Stopped stop) old new y q served none = record {
    frames = served.frames ++ none.skipped;
    cut = rest_cut old new y q served none;
    ran = subst (λ (s : Stop). Broke sides s (served.frames ++ none.skipped) (change_of x p y q)) (sym none.here)
        (broke_memory sides (served.frames ++ none.skipped) x y p q (rest_ran old new y q served none));
    halts = tt;
  }
