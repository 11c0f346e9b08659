-- A stream that is served piece by piece.
use Rattle.std.proofs.Common.{◌≡◌, inl, inr, ◌∙◌, ℕ, ◌+◌, ◌≤◌, ◌++◌, List, [], ◌∷◌, None, Result, Ok, Err, length, refl, ap, sym, subst, arith, append_assoc, append-nil, length-append}
use Rattle.mq_outside.specs.Counts.{Rises}
use Rattle.remoting_frame.specs.Held.{Held}
use Rattle.remoting_frame.specs.Frames.{first_of, next_of}
use Rattle.remoting_frame.specs.Streams.{BeginsWith}
use Rattle.remoting_frame.specs.declared.frame.Frame.{Frame}
use Rattle.remoting_frame.proofs.StreamLaws.{begins_more}
use Rattle.worker_turns.proofs.CountLemmas.{faults_grow}
use Rattle.pipe_stream.specs.Serving.{Sides, Point, point_at, point_of, Ran, Broke, AreServed, Begun, Nothing, Closing, Breaks, IsNext, acts_of, begun_acts, begun_bytes, begun_readings, bytes_of, frames_of, readings_of}
use Rattle.pipe_stream.specs.Piping.{Closes, CountsClosing, CountsHalt, CountsPipe, RanToEnd, ServesHeld, EndsBy, SourceSeen, source_of, Piped, SoFar, EndsHere, stream_limit, Gave}
use Rattle.pipe_stream.specs.declared.stop.Stop.{Stop}
use Rattle.pipe_stream.specs.declared.stop.Stop.TheVariants as stops
use Rattle.pipe_stream.specs.declared.stop.Halt.{Halt}
use Rattle.pipe_stream.specs.declared.stop.Halt.TheVariants.{BadFrame, Read, Stopped}
use Rattle.pipe_stream.proofs.ServingLemmas.{ran_nothing, ran_then, more_behind, broke_then, broke_idle, broke_memory}
use Rattle.pipe_stream.proofs.TellingLemmas.{took_none}
use Rattle.worker_turns.proofs.ActLemmas.{acts_then}
use Rattle.pipe_stream.proofs.HeldLemmas.{begins_then}
use Rattle.worker_turns.specs.Acts.{Acts, Change, Place, change_of}
use Rattle.pipe_stream.specs.Telling.{TookPart, asks_bytes, fault_counts}

pub none_waits : next_of 0 [] ≡ Ok None
unfolding first_of
none_waits = refl

module _ {C D : Type 0} (sides : Sides C D) (source : Type 0) (given : List ℕ) (x : C) (old : Point D) where
  -- nothing was read
  pub so_far_start : (held : Held) → held ≡ record { at = 0; bytes = [] } → SoFar sides 0 held (Gave source given given) (change_of x old x old)
  so_far_start held start = record {
    bytes = [];
    frames = [];
    total_is = refl;
    given_is = λ told. sym (append-nil given);
    cut = (ap (λ (h : Held). h.at) (sym start), ap (λ (h : Held). h.bytes) (sym start));
    ran = ran_nothing sides [] x old refl;
  }

  -- all frames of what was read were served, and what stands behind them ended the reading
  all_served : {A : Type 0} (result : Result A Halt) (total : ℕ) (held : Held) (given_mid given_then left_then : List ℕ) (y : C) (new : Point D)
      → (far : SoFar sides total held (Gave source given given_mid) (change_of x old y new)) → (Ran sides far.frames (change_of x old y new) → RanToEnd sides result far.frames (change_of x old y new)) → (source → given_then ≡ given_mid)
      → EndsBy result held.at held.bytes far.bytes source left_then → Piped sides result (source_of source given given_then left_then) (change_of x old y new)
  all_served result total held given_mid given_then left_then y new far ran same ends = record {
    bytes = far.bytes;
    frames = far.frames;
    at = held.at;
    rest = held.bytes;
    given_is = λ told. same told ∙ far.given_is told;
    cut = far.cut;
    ends = ends;
    asked = new.asked;
    ran = ran far.ran;
  }

  -- there was no memory to begin with
  pub not_started : (left : List ℕ) → Piped {A = Unit {0}} sides (Err (Stopped stops.Memory)) (source_of source given given left) (change_of x old x old)
  not_started left = record {
    bytes = [];
    frames = [];
    at = 0;
    rest = [];
    given_is = λ told. sym (append-nil given);
    cut = (refl, refl);
    ends = tt;
    asked = old.asked;
    ran = broke_idle sides stops.Memory [] x old.place old.reads old.taken old.readings old.readings old.asked tt (λ told. refl);
  }

  -- the source failed
  pub read_failed : (total : ℕ) (held : Held) (given_mid given_then left_then : List ℕ) (y : C) (new : Point D) → SoFar sides total held (Gave source given given_mid) (change_of x old y new)
      → next_of held.at held.bytes ≡ Ok None → (source → given_then ≡ given_mid) → Piped {A = Unit {0}} sides (Err Read) (source_of source given given_then left_then) (change_of x old y new)
  read_failed total held given_mid given_then left_then y new far waits same = all_served (Err Read) total held given_mid given_then left_then y new far (λ ran. ran) same waits

  -- the source has no more, and ended inside a frame
  pub source_ended : (halt : Halt) (total : ℕ) (held : Held) (given_mid given_then left_then : List ℕ) (y : C) (new : Point D)
      → SoFar sides total held (Gave source given given_mid) (change_of x old y new) → next_of held.at held.bytes ≡ Ok None → (source → given_then ≡ given_mid) → (source → left_then ≡ []) → EndsHere held (Err halt)
      → Piped {A = Unit {0}} sides (Err halt) (source_of source given given_then left_then) (change_of x old y new)
  source_ended (BadFrame place) total held given_mid given_then left_then y new far waits same over ends =
      all_served (Err (BadFrame place)) total held given_mid given_then left_then y new far (λ ran. ran) same
      (inr (inl (record { place_is = ends.0; some = ends.1; waits = waits; over = over })))
  source_ended Read total held given_mid given_then left_then y new far waits same over ends = absurd ends
  source_ended (Stopped stop) total held given_mid given_then left_then y new far waits same over ends = absurd ends

  -- it ended between two frames, and something broke off behind the last request
  broke_behind : (stop : Stop) (begun : Begun) (frames : List Frame) (y z : C) (mid new : Point D) → Ran sides frames (change_of x old y mid) → IsNext begun [] → Breaks sides.gives stop begun mid.reads new.reads
      → Acts sides.makes sides.disk (begun_acts begun) (change_of y mid.place z new.place) → (sides.sink → TookPart mid.taken new.taken (begun_bytes mid.asked begun))
      → (sides.clock → new.readings ≡ mid.readings ++ begun_readings begun) → Broke sides stop frames (change_of x old z new)
  broke_behind stop begun frames y z mid new ran next breaks happened took read = record {
    served = ran.served;
    begun = begun;
    left = [];
    mid = mid.reads;
    asked = append-nil (frames_of ran.served) ∙ ran.asked;
    next = next;
    each = ran.each;
    breaks = breaks;
    happened = acts_then sides.makes sides.disk (acts_of ran.served) (begun_acts begun) x y z old.place mid.place new.place ran.happened happened;
    answered = λ told. subst (λ (n : ℕ). TookPart (old.taken ++ bytes_of old.asked ran.served) new.taken (begun_bytes n begun)) ran.counted
        (subst (λ (l : List ℕ). TookPart l new.taken (begun_bytes mid.asked begun)) (ran.answered told) (took told));
    read = λ told. more_behind old.readings (readings_of ran.served) (begun_readings begun) mid.readings new.readings (read told) (ran.read told);
  }

  closed_ran : {A : Type 0} (result : Result A Halt) (frames : List Frame) (y z : C) (mid new : Point D) → Ran sides frames (change_of x old y mid)
      → Closes sides.makes sides.disk sides.sink sides.clock result (change_of y (point_at mid.place 0 mid.taken mid.readings mid.asked) z (point_at new.place 0 new.taken new.readings new.asked)) → new.reads ≡ mid.reads
      → RanToEnd sides result frames (change_of x old z new)
  closed_ran (Ok done) frames y z mid new ran closed reads = record {
    served = ran.served;
    reading = closed.reading;
    asks = closed.asks;
    last = closed.acts;
    due = closed.kind;
    asked = ran.asked;
    each = subst (λ (n : ℕ). AreServed sides.gives old.reads ran.served n) (sym reads) ran.each;
    happened = acts_then sides.makes sides.disk (acts_of ran.served) closed.acts x y z old.place mid.place new.place ran.happened closed.happened;
    answered = λ told. more_behind old.taken (bytes_of old.asked ran.served) (asks_bytes mid.asked closed.asks) mid.taken new.taken (closed.took told) (ran.answered told)
        ∙ ap (λ (n : ℕ). old.taken ++ (bytes_of old.asked ran.served ++ asks_bytes n closed.asks)) ran.counted;
    read = λ told. more_behind old.readings (readings_of ran.served) (closed.reading ∷ []) mid.readings new.readings (closed.read told) (ran.read told);
  }
  closed_ran (Err (BadFrame place)) frames y z mid new ran closed reads = absurd closed
  closed_ran (Err Read) frames y z mid new ran closed reads = absurd closed
  closed_ran (Err (Stopped stops.Clock)) frames y z mid new ran closed reads =
      broke_behind stops.Clock Nothing frames y z mid new ran tt refl closed.still (λ told. took_none mid.taken new.taken [] (closed.took told)) (λ told. closed.read told ∙ sym (append-nil mid.readings))
  closed_ran (Err (Stopped stops.Sink)) frames y z mid new ran closed reads =
      broke_behind stops.Sink (Closing closed.reading closed.asks closed.acts) frames y z mid new ran refl closed.kind closed.happened closed.took closed.read
  closed_ran (Err (Stopped stops.Memory)) frames y z mid new ran closed reads =
      broke_behind stops.Memory (Closing closed.reading closed.asks closed.acts) frames y z mid new ran refl closed.kind closed.happened closed.took closed.read
  closed_ran (Err (Stopped stops.Misplaced)) frames y z mid new ran closed reads =
      broke_behind stops.Misplaced (Closing closed.reading closed.asks closed.acts) frames y z mid new ran refl closed.kind closed.happened closed.took closed.read

  closed_ends : {A : Type 0} (result : Result A Halt) (change : Change C (Point D)) (at : ℕ) (rest bytes left_then : List ℕ)
      → Closes sides.makes sides.disk sides.sink sides.clock result change → rest ≡ [] → (source → left_then ≡ [])
      → EndsBy result at rest bytes source left_then
  closed_ends (Ok done) change at rest bytes left_then closed none over = (none, over)
  closed_ends (Err (BadFrame place)) change at rest bytes left_then closed none over = absurd closed
  closed_ends (Err Read) change at rest bytes left_then closed none over = absurd closed
  closed_ends (Err (Stopped stop)) change at rest bytes left_then closed none over = tt

  -- the last turns behind it
  pub source_closed : {A : Type 0} (result : Result A Halt) (total : ℕ) (held : Held) (given_mid given_then left_then : List ℕ) (y z : C) (mid new : Point D)
      → SoFar sides total held (Gave source given given_mid) (change_of x old y mid) → (source → given_then ≡ given_mid) → (source → left_then ≡ []) → held.bytes ≡ []
      → Closes sides.makes sides.disk sides.sink sides.clock result (change_of y (point_at mid.place 0 mid.taken mid.readings mid.asked) z (point_at new.place 0 new.taken new.readings new.asked)) → new.reads ≡ mid.reads
      → Piped sides result (source_of source given given_then left_then) (change_of x old z new)
  source_closed result total held given_mid given_then left_then y z mid new far same over none closed reads = record {
    bytes = far.bytes;
    frames = far.frames;
    at = held.at;
    rest = held.bytes;
    given_is = λ told. same told ∙ far.given_is told;
    cut = far.cut;
    ends = closed_ends result (change_of y (point_at mid.place 0 mid.taken mid.readings mid.asked) z (point_at new.place 0 new.taken new.readings new.asked)) held.at held.bytes far.bytes left_then closed none over;
    asked = new.asked;
    ran = closed_ran result far.frames y z mid new far.ran closed reads;
  }

  -- as many bytes were read as a stream may have
  pub limit_reached : (total : ℕ) (held : Held) (given_then left : List ℕ) (y : C) (new : Point D) → SoFar sides total held (Gave source given given_then) (change_of x old y new) → total ≡ stream_limit
      → Piped {A = Unit {0}} sides (Err (BadFrame stream_limit)) (source_of source given given_then left) (change_of x old y new)
  limit_reached total held given_then left y new far limit =
      all_served (Err (BadFrame stream_limit)) total held given_then given_then left y new far (λ ran. ran) (λ told. refl) (inr (inr (refl, far.total_is ∙ limit)))

  -- what was read, with a piece more
  more_is : (bytes piece given_mid given_then : List ℕ) → (source → given_then ≡ given_mid ++ piece) → (source → given_mid ≡ given ++ bytes) → source → given_then ≡ given ++ (bytes ++ piece)
  more_is bytes piece given_mid given_then more before told = more told ∙ ap (λ (l : List ℕ). l ++ piece) (before told) ∙ append_assoc given bytes piece

  -- what was read went nowhere for want of memory
  pub not_fed : (total : ℕ) (held : Held) (piece given_mid given_then left_then : List ℕ) (y : C) (new : Point D) → SoFar sides total held (Gave source given given_mid) (change_of x old y new)
      → (source → given_then ≡ given_mid ++ piece) → Piped {A = Unit {0}} sides (Err (Stopped stops.Memory)) (source_of source given given_then left_then) (change_of x old y new)
  not_fed total held piece given_mid given_then left_then y new far more = record {
    bytes = far.bytes ++ piece;
    frames = far.frames;
    at = held.at;
    rest = held.bytes ++ piece;
    given_is = more_is far.bytes piece given_mid given_then more far.given_is;
    cut = begins_more 0 far.bytes piece far.frames held.at held.bytes far.cut;
    ends = tt;
    asked = new.asked;
    ran = broke_memory sides far.frames x y old new far.ran;
  }

  -- the frames of what was read, with those of a piece more
  fed_begins : (bytes piece : List ℕ) (frames more : List Frame) (held fed held_then : Held) → BeginsWith 0 bytes frames held.at held.bytes → fed ≡ record { at = held.at; bytes = held.bytes ++ piece }
      → BeginsWith fed.at fed.bytes more held_then.at held_then.bytes → BeginsWith 0 (bytes ++ piece) (frames ++ more) held_then.at held_then.bytes
  fed_begins bytes piece frames more held fed held_then cut fed_is served =
      begins_then 0 (bytes ++ piece) frames more held.at held_then.at (held.bytes ++ piece) held_then.bytes (begins_more 0 bytes piece frames held.at held.bytes cut)
      (subst (λ (h : Held). BeginsWith h.at h.bytes more held_then.at held_then.bytes) fed_is served)

  -- a piece was read, fed and served
  pub piece_served : (total n : ℕ) (held fed held_then : Held) (piece given_mid given_then : List ℕ) (y z : C) (mid new : Point D) → SoFar sides total held (Gave source given given_mid) (change_of x old y mid)
      → (source → given_then ≡ given_mid ++ piece) → length piece ≡ n → fed ≡ record { at = held.at; bytes = held.bytes ++ piece } → ServesHeld {A = Unit {0}} sides (Ok tt) fed held_then (change_of y mid z new)
      → SoFar sides (total + n) held_then (Gave source given given_then) (change_of x old z new)
  piece_served total n held fed held_then piece given_mid given_then y z mid new far more long fed_is served = record {
    bytes = far.bytes ++ piece;
    frames = far.frames ++ served.frames;
    total_is = omega (arith, length-append far.bytes piece, far.total_is, long);
    given_is = more_is far.bytes piece given_mid given_then more far.given_is;
    cut = fed_begins far.bytes piece far.frames served.frames held fed held_then far.cut fed_is served.cut;
    ran = ran_then sides far.frames served.frames x y z old mid new far.ran served.ran;
  }

  -- a piece was read and fed, and something ended the reading in it
  pub piece_halted : (halt : Halt) (total : ℕ) (held fed held_then : Held) (piece given_mid given_then left_then : List ℕ) (y z : C) (mid new : Point D) → SoFar sides total held (Gave source given given_mid) (change_of x old y mid)
      → (source → given_then ≡ given_mid ++ piece) → fed ≡ record { at = held.at; bytes = held.bytes ++ piece } → ServesHeld {A = Unit {0}} sides (Err halt) fed held_then (change_of y mid z new)
      → Piped {A = Unit {0}} sides (Err halt) (source_of source given given_then left_then) (change_of x old z new)
  piece_halted (BadFrame place) total held fed held_then piece given_mid given_then left_then y z mid new far more fed_is served = record {
    bytes = far.bytes ++ piece;
    frames = far.frames ++ served.frames;
    at = held_then.at;
    rest = held_then.bytes;
    given_is = more_is far.bytes piece given_mid given_then more far.given_is;
    cut = fed_begins far.bytes piece far.frames served.frames held fed held_then far.cut fed_is served.cut;
    ends = inl served.halts;
    asked = new.asked;
    ran = ran_then sides far.frames served.frames x y z old mid new far.ran served.ran;
  }
  piece_halted Read total held fed held_then piece given_mid given_then left_then y z mid new far more fed_is served = absurd served.halts
  piece_halted (Stopped stop) total held fed held_then piece given_mid given_then left_then y z mid new far more fed_is served = record {
    bytes = far.bytes ++ piece;
    frames = far.frames ++ served.frames;
    at = held_then.at;
    rest = held_then.bytes;
    given_is = more_is far.bytes piece given_mid given_then more far.given_is;
    cut = fed_begins far.bytes piece far.frames served.frames held fed held_then far.cut fed_is served.cut;
    ends = tt;
    asked = new.asked;
    ran = broke_then sides stop far.frames served.frames x y z old mid new far.ran served.ran;
  }

-- ---- causes

pub counts_end : (held : Held) (halt : Halt) (source source_then sink sink_then clock clock_then : ℕ) → EndsHere held (Err halt)
    → CountsPipe {A = Unit {0}} (Err halt) (fault_counts source source_then) (fault_counts sink sink_then) (fault_counts clock clock_then)
counts_end held (BadFrame place) source source_then sink sink_then clock clock_then ends = tt
counts_end held Read source source_then sink sink_then clock clock_then ends = absurd ends
counts_end held (Stopped stop) source source_then sink sink_then clock clock_then ends = absurd ends

pub counts_closed : {A : Type 0} (result : Result A Halt) (source source_then sink sink_mid sink_then clock clock_mid clock_then : ℕ) → sink_mid ≡ sink → clock_mid ≡ clock
    → CountsClosing result (fault_counts sink_mid sink_then) (fault_counts clock_mid clock_then) → CountsPipe result (fault_counts source source_then) (fault_counts sink sink_then) (fault_counts clock clock_then)
counts_closed (Ok done) source source_then sink sink_mid sink_then clock clock_mid clock_then same_sink same_clock counts = tt
counts_closed (Err (BadFrame place)) source source_then sink sink_mid sink_then clock clock_mid clock_then same_sink same_clock counts = absurd counts
counts_closed (Err Read) source source_then sink sink_mid sink_then clock clock_mid clock_then same_sink same_clock counts = absurd counts
counts_closed (Err (Stopped stops.Clock)) source source_then sink sink_mid sink_then clock clock_mid clock_then same_sink same_clock counts = subst (λ (n : ℕ). Rises n clock_then) same_clock counts
counts_closed (Err (Stopped stops.Sink)) source source_then sink sink_mid sink_then clock clock_mid clock_then same_sink same_clock counts = subst (λ (n : ℕ). Rises n sink_then) same_sink counts
counts_closed (Err (Stopped stops.Memory)) source source_then sink sink_mid sink_then clock clock_mid clock_then same_sink same_clock counts = tt
counts_closed (Err (Stopped stops.Misplaced)) source source_then sink sink_mid sink_then clock clock_mid clock_then same_sink same_clock counts = tt

pub counts_halt : (halt : Halt) (source source_then sink sink_mid sink_then clock clock_mid clock_then : ℕ) → sink_mid ≡ sink → clock_mid ≡ clock
    → CountsHalt {A = Unit {0}} (Err halt) (fault_counts sink_mid sink_then) (fault_counts clock_mid clock_then) → CountsPipe {A = Unit {0}} (Err halt) (fault_counts source source_then) (fault_counts sink sink_then) (fault_counts clock clock_then)
counts_halt (BadFrame place) source source_then sink sink_mid sink_then clock clock_mid clock_then same_sink same_clock counts = tt
counts_halt Read source source_then sink sink_mid sink_then clock clock_mid clock_then same_sink same_clock counts = absurd counts
counts_halt (Stopped stops.Clock) source source_then sink sink_mid sink_then clock clock_mid clock_then same_sink same_clock counts = subst (λ (n : ℕ). Rises n clock_then) same_clock counts
counts_halt (Stopped stops.Sink) source source_then sink sink_mid sink_then clock clock_mid clock_then same_sink same_clock counts = subst (λ (n : ℕ). Rises n sink_then) same_sink counts
counts_halt (Stopped stops.Memory) source source_then sink sink_mid sink_then clock clock_mid clock_then same_sink same_clock counts = tt
counts_halt (Stopped stops.Misplaced) source source_then sink sink_mid sink_then clock clock_mid clock_then same_sink same_clock counts = tt

-- the disk's count of faults never falls
pub piped_grows : {C D A : Type 0} (sides : Sides C D) (result : Result A Halt) (source : SourceSeen) (x y : C) (old new : Point D) → Piped sides result source (change_of x old y new)
    → sides.disk.faults old.place.disk ≤ sides.disk.faults new.place.disk
piped_grows sides (Ok done) source x y old new piped = faults_grow sides.makes sides.disk (acts_of piped.ran.served ++ piped.ran.last) x y old.place new.place piped.ran.happened
piped_grows sides (Err (BadFrame place)) source x y old new piped = faults_grow sides.makes sides.disk (acts_of piped.ran.served) x y old.place new.place piped.ran.happened
piped_grows sides (Err Read) source x y old new piped = faults_grow sides.makes sides.disk (acts_of piped.ran.served) x y old.place new.place piped.ran.happened
piped_grows sides (Err (Stopped stop)) source x y old new piped =
    faults_grow sides.makes sides.disk (acts_of piped.ran.served ++ begun_acts piped.ran.begun) x y old.place new.place piped.ran.happened

-- what is said of a stream tells the count behind it by itself
pub piped_of : {C D A : Type 0} (sides : Sides C D) (result : Result A Halt) (source : SourceSeen) (x y : C) (old : Point D) (place : Place D) (reads : ℕ) (taken readings : List ℕ) (asked : ℕ)
    → Piped sides result source (change_of x old y (point_at place reads taken readings asked)) → Piped sides result source (change_of x old y (point_of place reads taken readings))
piped_of sides result source x y old place reads taken readings asked piped = record {
  bytes = piped.bytes;
  frames = piped.frames;
  at = piped.at;
  rest = piped.rest;
  given_is = piped.given_is;
  cut = piped.cut;
  ends = piped.ends;
  asked = piped.asked;
  ran = piped.ran;
}
