-- What is due before a request, and the check-backs that come of it.
use Rattle.std.proofs.Common.{◌≡◌, ◌⊎◌, inl, inr, ℕ, ◌+◌, ◌<◌, ◌++◌, List, [], ◌∷◌, take, drop, length, get_or, Result, Ok, Err, OnOk, refl, sym, ap, ◌∙◌, subst, append-nil, append_assoc, ⊎_elim}
use Rattle.std.proofs.lemmas.List.{take_more, drop_more, take-append-drop}
use Rattle.reply_fields.specs.Asks.{ask_bytes}
use Rattle.reply_fields.specs.Parts.{AskParts}
use Rattle.remoting_frame.specs.declared.frame.Frame.{Frame}
use Rattle.worker_turns.specs.Turns.{Steps}
use Rattle.worker_turns.specs.Acts.{Act, Acted, DiskView, Place, change_of}
use Rattle.worker_turns.specs.Turning.{BrokeBy}
use Rattle.worker_turns.specs.Due.{AreDueAsks}
use Rattle.worker_turns.specs.declared.broken.Broken.{Broken}
use Rattle.worker_turns.specs.declared.broken.Broken.TheVariants as broken
use Rattle.worker_turns.proofs.ActLemmas.{acts_then}
use Rattle.pipe_stream.specs.Telling.{CountsTelling, EndsWriting, TookPart, WritesPiece, asks_bytes, count_after, fault_counts, next_count, opaque_of, stopped_by}
use Rattle.pipe_stream.specs.Serving.{Sides, Point, point_at, point_of, IsAnswered, StoppedIn, HasBroken, HasPartlyHeard, AnswersHeard, HasAsked, HasPartlyAsked, HasAskedNone, AsksFirst, HasPartlyServed, ServesAt, served_as}
use Rattle.pipe_stream.specs.Piping.{Closes, CountsClosing}
use Rattle.pipe_stream.specs.declared.stop.Stop.{Stop}
use Rattle.pipe_stream.specs.declared.stop.Stop.TheVariants as stops
use Rattle.pipe_stream.specs.declared.stop.Halt.TheVariants.{Stopped}
use Rattle.pipe_stream.proofs.TellingLemmas.{took_none, stopped_behind}
use Rattle.pipe_stream.proofs.ServingLemmas.{count_after-append}

-- ---- frames that are written one after another

pub asks_bytes-append : (asked : ℕ) (first later : List AskParts) → asks_bytes asked (first ++ later) ≡ asks_bytes asked first ++ asks_bytes (count_after asked first) later
asks_bytes-append asked [] later = refl
asks_bytes-append asked (ask ∷ first) later =
    let bytes : List ℕ = ask_bytes (opaque_of asked) ask.view in
    ap (λ (l : List ℕ). bytes ++ l) (asks_bytes-append (next_count asked) first later)
    ∙ sym (append_assoc bytes (asks_bytes (next_count asked) first) (asks_bytes (count_after (next_count asked) first) later))

-- one more
pub wrote_more : (asked mid : ℕ) (first : List AskParts) (ask : AskParts) (old now new : List ℕ) → mid ≡ count_after asked first → now ≡ old ++ asks_bytes asked first → new ≡ now ++ ask_bytes (opaque_of mid) ask.view
    → new ≡ old ++ asks_bytes asked (first ++ ask ∷ [])
wrote_more asked mid first ask old now new counted before more =
    let piece : List ℕ = ask_bytes (opaque_of mid) ask.view in
    more ∙ ap (λ (l : List ℕ). l ++ piece) before ∙ append_assoc old (asks_bytes asked first) piece
    ∙ ap (λ (n : ℕ). old ++ (asks_bytes asked first ++ ask_bytes (opaque_of n) ask.view)) counted
    ∙ ap (λ (l : List ℕ). old ++ (asks_bytes asked first ++ l)) (sym (append-nil (ask_bytes (opaque_of (count_after asked first)) ask.view)))
    ∙ ap (λ (l : List ℕ). old ++ l) (sym (asks_bytes-append asked first (ask ∷ [])))

pub counted_more : (asked mid new : ℕ) (first : List AskParts) (ask : AskParts) → mid ≡ count_after asked first → new ≡ next_count mid → new ≡ count_after asked (first ++ ask ∷ [])
counted_more asked mid new first ask before more = more ∙ ap next_count before ∙ sym (count_after-append asked first (ask ∷ []))

-- a front of one more, and none of those behind it
pub took_in : (asked mid : ℕ) (first later : List AskParts) (ask : AskParts) (old now new : List ℕ) → mid ≡ count_after asked first → now ≡ old ++ asks_bytes asked first → TookPart now new (ask_bytes (opaque_of mid) ask.view)
    → TookPart old new (asks_bytes asked (first ++ ask ∷ later))
took_in asked mid first later ask old now new counted before took =
    let start : List ℕ = asks_bytes asked first in
    let behind : List ℕ = asks_bytes (next_count mid) later in
    record {
      part = start ++ took.part;
      unwritten = took.unwritten ++ behind;
      front = append_assoc start took.part (took.unwritten ++ behind) ∙ ap (λ (l : List ℕ). start ++ l) (sym (append_assoc took.part took.unwritten behind) ∙ ap (λ (l : List ℕ). l ++ behind) took.front)
          ∙ ap (λ (n : ℕ). start ++ asks_bytes n (ask ∷ later)) counted ∙ sym (asks_bytes-append asked first (ask ∷ later));
      taken_is = took.taken_is ∙ ap (λ (l : List ℕ). l ++ took.part) before ∙ append_assoc old start took.part;
    }

-- ---- in a list

front_one : (asks : List AskParts) (i : ℕ) (ask : AskParts) → i < length asks → ask ≡ get_or asks i ask → take (i + 1) asks ≡ take i asks ++ ask ∷ []
front_one asks i ask low is = take_more asks i ask low ∙ ap (λ (a : AskParts). take i asks ++ a ∷ []) (sym is)

whole_at : (asks : List AskParts) (i : ℕ) (ask : AskParts) → i < length asks → ask ≡ get_or asks i ask → asks ≡ take i asks ++ ask ∷ drop (i + 1) asks
whole_at asks i ask low is =
    sym (take-append-drop i asks) ∙ ap (λ (l : List AskParts). take i asks ++ l) (drop_more asks i ask low ∙ ap (λ (a : AskParts). a ∷ drop (i + 1) asks) (sym is))

module _ (asked mid : ℕ) (asks : List AskParts) (i : ℕ) (ask : AskParts) (low : i < length asks) (is : ask ≡ get_or asks i ask) (counted : mid ≡ count_after asked (take i asks)) where
  pub next_wrote : (old now new : List ℕ) → now ≡ old ++ asks_bytes asked (take i asks) → new ≡ now ++ ask_bytes (opaque_of mid) ask.view → new ≡ old ++ asks_bytes asked (take (i + 1) asks)
  next_wrote old now new before more =
      subst (λ (l : List AskParts). new ≡ old ++ asks_bytes asked l) (sym (front_one asks i ask low is)) (wrote_more asked mid (take i asks) ask old now new counted before more)

  pub next_counted : (new : ℕ) → new ≡ next_count mid → new ≡ count_after asked (take (i + 1) asks)
  next_counted new more =
      subst (λ (l : List AskParts). new ≡ count_after asked l) (sym (front_one asks i ask low is)) (counted_more asked mid new (take i asks) ask counted more)

  pub next_took : (old now new : List ℕ) → now ≡ old ++ asks_bytes asked (take i asks) → TookPart now new (ask_bytes (opaque_of mid) ask.view) → TookPart old new (asks_bytes asked asks)
  next_took old now new before took =
      subst (λ (l : List AskParts). TookPart old new (asks_bytes asked l)) (sym (whole_at asks i ask low is))
      (took_in asked mid (take i asks) (drop (i + 1) asks) ask old now new counted before took)

-- ---- what is due

module _ {C D : Type 0} (makes : Steps C) (view : DiskView D) (sink : Type 0) (reading : ℕ) where
  -- it broke off, and nothing was written
  due_none : (fault : Broken) (x y : C) (old new : Point D) → Acted makes view (BrokeBy fault) (change_of x old.place y new.place) → new.taken ≡ old.taken
      → AsksFirst {A = Unit {0}} makes view sink reading (Err (stopped_by fault)) (change_of x old y new)
  due_none broken.Misplaced x y old new acted same = record { acts = acted.acts; happened = acted.happened; stopped = acted.kind; still = λ tells. same }
  due_none broken.Memory x y old new acted same = inr (record { acts = acted.acts; happened = acted.happened; stopped = tt; still = λ tells. same })

  pub due_broken : (fault : Broken) (stop : Stop) (x y : C) (old new : Point D) → stop ≡ stopped_by fault → Acted makes view (BrokeBy fault) (change_of x old.place y new.place) → new.taken ≡ old.taken
      → AsksFirst {A = Unit {0}} makes view sink reading (Err stop) (change_of x old y new)
  due_broken fault stop x y old new by acted same =
      subst (λ (s : Stop). AsksFirst {A = Unit {0}} makes view sink reading (Err s) (change_of x old y new)) (sym by) (due_none fault x y old new acted same)

  -- check-backs of what was due were written, or some of them
  pub due_asked : {A : Type 0} (asks : List AskParts) (result : Result A Stop) (x y : C) (old new : Point D) → Acted makes view (AreDueAsks reading asks) (change_of x old.place y new.place)
      → (sink → WritesPiece result old.taken new.taken (asks_bytes old.asked asks)) → OnOk result (new.asked ≡ count_after old.asked asks) → EndsWriting result
      → AsksFirst makes view sink reading result (change_of x old y new)
  due_asked asks (Ok done) x y old new acted wrote counted ends =
      record { asks = asks; acts = acted.acts; due = acted.kind; happened = acted.happened; taken_is = wrote; counted = counted }
  due_asked asks (Err stops.Clock) x y old new acted wrote counted ends = absurd ends
  due_asked asks (Err stops.Sink) x y old new acted wrote counted ends =
      record { asks = asks; acts = acted.acts; due = acted.kind; happened = acted.happened; took = wrote }
  due_asked asks (Err stops.Memory) x y old new acted wrote counted ends =
      inl (record { asks = asks; acts = acted.acts; due = acted.kind; happened = acted.happened; took = wrote })
  due_asked asks (Err stops.Misplaced) x y old new acted wrote counted ends = absurd ends

-- ---- the request behind it

-- a front of a piece behind bytes that were written is a front of both
took_behind : (old mid new first piece : List ℕ) → mid ≡ old ++ first → TookPart mid new piece → TookPart old new (first ++ piece)
took_behind old mid new first piece before took = record {
  part = first ++ took.part;
  unwritten = took.unwritten;
  front = append_assoc first took.part took.unwritten ∙ ap (λ (l : List ℕ). first ++ l) took.front;
  taken_is = took.taken_is ∙ ap (λ (l : List ℕ). l ++ took.part) before ∙ append_assoc old first took.part;
}

module _ {C D : Type 0} (sides : Sides C D) (frame : Frame) (reading : ℕ) where
  -- only a front of the check-backs was written
  partly_asked : (stop : Stop) (x y : C) (old new : Point D) → ((acts : List Act) → StoppedIn stop acts) → HasPartlyAsked sides.makes sides.disk sides.sink reading (change_of x old y new) → HasPartlyServed sides stop frame reading (change_of x old y new)
  partly_asked stop x y old new stopped it = record {
    asks = it.asks;
    acts = it.acts;
    bytes = [];
    served = inl (record { before = it.acts; later = []; turned = it.due; no_bytes = refl; are_all = sym (append-nil it.acts) });
    happened = it.happened;
    stopped = stopped it.acts;
    took = λ told. subst (λ (l : List ℕ). TookPart old.taken new.taken l) (sym (append-nil (asks_bytes old.asked it.asks))) (it.took told);
  }

  none_asked : (stop : Stop) (x y : C) (old new : Point D) → HasAskedNone sides.makes sides.disk sides.sink stop (change_of x old y new) → HasBroken sides stop (change_of x old y new)
  none_asked stop x y old new it = record { acts = it.acts; happened = it.happened; stopped = it.stopped; still = it.still }

  -- something broke off before the request was given
  pub asked_broke : (stop : Stop) (x y : C) (old new : Point D) → AsksFirst {A = Unit {0}} sides.makes sides.disk sides.sink reading (Err stop) (change_of x old y new) → ServesAt {A = Unit {0}} sides frame reading (Err stop) (change_of x old y new)
  asked_broke stops.Clock x y old new it = it
  asked_broke stops.Sink x y old new it = partly_asked stops.Sink x y old new (λ acts. tt) it
  asked_broke stops.Memory x y old new it = ⊎_elim
      (λ (some : HasPartlyAsked sides.makes sides.disk sides.sink reading (change_of x old y new)). inl (partly_asked stops.Memory x y old new (λ acts. tt) some))
      (λ (none : HasAskedNone sides.makes sides.disk sides.sink stops.Memory (change_of x old y new)). inr (none_asked stops.Memory x y old new none))
      it
  asked_broke stops.Misplaced x y old new it = inr (none_asked stops.Misplaced x y old new it)

  -- the answer was made, and then its serving broke off
  partly_heard : (stop : Stop) (x y z : C) (old mid new : Point D) → (first : HasAsked sides.makes sides.disk sides.sink reading (change_of x old y mid)) → mid.reads ≡ old.reads → HasPartlyHeard sides stop frame reading (change_of y mid z new)
      → HasPartlyServed sides stop frame reading (change_of x old z new)
  partly_heard stop x y z old mid new first reads it = record {
    asks = first.asks;
    acts = first.acts ++ (it.first ++ it.later);
    bytes = it.bytes;
    served = inr (record {
      answer = it.answer;
      before = first.acts;
      first = it.first;
      later = it.later;
      turned = first.due;
      answered = subst (λ (n : ℕ). IsAnswered sides.gives (served_as frame reading it.first it.bytes) it.answer (fault_counts n new.reads)) reads it.answered;
      are_all = refl;
    });
    happened = acts_then sides.makes sides.disk first.acts (it.first ++ it.later) x y z old.place mid.place new.place first.happened it.happened;
    stopped = stopped_behind sides frame reading stop first.acts (it.first ++ it.later) it.stopped;
    took = λ told. took_behind old.taken mid.taken new.taken (asks_bytes old.asked first.asks) it.bytes (first.taken_is told) (it.took told);
  }

  -- no answer was made
  not_heard : (stop : Stop) (x y z : C) (old mid new : Point D) → (first : HasAsked sides.makes sides.disk sides.sink reading (change_of x old y mid)) → HasBroken sides stop (change_of y mid z new) → HasPartlyServed sides stop frame reading (change_of x old z new)
  not_heard stop x y z old mid new first it = record {
    asks = first.asks;
    acts = first.acts ++ it.acts;
    bytes = [];
    served = inl (record { before = first.acts; later = it.acts; turned = first.due; no_bytes = refl; are_all = refl });
    happened = acts_then sides.makes sides.disk first.acts it.acts x y z old.place mid.place new.place first.happened it.happened;
    stopped = stopped_behind sides frame reading stop first.acts it.acts it.stopped;
    took = λ told. took_behind old.taken mid.taken new.taken (asks_bytes old.asked first.asks) [] (first.taken_is told) (took_none mid.taken new.taken [] (it.still told));
  }

  either_heard : (stop : Stop) (x y z : C) (old mid new : Point D) → (first : HasAsked sides.makes sides.disk sides.sink reading (change_of x old y mid)) → mid.reads ≡ old.reads
      → HasPartlyHeard sides stop frame reading (change_of y mid z new) ⊎ HasBroken sides stop (change_of y mid z new) → HasPartlyServed sides stop frame reading (change_of x old z new)
  either_heard stop x y z old mid new first reads = ⊎_elim
      (λ (some : HasPartlyHeard sides stop frame reading (change_of y mid z new)). partly_heard stop x y z old mid new first reads some)
      (λ (none : HasBroken sides stop (change_of y mid z new)). not_heard stop x y z old mid new first none)

  part_at : (stop : Stop) (y z : C) (q r : Place D) (reads reads_then : ℕ) (taken taken_then : List ℕ) (asked : ℕ) → HasPartlyHeard sides stop frame reading (change_of y (point_of q reads taken []) z (point_of r reads_then taken_then []))
      → HasPartlyHeard sides stop frame reading (change_of y (point_at q reads taken [] asked) z (point_at r reads_then taken_then [] asked))
  part_at stop y z q r reads reads_then taken taken_then asked it = record {
    answer = it.answer;
    first = it.first;
    later = it.later;
    bytes = it.bytes;
    answered = it.answered;
    happened = it.happened;
    stopped = it.stopped;
    took = it.took;
  }

  either_at : (stop : Stop) (y z : C) (q r : Place D) (reads reads_then : ℕ) (taken taken_then : List ℕ) (asked : ℕ)
      → HasPartlyHeard sides stop frame reading (change_of y (point_of q reads taken []) z (point_of r reads_then taken_then [])) ⊎ HasBroken sides stop (change_of y (point_of q reads taken []) z (point_of r reads_then taken_then []))
      → HasPartlyHeard sides stop frame reading (change_of y (point_at q reads taken [] asked) z (point_at r reads_then taken_then [] asked)) ⊎ HasBroken sides stop (change_of y (point_at q reads taken [] asked) z (point_at r reads_then taken_then [] asked))
  either_at stop y z q r reads reads_then taken taken_then asked = ⊎_elim
      (λ (some : HasPartlyHeard sides stop frame reading (change_of y (point_of q reads taken []) z (point_of r reads_then taken_then []))). inl (part_at stop y z q r reads reads_then taken taken_then asked some))
      (λ (none : HasBroken sides stop (change_of y (point_of q reads taken []) z (point_of r reads_then taken_then []))).
      inr (record { acts = none.acts; happened = none.happened; stopped = none.stopped; still = none.still }))

  -- the answer tells nothing of how many check-backs were written
  pub heard_at : {A : Type 0} (result : Result A Stop) (y z : C) (q r : Place D) (reads reads_then : ℕ) (taken taken_then : List ℕ) (asked : ℕ)
      → AnswersHeard sides frame reading result (change_of y (point_of q reads taken []) z (point_of r reads_then taken_then []))
      → AnswersHeard sides frame reading result (change_of y (point_at q reads taken [] asked) z (point_at r reads_then taken_then [] asked))
  heard_at (Ok done) y z q r reads reads_then taken taken_then asked it = record {
    answer = it.answer;
    first = it.first;
    later = it.later;
    bytes = it.bytes;
    answered = it.answered;
    followed = it.followed;
    happened = it.happened;
    taken_is = it.taken_is;
  }
  heard_at (Err stops.Clock) y z q r reads reads_then taken taken_then asked it = it
  heard_at (Err stops.Sink) y z q r reads reads_then taken taken_then asked it = part_at stops.Sink y z q r reads reads_then taken taken_then asked it
  heard_at (Err stops.Memory) y z q r reads reads_then taken taken_then asked it = either_at stops.Memory y z q r reads reads_then taken taken_then asked it
  heard_at (Err stops.Misplaced) y z q r reads reads_then taken taken_then asked it = either_at stops.Misplaced y z q r reads reads_then taken taken_then asked it

  -- the request was given once the check-backs were written
  pub asked_served : {A : Type 0} (result : Result A Stop) (x y z : C) (old mid new : Point D) → HasAsked sides.makes sides.disk sides.sink reading (change_of x old y mid) → mid.reads ≡ old.reads → new.asked ≡ mid.asked
      → AnswersHeard sides frame reading result (change_of y mid z new) → ServesAt sides frame reading result (change_of x old z new)
  asked_served (Ok done) x y z old mid new first reads same it = record {
    asks = first.asks;
    acts = first.acts ++ (it.first ++ it.later);
    bytes = it.bytes;
    served = record {
      answer = it.answer;
      before = first.acts;
      first = it.first;
      later = it.later;
      turned = first.due;
      answered = subst (λ (n : ℕ). IsAnswered sides.gives (served_as frame reading it.first it.bytes) it.answer (fault_counts n new.reads)) reads it.answered;
      followed = it.followed;
      are_all = refl;
    };
    happened = acts_then sides.makes sides.disk first.acts (it.first ++ it.later) x y z old.place mid.place new.place first.happened it.happened;
    taken_is = λ told. it.taken_is told ∙ ap (λ (l : List ℕ). l ++ it.bytes) (first.taken_is told) ∙ append_assoc old.taken (asks_bytes old.asked first.asks) it.bytes;
    counted = same ∙ first.counted;
  }
  asked_served (Err stops.Clock) x y z old mid new first reads same it = it
  asked_served (Err stops.Sink) x y z old mid new first reads same it = partly_heard stops.Sink x y z old mid new first reads it
  asked_served (Err stops.Memory) x y z old mid new first reads same it = inl (either_heard stops.Memory x y z old mid new first reads it)
  asked_served (Err stops.Misplaced) x y z old mid new first reads same it = inl (either_heard stops.Misplaced x y z old mid new first reads it)

-- ---- behind the last request

module _ {C D : Type 0} (makes : Steps C) (view : DiskView D) (sink clock : Type 0) (reading : ℕ) (x y : C) (p q : Place D) (taken taken_then readings readings_then : List ℕ) (asked asked_then : ℕ) where
  -- the last turns were made whole
  pub closed_whole : HasAsked makes view sink reading (change_of x (point_at p 0 taken [] asked) y (point_at q 0 taken_then [] asked_then)) → (clock → readings_then ≡ readings ++ reading ∷ [])
      → Closes {A = Unit {0}} makes view sink clock (Ok tt) (change_of x (point_at p 0 taken readings asked) y (point_at q 0 taken_then readings_then asked_then))
  closed_whole it read = record { reading = reading; asks = it.asks; acts = it.acts; kind = it.due; happened = it.happened; took = it.taken_is; read = read }

  -- they broke off
  pub closed_broke : (stop : Stop) → AsksFirst {A = Unit {0}} makes view sink reading (Err stop) (change_of x (point_at p 0 taken [] asked) y (point_at q 0 taken_then [] asked_then))
      → (clock → readings_then ≡ readings ++ reading ∷ [])
      → Closes {A = Unit {0}} makes view sink clock (Err (Stopped stop)) (change_of x (point_at p 0 taken readings asked) y (point_at q 0 taken_then readings_then asked_then))
  closed_broke stops.Clock it read = absurd it
  closed_broke stops.Sink it read = record { reading = reading; asks = it.asks; acts = it.acts; kind = it.due; happened = it.happened; took = it.took; read = read }
  closed_broke stops.Memory it read = ⊎_elim
      (λ (some : HasPartlyAsked makes view sink reading (change_of x (point_at p 0 taken [] asked) y (point_at q 0 taken_then [] asked_then))).
      record { reading = reading; asks = some.asks; acts = some.acts; kind = inr some.due; happened = some.happened; took = some.took; read = read })
      (λ (none : HasAskedNone makes view sink stops.Memory (change_of x (point_at p 0 taken [] asked) y (point_at q 0 taken_then [] asked_then))).
      record { reading = reading; asks = []; acts = none.acts; kind = inl refl; happened = none.happened; took = λ told. took_none taken taken_then [] (none.still told); read = read })
      it
  closed_broke stops.Misplaced it read =
      record { reading = reading; asks = []; acts = it.acts; kind = (it.stopped, refl); happened = it.happened; took = λ told. took_none taken taken_then [] (it.still told); read = read }

-- the sink's count
pub counts_closing : (stop : Stop) (sink sink_then clock clock_then : ℕ) → CountsTelling {A = Unit {0}} (Err stop) sink sink_then
    → CountsClosing {A = Unit {0}} (Err (Stopped stop)) (fault_counts sink sink_then) (fault_counts clock clock_then)
counts_closing stops.Clock sink sink_then clock clock_then counts = absurd counts
counts_closing stops.Sink sink sink_then clock clock_then counts = counts
counts_closing stops.Memory sink sink_then clock clock_then counts = tt
counts_closing stops.Misplaced sink sink_then clock clock_then counts = tt
