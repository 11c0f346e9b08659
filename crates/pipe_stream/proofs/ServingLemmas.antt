-- Requests that were served, one after another.
use Rattle.std.proofs.Common.{◌≡◌, inl, inr, ℕ, ◌++◌, List, [], ◌∷◌, Bool, false, not, Result, Ok, Err, refl, sym, ap, ◌∙◌, subst, append-nil, append_assoc, ⊎_elim}
use Rattle.std.specs.Prelude.{if◌then◌else◌}
use Rattle.std.proofs.lemmas.List.{map-append}
use Rattle.std.proofs.lemmas.List.Elements.{filter-append}
use Rattle.mq_outside.specs.Readings.{Giving}
use Rattle.remoting_frame.specs.declared.frame.Frame.{Frame}
use Rattle.session.specs.Hearing.{AreResponses, is_response}
use Rattle.session.specs.Talks.{requests_of}
use Rattle.reply_fields.specs.Parts.{AskParts}
use Rattle.worker_turns.specs.Acts.{Act, Acts, Place, change_of}
use Rattle.pipe_stream.specs.Telling.{TookPart, asks_bytes, count_after, next_count}
use Rattle.pipe_stream.specs.Serving.{Sides, Point, point_at, Served, served_with, AreServed, acts_of, asks_of, bytes_of, written_for, frames_of, readings_of, Ran, Nothing, Asked, begun_acts, begun_bytes, begun_readings, Breaks, Broke, Serves, HasPartlyServed, HasBroken, ServesAt, sides_of}
use Rattle.pipe_stream.specs.declared.stop.Stop.{Stop}
use Rattle.pipe_stream.specs.declared.stop.Stop.TheVariants as stops
use Rattle.worker_turns.proofs.ActLemmas.{still, acts_then}
use Rattle.pipe_stream.proofs.TellingLemmas.{took_none}

-- ---- lists

acts_of-append : (first later : List Served) → acts_of (first ++ later) ≡ acts_of first ++ acts_of later
acts_of-append [] later = refl
acts_of-append (it ∷ first) later = ap (λ (l : List Act). it.acts ++ l) (acts_of-append first later) ∙ sym (append_assoc it.acts (acts_of first) (acts_of later))

pub count_after-append : (asked : ℕ) (first later : List AskParts) → count_after asked (first ++ later) ≡ count_after (count_after asked first) later
count_after-append asked [] later = refl
count_after-append asked (ask ∷ first) later = count_after-append (next_count asked) first later

asks_of-append : (first later : List Served) → asks_of (first ++ later) ≡ asks_of first ++ asks_of later
asks_of-append [] later = refl
asks_of-append (it ∷ first) later = ap (λ (l : List AskParts). it.asks ++ l) (asks_of-append first later) ∙ sym (append_assoc it.asks (asks_of first) (asks_of later))

-- the count behind requests, and behind more
counts_then : (asked : ℕ) (first later : List Served) → count_after asked (asks_of (first ++ later)) ≡ count_after (count_after asked (asks_of first)) (asks_of later)
counts_then asked first later = ap (count_after asked) (asks_of-append first later) ∙ count_after-append asked (asks_of first) (asks_of later)

bytes_of-append : (asked : ℕ) (first later : List Served) → bytes_of asked (first ++ later) ≡ bytes_of asked first ++ bytes_of (count_after asked (asks_of first)) later
bytes_of-append asked [] later = refl
bytes_of-append asked (it ∷ first) later =
    let mid : ℕ = count_after asked it.asks in
    ap (λ (l : List ℕ). written_for asked it ++ l) (bytes_of-append mid first later)
    ∙ sym (append_assoc (written_for asked it) (bytes_of mid first) (bytes_of (count_after mid (asks_of first)) later))
    ∙ ap (λ (n : ℕ). (written_for asked it ++ bytes_of mid first) ++ bytes_of n later) (sym (count_after-append asked it.asks (asks_of first)))

served_then : (gives : Giving) (first later : List Served) (a b c : ℕ) → AreServed gives a first b → AreServed gives b later c → AreServed gives a (first ++ later) c
served_then gives [] later a b c before behind = subst (λ (n : ℕ). AreServed gives n later c) before behind
served_then gives (it ∷ first) later a b c before behind = (before.0, before.1, served_then gives first later before.0 b c before.2 behind)

-- responses have no request among them
pub no_requests : (frames : List Frame) → AreResponses frames → requests_of frames ≡ []
no_requests [] all = refl
no_requests (f ∷ frames) all = subst (λ (b : Bool). (if not b then f ∷ requests_of frames else requests_of frames) ≡ []) (sym all.0) (no_requests frames all.1)

one_request : (frame : Frame) → is_response frame.header ≡ false → requests_of (frame ∷ []) ≡ frame ∷ []
one_request frame is = subst (λ (b : Bool). (if not b then frame ∷ [] else []) ≡ frame ∷ []) (sym is) refl

requests_then : (first later : List Frame) → requests_of (first ++ later) ≡ requests_of first ++ requests_of later
requests_then first later = filter-append (λ frame. not (is_response frame.header)) first later

-- what was written, with more behind it
pub more_behind : (given bytes piece mid new : List ℕ) → new ≡ mid ++ piece → mid ≡ given ++ bytes → new ≡ given ++ (bytes ++ piece)
more_behind given bytes piece mid new more before = more ∙ ap (λ (l : List ℕ). l ++ piece) before ∙ append_assoc given bytes piece

module _ {C D : Type 0} (sides : Sides C D) where
  -- ---- runs

  pub ran_nothing : (frames : List Frame) (x : C) (p : Point D) → requests_of frames ≡ [] → Ran sides frames (change_of x p x p)
  ran_nothing frames x p none = record {
    served = [];
    asked = sym none;
    each = refl;
    happened = still sides.makes sides.disk x p.place;
    answered = λ told. sym (append-nil p.taken);
    counted = refl;
    read = λ told. sym (append-nil p.readings);
  }

  pub ran_then : (frames more : List Frame) (x y z : C) (p q r : Point D) → Ran sides frames (change_of x p y q) → Ran sides more (change_of y q z r) → Ran sides (frames ++ more) (change_of x p z r)
  ran_then frames more x y z p q r first later = record {
    served = first.served ++ later.served;
    asked = map-append (λ (it : Served). it.frame) first.served later.served ∙ ap (λ (l : List Frame). l ++ frames_of later.served) first.asked
        ∙ ap (λ (l : List Frame). requests_of frames ++ l) later.asked ∙ sym (requests_then frames more);
    each = served_then sides.gives first.served later.served p.reads q.reads r.reads first.each later.each;
    happened = subst (λ (l : List Act). Acts sides.makes sides.disk l (change_of x p.place z r.place)) (sym (acts_of-append first.served later.served))
        (acts_then sides.makes sides.disk (acts_of first.served) (acts_of later.served) x y z p.place q.place r.place first.happened later.happened);
    answered = λ told. more_behind p.taken (bytes_of p.asked first.served) (bytes_of q.asked later.served) q.taken r.taken (later.answered told) (first.answered told)
        ∙ ap (λ (n : ℕ). p.taken ++ (bytes_of p.asked first.served ++ bytes_of n later.served)) first.counted
        ∙ ap (λ (l : List ℕ). p.taken ++ l) (sym (bytes_of-append p.asked first.served later.served));
    counted = later.counted ∙ ap (λ (n : ℕ). count_after n (asks_of later.served)) first.counted ∙ sym (counts_then p.asked first.served later.served);
    read = λ told. more_behind p.readings (readings_of first.served) (readings_of later.served) q.readings r.readings (later.read told) (first.read told)
        ∙ ap (λ (l : List ℕ). p.readings ++ l) (sym (map-append (λ (it : Served). it.reading) first.served later.served));
  }

  pub broke_then : (stop : Stop) (frames more : List Frame) (x y z : C) (p q r : Point D) → Ran sides frames (change_of x p y q) → Broke sides stop more (change_of y q z r) → Broke sides stop (frames ++ more) (change_of x p z r)
  broke_then stop frames more x y z p q r first later = record {
    served = first.served ++ later.served;
    begun = later.begun;
    left = later.left;
    mid = later.mid;
    asked = ap (λ (l : List Frame). l ++ later.left) (map-append (λ (it : Served). it.frame) first.served later.served)
        ∙ append_assoc (frames_of first.served) (frames_of later.served) later.left ∙ ap (λ (l : List Frame). l ++ (frames_of later.served ++ later.left)) first.asked
        ∙ ap (λ (l : List Frame). requests_of frames ++ l) later.asked ∙ sym (requests_then frames more);
    next = later.next;
    each = served_then sides.gives first.served later.served p.reads q.reads later.mid first.each later.each;
    breaks = later.breaks;
    happened = subst (λ (l : List Act). Acts sides.makes sides.disk l (change_of x p.place z r.place))
        (sym (append_assoc (acts_of first.served) (acts_of later.served) (begun_acts later.begun)) ∙ ap (λ (l : List Act). l ++ begun_acts later.begun) (sym (acts_of-append first.served later.served)))
        (acts_then sides.makes sides.disk (acts_of first.served) (acts_of later.served ++ begun_acts later.begun) x y z p.place q.place r.place first.happened later.happened);
    answered = λ told.
        let same = ap (λ (n : ℕ). count_after n (asks_of later.served)) first.counted ∙ sym (counts_then p.asked first.served later.served) in
        subst (λ (n : ℕ). TookPart (p.taken ++ bytes_of p.asked (first.served ++ later.served)) r.taken (begun_bytes n later.begun)) same
        (subst (λ (l : List ℕ). TookPart l r.taken (begun_bytes (count_after q.asked (asks_of later.served)) later.begun))
        (ap (λ (l : List ℕ). l ++ bytes_of q.asked later.served) (first.answered told) ∙ append_assoc p.taken (bytes_of p.asked first.served) (bytes_of q.asked later.served)
        ∙ ap (λ (n : ℕ). p.taken ++ (bytes_of p.asked first.served ++ bytes_of n later.served)) first.counted
        ∙ ap (λ (l : List ℕ). p.taken ++ l) (sym (bytes_of-append p.asked first.served later.served)))
        (later.answered told));
    read = λ told. more_behind p.readings (readings_of first.served) (readings_of later.served ++ begun_readings later.begun) q.readings r.readings (later.read told) (first.read told)
        ∙ ap (λ (l : List ℕ). p.readings ++ l) (sym (append_assoc (readings_of first.served) (readings_of later.served) (begun_readings later.begun))
        ∙ ap (λ (l : List ℕ). l ++ begun_readings later.begun) (sym (map-append (λ (it : Served). it.reading) first.served later.served)));
  }

  -- it broke off with nothing begun
  pub broke_idle : (stop : Stop) (frames : List Frame) (x : C) (place : Place D) (reads : ℕ) (taken readings readings_then : List ℕ) (asked : ℕ) → Breaks sides.gives stop Nothing reads reads
      → (sides.clock → readings_then ≡ readings) → Broke sides stop frames (change_of x (point_at place reads taken readings asked) x (point_at place reads taken readings_then asked))
  broke_idle stop frames x place reads taken readings readings_then asked breaks same = record {
    served = [];
    begun = Nothing;
    left = requests_of frames;
    mid = reads;
    asked = refl;
    next = tt;
    each = refl;
    breaks = breaks;
    happened = still sides.makes sides.disk x place;
    answered = λ told. took_none (taken ++ []) taken [] (sym (append-nil taken));
    read = λ told. same told ∙ sym (append-nil readings);
  }

  pub broke_memory : (frames : List Frame) (x y : C) (p q : Point D) → Ran sides frames (change_of x p y q) → Broke sides stops.Memory frames (change_of x p y q)
  broke_memory frames x y p q ran =
      subst (λ (l : List Frame). Broke sides stops.Memory l (change_of x p y q)) (append-nil frames)
      (broke_then stops.Memory frames [] x y y p q q ran (broke_idle stops.Memory [] y q.place q.reads q.taken q.readings q.readings q.asked tt (λ told. refl)))

  -- behind frames that are responses
  pub skipped_ran : (skipped more : List Frame) (x y : C) (p q : Point D) → AreResponses skipped → Ran sides more (change_of x p y q) → Ran sides (skipped ++ more) (change_of x p y q)
  skipped_ran skipped more x y p q all ran = ran_then skipped more x x y p p q (ran_nothing skipped x p (no_requests skipped all)) ran

  pub skipped_broke : (stop : Stop) (skipped more : List Frame) (x y : C) (p q : Point D) → AreResponses skipped → Broke sides stop more (change_of x p y q) → Broke sides stop (skipped ++ more) (change_of x p y q)
  skipped_broke stop skipped more x y p q all broke = broke_then stop skipped more x x y p p q (ran_nothing skipped x p (no_requests skipped all)) broke

-- ---- one request

module _ {C D : Type 0} (sides : Sides C D) (other : Type 0) (frame : Frame) (reading : ℕ) (x y : C) (old new : Place D) (reads reads_then : ℕ) (taken taken_then readings readings_then : List ℕ) (asked asked_then : ℕ) where
  abbrev pub of_one : Sides C D
  of_one = sides_of sides.makes sides.gives sides.disk sides.sink other

  partly_broke : (stop : Stop) (asks : List AskParts) (acts : List Act) (bytes : List ℕ) → is_response frame.header ≡ false → (sides.clock → readings_then ≡ readings ++ reading ∷ [])
      → Breaks sides.gives stop (Asked (served_with frame reading asks acts bytes)) reads reads_then → Acts sides.makes sides.disk acts (change_of x old y new)
      → (sides.sink → TookPart taken taken_then (asks_bytes asked asks ++ bytes))
      → Broke sides stop (frame ∷ []) (change_of x (point_at old reads taken readings asked) y (point_at new reads_then taken_then readings_then asked_then))
  partly_broke stop asks acts bytes wants read breaks happened took = record {
    served = [];
    begun = Asked (served_with frame reading asks acts bytes);
    left = frame ∷ [];
    mid = reads;
    asked = sym (one_request frame wants);
    next = refl;
    each = refl;
    breaks = breaks;
    happened = happened;
    answered = λ told. subst (λ (l : List ℕ). TookPart l taken_then (asks_bytes asked asks ++ bytes)) (sym (append-nil taken)) (took told);
    read = read;
  }

  -- nothing was written
  silent_broke : (stop : Stop) (it : HasBroken of_one stop (change_of x (point_at old reads taken [] asked) y (point_at new reads_then taken_then [] asked_then))) → is_response frame.header ≡ false
      → (sides.clock → readings_then ≡ readings ++ reading ∷ []) → Breaks sides.gives stop (Asked (served_with frame reading [] it.acts [])) reads reads_then
      → Broke sides stop (frame ∷ []) (change_of x (point_at old reads taken readings asked) y (point_at new reads_then taken_then readings_then asked_then))
  silent_broke stop it wants read breaks = partly_broke stop [] it.acts [] wants read breaks it.happened (λ told. took_none taken taken_then [] (it.still told))

  pub one_served : {A : Type 0} (result : Result A Stop) → is_response frame.header ≡ false → (sides.clock → readings_then ≡ readings ++ reading ∷ [])
      → ServesAt of_one frame reading result (change_of x (point_at old reads taken [] asked) y (point_at new reads_then taken_then [] asked_then))
      → Serves sides result (frame ∷ []) (change_of x (point_at old reads taken readings asked) y (point_at new reads_then taken_then readings_then asked_then))
  one_served (Ok done) wants read it = record {
    served = served_with frame reading it.asks it.acts it.bytes ∷ [];
    asked = sym (one_request frame wants);
    each = (reads_then, it.served, refl);
    happened = subst (λ (l : List Act). Acts sides.makes sides.disk l (change_of x old y new)) (sym (append-nil it.acts)) it.happened;
    answered = λ told. it.taken_is told ∙ ap (λ (l : List ℕ). taken ++ l) (sym (append-nil (asks_bytes asked it.asks ++ it.bytes)));
    counted = it.counted ∙ ap (count_after asked) (sym (append-nil it.asks));
    read = read;
  }
  one_served (Err stops.Clock) wants read it = absurd it
  one_served (Err stops.Sink) wants read it = partly_broke stops.Sink it.asks it.acts it.bytes wants read it.served it.happened it.took
  one_served (Err stops.Memory) wants read it = ⊎_elim
      (λ (some : HasPartlyServed of_one stops.Memory frame reading (change_of x (point_at old reads taken [] asked) y (point_at new reads_then taken_then [] asked_then))).
      partly_broke stops.Memory some.asks some.acts some.bytes wants read (inr some.served) some.happened some.took)
      (λ (none : HasBroken of_one stops.Memory (change_of x (point_at old reads taken [] asked) y (point_at new reads_then taken_then [] asked_then))).
      silent_broke stops.Memory none wants read (inl (record { no_asks = refl; no_bytes = refl })))
      it
  one_served (Err stops.Misplaced) wants read it = ⊎_elim
      (λ (some : HasPartlyServed of_one stops.Misplaced frame reading (change_of x (point_at old reads taken [] asked) y (point_at new reads_then taken_then [] asked_then))).
      partly_broke stops.Misplaced some.asks some.acts some.bytes wants read (some.stopped, inr some.served) some.happened some.took)
      (λ (none : HasBroken of_one stops.Misplaced (change_of x (point_at old reads taken [] asked) y (point_at new reads_then taken_then [] asked_then))).
      silent_broke stops.Misplaced none wants read (none.stopped, inl (record { no_asks = refl; no_bytes = refl })))
      it
