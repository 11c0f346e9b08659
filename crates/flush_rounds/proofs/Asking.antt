-- Which check-backs the steps of the flusher ripen, and what was put on the ways of them.
use Rattle.std.proofs.Common.{◌≡◌, ◌≢◌, ◌⊎◌, ⊎_elim, inl, inr, ℕ, zero, suc, ◌+◌, ◌<◌, ◌≤◌, List, [], ◌∷◌, ◌++◌, map, length, Bool, true, false, Option, Some, None, Result, Ok, Err, refl, sym, ap, ◌∙◌, subst, arith, append_assoc, append-nil, length-append}
use Rattle.std.specs.Prelude.{slice_get, flat_map}
use Rattle.std.specs.declared.alloc.AllocError.{AllocError}
use Rattle.std.proofs.lemmas.Option.{slice_get_within}
use Rattle.reply_fields.specs.Parts.{AskParts}
use Rattle.broker_events.specs.Makes.{Makes}
use Rattle.broker_events.proofs.Makes.{makes_append}
use Rattle.broker_events.specs.declared.event.Event.TheVariants.{Check, Look}
use Rattle.broker_events.specs.declared.said.Said.{Said}
use Rattle.broker_events.specs.declared.said.Said.TheVariants as said
use Rattle.broker_events.specs.declared.said.Checked.{Checked}
use Rattle.broker_events.specs.declared.said.Awaited.{Awaited}
use Rattle.broker_events.specs.declared.said.Awaited.TheVariants.{Flushed, Failed, NotYet}
use Rattle.session.specs.Serving.{Made}
use Rattle.event_loops.specs.Tales.{AreSome}
use Rattle.event_loops.proofs.Told.{some_none, some_append}
use Rattle.story_lock.specs.Counts.{times}
use Rattle.story_lock.proofs.Sums.{one_at, times_append}
use Rattle.worker_turns.specs.Turns.{Steps}
use Rattle.worker_turns.specs.Checks.{check, EndsChecking, IsLastCheck, HasChecked, held_for, held_by, Looked, look, held_as, ripe_by, ripe_of, waiting_by, waiting_of, HasLooked}
use Rattle.flush_rounds.specs.Ways.{put_by, ArePair}
use Rattle.flush_rounds.specs.declared.ways.Sender.{Sender}
use Rattle.flush_rounds.specs.declared.ways.Receiver.{Receiver}
use Rattle.flush_rounds.specs.declared.asks.AskWays.{AskWays}
use Rattle.flush_rounds.specs.Deliveries.{AreOfDuties, MakesDuties}
use Rattle.flush_rounds.specs.Asking.{IsCheckedAt, AreRipeAt, AreHeldAt, HandsOut, Asking, IsAsking, Asks, IsFrontOf, HasNoneAsked, AreSameWays, PutsSome, Ripens, MakesAsking, asking_of, put_of}
use Rattle.flush_rounds.specs.Timing.{AreDueNow, AreNotDue}
use Rattle.flush_rounds.proofs.Delivering.{append_are}
use Rattle.flush_rounds.proofs.Timing.{due_then}

abbrev Waiting : Type 0
Waiting = List (ℕ × AskParts)

-- ---- places

pub got_more : {X : Type 0} (xs ys : List X) (k : ℕ) (x : X) → slice_get xs k ≡ Some x → slice_get (xs ++ ys) k ≡ Some x
got_more [] ys k x at = let none : None ≡ Some x = at in cc
got_more (y ∷ xs) ys zero x at = at
got_more (y ∷ xs) ys (suc k) x at = got_more xs ys k x at

got_at : {X : Type 0} (xs ys : List X) (x : X) (k : ℕ) → k ≡ length xs → slice_get (xs ++ x ∷ ys) k ≡ Some x
got_at [] ys x zero is = refl
got_at [] ys x (suc k) is = absurd (omega (arith, is))
got_at (y ∷ xs) ys x zero is = absurd (omega (arith, is))
got_at (y ∷ xs) ys x (suc k) is = got_at xs ys x k (omega (arith, is))

-- one more
longer_by : {X : Type 0} (xs : List X) (x : X) (k : ℕ) → k ≡ length xs → suc k ≡ length (xs ++ x ∷ [])
longer_by xs x k is = omega (arith, is, length-append xs (x ∷ []))

-- a number that is one of the list's, or isn't
times_one : (n p : ℕ) (ps : List ℕ) → ((p ≡ n) × (times n (p ∷ ps) ≡ 1 + times n ps)) ⊎ ((p ≢ n) × (times n (p ∷ ps) ≡ times n ps))
times_one n p ps =
    let both = times_append n (p ∷ []) ps in
    ⊎_elim (λ h. inl (h.0, omega (arith, h.1, both))) (λ h. inr (h.0, omega (arith, h.1, both))) (one_at p n)

-- ---- what stays, whatever steps come later

checked_later : (steps more : Made) (place number : ℕ) (ask : AskParts) → IsCheckedAt steps place number ask → IsCheckedAt (steps ++ more) place number ask
checked_later steps more place number ask it = record {
  now = it.now;
  done = it.done;
  at = got_more steps more place (check it.now it.done) it.at;
  number_is = it.number_is;
  ask_is = it.ask_is;
}

ripe_later : (steps more : Made) (places : List ℕ) (asks : List AskParts) → AreRipeAt steps places asks → AreRipeAt (steps ++ more) places asks
ripe_later steps more [] [] are = tt
ripe_later steps more [] (ask ∷ asks) are = absurd are
ripe_later steps more (place ∷ places) [] are = absurd are
ripe_later steps more (place ∷ places) (ask ∷ asks) are = (
  record {
    number = are.0.number;
    checked = checked_later steps more place are.0.number ask are.0.checked;
    later = are.0.later;
    after = are.0.after;
    flushed = got_more steps more are.0.later (Look are.0.number 0, Some (said.Awaited Flushed)) are.0.flushed;
  },
  ripe_later steps more places asks are.1,
)

held_later : (steps more : Made) (places : List ℕ) (held : Waiting) → AreHeldAt steps places held → AreHeldAt (steps ++ more) places held
held_later steps more [] [] are = tt
held_later steps more [] (one ∷ held) are = absurd are
held_later steps more (place ∷ places) [] are = absurd are
held_later steps more (place ∷ places) (one ∷ held) are = (checked_later steps more place one.0 one.1 are.0, held_later steps more places held are.1)

ripe_append : (steps : Made) (places ks : List ℕ) (asks more : List AskParts) → AreRipeAt steps places asks → AreRipeAt steps ks more → AreRipeAt steps (places ++ ks) (asks ++ more)
ripe_append steps [] ks [] more are then = then
ripe_append steps [] ks (ask ∷ asks) more are then = absurd are
ripe_append steps (place ∷ places) ks [] more are then = absurd are
ripe_append steps (place ∷ places) ks (ask ∷ asks) more are then = (are.0, ripe_append steps places ks asks more are.1 then)

held_append : (steps : Made) (places ks : List ℕ) (held more : Waiting) → AreHeldAt steps places held → AreHeldAt steps ks more → AreHeldAt steps (places ++ ks) (held ++ more)
held_append steps [] ks [] more are then = then
held_append steps [] ks (one ∷ held) more are then = absurd are
held_append steps (place ∷ places) ks [] more are then = absurd are
held_append steps (place ∷ places) ks (one ∷ held) more are then = (are.0, held_append steps places ks held more are.1 then)

-- no place is behind the steps
place_within : (steps : Made) (place number : ℕ) (ask : AskParts) → IsCheckedAt steps place number ask → place < length steps
place_within steps place number ask it = slice_get_within steps place (check it.now it.done) it.at

no_ripe_at : (steps : Made) (places : List ℕ) (asks : List AskParts) (n : ℕ) → AreRipeAt steps places asks → length steps ≤ n → times n places ≡ 0
no_ripe_at steps [] asks n are low = refl
no_ripe_at steps (place ∷ places) [] n are low = absurd are
no_ripe_at steps (place ∷ places) (ask ∷ asks) n are low =
    let rest = no_ripe_at steps places asks n are.1 low in
    let within = place_within steps place are.0.number ask are.0.checked in
    ⊎_elim (λ here. absurd (omega (arith, here.0, within, low))) (λ other. omega (arith, rest, other.1)) (times_one n place places)

no_held_at : (steps : Made) (places : List ℕ) (held : Waiting) (n : ℕ) → AreHeldAt steps places held → length steps ≤ n → times n places ≡ 0
no_held_at steps [] held n are low = refl
no_held_at steps (place ∷ places) [] n are low = absurd are
no_held_at steps (place ∷ places) (one ∷ held) n are low =
    let rest = no_held_at steps places held n are.1 low in
    let within = place_within steps place one.0 one.1 are.0 in
    ⊎_elim (λ here. absurd (omega (arith, here.0, within, low))) (λ other. omega (arith, rest, other.1)) (times_one n place places)

-- ---- steps that ask nobody

pub asks_still : (steps : Made) (it : Asking) → Asks steps it it
asks_still steps it = λ before is. record {
  asks = is.asks;
  places = is.places;
  held_at = is.held_at;
  ripe = ripe_later before steps is.places is.asks is.ripe;
  waits = held_later before steps is.held_at it.held is.waits;
  once = is.once;
  first = is.first;
  second = is.second;
}

pub asks_then : (steps more : Made) (old mid new : Asking) → Asks steps old mid → Asks more mid new → Asks (steps ++ more) old new
asks_then steps more old mid new first later = λ before is.
    subst (λ (l : Made). IsAsking l new) (append_assoc before steps more) (later (before ++ steps) (first before is))

-- ---- checks

-- the places of these checks that ask somebody, the first of which would be at k
abbrev places_of : ℕ → Option AskParts → List ℕ
places_of k None = []
places_of k (Some ask) = k ∷ []

abbrev asked_from : ℕ → List Checked → List ℕ
asked_from k [] = []
asked_from k (it ∷ done) = places_of k it.ask ++ asked_from (suc k) done

one_held : (steps : Made) (k now : ℕ) (it : Checked) (ask : Option AskParts) (ks : List ℕ) (rest : Waiting) → it.ask ≡ ask → slice_get steps k ≡ Some (check now it) → AreHeldAt steps ks rest
    → AreHeldAt steps (places_of k ask ++ ks) (held_for it.number ask ++ rest)
one_held steps k now it None ks rest is at are = are
one_held steps k now it (Some ask) ks rest is at are = (record { now = now; done = it; at = at; number_is = refl; ask_is = is }, are)

checks_held : (now k : ℕ) (done : List Checked) (before last : Made) → k ≡ length before → AreHeldAt (before ++ (map (check now) done ++ last)) (asked_from k done) (flat_map held_by done)
checks_held now k [] before last is = tt
checks_held now k (it ∷ done) before last is =
    let rest = map (check now) done ++ last in
    let same : (before ++ check now it ∷ []) ++ rest ≡ before ++ check now it ∷ rest = append_assoc before (check now it ∷ []) rest in
    one_held (before ++ check now it ∷ rest) k now it it.ask (asked_from (suc k) done) (flat_map held_by done) refl (got_at before rest (check now it) k is)
    (subst (λ (l : Made). AreHeldAt l (asked_from (suc k) done) (flat_map held_by done)) same
    (checks_held now (suc k) done (before ++ check now it ∷ []) last (longer_by before (check now it) k is)))

places_early : (n k : ℕ) (ask : Option AskParts) (ks : List ℕ) → n < k → times n ks ≡ 0 → times n (places_of k ask ++ ks) ≡ 0
places_early n k None ks less none = none
places_early n k (Some ask) ks less none =
    ⊎_elim (λ here. absurd (omega (arith, here.0, less))) (λ other. omega (arith, none, other.1)) (times_one n k ks)

none_early : (n k : ℕ) (done : List Checked) → n < k → times n (asked_from k done) ≡ 0
none_early n k [] less = refl
none_early n k (it ∷ done) less = places_early n k it.ask (asked_from (suc k) done) less (none_early n (suc k) done (omega (arith, less)))

places_once : (n k : ℕ) (ask : Option AskParts) (ks : List ℕ) → (n < suc k → times n ks ≡ 0) → times n ks ≤ 1 → times n (places_of k ask ++ ks) ≤ 1
places_once n k None ks early few = few
places_once n k (Some ask) ks early few =
    ⊎_elim (λ here. let none = early (omega (arith, here.0)) in omega (arith, none, here.1)) (λ other. omega (arith, few, other.1)) (times_one n k ks)

asked_once : (n k : ℕ) (done : List Checked) → times n (asked_from k done) ≤ 1
asked_once n k [] = omega arith
asked_once n k (it ∷ done) = places_once n k it.ask (asked_from (suc k) done) (none_early n (suc k) done) (asked_once n (suc k) done)

-- numbers that are in two lists, each of which has each at most once, and none in both
apart_once : (a b c : ℕ) → a + b ≤ 1 → c ≤ 1 → (c ≡ 0) ⊎ (a + b ≡ 0) → a + (b + c) ≤ 1
apart_once a b c few once (inl none) = omega (arith, few, none)
apart_once a b c few once (inr none) = omega (arith, once, none)

early_or_late : (n k : ℕ) → (n < k) ⊎ (k ≤ n)
early_or_late n zero = inr (omega arith)
early_or_late zero (suc k) = inl (omega arith)
early_or_late (suc n) (suc k) = ⊎_elim (λ less. inl (omega (arith, less))) (λ more. inr (omega (arith, more))) (early_or_late n k)

-- what was held, and what these checks ask
checks_asking : (now : ℕ) (done : List Checked) (last : Made) (old : Asking) → Asks (map (check now) done ++ last) old (record { put = old.put; held = old.held ++ flat_map held_by done })
checks_asking now done last old = λ before is.
    let steps : Made = map (check now) done ++ last in
    let new = asked_from (length before) done in
    record {
      asks = is.asks;
      places = is.places;
      held_at = is.held_at ++ new;
      ripe = ripe_later before steps is.places is.asks is.ripe;
      waits = held_append (before ++ steps) is.held_at new old.held (flat_map held_by done) (held_later before steps is.held_at old.held is.waits)
          (checks_held now (length before) done before last refl);
      once = λ n.
          let all = times_append n is.places (is.held_at ++ new) in
          let more = times_append n is.held_at new in
          let both = times_append n is.places is.held_at in
          let few = is.once n in
          let own = asked_once n (length before) done in
          let sum = apart_once (times n is.places) (times n is.held_at) (times n new) (omega (arith, both, few)) own
          (⊎_elim (λ early. inl (none_early n (length before) done early))
          (λ late. inr (let a = no_ripe_at before is.places is.asks n is.ripe late in let b = no_held_at before is.held_at old.held n is.waits late in omega (arith, a, b)))
          (early_or_late n (length before))) in
          omega (arith, all, more, sum);
      first = is.first;
      second = is.second;
    }

-- ---- looks

-- the places of what these looks find on the disk, and of what waits further, each as it was held at its place
abbrev ripe_one : Awaited → ℕ → List ℕ
ripe_one Flushed place = place ∷ []
ripe_one (Failed count) place = []
ripe_one NotYet place = []

abbrev wait_one : Awaited → ℕ → List ℕ
wait_one Flushed place = []
wait_one (Failed count) place = []
wait_one NotYet place = place ∷ []

abbrev ripe_at : List ℕ → List Looked → List ℕ
ripe_at [] looks = []
ripe_at (place ∷ places) [] = []
ripe_at (place ∷ places) (it ∷ looks) = ripe_one it.what place ++ ripe_at places looks

abbrev wait_at : List ℕ → List Looked → List ℕ
wait_at [] looks = []
wait_at (place ∷ places) [] = []
wait_at (place ∷ places) (it ∷ looks) = wait_one it.what place ++ wait_at places looks

-- these looks stand in the steps from k on
abbrev LooksAt : Made → ℕ → List Looked → Type 0
LooksAt steps k [] = Unit {0}
LooksAt steps k (it ∷ looks) = (slice_get steps k ≡ Some (look it)) × LooksAt steps (suc k) looks

looks_at : (looks : List Looked) (before : Made) (k : ℕ) → k ≡ length before → LooksAt (before ++ map look looks) k looks
looks_at [] before k is = tt
looks_at (it ∷ looks) before k is =
    let rest = map look looks in (
      got_at before rest (look it) k is,
      subst (λ (l : Made). LooksAt l (suc k) looks) (append_assoc before (look it ∷ []) rest) (looks_at looks (before ++ look it ∷ []) (suc k) (longer_by before (look it) k is)),
    )

-- each of these is below
abbrev AreBelow : ℕ → List ℕ → Type 0
AreBelow k [] = Unit {0}
AreBelow k (place ∷ places) = (place < k) × AreBelow k places

held_below : (steps : Made) (places : List ℕ) (held : Waiting) → AreHeldAt steps places held → AreBelow (length steps) places
held_below steps [] held are = tt
held_below steps (place ∷ places) [] are = absurd are
held_below steps (place ∷ places) (one ∷ held) are = (place_within steps place one.0 one.1 are.0, held_below steps places held are.1)

below_more : (k : ℕ) (places : List ℕ) → AreBelow k places → AreBelow (suc k) places
below_more k [] are = tt
below_more k (place ∷ places) are = (omega (arith, are.0), below_more k places are.1)

one_ripe : (steps : Made) (place k : ℕ) (it : Looked) (what : Awaited) (places : List ℕ) (asks : List AskParts) → it.what ≡ what → IsCheckedAt steps place it.number it.ask → place < k
    → slice_get steps k ≡ Some (look it) → AreRipeAt steps places asks → AreRipeAt steps (ripe_one what place ++ places) (ripe_by what it.ask ++ asks)
one_ripe steps place k it Flushed places asks is checked less at are = (
  record {
    number = it.number;
    checked = checked;
    later = k;
    after = less;
    flushed = at ∙ ap (λ (w : Awaited). Some (Look it.number 0, Some (said.Awaited w))) is;
  },
  are,
)
one_ripe steps place k it (Failed count) places asks is checked less at are = are
one_ripe steps place k it NotYet places asks is checked less at are = are

one_waits : (steps : Made) (place : ℕ) (it : Looked) (what : Awaited) (places : List ℕ) (held : Waiting) → IsCheckedAt steps place it.number it.ask → AreHeldAt steps places held
    → AreHeldAt steps (wait_one what place ++ places) (waiting_by what (held_as it) ++ held)
one_waits steps place it Flushed places held checked are = are
one_waits steps place it (Failed count) places held checked are = are
one_waits steps place it NotYet places held checked are = (checked, are)

looks_ripe : (steps : Made) (k : ℕ) (places : List ℕ) (looks : List Looked) → AreHeldAt steps places (map held_as looks) → AreBelow k places → LooksAt steps k looks
    → AreRipeAt steps (ripe_at places looks) (ripe_of looks)
looks_ripe steps k [] [] are below at = tt
looks_ripe steps k [] (it ∷ looks) are below at = absurd are
looks_ripe steps k (place ∷ places) [] are below at = absurd are
looks_ripe steps k (place ∷ places) (it ∷ looks) are below at =
    one_ripe steps place k it it.what (ripe_at places looks) (ripe_of looks) refl are.0 below.0 at.0
    (looks_ripe steps (suc k) places looks are.1 (below_more k places below.1) at.1)

looks_wait : (steps : Made) (places : List ℕ) (looks : List Looked) → AreHeldAt steps places (map held_as looks) → AreHeldAt steps (wait_at places looks) (waiting_of looks)
looks_wait steps [] [] are = tt
looks_wait steps [] (it ∷ looks) are = absurd are
looks_wait steps (place ∷ places) [] are = absurd are
looks_wait steps (place ∷ places) (it ∷ looks) are = one_waits steps place it it.what (wait_at places looks) (waiting_of looks) are.0 (looks_wait steps places looks are.1)

one_sorted : (n place : ℕ) (what : Awaited) (ripe waits places : List ℕ) → times n ripe + times n waits ≤ times n places
    → times n (ripe_one what place ++ ripe) + times n (wait_one what place ++ waits) ≤ times n (place ∷ places)
one_sorted n place Flushed ripe waits places less = omega (arith, less)
one_sorted n place (Failed count) ripe waits places less = omega (arith, less)
one_sorted n place NotYet ripe waits places less = omega (arith, less)

sorted_once : (n : ℕ) (places : List ℕ) (looks : List Looked) → times n (ripe_at places looks) + times n (wait_at places looks) ≤ times n places
sorted_once n [] looks = omega arith
sorted_once n (place ∷ places) [] = omega arith
sorted_once n (place ∷ places) (it ∷ looks) =
    one_sorted n place it.what (ripe_at places looks) (wait_at places looks) places (sorted_once n places looks)

-- some of what the looks found was put
looks_asking : (looks : List Looked) (put more : List AskParts × List AskParts) → AreSome more.0 (ripe_of looks) → AreSome more.1 (ripe_of looks)
    → Asks (map look looks) (record { put = put; held = map held_as looks }) (record { put = (put.0 ++ more.0, put.1 ++ more.1); held = waiting_of looks })
looks_asking looks put more one other = λ before is.
    let steps : Made = map look looks in
    let held = held_later before steps is.held_at (map held_as looks) is.waits in
    record {
      asks = is.asks ++ ripe_of looks;
      places = is.places ++ ripe_at is.held_at looks;
      held_at = wait_at is.held_at looks;
      ripe = ripe_append (before ++ steps) is.places (ripe_at is.held_at looks) is.asks (ripe_of looks) (ripe_later before steps is.places is.asks is.ripe)
          (looks_ripe (before ++ steps) (length before) is.held_at looks held (held_below before is.held_at (map held_as looks) is.waits) (looks_at looks before (length before) refl));
      waits = looks_wait (before ++ steps) is.held_at looks held;
      once = λ n.
          let few = is.once n in
          let both = times_append n is.places is.held_at in
          let all = times_append n (is.places ++ ripe_at is.held_at looks) (wait_at is.held_at looks) in
          let part = times_append n is.places (ripe_at is.held_at looks) in
          let less = sorted_once n is.held_at looks in
          omega (arith, few, both, all, part, less);
      first = some_append put.0 is.asks more.0 (ripe_of looks) is.first one;
      second = some_append put.1 is.asks more.1 (ripe_of looks) is.second other;
    }

-- ---- their kind

checks_are : (now : ℕ) (done : List Checked) → AreOfDuties (map (check now) done)
checks_are now [] = tt
checks_are now (it ∷ done) = (inr (inl (now, refl)), checks_are now done)

one_check_is : (now : ℕ) (what : Option Said) (last : Made) → last ≡ (Check now, what) ∷ [] → AreOfDuties last
one_check_is now what last is = subst (λ (l : Made). AreOfDuties l) (sym is) (inr (inl (now, refl)), tt)

no_check_is : (last : Made) → last ≡ [] → AreOfDuties last
no_check_is last is = subst (λ (l : Made). AreOfDuties l) (sym is) tt

last_check_is : (now : ℕ) (done : List Checked) (last : Made) → IsLastCheck now done last → AreOfDuties last
last_check_is now done last (inl it) = one_check_is now (Some it.0) last it.2
last_check_is now done last (inr it) = no_check_is last it.1

ends_are : (now : ℕ) (done : List Checked) (result : Result ℕ AllocError) (last : Made) → EndsChecking now done result last → AreOfDuties last
ends_are now done (Ok count) last it = last_check_is now done last it.1
ends_are now done (Err fault) last (inl it) = one_check_is now None last it
ends_are now done (Err fault) last (inr it) = no_check_is last it

looks_are : (looks : List Looked) → AreOfDuties (map look looks)
looks_are [] = tt
looks_are (it ∷ looks) = (inr (inr (it.number, refl)), looks_are looks)

-- ---- their readings

checks_now : (now : ℕ) (done : List Checked) → AreDueNow now (map (check now) done)
checks_now now [] = tt
checks_now now (it ∷ done) = (refl, checks_now now done)

one_check_now : (now : ℕ) (what : Option Said) (last : Made) → last ≡ (Check now, what) ∷ [] → AreDueNow now last
one_check_now now what last is = subst (λ (l : Made). AreDueNow now l) (sym is) (refl, tt)

no_check_now : (now : ℕ) (last : Made) → last ≡ [] → AreDueNow now last
no_check_now now last is = subst (λ (l : Made). AreDueNow now l) (sym is) tt

last_check_now : (now : ℕ) (done : List Checked) (last : Made) → IsLastCheck now done last → AreDueNow now last
last_check_now now done last (inl it) = one_check_now now (Some it.0) last it.2
last_check_now now done last (inr it) = no_check_now now last it.1

ends_now : (now : ℕ) (done : List Checked) (result : Result ℕ AllocError) (last : Made) → EndsChecking now done result last → AreDueNow now last
ends_now now done (Ok count) last it = last_check_now now done last it.1
ends_now now done (Err fault) last (inl it) = one_check_now now None last it
ends_now now done (Err fault) last (inr it) = no_check_now now last it

looks_not_due : (looks : List Looked) → AreNotDue (map look looks)
looks_not_due [] = tt
looks_not_due (it ∷ looks) = (tt, looks_not_due looks)

-- ---- what is put on the ways

same_ways : (old new : AskWays) → new.first ≡ old.first → new.second ≡ old.second → AreSameWays old new
same_ways old new one other = record {
  first = λ receiver is. subst (λ (s : Sender AskParts). ArePair s receiver) (sym one) is;
  second = λ receiver is. subst (λ (s : Sender AskParts). ArePair s receiver) (sym other) is;
}

pub ways_then : (old mid new : AskWays) → AreSameWays old mid → AreSameWays mid new → AreSameWays old new
ways_then old mid new h k = record { first = λ receiver is. k.first receiver (h.first receiver is); second = λ receiver is. k.second receiver (h.second receiver is) }

pub ways_still : (it : AskWays) → AreSameWays it it
ways_still it = record { first = λ receiver is. is; second = λ receiver is. is }

pub puts_none : (it : AskWays) → PutsSome it [] it
puts_none it = record {
  more = ([], []);
  first = refl;
  second = refl;
  put_first = sym (append-nil (put_by it.first));
  put_second = sym (append-nil (put_by it.second));
  still = refl;
  ways = ways_still it;
}

pub puts_then : (old mid new : AskWays) (asks more : List AskParts) → PutsSome old asks mid → PutsSome mid more new → PutsSome old (asks ++ more) new
puts_then old mid new asks more h k = record {
  more = (h.more.0 ++ k.more.0, h.more.1 ++ k.more.1);
  first = some_append h.more.0 asks k.more.0 more h.first k.first;
  second = some_append h.more.1 asks k.more.1 more h.second k.second;
  put_first = k.put_first ∙ ap (λ (l : List AskParts). l ++ k.more.0) h.put_first ∙ append_assoc (put_by old.first) h.more.0 k.more.0;
  put_second = k.put_second ∙ ap (λ (l : List AskParts). l ++ k.more.1) h.put_second ∙ append_assoc (put_by old.second) h.more.1 k.more.1;
  still = k.still ∙ h.still;
  ways = ways_then old mid new h.ways k.ways;
}

-- one of them, which found room on its way or didn't
pub puts_first : (old new : AskWays) (ask : AskParts) (did : Bool) → (did ≡ true → put_by new.first ≡ put_by old.first ++ ask ∷ []) → (did ≡ false → put_by new.first ≡ put_by old.first)
    → ((receiver : Receiver AskParts) → ArePair old.first receiver → ArePair new.first receiver) → new.second ≡ old.second → new.held ≡ old.held → PutsSome old (ask ∷ []) new
puts_first old new ask true put dropped pair same still = record {
  more = (ask ∷ [], []);
  first = inr ([], refl, refl);
  second = inl refl;
  put_first = put refl;
  put_second = ap (λ (s : Sender AskParts). put_by s) same ∙ sym (append-nil (put_by old.second));
  still = still;
  ways = record { first = pair; second = λ receiver is. subst (λ (s : Sender AskParts). ArePair s receiver) (sym same) is };
}
puts_first old new ask false put dropped pair same still = record {
  more = ([], []);
  first = inl refl;
  second = inl refl;
  put_first = dropped refl ∙ sym (append-nil (put_by old.first));
  put_second = ap (λ (s : Sender AskParts). put_by s) same ∙ sym (append-nil (put_by old.second));
  still = still;
  ways = record { first = pair; second = λ receiver is. subst (λ (s : Sender AskParts). ArePair s receiver) (sym same) is };
}

pub puts_second : (old new : AskWays) (ask : AskParts) (did : Bool) → (did ≡ true → put_by new.second ≡ put_by old.second ++ ask ∷ []) → (did ≡ false → put_by new.second ≡ put_by old.second)
    → ((receiver : Receiver AskParts) → ArePair old.second receiver → ArePair new.second receiver) → new.first ≡ old.first → new.held ≡ old.held → PutsSome old (ask ∷ []) new
puts_second old new ask true put dropped pair same still = record {
  more = ([], ask ∷ []);
  first = inl refl;
  second = inr ([], refl, refl);
  put_first = ap (λ (s : Sender AskParts). put_by s) same ∙ sym (append-nil (put_by old.first));
  put_second = put refl;
  still = still;
  ways = record { first = λ receiver is. subst (λ (s : Sender AskParts). ArePair s receiver) (sym same) is; second = pair };
}
puts_second old new ask false put dropped pair same still = record {
  more = ([], []);
  first = inl refl;
  second = inl refl;
  put_first = ap (λ (s : Sender AskParts). put_by s) same ∙ sym (append-nil (put_by old.first));
  put_second = dropped refl ∙ sym (append-nil (put_by old.second));
  still = still;
  ways = record { first = λ receiver is. subst (λ (s : Sender AskParts). ArePair s receiver) (sym same) is; second = pair };
}

-- those of a list up to the rest
pub record PutsSoFar (old : AskWays) (asks rest : List AskParts) (new : AskWays) : Type 0 where
  pub done : List AskParts
  pub are : asks ≡ done ++ rest
  pub puts : PutsSome old done new

pub put_none : (it : AskWays) (asks rest : List AskParts) → rest ≡ asks → PutsSoFar it asks rest it
put_none it asks rest same = record { done = []; are = sym same; puts = puts_none it }

pub put_one : (old mid new : AskWays) (asks rest left : List AskParts) (ask : AskParts) → PutsSoFar old asks rest mid → rest ≡ ask ∷ left → PutsSome mid (ask ∷ []) new → PutsSoFar old asks left new
put_one old mid new asks rest left ask so_far next puts = record {
  done = so_far.done ++ ask ∷ [];
  are = so_far.are ∙ ap (λ (l : List AskParts). so_far.done ++ l) next ∙ sym (append_assoc so_far.done (ask ∷ []) left);
  puts = puts_then old mid new so_far.done (ask ∷ []) so_far.puts puts;
}

pub put_all : (old new : AskWays) (asks rest : List AskParts) → PutsSoFar old asks rest new → rest ≡ [] → PutsSome old asks new
put_all old new asks rest so_far none =
    subst (λ (l : List AskParts). PutsSome old l new) (sym (so_far.are ∙ ap (λ (l : List AskParts). so_far.done ++ l) none ∙ append-nil so_far.done)) so_far.puts

-- ---- all of them, one behind another

module _ {C : Type 0} (makes : Steps C) where
  pub no_asking : (P : Made → Type 0) → P [] → (x : C) (it : AskWays) → MakesAsking makes P x it x it
  no_asking P none x it = record { steps = []; are = tt; due = none; made = refl; asks = asks_still [] (asking_of it); ways = ways_still it }

  pub asking_then : (P Q R : Made → Type 0) → ((xs ys : Made) → P xs → Q ys → R (xs ++ ys)) → (x y z : C) (old mid new : AskWays) → MakesAsking makes P x old y mid
      → MakesAsking makes Q y mid z new → MakesAsking makes R x old z new
  asking_then P Q R both x y z old mid new first later = record {
    steps = first.steps ++ later.steps;
    are = append_are first.steps later.steps first.are later.are;
    due = both first.steps later.steps first.due later.due;
    made = makes_append makes x first.steps y later.steps z first.made later.made;
    asks = asks_then first.steps later.steps (asking_of old) (asking_of mid) (asking_of new) first.asks later.asks;
    ways = ways_then old mid new first.ways later.ways;
  }

  -- steps that ask nobody
  pub duties_asking : (P Q : Made → Type 0) → ((xs : Made) → P xs → Q xs) → (x y : C) (it : AskWays) → MakesDuties makes P x y → MakesAsking makes Q x it y it
  duties_asking P Q weaker x y it made = record {
    steps = made.steps;
    are = made.are;
    due = weaker made.steps made.due;
    made = made.made;
    asks = asks_still made.steps (asking_of it);
    ways = ways_still it;
  }

  -- a check turn
  pub checks_ask : (now : ℕ) (x y : C) (old new : AskWays) (result : Result ℕ AllocError) → HasChecked makes now x old.held.items result y new.held.items → new.first ≡ old.first → new.second ≡ old.second
      → MakesAsking makes (AreDueNow now) x old y new
  checks_ask now x y old new result it one other =
      let steps : Made = map (check now) it.are.done ++ it.are.last in
      let held : new.held.items ≡ old.held.items ++ flat_map held_by it.are.done = it.holds ∙ ap (λ (l : Waiting). old.held.items ++ l) it.are.asks in
      let same : asking_of new ≡ record { put = put_of old; held = old.held.items ++ flat_map held_by it.are.done } =
      (λ i. record { put = (put_by (one i), put_by (other i)); held = held i }) in
      record {
        steps = steps;
        are = append_are (map (check now) it.are.done) it.are.last (checks_are now it.are.done) (ends_are now it.are.done result it.are.last it.are.ends);
        due = due_then now (map (check now) it.are.done) it.are.last (checks_now now it.are.done) (ends_now now it.are.done result it.are.last it.are.ends);
        made = subst (λ (l : Made). Makes makes x l y) it.are.are it.made;
        asks = λ before is. subst (λ (a : Asking). IsAsking (before ++ steps) a) (sym same) (checks_asking now it.are.done it.are.last (asking_of old) before is);
        ways = same_ways old new one other;
      }

  -- looks
  pub looks_ripen : (x y : C) (old new : AskWays) (out ripe : List AskParts) → out ≡ [] → HasLooked makes x old.held.items [] out y new.held.items ripe → new.first ≡ old.first → new.second ≡ old.second
      → Ripens makes x old ripe y new
  looks_ripen x y old new out ripe none it one other = record {
    steps = map look it.looks;
    are = looks_are it.looks;
    due = looks_not_due it.looks;
    made = it.made;
    asks = λ more first second before is.
        let found : ripe ≡ ripe_of it.looks = it.out_is ∙ ap (λ (l : List AskParts). l ++ ripe_of it.looks) none in
        let some = subst (λ (l : List AskParts). AreSome more.0 l) found first in
        let others = subst (λ (l : List AskParts). AreSome more.1 l) found second in
        let held = subst (λ (l : Waiting). IsAsking before (record { put = put_of old; held = l })) it.are is in
        subst (λ (l : Waiting). IsAsking (before ++ map look it.looks) (record { put = (put_by old.first ++ more.0, put_by old.second ++ more.1); held = l })) (sym it.held_is)
        (looks_asking it.looks (put_of old) more some others before held);
    first = one;
    second = other;
  }

  -- no look was made
  pub ripens_none : (x y : C) (old new : AskWays) (ripe : List AskParts) → y ≡ x → ripe ≡ [] → new.held.items ≡ old.held.items → new.first ≡ old.first → new.second ≡ old.second → Ripens makes x old ripe y new
  ripens_none x y old new ripe at nothing same one other = record {
    steps = [];
    are = tt;
    due = tt;
    made = sym at;
    asks = λ more first second before is.
        let all = asks_still [] (asking_of old) before is in
        let no_more : more.0 ≡ [] = subst (λ (l : List AskParts). AreSome more.0 l) nothing first in
        let no_others : more.1 ≡ [] = subst (λ (l : List AskParts). AreSome more.1 l) nothing second in
        let none : put_by old.first ++ more.0 ≡ put_by old.first = ap (λ (l : List AskParts). put_by old.first ++ l) no_more ∙ append-nil (put_by old.first) in
        let others : put_by old.second ++ more.1 ≡ put_by old.second = ap (λ (l : List AskParts). put_by old.second ++ l) no_others ∙ append-nil (put_by old.second) in
        let as_before : ◌≡◌ {A = Asking} (record { put = (put_by old.first ++ more.0, put_by old.second ++ more.1); held = new.held.items }) (asking_of old) =
        (λ i. record { put = (none i, others i); held = same i }) in
        subst (λ (a : Asking). IsAsking (before ++ []) a) (sym as_before) all;
    first = one;
    second = other;
  }

  -- what is ripe is sent
  pub handed_out : (x y : C) (old mid new : AskWays) (ripe : List AskParts) → Ripens makes x old ripe y mid → PutsSome mid ripe new → MakesAsking makes AreNotDue x old y new
  handed_out x y old mid new ripe h k =
      let one : put_by new.first ≡ put_by old.first ++ k.more.0 = k.put_first ∙ ap (λ (s : Sender AskParts). put_by s ++ k.more.0) h.first in
      let other : put_by new.second ≡ put_by old.second ++ k.more.1 = k.put_second ∙ ap (λ (s : Sender AskParts). put_by s ++ k.more.1) h.second in
      record {
        steps = h.steps;
        are = h.are;
        due = h.due;
        made = h.made;
        asks = λ before is.
            let same : asking_of new ≡ record { put = (put_by old.first ++ k.more.0, put_by old.second ++ k.more.1); held = mid.held.items } =
            (λ i. record { put = (one i, other i); held = (k.still i).items }) in
            subst (λ (a : Asking). IsAsking (before ++ h.steps) a) (sym same) (h.asks k.more k.first k.second before is);
        ways = ways_then old mid new (same_ways old mid h.first h.second) k.ways;
      }

-- ---- a whole run

pub hands_out : (steps : Made) (old new : AskWays) → HasNoneAsked old → Asks steps (asking_of old) (asking_of new) → HandsOut steps (put_of new)
hands_out steps old new none asks =
    let all = asks [] (record {
      asks = [];
      places = [];
      held_at = [];
      ripe = tt;
      waits = subst (λ (l : Waiting). AreHeldAt [] [] l) (sym none.held) tt;
      once = λ n. omega arith;
      first = none.first;
      second = none.second;
    }) in record {
      asks = all.asks;
      places = all.places;
      ripe = all.ripe;
      once = λ n. let few = all.once n in let both = times_append n all.places all.held_at in omega (arith, few, both);
      first = all.first;
      second = all.second;
    }

-- some of the first ones are some of all
pub front_some : (some first all : List AskParts) → AreSome some first → IsFrontOf first all → AreSome some all
front_some some first all are front =
    subst (λ (l : List AskParts). AreSome some l) (sym front.1)
    (subst (λ (l : List AskParts). AreSome l (first ++ front.0)) (append-nil some) (some_append some first [] front.0 are (some_none front.0)))
