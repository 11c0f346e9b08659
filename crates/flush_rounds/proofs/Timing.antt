-- How rounds go together, each at one reading of the flusher's clock.
use Rattle.std.proofs.Common.{◌≡◌, ℕ, List, [], ◌∷◌, ◌++◌, sym, ap, ◌∙◌, append_assoc, append-nil}
use Rattle.broker_events.specs.declared.event.Event.{Event}
use Rattle.broker_events.specs.declared.event.Event.TheVariants as events
use Rattle.session.specs.Serving.{Made}
use Rattle.event_loops.specs.Timing.{clock_over}
use Rattle.flush_rounds.specs.Timing.{IsDueAt, AreDueAt, AreDueNow, AreNotDue, AreRounds, IsAttendedBy, IsAttended}

-- ---- at which readings

pub due_append : (P : ℕ → Type 0) (xs ys : Made) → AreDueAt P xs → AreDueAt P ys → AreDueAt P (xs ++ ys)
due_append P [] ys are more = more
due_append P (x ∷ xs) ys are more = (are.0, due_append P xs ys are.1 more)

is_weaker : (P Q : ℕ → Type 0) → ((n : ℕ) → P n → Q n) → (event : Event) → IsDueAt P event → IsDueAt Q event
is_weaker P Q weaker (events.Request link host now request) is = tt
is_weaker P Q weaker events.Take is = tt
is_weaker P Q weaker (events.Flushed receipt) is = tt
is_weaker P Q weaker (events.FlushFailed count) is = tt
is_weaker P Q weaker (events.Look number turn) is = tt
is_weaker P Q weaker (events.Dispatch most) is = tt
is_weaker P Q weaker (events.Deliver now) is = weaker now is
is_weaker P Q weaker (events.Check now) is = weaker now is
is_weaker P Q weaker (events.Leave link) is = tt

due_weaker : (P Q : ℕ → Type 0) → ((n : ℕ) → P n → Q n) → (made : Made) → AreDueAt P made → AreDueAt Q made
due_weaker P Q weaker [] are = tt
due_weaker P Q weaker (step ∷ steps) are = (is_weaker P Q weaker step.0 are.0, due_weaker P Q weaker steps are.1)

-- what is neither a delivery nor a check is at any reading
whenever : (P : ℕ → Type 0) (made : Made) → AreNotDue made → AreDueAt P made
whenever P made none = due_weaker (λ at. ⊥) P (λ at no. absurd no) made none

pub not_due_then : (xs ys : Made) → AreNotDue xs → AreNotDue ys → AreNotDue (xs ++ ys)
not_due_then xs ys none more = due_append (λ at. ⊥) xs ys none more

pub due_then : (now : ℕ) (xs ys : Made) → AreDueNow now xs → AreDueNow now ys → AreDueNow now (xs ++ ys)
due_then now xs ys are more = due_append (λ at. at ≡ now) xs ys are more

not_due_before : (now : ℕ) (xs ys : Made) → AreNotDue xs → AreDueNow now ys → AreDueNow now (xs ++ ys)
not_due_before now xs ys none are = due_then now xs ys (whenever (λ at. at ≡ now) xs none) are

-- ---- rounds

-- steps that are neither before rounds
quietly_before : (readings : List ℕ) (xs ys : Made) → AreNotDue xs → AreRounds readings ys → AreRounds readings (xs ++ ys)
quietly_before [] xs ys none are = not_due_then xs ys none are
quietly_before (now ∷ readings) xs ys none are = (
  xs ++ are.0,
  are.1,
  ap (λ (l : Made). xs ++ l) are.2 ∙ sym (append_assoc xs are.0 are.1),
  not_due_before now xs are.0 none are.3,
  are.4,
)

rounds_then : (readings more : List ℕ) (xs ys : Made) → AreRounds readings xs → AreRounds more ys → AreRounds (readings ++ more) (xs ++ ys)
rounds_then [] more xs ys none are = quietly_before more xs ys none are
rounds_then (now ∷ readings) more xs ys are rest = (
  are.0,
  are.1 ++ ys,
  ap (λ (l : Made). l ++ ys) are.2 ∙ append_assoc are.0 are.1 ys,
  are.3,
  rounds_then readings more are.1 ys are.4 rest,
)

attended_then : (old mid new : List ℕ) (xs ys : Made) → IsAttendedBy old xs mid → IsAttendedBy mid ys new → IsAttendedBy old (xs ++ ys) new
attended_then old mid new xs ys h k = record {
  readings = h.readings ++ k.readings;
  gave = k.gave ∙ ap (λ (l : List ℕ). l ++ k.readings) h.gave ∙ append_assoc old h.readings k.readings;
  rounds = rounds_then h.readings k.readings xs ys h.rounds k.rounds;
}

-- ---- of a clock

-- it gave nothing meanwhile
pub attends_none : (tells : Type 0) (old new : List ℕ) (made : Made) → (tells → new ≡ old) → AreNotDue made → IsAttended (clock_over tells old new) made
attends_none tells old new made same none = λ t. record { readings = []; gave = same t ∙ sym (append-nil old); rounds = none }

-- one reading
pub attends_one : (tells : Type 0) (old : List ℕ) (now : ℕ) (new : List ℕ) (made : Made) → (tells → new ≡ old ++ now ∷ []) → AreDueNow now made → IsAttended (clock_over tells old new) made
attends_one tells old now new made gave are =
    λ t. record { readings = now ∷ []; gave = gave t; rounds = (made, [], sym (append-nil made), are, tt) }

-- one reading, at which nothing was delivered or checked
pub attends_idle : (tells : Type 0) (old : List ℕ) (now : ℕ) (new : List ℕ) (made : Made) → (tells → new ≡ old ++ now ∷ []) → AreNotDue made → IsAttended (clock_over tells old new) made
attends_idle tells old now new made gave none = attends_one tells old now new made gave (whenever (λ at. at ≡ now) made none)

-- one reading, at which it was done behind other steps
pub attends_behind : (tells : Type 0) (old : List ℕ) (now : ℕ) (new : List ℕ) (xs ys : Made) → (tells → new ≡ old ++ now ∷ []) → AreNotDue xs → AreDueNow now ys → IsAttended (clock_over tells old new) (xs ++ ys)
attends_behind tells old now new xs ys gave none are = attends_one tells old now new (xs ++ ys) gave (not_due_before now xs ys none are)

pub attends_then : (tells : Type 0) (old mid new : List ℕ) (xs ys : Made) → IsAttended (clock_over tells old mid) xs → IsAttended (clock_over tells mid new) ys
    → IsAttended (clock_over tells old new) (xs ++ ys)
attends_then tells old mid new xs ys first later = λ t. attended_then old mid new xs ys (first t) (later t)

-- other steps came first
pub attends_later : (tells : Type 0) (old new : List ℕ) (xs ys : Made) → AreNotDue xs → IsAttended (clock_over tells old new) ys → IsAttended (clock_over tells old new) (xs ++ ys)
attends_later tells old new xs ys none later = λ t.
    let it = later t in record { readings = it.readings; gave = it.gave; rounds = quietly_before it.readings xs ys none it.rounds }
