-- The message that is due, and what is known of it.
use Rattle.std.proofs.Common.{◌≡◌, ◌∙◌, ◌⊎◌, inl, inr, refl, ap, sym, arith, ℕ, ◌+◌, ◌^◌, ◌<◌, ◌≤◌, max, Bool, true, false, cond, List, [], ◌∷◌, Option, Some, None}
use Rattle.std.specs.Prelude.{nat_le, option_map}
use Rattle.mq_bytes.specs.Delays.{level_delay}
use Rattle.record_codec.specs.Entry.{Entry}
use Rattle.log_model.specs.Delays.{progress, next_delayed, due_here, due_among, due_delayed, levels}
use Rattle.log_model.specs.Numbered.{Log}
use Rattle.broker_model.specs.State.{State}
use Rattle.core_log.specs.declared.parts.Parts.{Parts}
use Rattle.core_log.specs.Represents.{Represents}
use Rattle.broker_core.specs.Delivers.{IsTurnOf}

-- each of these numbers is a level
abbrev AreLow : List ℕ → Type 0
AreLow [] = Unit {0}
AreLow (v ∷ vs) = ((1 ≤ v) × (v ≤ 18)) × AreLow vs

first_of : Option (ℕ × Entry) → ℕ → ℕ
first_of None n = n
first_of (Some p) n = p.0

second_of : Option (ℕ × Entry) → Entry → Entry
second_of None r = r
second_of (Some p) r = p.1

some_pair : (a c : ℕ) (b d : Entry) → ◌≡◌ {A = Option (ℕ × Entry)} (Some (a, b)) (Some (c, d)) → (a ≡ c) × (b ≡ d)
unfolding first_of second_of
some_pair a c b d is = (ap (λ (o : Option (ℕ × Entry)). first_of o a) is, ap (λ (o : Option (ℕ × Entry)). second_of o b) is)

from_here : (now level : ℕ) (o : Option Entry) (more : Option (ℕ × Entry)) (v : ℕ) (r : Entry) → due_here now level o more ≡ Some (v, r)
    → ((v ≡ level) × (o ≡ Some r)) ⊎ (more ≡ Some (v, r))
from_here now level None more v r is = inr is
from_here now level (Some q) more v r is = pick (nat_le (q.store + level_delay level) now) is
  where
    pick : (b : Bool) → cond b (Some (level, q)) more ≡ Some (v, r) → ((v ≡ level) × (Some q ≡ Some r)) ⊎ (more ≡ Some (v, r))
    pick true same = let parts = some_pair level v q r same in inl (sym parts.0, ap (λ (x : Entry). Some x) parts.1)
    pick false same = inr same

among : (log : Log) (d now : ℕ) (vs : List ℕ) (v : ℕ) (r : Entry) → AreLow vs → due_among log d now vs ≡ Some (v, r) → ((1 ≤ v) × (v ≤ 18)) × (next_delayed log d v ≡ Some r)
among log d now [] v r low is = absurd (let bad : None ≡ Some (v, r) = is in cc bad)
among log d now (level ∷ vs) v r low is = elim (from_here now level (next_delayed log d level) (due_among log d now vs) v r is) [
  | inl here ↦
      (let first = low.0.0 in let last = low.0.1 in let same = here.0 in
      ((omega (arith, first, same), omega (arith, last, same)), ap (λ (n : ℕ). next_delayed log d n) same ∙ here.1))
  | inr rest ↦ among log d now vs v r low.1 rest
]

-- what is due is the next message of a level from 1 to 18
pub due_is_next : (log : Log) (d now level : ℕ) (r : Entry) → due_delayed log d now ≡ Some (level, r) → ((1 ≤ level) × (level ≤ 18)) × (next_delayed log d level ≡ Some r)
due_is_next log d now level r is =
    among log d now levels level r
    ((omega arith, omega arith), ((omega arith, omega arith), ((omega arith, omega arith), ((omega arith, omega arith), ((omega arith, omega arith), ((omega arith, omega arith), ((omega arith, omega arith), ((omega arith, omega arith), ((omega arith, omega arith), ((omega arith, omega arith), ((omega arith, omega arith), ((omega arith, omega arith), ((omega arith, omega arith), ((omega arith, omega arith), ((omega arith, omega arith), ((omega arith, omega arith), ((omega arith, omega arith), ((omega arith, omega arith), tt)))))))))))))))))) is

-- ---- what the levels say is due

-- which is due, as the levels tell it
abbrev told : Log → Option (ℕ × Entry) → Option (ℕ × ℕ)
told log o = option_map (λ (next : ℕ × Entry). (next.0, progress log next.0)) o

number_of_pair : Option (ℕ × ℕ) → ℕ → ℕ
number_of_pair None n = n
number_of_pair (Some p) n = p.1

level_of_pair : Option (ℕ × ℕ) → ℕ → ℕ
level_of_pair None n = n
level_of_pair (Some p) n = p.0

pub told_due : (log : Log) (o : Option (ℕ × Entry)) (level count : ℕ) → told log o ≡ Some (level, count) → (r : Entry) × (o ≡ Some (level, r)) × (count ≡ progress log level)
unfolding number_of_pair level_of_pair
told_due log None level count is = absurd (let bad : None ≡ Some (level, count) = is in cc bad)
told_due log (Some p) level count is =
    let same : p.0 ≡ level = ap (λ (o : Option (ℕ × ℕ)). level_of_pair o level) is in
    let number : progress log p.0 ≡ count = ap (λ (o : Option (ℕ × ℕ)). number_of_pair o count) is in
    (p.1, ap (λ (v : ℕ). Some (v, p.1)) same, sym number ∙ ap (λ (v : ℕ). progress log v) same)

pub told_none : (log : Log) (o : Option (ℕ × Entry)) → told log o ≡ None → o ≡ None
told_none log None is = refl
told_none log (Some p) is = absurd (let bad : None ≡ Some (p.0, progress log p.0) = sym is in cc bad)

-- whose turn it is
pub turn_at : (core : Parts) (s : State) (now moment level count : ℕ) → Represents core s → now < 2 ^ 62 → moment ≡ max now core.now → told s.log (due_delayed s.log s.dispatched moment) ≡ Some (level, count)
    → IsTurnOf s moment level count
turn_at core s now moment level count are low is due =
    let it = told_due s.log (due_delayed s.log s.dispatched moment) level count due in
    let same = are.numbers.now in
    let before = are.state.time in
    record { message = it.0; due = it.1; count_is = it.2; later = omega (arith, is, same); time = omega (arith, is, same, low, before) }
