-- The levels that have nothing to deliver.
use Rattle.std.proofs.Common.{◌≡◌, ◌∙◌, ◌≢◌, inl, inr, ℕ, zero, suc, ◌+◌, ◌-◌, ◌<◌, ◌≤◌, ◌||◌, Bool, true, false, cond, nat_le, nat_lt, List, [], ◌∷◌, length, set, take, drop, slice_get, Option, Some, None, refl, ap, subst, arith, length-set, length-take}
use Rattle.std.proofs.lemmas.Bool.{leb-true}
use Rattle.std.proofs.lemmas.Option.{slice_get_past}
use Rattle.delay_view.specs.Levels.{Level, next_time, has_come, due_from}
use Rattle.delay_view.specs.Rooms.{AreAll, is_idle}
use Rattle.delay_view.proofs.GrowthLemmas.{at_set}

-- a level was changed, and no level from it on is counted
pub low_idle : (levels news : List Level) (k idle few : ℕ) (x : Level) → AreAll levels idle → news ≡ set levels k x → few ≤ idle → few ≤ k → AreAll news few
low_idle levels news k idle few x are changed most before = record {
  all = (let size = ap length changed ∙ length-set levels k x in let all = are.all in omega (arith, size, all));
  few = (let all = are.few in omega (arith, most, all));
  none = λ j l less at. elim (at_set levels k j x l (subst (λ (ls : List Level). slice_get ls j ≡ Some l) changed at)) [
    | inl here ↦ absurd (let same = here.0 in omega (arith, less, before, same))
    | inr other ↦ are.none j l (omega (arith, less, most)) other.1
  ];
}

-- a level was changed and is as idle as before
pub as_idle : (levels news : List Level) (k idle : ℕ) (l x : Level) → AreAll levels idle → slice_get levels k ≡ Some l → is_idle x ≡ is_idle l → news ≡ set levels k x → AreAll news idle
as_idle levels news k idle l x are was same changed = record {
  all = (let size = ap length changed ∙ length-set levels k x in let all = are.all in omega (arith, size, all));
  few = are.few;
  none = λ j y less at. elim (at_set levels k j x y (subst (λ (ls : List Level). slice_get ls j ≡ Some y) changed at)) [
    | inl here ↦ ap is_idle here.1 ∙ same ∙ are.none j l less (ap (slice_get levels) here.0 ∙ was)
    | inr other ↦ are.none j y less other.1
  ];
}

-- the levels beside a changed one
pub idle_beside : (levels news : List Level) (k idle : ℕ) (x : Level) → AreAll levels idle → news ≡ set levels k x
    → (j : ℕ) (l : Level) → j < idle → j ≢ k → slice_get news j ≡ Some l → is_idle l ≡ true
idle_beside levels news k idle x are changed j l less not at = elim (at_set levels k j x l (subst (λ (ls : List Level). slice_get ls j ≡ Some l) changed at)) [
  | inl here ↦ absurd (not here.0)
  | inr other ↦ are.none j l less other.1
]

-- an idle level has no next message
or_false : (b c : Bool) → (b || c) ≡ true → b ≡ false → c ≡ true
or_false true c is not = cc not
or_false false c is not = is

none_by : (b : Bool) (l : Level) → nat_lt l.copied l.low ≡ b → is_idle l ≡ true → next_time l ≡ None
none_by true l low is = ap (λ (b : Bool). cond b None (slice_get (take l.seen l.times) (l.copied - l.low))) low
none_by false l low is =
    let past = leb-true (l.low + l.seen) l.copied (or_false (nat_lt l.copied l.low) (nat_le (l.low + l.seen) l.copied) is low) in
    let size = length-take l.seen l.times in
    ap (λ (b : Bool). cond b None (slice_get (take l.seen l.times) (l.copied - l.low))) low
    ∙ slice_get_past (take l.seen l.times) (l.copied - l.low) (omega (arith, past, size))

idle_none : (l : Level) → is_idle l ≡ true → next_time l ≡ None
idle_none l is = none_by (nat_lt l.copied l.low) l refl is

-- the levels that are idle are passed over
pub passed_idle : (now n idle : ℕ) (levels : List Level) → ((k : ℕ) (l : Level) → k < idle → slice_get levels k ≡ Some l → is_idle l ≡ true)
    → due_from now n levels ≡ due_from now (n + idle) (drop idle levels)
passed_idle now n zero levels none = let e : n ≡ n + 0 = omega arith in ap (λ (m : ℕ). due_from now m levels) e
passed_idle now n (suc idle) [] none = refl
passed_idle now n (suc idle) (l ∷ levels) none =
    let e : n + 1 + idle ≡ n + suc idle = omega arith in
    ap (λ (o : Option ℕ). cond (has_come now o) (Some (n, l.copied)) (due_from now (n + 1) levels)) (idle_none l (none 0 l (omega arith) refl))
    ∙ passed_idle now (n + 1) idle levels (λ k x less at. none (suc k) x (omega (arith, less)) at)
    ∙ ap (λ (m : ℕ). due_from now m (drop idle levels)) e
