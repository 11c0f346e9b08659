-- How far a pull has come.
use Rattle.std.proofs.Common.{◌≡◌, ◌⊎◌, ⊎_elim, refl, ap, sym, ◌∙◌, arith, ℕ, suc, ◌+◌, ◌<◌, ◌≤◌, ◌==◌, nat_lt, nat_le, Bool, true, false, not, ◌&&◌, ◌||◌, cond, List, [], ◌∷◌, ◌++◌, length, take, drop, filter, count_by, sum_by, slice_get, Some, if◌then◌else◌}
use Rattle.std.proofs.Common.{min, inl, inr, leb, ◌^◌}
use mathlib.Core.Bool.{true≢false}
use Rattle.std.proofs.lemmas.Bool.{eqb-true}
use Rattle.std.proofs.lemmas.Bool.Decides.{leb_tells}
use Rattle.std.proofs.lemmas.List.{length-take, append-nil}
use Rattle.std.proofs.lemmas.List.Elements.{filter-append}
use Rattle.std.proofs.lemmas.List.Sums.{sum_by-append, sum_by-cons, length-filter}
use Rattle.record_codec.specs.declared.unit.Unit.{Unit as QueueUnit}
use Rattle.log_model.specs.Pulls.{examined, goes_on}
use Rattle.queue_view.specs.Answers.{this}
use Rattle.queue_view.proofs.Lists.{take_next, drop_next, get_within}

-- the first n of the queue were examined; those that are taken have so many bytes
pub record SoFar (most : ℕ) (test : QueueUnit → Bool) (queue : List QueueUnit) (n : ℕ) (taken : List QueueUnit) (bytes : ℕ) : Type 0 where
  pub rest : examined this most test [] queue ≡ examined this most test (take n queue) (drop n queue)
  pub units : taken ≡ filter test (take n queue)
  pub size : bytes ≡ sum_by (λ u. u.size) taken

-- the next unit is examined too
pub goes_further : (most : ℕ) (test : QueueUnit → Bool) (queue : List QueueUnit) (n : ℕ) (unit : QueueUnit) → slice_get queue n ≡ Some unit → goes_on this most test (take n queue) unit ≡ true
    → examined this most test (take n queue) (drop n queue) ≡ examined this most test (take (suc n) queue) (drop (suc n) queue)
goes_further most test queue n unit at goes =
    ap (λ (us : List QueueUnit). examined this most test (take n queue) us) (drop_next queue n unit at)
    ∙ (ap (λ b. if b then examined this most test (take n queue ++ unit ∷ []) (drop (suc n) queue) else take n queue) goes
    ∙ ap (λ (us : List QueueUnit). examined this most test us (drop (suc n) queue)) (sym (take_next queue n unit at)))

-- or it is not, and what was examined is all
pub goes_no_further : (most : ℕ) (test : QueueUnit → Bool) (queue : List QueueUnit) (n : ℕ) (unit : QueueUnit) → slice_get queue n ≡ Some unit → goes_on this most test (take n queue) unit ≡ false
    → examined this most test (take n queue) (drop n queue) ≡ take n queue
goes_no_further most test queue n unit at goes =
    ap (λ (us : List QueueUnit). examined this most test (take n queue) us) (drop_next queue n unit at)
    ∙ ap (λ b. if b then examined this most test (take n queue ++ unit ∷ []) (drop (suc n) queue) else take n queue) goes

-- the test in the code's own numbers
pub goes_is : (most : ℕ) (test : QueueUnit → Bool) (queue : List QueueUnit) (n : ℕ) (taken : List QueueUnit) (bytes : ℕ) (unit : QueueUnit) → SoFar most test queue n taken bytes → n ≤ length queue
    → (nat_lt (length taken) most && nat_lt n 800 && (not (test unit) || (length taken == 0) || nat_le (bytes + unit.size) 262144)) ≡ goes_on this most test (take n queue) unit
goes_is most test queue n taken bytes unit so_far within =
    let count : length taken ≡ count_by test (take n queue) = ap (λ (us : List QueueUnit). length us) so_far.units ∙ length-filter test (take n queue) in
    let looked : n ≡ length (take n queue) = sym (length-take n queue ∙ (let e : min n (length queue) ≡ n = omega (arith, within) in e)) in
    let size : bytes ≡ sum_by (λ u. u.size) (filter test (take n queue)) = so_far.size ∙ ap (λ (us : List QueueUnit). sum_by (λ u. u.size) us) so_far.units in
    ap (λ m. nat_lt m most && nat_lt n 800 && (not (test unit) || (m == 0) || nat_le (bytes + unit.size) 262144)) count
    ∙ (ap (λ m. nat_lt (count_by test (take n queue)) most && nat_lt m 800 && (not (test unit) || (count_by test (take n queue) == 0) || nat_le (bytes + unit.size) 262144)) looked
    ∙ ap (λ m. nat_lt (count_by test (take n queue)) most && nat_lt (length (take n queue)) 800 && (not (test unit) || (count_by test (take n queue) == 0) || nat_le (m + unit.size) 262144)) size)

-- one unit more that is taken, and one that is not
pub taken_more : (most : ℕ) (test : QueueUnit → Bool) (queue : List QueueUnit) (n : ℕ) (taken : List QueueUnit) (bytes : ℕ) (unit : QueueUnit) → SoFar most test queue n taken bytes → slice_get queue n ≡ Some unit
    → goes_on this most test (take n queue) unit ≡ true → test unit ≡ true → SoFar most test queue (suc n) (taken ++ unit ∷ []) (bytes + unit.size)
taken_more most test queue n taken bytes unit so_far at goes takes = record {
  rest = so_far.rest ∙ goes_further most test queue n unit at goes;
  units = ap (λ (us : List QueueUnit). us ++ unit ∷ []) so_far.units
      ∙ sym (ap (λ (us : List QueueUnit). filter test us) (take_next queue n unit at) ∙ (filter-append test (take n queue) (unit ∷ []) ∙ ap (λ b. filter test (take n queue) ++ cond b (unit ∷ []) []) takes));
  size = ap (λ m. m + unit.size) so_far.size ∙ sym (sum_by-append (λ u. u.size) taken (unit ∷ []) ∙ ap (λ m. sum_by (λ u. u.size) taken + m) (sum_by-cons (λ u. u.size) unit [] ∙ (let z : unit.size + 0 ≡ unit.size = omega arith in z)));
}

pub passed_over : (most : ℕ) (test : QueueUnit → Bool) (queue : List QueueUnit) (n : ℕ) (taken : List QueueUnit) (bytes : ℕ) (unit : QueueUnit) → SoFar most test queue n taken bytes → slice_get queue n ≡ Some unit
    → goes_on this most test (take n queue) unit ≡ true → test unit ≡ false → SoFar most test queue (suc n) taken bytes
passed_over most test queue n taken bytes unit so_far at goes leaves = record {
  rest = so_far.rest ∙ goes_further most test queue n unit at goes;
  units = so_far.units ∙ sym (ap (λ (us : List QueueUnit). filter test us) (take_next queue n unit at) ∙ (filter-append test (take n queue) (unit ∷ []) ∙ (ap (λ b. filter test (take n queue) ++ cond b (unit ∷ []) []) leaves ∙ append-nil (filter test (take n queue)))));
  size = so_far.size;
}

and_right : (x y : Bool) → (x && y) ≡ true → y ≡ true
and_right true y e = e
and_right false y e = absurd (true≢false (sym e))

or_cases : (x y : Bool) → (x || y) ≡ true → (x ≡ true) ⊎ (y ≡ true)
or_cases true y e = inl refl
or_cases false y e = inr e

empty_sum : (taken : List QueueUnit) → length taken ≡ 0 → sum_by (λ u. u.size) taken ≡ 0
empty_sum [] e = refl
empty_sum (u ∷ taken) e = absurd (let none : ⊥ = omega (arith, e) in none)

-- the bytes of what is taken stay few
pub adds : (most : ℕ) (test : QueueUnit → Bool) (queue : List QueueUnit) (n : ℕ) (taken : List QueueUnit) (bytes more : ℕ) (takes goes : Bool) (len : ℕ) → SoFar most test queue n taken bytes → more < 2 ^ 64 → takes ≡ true → len ≡ length taken
    → goes ≡ (nat_lt len most && nat_lt n 800 && (not takes || (len == 0) || nat_le (bytes + more) 262144)) → goes ≡ true → bytes + more < 2 ^ 64
adds most test queue n taken bytes more takes goes_ len so_far low is is_len told on =
    let goes : (nat_lt (length taken) most && nat_lt n 800 && (not takes || (length taken == 0) || nat_le (bytes + more) 262144)) ≡ true = sym (told ∙ ap (λ m. nat_lt m most && nat_lt n 800 && (not takes || (m == 0) || nat_le (bytes + more) 262144)) is_len) ∙ on in
    let last = and_right (nat_lt (length taken) most && nat_lt n 800) (not takes || (length taken == 0) || nat_le (bytes + more) 262144) goes in
    let open_ : ((length taken == 0) || nat_le (bytes + more) 262144) ≡ true = ap (λ b. (b || (length taken == 0)) || nat_le (bytes + more) 262144) (sym (ap (λ b. not b) is)) ∙ last in
    ⊎_elim (λ (none : (length taken == 0) ≡ true).
    let bytes_none : bytes ≡ 0 = so_far.size ∙ empty_sum taken (eqb-true (length taken) 0 none) in omega (arith, bytes_none, low))
    (λ (room : nat_le (bytes + more) 262144 ≡ true).
    ⊎_elim (λ (yes : (leb (bytes + more) 262144 ≡ true) × (bytes + more ≤ 262144)). let le = yes.1 in omega (arith, le))
    (λ (other : (leb (bytes + more) 262144 ≡ false) × (262144 < bytes + more)). absurd (true≢false (sym room ∙ other.0)))
    (leb_tells (bytes + more) 262144))
    (or_cases (length taken == 0) (nat_le (bytes + more) 262144) open_)

-- the test of the code is the test of the pull
pub in_numbers : (most : ℕ) (test : QueueUnit → Bool) (queue : List QueueUnit) (n : ℕ) (taken : List QueueUnit) (bytes : ℕ) (unit : QueueUnit) (len : ℕ) (takes goes : Bool) → SoFar most test queue n taken bytes → slice_get queue n ≡ Some unit
    → len ≡ length taken → takes ≡ test unit → goes ≡ (nat_lt len most && nat_lt n 800 && (not takes || (len == 0) || nat_le (bytes + unit.size) 262144)) → goes ≡ goes_on this most test (take n queue) unit
in_numbers most test queue n taken bytes unit len takes goes so_far at is_len is_takes is =
    let within = get_within queue n unit at in
    is ∙ (ap (λ m. nat_lt m most && nat_lt n 800 && (not takes || (m == 0) || nat_le (bytes + unit.size) 262144)) is_len
    ∙ (ap (λ t. nat_lt (length taken) most && nat_lt n 800 && (not t || (length taken == 0) || nat_le (bytes + unit.size) 262144)) is_takes
    ∙ goes_is most test queue n taken bytes unit so_far (omega (arith, within))))

-- where it does not go on, all is told
pub stopped : (most : ℕ) (test : QueueUnit → Bool) (queue : List QueueUnit) (n : ℕ) (taken : List QueueUnit) (bytes : ℕ) (unit : QueueUnit) → SoFar most test queue n taken bytes → slice_get queue n ≡ Some unit → goes_on this most test (take n queue) unit ≡ false
    → (n ≡ length (examined this most test [] queue)) × (taken ≡ filter test (examined this most test [] queue))
stopped most test queue n taken bytes unit so_far at stops =
    let all : examined this most test [] queue ≡ take n queue = so_far.rest ∙ goes_no_further most test queue n unit at stops in
    let within = get_within queue n unit at in
    let long : length (take n queue) ≡ n = length-take n queue ∙ (let e : min n (length queue) ≡ n = omega (arith, within) in e) in
    (sym (ap (λ (us : List QueueUnit). length us) all ∙ long), so_far.units ∙ sym (ap (λ (us : List QueueUnit). filter test us) all))
