-- The reply to a pull: which records it has, that they are on the disk, and that they are few bytes.
use Rattle.std.proofs.Common.{◌≡◌, ◌⊎◌, ⊎_elim, inl, inr, refl, ap, sym, ◌∙◌, subst, arith, ℕ, zero, suc, ◌+◌, ◌-◌, ◌^◌, ◌<◌, ◌≤◌, ◌==◌, ◌&&◌, ◌||◌, not, nat_lt, nat_le, leb, Bool, true, false, cond, List, [], ◌∷◌, ◌++◌, length, take, drop, map, filter, count_by, sum_by, slice_get, get_or, bit_and, ℤ, pos, negsuc, Some, None, Result, IfOk, if◌then◌else◌}
use Rattle.std.specs.Int.{w32, cast_unsigned}
use Rattle.std.specs.Ordering.{int_eq}
use Rattle.std.specs.Str.{bytes_eq}
use Rattle.std.specs.declared.alloc.AllocError.{AllocError}
use mathlib.Core.Bool.{true≢false}
use Rattle.std.proofs.lemmas.Bool.{eqb-true, cases_Bool, false_from_ne_true}
use Rattle.std.proofs.lemmas.Bool.Decides.{leb_tells, Decides-ltb, Decides-eqb, Decides-int_eq}
use Rattle.std.proofs.lemmas.Grind.{take_at_read}
use Rattle.std.proofs.lemmas.List.{length-append, append-nil}
use Rattle.std.proofs.lemmas.List.Elements.{filter-append}
use Rattle.std.proofs.lemmas.List.Sums.{sum_by-append, sum_by-cons, length-filter}
use Rattle.mq_outside.specs.Covers.{HasRange}
use Rattle.mq_outside.specs.declared.frozen_ranges.FrozenRanges.{FrozenRanges}
use Rattle.record_codec.specs.declared.unit.Unit.{Unit as QueueUnit}
use Rattle.record_codec.specs.Entry.{Entry}
use Rattle.record_codec.specs.Layout.{size, layout}
use Rattle.record_codec.specs.Units.{unit_of}
use Rattle.record_codec.proofs.LayoutLengths.{length-layout}
use Rattle.log_model.specs.Keys.{asked_number}
use Rattle.log_model.specs.Numbered.{queue_min, records_of}
use Rattle.log_model.specs.Pulls.{Pulled, pulled, pulled_from, pulled_as, nothing, after_looking, examined, goes_on, takes}
use Rattle.log_model.proofs.PullLemmas.{pulled_map}
use Rattle.reply_fields.specs.declared.slice.Slice.{Slice}
use Rattle.reply_fields.specs.declared.slice.Slice.TheVariants.{Held, Kept}
use Rattle.reply_fields.specs.Slices.{body_len, slice_len}
use Rattle.request_fields.specs.Requests.{PullSaid}
use Rattle.queue_view.specs.declared.pulled.Pulled.{Pulled as Answer}
use Rattle.queue_view.specs.declared.tags.Tags.{Tags}
use Rattle.queue_view.specs.Answers.{Answers, this, pulled_of}
use Rattle.queue_view.specs.Subscriptions.{tags_take}
use Rattle.queue_view.specs.Tables.{Table, seen_units, unit_in, number_of}
use Rattle.queue_view.specs.declared.stored.StoredUnit.{StoredUnit}
use Rattle.queue_view.proofs.Lists.{some_one}
use Rattle.broker_model.specs.State.{State, seen}
use Rattle.broker_model.specs.Answers.{pull_words, pull_of}
use Rattle.broker_events.specs.Replies.{IsSliceOf, AreSlicesOf}
use Rattle.core_log.specs.declared.parts.Parts.{Parts}
use Rattle.broker_core.specs.Reads.{IsSliceAt, AreSlicesAt}
use Rattle.core_log.specs.Represents.{Represents, IsCovered, stored_unit}
use Rattle.core_log.proofs.SeenLemmas.{found, unknown}

-- ---- each of a list

-- each item is like this
abbrev pub Each : {A : Type 0} → (A → Type 0) → List A → Type 0
Each P [] = Unit {0}
Each P (x ∷ xs) = P x × Each P xs

pub each_append : {A : Type 0} (P : A → Type 0) (xs ys : List A) → Each P xs → Each P ys → Each P (xs ++ ys)
each_append P [] ys all more = more
each_append P (x ∷ xs) ys all more = (all.0, each_append P xs ys all.1 more)

pub each_filter : {A : Type 0} (P : A → Type 0) (test : A → Bool) (xs : List A) → Each P xs → Each P (filter test xs)
each_filter P test [] all = tt
each_filter P test (x ∷ xs) all =
    elim (test x) as (λ b. Each P (cond b (x ∷ filter test xs) (filter test xs))) [ true ↦ (all.0, each_filter P test xs all.1) | false ↦ each_filter P test xs all.1 ]

each_drop : {A : Type 0} (P : A → Type 0) (n : ℕ) (xs : List A) → Each P xs → Each P (drop n xs)
each_drop P zero xs all = all
each_drop P (suc n) [] all = tt
each_drop P (suc n) (x ∷ xs) all = each_drop P n xs all.1

pub each_of : {A : Type 0} (P : A → Type 0) (xs : List A) → ((k : ℕ) (x : A) → slice_get xs k ≡ Some x → P x) → Each P xs
each_of P [] is = tt
each_of P (x ∷ xs) is = (is 0 x refl, each_of P xs (λ k y at. is (suc k) y at))

pub get_take : {A : Type 0} (xs : List A) (n k : ℕ) (x : A) → slice_get (take n xs) k ≡ Some x → (k < n) × (slice_get xs k ≡ Some x)
get_take xs zero k x at = cc at
get_take [] (suc n) k x at = cc at
get_take (y ∷ xs) (suc n) zero x at = (omega arith, at)
get_take (y ∷ xs) (suc n) (suc k) x at = let more = get_take xs n k x at in (let low = more.0 in omega (arith, low), more.1)

-- ---- what is pulled

-- few bytes, or one record
abbrev pub AreFew : List Entry → Type 0
AreFew rs = (sum_by size rs ≤ 262144) ⊎ (length rs ≤ 1)

-- the records that are taken are like this, and few, and the code is one of those of a pull
pub record IsPulled (P : Entry → Type 0) (p : Pulled Entry) : Type 0 where
  pub each : Each P p.taken
  pub few : AreFew p.taken
  pub code : p.code ≤ 21

-- what is examined is like this
each_examined : (P : Entry → Type 0) (most : ℕ) (test : QueueUnit → Bool) (before xs : List Entry) → Each P before → Each P xs → Each P (examined unit_of most test before xs)
each_examined P most test before [] done rest = done
each_examined P most test before (x ∷ xs) done rest =
    elim (goes_on unit_of most test before x) as (λ b. Each P (if b then examined unit_of most test (before ++ x ∷ []) xs else before)) [
      | true ↦ each_examined P most test (before ++ x ∷ []) xs (each_append P before (x ∷ []) done (rest.0, tt)) rest.1
      | false ↦ done
    ]

-- the test of a record's unit
abbrev is_taken : (QueueUnit → Bool) → Entry → Bool
is_taken test r = test (unit_of r)

and_right : (x y : Bool) → (x && y) ≡ true → y ≡ true
and_right true y e = e
and_right false y e = absurd (true≢false (sym e))

or_cases : (x y : Bool) → (x || y) ≡ true → (x ≡ true) ⊎ (y ≡ true)
or_cases true y e = inl refl
or_cases false y e = inr e

-- one record more, for which there is room
few_more : (taken : List Entry) (x : Entry) → (((length taken == 0) || nat_le (sum_by size taken + size x) 262144) ≡ true) → AreFew (taken ++ x ∷ [])
few_more taken x room =
    ⊎_elim (λ (none : (length taken == 0) ≡ true).
    let zero_long = eqb-true (length taken) 0 none in inr (let long = length-append taken (x ∷ []) in omega (arith, long, zero_long)))
    (λ (fits : nat_le (sum_by size taken + size x) 262144 ≡ true).
    ⊎_elim (λ (le : (leb (sum_by size taken + size x) 262144 ≡ true) × (sum_by size taken + size x ≤ 262144)).
    let total = sum_by-append size taken (x ∷ []) ∙ ap (λ m. sum_by size taken + m) (sum_by-cons size x []) in
    let low = le.1 in inl (omega (arith, total, low)))
    (λ (other : (leb (sum_by size taken + size x) 262144 ≡ false) × (262144 < sum_by size taken + size x)). absurd (true≢false (sym fits ∙ other.0)))
    (leb_tells (sum_by size taken + size x) 262144))
    (or_cases (length taken == 0) (nat_le (sum_by size taken + size x) 262144) room)

-- what is taken of what is examined stays few
few_after : (most : ℕ) (test : QueueUnit → Bool) (before : List Entry) (x : Entry) → AreFew (filter (is_taken test) before) → goes_on unit_of most test before x ≡ true
    → AreFew (filter (is_taken test) (before ++ x ∷ []))
few_after most test before x few goes =
    let before_taken = filter (is_taken test) before in
    let parts : filter (is_taken test) (before ++ x ∷ []) ≡ before_taken ++ cond (is_taken test x) (x ∷ []) [] = filter-append (is_taken test) before (x ∷ []) in
    subst (λ (rs : List Entry). AreFew rs) (sym parts)
    (⊎_elim (λ (takes_it : is_taken test x ≡ true).
    let room = and_right (nat_lt (count_by (is_taken test) before) most && nat_lt (length before) 800)
    (not (test (unit_of x)) || (count_by (is_taken test) before == 0) || nat_le (sum_by size before_taken + size x) 262144) goes in
    let told : ((count_by (is_taken test) before == 0) || nat_le (sum_by size before_taken + size x) 262144) ≡ true =
    ap (λ b. (b || (count_by (is_taken test) before == 0)) || nat_le (sum_by size before_taken + size x) 262144) (sym (ap not takes_it)) ∙ room in
    let counted : ((length before_taken == 0) || nat_le (sum_by size before_taken + size x) 262144) ≡ true =
    ap (λ m. (m == 0) || nat_le (sum_by size before_taken + size x) 262144) (length-filter (is_taken test) before) ∙ told in
    subst (λ b. AreFew (before_taken ++ cond b (x ∷ []) [])) (sym takes_it) (few_more before_taken x counted))
    (λ (passes : is_taken test x ≡ false).
    subst (λ b. AreFew (before_taken ++ cond b (x ∷ []) [])) (sym passes) (subst (λ (rs : List Entry). AreFew rs) (sym (append-nil before_taken)) few))
    (cases_Bool (is_taken test x)))

few_examined : (most : ℕ) (test : QueueUnit → Bool) (before xs : List Entry) → AreFew (filter (is_taken test) before) → AreFew (filter (is_taken test) (examined unit_of most test before xs))
few_examined most test before [] few = few
few_examined most test before (x ∷ xs) few =
    ⊎_elim (λ (on : goes_on unit_of most test before x ≡ true).
    subst (λ b. AreFew (filter (is_taken test) (if b then examined unit_of most test (before ++ x ∷ []) xs else before))) (sym on)
    (few_examined most test (before ++ x ∷ []) xs (few_after most test before x few on)))
    (λ (off : goes_on unit_of most test before x ≡ false).
    subst (λ b. AreFew (filter (is_taken test) (if b then examined unit_of most test (before ++ x ∷ []) xs else before))) (sym off) few)
    (cases_Bool (goes_on unit_of most test before x))

-- nothing is taken
pulled_nothing : (P : Entry → Type 0) (code next low high : ℕ) → code ≤ 21 → IsPulled P (nothing code next low high)
pulled_nothing P code next low high small = record { each = tt; few = inl (omega arith); code = small }

-- some were examined
pulled_looking : (P : Entry → Type 0) (from low high most : ℕ) (test : QueueUnit → Bool) (queue : List Entry) → Each P queue
    → IsPulled P (after_looking unit_of from low high test (examined unit_of most test [] queue))
pulled_looking P from low high most test queue all = record {
  each = each_filter P (is_taken test) (examined unit_of most test [] queue) (each_examined P most test [] queue tt all);
  few = few_examined most test [] queue (inl (omega arith));
  code = few_code (count_by (is_taken test) (examined unit_of most test [] queue) == 0);
}
  where
    few_code : (b : Bool) → (if b then 20 else 0) ≤ 21
    few_code true = omega arith
    few_code false = omega arith

by_case : (P : Entry → Type 0) (a b c d : Bool) (v w x y z : Pulled Entry) → IsPulled P v → IsPulled P w → IsPulled P x → IsPulled P y → IsPulled P z → IsPulled P (cond a v (cond b w (cond c x (cond d y z))))
by_case P true b c d v w x y z v_is w_is x_is y_is z_is = v_is
by_case P false true c d v w x y z v_is w_is x_is y_is z_is = w_is
by_case P false false true d v w x y z v_is w_is x_is y_is z_is = x_is
by_case P false false false true v w x y z v_is w_is x_is y_is z_is = y_is
by_case P false false false false v w x y z v_is w_is x_is y_is z_is = z_is

-- a pull takes records of the queue, and few of them
pub pull_is : (P : Entry → Type 0) (low : ℕ) (queue : List Entry) (from : ℤ) (most : ℕ) (test : QueueUnit → Bool) → Each P queue → IsPulled P (pulled unit_of low queue from most test)
pull_is P low queue (negsuc from) most test all = pulled_nothing P 21 low low (low + length queue) (omega arith)
pull_is P low queue (pos from) most test all =
    let high = low + length queue in
    by_case P ((high == 0) && (from == 0)) (nat_lt from low) (from == high) (nat_lt high from)
    (nothing 19 0 low high) (nothing 21 low low high) (nothing 19 high low high) (nothing 21 high low high)
    (after_looking unit_of from low high test (examined unit_of most test [] (drop (from - low) queue)))
    (pulled_nothing P 19 0 low high (omega arith)) (pulled_nothing P 21 low low high (omega arith)) (pulled_nothing P 19 high low high (omega arith)) (pulled_nothing P 21 high low high (omega arith))
    (pulled_looking P from low high most test (drop (from - low) queue) (each_drop P (from - low) queue all))

-- ---- where the records stand

-- a record is on the disk, and can be read at once
pub record IsTold (stored : FrozenRanges) (r : Entry) : Type 0 where
  pub covered : IsCovered stored r
  pub small : size r < 2 ^ 30

pub queue_told : (core : Parts) (s : State) (topic : List ℕ) (queue : ℕ) → Represents core s → Each (IsTold core.stored) (records_of (seen s) topic queue)
queue_told core s topic queue are =
    let n = s.dispatched - s.log.base.records in
    each_filter (IsTold core.stored) (λ r. bytes_eq r.topic topic && (r.queue == queue)) (take n s.log.records)
    (each_of (IsTold core.stored) (take n s.log.records) (λ k r at.
    let there = get_take s.log.records n k r at in
    let dispatched = are.state.dispatched in
    let below = there.0 in
    let room = (are.state.log.each k r there.1).room in
    let high = are.state.log.segment.high in
    record { covered = are.stored.each k r (omega (arith, below, dispatched)) there.1; small = omega (arith, room, high) }))

-- a slice of a unit is the slice of its record
slice_is : (stored : FrozenRanges) (slice : Slice) (r : Entry) → IsSliceAt stored slice (unit_of r) → IsTold stored r → IsSliceOf slice r
slice_is stored (Held bytes) r is told = is
slice_is stored (Kept range) r is told = record { place = is.0; len = is.1; held = is.2 (layout r) (length-layout r) told.covered.held }

pub slices_are : (stored : FrozenRanges) (slices : List Slice) (rs : List Entry) → AreSlicesAt stored slices (map unit_of rs) → Each (IsTold stored) rs → AreSlicesOf slices rs
slices_are stored [] [] are told = tt
slices_are stored [] (r ∷ rs) are told = are
slices_are stored (slice ∷ slices) [] are told = are
slices_are stored (slice ∷ slices) (r ∷ rs) are told = (slice_is stored slice r are.0 told.0, slices_are stored slices rs are.1 told.1)

-- a slice has as many bytes as its record
slice_size : (slice : Slice) (r : Entry) → IsSliceOf slice r → slice_len slice ≡ size r
slice_size (Held bytes) r is = absurd is
slice_size (Kept range) r is = is.len

pub body_size : (slices : List Slice) (rs : List Entry) → AreSlicesOf slices rs → body_len slices ≡ sum_by size rs
body_size [] [] are = refl
body_size [] (r ∷ rs) are = absurd are
body_size (slice ∷ slices) [] are = absurd are
body_size (slice ∷ slices) (r ∷ rs) are =
    sum_by-cons slice_len slice slices ∙ ap (λ m. m + body_len slices) (slice_size slice r are.0) ∙ ap (λ m. size r + m) (body_size slices rs are.1) ∙ sym (sum_by-cons size r rs)

-- few bytes, where each record is small
pub few_bytes : (stored : FrozenRanges) (rs : List Entry) → Each (IsTold stored) rs → AreFew rs → sum_by size rs < 2 ^ 30
few_bytes stored [] told few = omega arith
few_bytes stored (r ∷ []) told few = let one = sum_by-cons size r [] in let small = told.0.small in omega (arith, one, small)
few_bytes stored (r ∷ q ∷ rs) told few =
    ⊎_elim (λ (low : sum_by size (r ∷ q ∷ rs) ≤ 262144). omega (arith, low)) (λ (one : length (r ∷ q ∷ rs) ≤ 1). absurd (let none : ⊥ = omega (arith, one) in none)) few

pub units_told : (stored : FrozenRanges) (units : List QueueUnit) (rs : List Entry) → units ≡ map unit_of rs → Each (IsTold stored) rs → Each (λ (u : QueueUnit). HasRange stored.pieces.items u.offset u.size) units
units_told stored units rs is told = subst (λ (us : List QueueUnit). Each (λ (u : QueueUnit). HasRange stored.pieces.items u.offset u.size) us) (sym is) (ranges rs told)
  where
    ranges : (rs : List Entry) → Each (IsTold stored) rs → Each (λ (u : QueueUnit). HasRange stored.pieces.items u.offset u.size) (map unit_of rs)
    ranges [] told = tt
    ranges (r ∷ rs) told = (told.0.covered.range, ranges rs told.1)

pub each_get : {A : Type 0} (P : A → Type 0) (xs : List A) → Each P xs → (k : ℕ) (x : A) → slice_get xs k ≡ Some x → P x
each_get P [] all k x at = cc at
each_get P (y ∷ xs) all zero x at = subst P (some_one at) all.0
each_get P (y ∷ xs) all (suc k) x at = each_get P xs all.1 k x at

-- one slice more
pub slices_more : (stored : FrozenRanges) (slices : List Slice) (units : List QueueUnit) (slice : Slice) (unit : QueueUnit) → AreSlicesAt stored slices units → IsSliceAt stored slice unit
    → AreSlicesAt stored (slices ++ slice ∷ []) (units ++ unit ∷ [])
slices_more stored [] [] slice unit are is = (is, tt)
slices_more stored [] (u ∷ units) slice unit are is = absurd are
slices_more stored (x ∷ slices) [] slice unit are is = absurd are
slices_more stored (x ∷ slices) (u ∷ units) slice unit are is = (are.0, slices_more stored slices units slice unit are.1 is)

-- the slices of one unit more of a list
pub slices_next : (stored : FrozenRanges) (units : List QueueUnit) (slices new : List Slice) (i : ℕ) (slice : Slice) (d : QueueUnit) → i < length units → AreSlicesAt stored slices (take i units) → new ≡ slices ++ slice ∷ []
    → IsSliceAt stored slice (get_or units i d) → AreSlicesAt stored new (take (i + 1) units)
slices_next stored units slices new i slice d low are is_new is =
    subst (λ (xs : List Slice). AreSlicesAt stored xs (take (i + 1) units)) (sym is_new)
    (subst (λ (us : List QueueUnit). AreSlicesAt stored (slices ++ slice ∷ []) us) (sym (take_at_read units i d low).1) (slices_more stored slices (take i units) slice (get_or units i d) are is))

-- ---- the subscription

pub own_words : (p : PullSaid) (own : Bool) (text other : List ℕ) → own ≡ (bit_and (cast_unsigned w32 p.sysflag) 4 == 4) → own ≡ true → text ≡ p.subscription
    → text ≡ (if bit_and (cast_unsigned w32 p.sysflag) 4 == 4 then p.subscription else other)
own_words p own text other is yes_own same = same ∙ ap (λ (b : Bool). if b then p.subscription else other) (sym yes_own ∙ is)

pub group_words : (p : PullSaid) (own : Bool) (text other : List ℕ) → own ≡ (bit_and (cast_unsigned w32 p.sysflag) 4 == 4) → own ≡ false → text ≡ other
    → text ≡ (if bit_and (cast_unsigned w32 p.sysflag) 4 == 4 then p.subscription else other)
group_words p own text other is not_own same = same ∙ ap (λ (b : Bool). if b then p.subscription else other) (sym not_own ∙ is)

-- ---- the table of a queue

units_again : (rs : List Entry) → map unit_in (map stored_unit rs) ≡ map unit_of rs
units_again [] = refl
units_again (r ∷ rs) = ap (λ (us : List QueueUnit). unit_of r ∷ us) (units_again rs)

-- what its units are pulled as
abbrev pub pull_in : State → List ℕ → ℕ → ℤ → ℤ → Tags → Pulled QueueUnit
pull_in s topic queue from most tags = pulled this (queue_min (seen s) topic queue) (map unit_of (records_of (seen s) topic queue)) from (asked_number 32 most) (tags_take tags)

pub pulled_found : (core : Parts) (s : State) (topic : List ℕ) (queue k : ℕ) (from most : ℤ) (tags : Tags) (result : Result Answer AllocError) → Represents core s → number_of core.queues topic queue ≡ Some k
    → ((t : Table) → slice_get core.queues k ≡ Some t → IfOk result (λ a. Answers (pulled_of t from most tags) a)) → IfOk result (λ a. Answers (pull_in s topic queue from most tags) a)
pulled_found core s topic queue k from most tags result are e told =
    let f = found core s topic queue k are e in
    let rs = records_of (seen s) topic queue in
    let same : pulled_of f.table from most tags ≡ pull_in s topic queue from most tags =
    ap (λ m. pulled this m (seen_units f.table) from (asked_number 32 most) (tags_take tags)) f.low
    ∙ ap (λ (us : List QueueUnit). pulled this (queue_min (seen s) topic queue) us from (asked_number 32 most) (tags_take tags)) (ap (λ (us : List StoredUnit). map unit_in us) f.units ∙ units_again rs) in
    subst (λ (p : Pulled QueueUnit). IfOk result (λ a. Answers p a)) same (told f.table f.at)

-- ---- a queue without records

pick : (b less more : Bool) (v w x y z : Pulled QueueUnit) → less ≡ false → more ≡ not b → cond b v (cond less w (cond b x (cond more y z))) ≡ cond b v y
pick true less more v w x y z is_less is_more = refl
pick false less more v w x y z is_less is_more = ap (λ c. cond c w (cond more y z)) is_less ∙ ap (λ c. cond c y z) is_more

empty_is : (from most : ℕ) (test : QueueUnit → Bool) → pulled_from this 0 [] from most test ≡ cond (from == 0) (nothing 19 0 0 0) (nothing 21 0 0 0)
empty_is from most test =
    pick (from == 0) (nat_lt from 0) (nat_lt 0 from) (nothing 19 0 0 0) (nothing 21 0 0 0) (nothing 19 0 0 0) (nothing 21 0 0 0)
    (after_looking this from 0 0 test (examined this most test [] (drop (from - 0) []))) (below_none from) (above_zero from)
  where
    below_none : (n : ℕ) → nat_lt n 0 ≡ false
    below_none n = false_from_ne_true (nat_lt n 0) (λ less. let h = (Decides-ltb n 0).0 less in let none : ⊥ = omega (arith, h) in none)

    above_zero : (n : ℕ) → nat_lt 0 n ≡ not (n == 0)
    above_zero zero = refl
    above_zero (suc n) = (Decides-ltb 0 (suc n)).1 (omega arith) ∙ sym (ap not (false_from_ne_true (suc n == 0) (λ same. let h = (Decides-eqb (suc n) 0).0 same in let none : ⊥ = omega (arith, h) in none)))

empty_answers : (b : Bool) (a : Answer) → a.code ≡ pos (if b then 19 else 21) → a.next ≡ 0 → a.min ≡ 0 → a.max ≡ 0 → a.units.items ≡ [] → Answers (cond b (nothing 19 0 0 0) (nothing 21 0 0 0)) a
empty_answers true a code next low high none = record { code = code; next = next; min = low; max = high; units = none }
empty_answers false a code next low high none = record { code = code; next = next; min = low; max = high; units = none }

-- the test of signed numbers
pos_eq : (n : ℕ) → int_eq (pos n) (pos 0) ≡ (n == 0)
pos_eq n =
    ⊎_elim (λ (is : (n == 0) ≡ true). (Decides-int_eq (pos n) (pos 0)).1 (ap pos ((Decides-eqb n 0).0 is)) ∙ sym is)
    (λ (not_zero : (n == 0) ≡ false).
    false_from_ne_true (int_eq (pos n) (pos 0)) (λ same.
    let e : pos n ≡ pos 0 = (Decides-int_eq (pos n) (pos 0)).0 same in
    let m : n ≡ 0 = cc e in
    absurd (true≢false (sym ((Decides-eqb n 0).1 m) ∙ not_zero))) ∙ sym not_zero)
    (cases_Bool (n == 0))

no_records : (from : ℤ) (most : ℕ) (test : QueueUnit → Bool) (a : Answer) → a.code ≡ pos (if int_eq from (pos 0) then 19 else 21) → a.next ≡ 0 → a.min ≡ 0 → a.max ≡ 0 → a.units.items ≡ [] → Answers (pulled this 0 [] from most test) a
no_records (pos from) most test a code next low high none = subst (λ (p : Pulled QueueUnit). Answers p a) (sym (empty_is from most test)) (empty_answers (from == 0) a (code ∙ ap (λ (b : Bool). pos (if b then 19 else 21)) (pos_eq from)) next low high none)
no_records (negsuc from) most test a code next low high none = record { code = code; next = next; min = low; max = high; units = none }

pub pulled_unknown : (core : Parts) (s : State) (topic : List ℕ) (queue : ℕ) (from most : ℤ) (tags : Tags) (a : Answer) → Represents core s → number_of core.queues topic queue ≡ None
    → a.code ≡ pos (if int_eq from (pos 0) then 19 else 21) → a.next ≡ 0 → a.min ≡ 0 → a.max ≡ 0 → a.units.items ≡ [] → Answers (pull_in s topic queue from most tags) a
pulled_unknown core s topic queue from most tags a are e code next low high none =
    let u = unknown core s topic queue are e in
    subst (λ m. Answers (pulled this m (map unit_of (records_of (seen s) topic queue)) from (asked_number 32 most) (tags_take tags)) a) (sym u.low)
    (subst (λ (rs : List Entry). Answers (pulled this 0 (map unit_of rs) from (asked_number 32 most) (tags_take tags)) a) (sym u.records)
    (no_records from (asked_number 32 most) (tags_take tags) a code next low high none))

-- ---- the reply

-- the answer is that of the records
pub answers_pull : (core : Parts) (s : State) (p : PullSaid) (tags : Tags) (a : Answer) → Represents core s → tags_take tags ≡ takes (pull_words s p)
    → Answers (pull_in s p.topic p.queue p.from p.most tags) a → Answers (pulled_as unit_of (pull_of s p)) a
answers_pull core s p tags a are takes_it answers =
    let low = queue_min (seen s) p.topic p.queue in
    let rs = records_of (seen s) p.topic p.queue in
    let n = asked_number 32 p.most in
    let same : pull_in s p.topic p.queue p.from p.most tags ≡ pulled_as unit_of (pull_of s p) =
    ap (λ (test : QueueUnit → Bool). pulled this low (map unit_of rs) p.from n test) takes_it
    ∙ pulled_map unit_of low rs p.from n (takes (pull_words s p)) in
    subst (λ (q : Pulled QueueUnit). Answers q a) same answers

pub pull_told : (core : Parts) (s : State) (p : PullSaid) → Represents core s → IsPulled (IsTold core.stored) (pull_of s p)
pull_told core s p are =
    pull_is (IsTold core.stored) (queue_min (seen s) p.topic p.queue) (records_of (seen s) p.topic p.queue) p.from (asked_number 32 p.most) (takes (pull_words s p)) (queue_told core s p.topic p.queue are)

-- each unit has its range on the disk
pub has_ranges : (core : Parts) (s : State) (p : PullSaid) (a : Answer) → Represents core s → Answers (pulled_as unit_of (pull_of s p)) a
    → (k : ℕ) (unit : QueueUnit) → slice_get a.units.items k ≡ Some unit → HasRange core.stored.pieces.items unit.offset unit.size
has_ranges core s p a are answers =
    each_get (λ (u : QueueUnit). HasRange core.stored.pieces.items u.offset u.size) a.units.items
    (units_told core.stored a.units.items (pull_of s p).taken answers.units (pull_told core s p are).each)

-- the slices are those of the records
pub pull_slices : (core : Parts) (s : State) (p : PullSaid) (a : Answer) (slices : List Slice) → Represents core s → Answers (pulled_as unit_of (pull_of s p)) a → AreSlicesAt core.stored slices a.units.items
    → AreSlicesOf slices (pull_of s p).taken
pull_slices core s p a slices are answers at =
    slices_are core.stored slices (pull_of s p).taken (subst (λ (us : List QueueUnit). AreSlicesAt core.stored slices us) answers.units at) (pull_told core s p are).each

-- and few bytes
pub pull_bytes : (core : Parts) (s : State) (p : PullSaid) (a : Answer) (slices : List Slice) → Represents core s → Answers (pulled_as unit_of (pull_of s p)) a → AreSlicesAt core.stored slices a.units.items
    → body_len slices < 2 ^ 30
pull_bytes core s p a slices are answers at =
    let told = pull_told core s p are in
    let total = body_size slices (pull_of s p).taken (pull_slices core s p a slices are answers at) in
    let low = few_bytes core.stored (pull_of s p).taken told.each told.few in
    omega (arith, total, low)
