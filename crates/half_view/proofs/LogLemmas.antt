-- What lawful logs have, as far as half messages need it.
use Rattle.std.proofs.Common.{◌≡◌, ◌∙◌, ◌⊎◌, inl, inr, ℕ, zero, suc, ◌+◌, ◌<◌, ◌≤◌, ◌^◌, ◌&&◌, ◌||◌, Bool, true, false, cond, List, [], ◌∷◌, ◌++◌, length, take, filter, slice_get, Option, Some, None, bytes_eq, refl, sym, ap, subst, arith, append-nil}
use Rattle.std.specs.Prelude.{nat_eq, not, is_none, find, IsSome, IfSome, option_map, if◌then◌else◌}
use Rattle.std.specs.List.{list_any}
use Rattle.std.specs.Str.Parse.{digits_value}
use Rattle.std.proofs.lemmas.Bool.{cases_lt, eqb-true, eq-eqb, ne_eqb}
use Rattle.std.proofs.lemmas.List.{take_all}
use Rattle.std.proofs.lemmas.List.Elements.{filter-append}
use Rattle.std.proofs.lemmas.Option.{same_Some}
use Rattle.std.proofs.lemmas.Slice.Eq.{bytes_eq-Decides}
use Rattle.mq_bytes.specs.Decimal.{digits_of}
use Rattle.record_codec.specs.Entry.{Entry}
use Rattle.record_codec.specs.Layout.{size}
use Rattle.log_model.specs.Admissible.{IsAdmissible, half_topic, op_topic, most_queues, number_in, number_of, number_at, names_half}
use Rattle.log_model.specs.Bases.{Geometry}
use Rattle.log_model.specs.Kinds.{is_half, is_op, is_copy, is_discard, is_text, origin_text}
use Rattle.log_model.specs.Log.{end_of, Follows, IsWellFormed}
use Rattle.log_model.specs.Queues.{queue_of, queue_end}
use Rattle.log_model.specs.Transactions.{is_origin, is_renewal, renewals, family, is_of_family, names_it, copies_it, discards_it, settles, transaction_state, Open, Committed, RolledBack, Discarded}
use Rattle.log_model.proofs.FirstFits.{place_behind}
use Rattle.log_model.proofs.Lists.{take_got}
use Rattle.log_model.proofs.Places.{end_of-append, well_formed_take}
use Rattle.log_replay.proofs.Growth.{kept_agree}
use Rattle.half_view.proofs.ListLemmas.{get_there, get_within, at_push}
use Rattle.half_view.proofs.NumberLemmas.{names, renewal_names, renewal_read, op_names}
use Rattle.half_view.specs.Halves.{names_or}
use Rattle.half_view.specs.OfLog.{named_by}

-- ---- the queue of half messages

pub topic_is : (r : Entry) → is_half r ≡ true → r.topic ≡ half_topic
topic_is r is = (bytes_eq-Decides r.topic half_topic).0 is

queue_is : (S : ℕ) (r : Entry) → IsAdmissible S r → is_half r ≡ true → r.queue ≡ 0
queue_is S r lawful is =
    let most : r.queue < 1 = subst (λ (t : List ℕ). r.queue < most_queues t) (topic_is r is) lawful.queue in
    omega (arith, most)

and_same : (b q : Bool) → (b ≡ true → q ≡ true) → b ≡ (b && q)
and_same true q is = sym (is refl)
and_same false q is = refl

-- half messages are the one queue of their topic
pub halves_are : (S : Geometry) (log : List Entry) → IsWellFormed S log → filter is_half log ≡ queue_of log half_topic 0
halves_are S log well = kept_agree is_half (λ (r : Entry). bytes_eq r.topic half_topic && nat_eq r.queue 0) log
    (λ k e got. and_same (is_half e) (nat_eq e.queue 0) (λ is. eq-eqb e.queue 0 (queue_is S.size e (well.each k e got).admissible is)))

-- the queue offset of the next half message
pub next_half : (S : Geometry) (log : List Entry) → IsWellFormed S log → queue_end S.base log half_topic 0 ≡ S.base.queues half_topic 0 + length (filter is_half log)
next_half S log well = ap (λ (l : List Entry). S.base.queues half_topic 0 + length l) (sym (halves_are S log well))

pub half_number : (S : Geometry) (log : List Entry) (r : Entry) → IsWellFormed S log → Follows S log r → is_half r ≡ true → r.queue_offset ≡ S.base.queues half_topic 0 + length (filter is_half log)
half_number S log r well follows is =
    follows.queue_offset
    ∙ ap (λ (t : List ℕ). queue_end S.base log t r.queue) (topic_is r is)
    ∙ ap (λ (q : ℕ). queue_end S.base log half_topic q) (queue_is S.size r follows.admissible is)
    ∙ next_half S log well

-- ---- fronts of a log

front_is : (log : List Entry) (n : ℕ) (x : Entry) → slice_get log n ≡ Some x → take (suc n) log ≡ take n log ++ x ∷ []
front_is log n x at = (let one : suc n ≡ n + 1 = omega arith in ap (λ (m : ℕ). take m log) one) ∙ take_got log n x at

push_case : (P : List Entry → Type 0) (b : Bool) (xs : List Entry) (x : Entry) → (b ≡ true → P (xs ++ x ∷ [])) → (b ≡ false → P xs) → P (xs ++ cond b (x ∷ []) [])
push_case P true xs x kept left = kept refl
push_case P false xs x kept left = subst P (sym (append-nil xs)) (left refl)

-- the half messages have their numbers
AreNumbered : ℕ → List Entry → Type 0
AreNumbered low xs = (k : ℕ) (e : Entry) → slice_get xs k ≡ Some e → e.queue_offset ≡ low + k

numbers_to : (S : Geometry) (log : List Entry) → IsWellFormed S log → (n : ℕ) → n ≤ length log → AreNumbered (S.base.queues half_topic 0) (filter is_half (take n log))
unfolding AreNumbered
numbers_to S log well zero within = λ k e got. cc got
numbers_to S log well (suc n) within =
    let low = S.base.queues half_topic 0 in
    let last = get_there log n (omega (arith, within)) in
    let front = take n log in
    let well_front = well_formed_take S n log well in
    let follows = well.each n last.0 last.1 in
    let before = numbers_to S log well n (omega (arith, within)) in
    subst (λ (l : List Entry). AreNumbered low (filter is_half l)) (sym (front_is log n last.0 last.1))
    (subst (λ (l : List Entry). AreNumbered low l) (sym (filter-append is_half front (last.0 ∷ [])))
    (push_case (AreNumbered low) (is_half last.0) (filter is_half front) last.0
    (λ is k e got. elim (at_push (filter is_half front) last.0 e k got) [
      | inl here ↦ ap (λ (x : Entry). x.queue_offset) here.1 ∙ half_number S front last.0 well_front follows is ∙ ap (λ (m : ℕ). low + m) (sym here.0)
      | inr there ↦ before k e there
    ])
    (λ left. before)))

whole_log : (log : List Entry) → take (length log) log ≡ log
whole_log log = take_all (length log) log (omega arith)

pub numbers : (S : Geometry) (log : List Entry) → IsWellFormed S log → (k : ℕ) (e : Entry) → slice_get (filter is_half log) k ≡ Some e → e.queue_offset ≡ S.base.queues half_topic 0 + k
unfolding AreNumbered
numbers S log well k e got = numbers_to S log well (length log) (omega arith) k e (subst (λ (l : List Entry). slice_get (filter is_half l) k ≡ Some e) (sym (whole_log log)) got)

-- ---- places rise

past_by : (S : Geometry) (log : List Entry) (x e : Entry) (n k end before : ℕ) → end ≡ x.offset + size x → before ≤ x.offset → k < suc n → slice_get log k ≡ Some e → slice_get log n ≡ Some x
    → (k < n → e.offset < before) → (k < n) ⊎ (n ≤ k) → e.offset < end
past_by S log x e n k end before ends behind low got last lower (inl less) = let e = lower less in omega (arith, ends, behind, e)
past_by S log x e n k end before ends behind low got last lower (inr more) =
    let same : k ≡ n = omega (arith, low, more) in
    let is : e ≡ x = same_Some e x (sym got ∙ ap (λ (m : ℕ). slice_get log m) same ∙ last) in
    let some : 0 < size x = omega arith in
    omega (arith, ends, some, ap (λ (y : Entry). y.offset) is)

pub ends_past : (S : Geometry) (log : List Entry) → IsWellFormed S log → (n : ℕ) → n ≤ length log → (k : ℕ) (e : Entry) → k < n → slice_get log k ≡ Some e → e.offset < end_of S.base (take n log)
ends_past S log well zero within k e low got = absurd (omega (arith, low))
ends_past S log well (suc n) within k e low got =
    let last = get_there log n (omega (arith, within)) in
    let ends : end_of S.base (take (suc n) log) ≡ last.0.offset + size last.0 = ap (λ (l : List Entry). end_of S.base l) (front_is log n last.0 last.1) ∙ end_of-append S.base (take n log) last.0 in
    let some : 0 < S.size = (let low = well.segment.low in omega (arith, low)) in
    let behind = place_behind S.size (end_of S.base (take n log)) (size last.0) some in
    let place = (well.each n last.0 last.1).place in
    past_by S log last.0 e n k (end_of S.base (take (suc n) log)) (end_of S.base (take n log)) ends (omega (arith, behind, place)) low got last.1
    (λ less. ends_past S log well n (omega (arith, within)) k e less got) (cases_lt k n)

-- a record stands past each before it
pub stands_past : (S : Geometry) (log : List Entry) (r : Entry) → IsWellFormed S log → Follows S log r → (k : ℕ) (e : Entry) → slice_get log k ≡ Some e → e.offset < r.offset
stands_past S log r well follows k e got =
    let some : 0 < S.size = (let low = well.segment.low in omega (arith, low)) in
    let ends = ends_past S log well (length log) (omega arith) k e (get_within log k e got) got in
    let all = ap (λ (l : List Entry). end_of S.base l) (whole_log log) in
    let behind = place_behind S.size (end_of S.base log) (size r) some in
    let place = follows.place in
    omega (arith, ends, all, behind, place)

-- each record stands before those behind it
unfoldable pub AreRising : List Entry → Type 0
AreRising [] = Unit {0}
AreRising (x ∷ xs) = ((k : ℕ) (y : Entry) → slice_get xs k ≡ Some y → x.offset < y.offset) × AreRising xs

rising_push : (xs : List Entry) (r : Entry) → AreRising xs → ((k : ℕ) (e : Entry) → slice_get xs k ≡ Some e → e.offset < r.offset) → AreRising (xs ++ r ∷ [])
unfolding AreRising
rising_push [] r rising past = ((λ k y at. cc at), tt)
rising_push (x ∷ xs) r rising past = (
  (λ k y at. elim (at_push xs r y k at) [
    | inl here ↦ subst (λ (z : Entry). x.offset < z.offset) (sym here.1) (past 0 x refl)
    | inr there ↦ rising.0 k y there
  ]),
  rising_push xs r rising.1 (λ k e at. past (suc k) e at),
)

rising_to : (S : Geometry) (log : List Entry) → IsWellFormed S log → (n : ℕ) → n ≤ length log → AreRising (take n log)
unfolding AreRising
rising_to S log well zero within = tt
rising_to S log well (suc n) within =
    let last = get_there log n (omega (arith, within)) in
    subst (λ (l : List Entry). AreRising l) (sym (front_is log n last.0 last.1))
    (rising_push (take n log) last.0 (rising_to S log well n (omega (arith, within)))
    (stands_past S (take n log) last.0 (well_formed_take S n log well) (well.each n last.0 last.1)))

pub rising : (S : Geometry) (log : List Entry) → IsWellFormed S log → AreRising log
rising S log well = subst (λ (l : List Entry). AreRising l) (whole_log log) (rising_to S log well (length log) (omega arith))

-- what a filter keeps stood in the list
pub kept_was : (test : Entry → Bool) (xs : List Entry) (k : ℕ) (e : Entry) → slice_get (filter test xs) k ≡ Some e → (j : ℕ) × (slice_get xs j ≡ Some e) × (test e ≡ true)
kept_was test [] k e at = cc at
kept_was test (x ∷ xs) k e at = by_test (λ i got. kept_was test xs i e got) (test x) refl k at
  where
    by_test : ((i : ℕ) → slice_get (filter test xs) i ≡ Some e → (j : ℕ) × (slice_get xs j ≡ Some e) × (test e ≡ true))
        → (b : Bool) → test x ≡ b → (i : ℕ) → slice_get (cond b (x ∷ filter test xs) (filter test xs)) i ≡ Some e → (j : ℕ) × (slice_get (x ∷ xs) j ≡ Some e) × (test e ≡ true)
    by_test rest true is zero got = (0, got, ap test (sym (same_Some x e got)) ∙ is)
    by_test rest true is (suc i) got = let there = rest i got in (suc there.0, there.1, there.2)
    by_test rest false is i got = let there = rest i got in (suc there.0, there.1, there.2)

pub rising_kept : (test : Entry → Bool) (xs : List Entry) → AreRising xs → AreRising (filter test xs)
unfolding AreRising
rising_kept test [] rises = tt
rising_kept test (x ∷ xs) rises = by_test (rising_kept test xs rises.1) (test x)
  where
    by_test : AreRising (filter test xs) → (b : Bool) → AreRising (cond b (x ∷ filter test xs) (filter test xs))
    by_test rest true = ((λ k y at. let there = kept_was test xs k y at in rises.0 there.0 y there.1), rest)
    by_test rest false = rest

-- ---- families

or_false : (x : Bool) → (x || false) ≡ x
or_false true = refl
or_false false = refl

-- the queue offset that a half message names, its own where it is an origin
abbrev pub named : Entry → ℕ
named r = names_or r.queue_offset (named_by r)

member_by : (half : Bool) (text : Option (List ℕ)) (own h : ℕ) → h < 2 ^ 64 → (half ≡ true → IfSome text (λ t. IsSome (number_in t)))
    → ((half && is_none text && nat_eq own h) || (half && is_text (digits_of h) text)) ≡ (half && nat_eq (names_or own (option_map (digits_value 10) text)) h)
unfolding names
member_by false text own h low is = refl
member_by true None own h low is = or_false (nat_eq own h)
member_by true (Some text) own h low is = renewal_names (Some text) h low (is refl)

-- a half message is of the family that it names
member_is : (r : Entry) (h : ℕ) → h < 2 ^ 64 → IfSome (origin_text r) (λ t. IsSome (number_in t)) → (is_origin h r || is_renewal h r) ≡ (is_half r && nat_eq (named r) h)
member_is r h low is = member_by (is_half r) (origin_text r) r.queue_offset h low (λ half. is)

pub filter-filter : (p q : Entry → Bool) (xs : List Entry) → filter (λ x. p x && q x) xs ≡ filter q (filter p xs)
filter-filter p q [] = refl
filter-filter p q (x ∷ xs) = ap (λ (l : List Entry). cond (p x && q x) (x ∷ l) l) (filter-filter p q xs) ∙ by_tests (p x)
  where
    by_tests : (b : Bool) → cond (b && q x) (x ∷ filter q (filter p xs)) (filter q (filter p xs)) ≡ filter q (cond b (x ∷ filter p xs) (filter p xs))
    by_tests true = refl
    by_tests false = refl

pub family_is : (S : Geometry) (log : List Entry) (h : ℕ) → IsWellFormed S log → h < 2 ^ 64 → family log h ≡ filter (λ x. nat_eq (named x) h) (filter is_half log)
family_is S log h well low =
    kept_agree (λ x. is_origin h x || is_renewal h x) (λ x. is_half x && nat_eq (named x) h) log (λ k e got. member_is e h low (well.each k e got).admissible.renewal)
    ∙ filter-filter is_half (λ x. nat_eq (named x) h) log

any_none : (test q : Entry → Bool) (xs : List Entry) → ((k : ℕ) (y : Entry) → slice_get xs k ≡ Some y → test y ≡ false) → list_any test (filter q xs) ≡ false
any_none test q [] fails = refl
any_none test q (x ∷ xs) fails = by_test (any_none test q xs (λ k y at. fails (suc k) y at)) (q x)
  where
    by_test : list_any test (filter q xs) ≡ false → (b : Bool) → list_any test (cond b (x ∷ filter q xs) (filter q xs)) ≡ false
    by_test rest true = ap (λ (c : Bool). c || list_any test (filter q xs)) (fails 0 x refl) ∙ rest
    by_test rest false = rest

-- of a place the one half message there tells the family
pub place_names : (h place : ℕ) (xs : List Entry) → AreRising xs
    → list_any (λ x. nat_eq x.offset place) (filter (λ x. nat_eq (named x) h) xs) ≡ names (option_map named (find (λ x. nat_eq x.offset place) xs)) h
unfolding AreRising names
place_names h place [] rises = refl
place_names h place (x ∷ xs) rises = by_tests (place_names h place xs rises.1) (nat_eq x.offset place) (nat_eq (named x) h) refl refl
  where
    here : Entry → Bool
    here y = nat_eq y.offset place

    of_it : Entry → Bool
    of_it y = nat_eq (named y) h

    by_tests : list_any here (filter of_it xs) ≡ names (option_map named (find here xs)) h
        → (a b : Bool) → nat_eq x.offset place ≡ a → nat_eq (named x) h ≡ b
        → list_any here (cond b (x ∷ filter of_it xs) (filter of_it xs)) ≡ names (option_map named (cond a (Some x) (find here xs))) h
    by_tests rest true true at is = ap (λ (c : Bool). c || list_any here (filter of_it xs)) at ∙ sym is
    by_tests rest true false at is =
        any_none here of_it xs (λ k y got. ne_eqb y.offset place (λ same. let low = rises.0 k y got in let this = eqb-true x.offset place at in omega (arith, low, this, same))) ∙ sym is
    by_tests rest false true at is = ap (λ (c : Bool). c || list_any here (filter of_it xs)) at ∙ rest
    by_tests rest false false at is = rest

-- ---- a half message that is not there yet

front_less : (log : List Entry) (k : ℕ) (e : Entry) → slice_get log k ≡ Some e → is_half e ≡ true → length (filter is_half (take k log)) < length (filter is_half log)
front_less [] k e got is = cc got
front_less (x ∷ xs) zero e got is =
    (let half : is_half x ≡ true = ap is_half (same_Some x e got) ∙ is in
    let kept : length (filter is_half (x ∷ xs)) ≡ suc (length (filter is_half xs)) = ap (λ (b : Bool). length (cond b (x ∷ filter is_half xs) (filter is_half xs))) half in
    omega (arith, kept))
front_less (x ∷ xs) (suc k) e got is = by_test (front_less xs k e got is) (is_half x)
  where
    by_test : length (filter is_half (take k xs)) < length (filter is_half xs)
        → (b : Bool) → length (cond b (x ∷ filter is_half (take k xs)) (filter is_half (take k xs))) < length (cond b (x ∷ filter is_half xs) (filter is_half xs))
    by_test less true = omega (arith, less)
    by_test less false = less

front_most : (log : List Entry) (k : ℕ) → length (filter is_half (take k log)) ≤ length (filter is_half log)
front_most log zero = omega arith
front_most [] (suc k) = omega arith
front_most (x ∷ xs) (suc k) = by_test (front_most xs k) (is_half x)
  where
    by_test : length (filter is_half (take k xs)) ≤ length (filter is_half xs)
        → (b : Bool) → length (cond b (x ∷ filter is_half (take k xs)) (filter is_half (take k xs))) ≤ length (cond b (x ∷ filter is_half xs) (filter is_half xs))
    by_test most true = omega (arith, most)
    by_test most false = most

raised : (o : Option ℕ) (low high : ℕ) → low ≤ high → IfSome o (λ n. n < low) → IfSome o (λ n. n < high)
raised None low high most is = tt
raised (Some n) low high most is = omega (arith, most, is)

-- what a record of the log names is below the next queue offset
named_low : (S : Geometry) (log : List Entry) → IsWellFormed S log → (k : ℕ) (e : Entry) → slice_get log k ≡ Some e → IfSome (names_half e) (λ n. n < S.base.queues half_topic 0 + length (filter is_half log))
named_low S log well k e got =
    raised (names_half e) (queue_end S.base (take k log) half_topic 0) (S.base.queues half_topic 0 + length (filter is_half log))
    (let front = next_half S (take k log) (well_formed_take S k log well) in let most = front_most log k in omega (arith, front, most)) (well.each k e got).names

half_named : (e : Entry) (high : ℕ) → is_half e ≡ true → IfSome (names_half e) (λ n. n < high) → IfSome (number_at (origin_text e)) (λ n. n < high)
half_named e high is low =
    subst (λ (t : List ℕ). IfSome (if bytes_eq t op_topic then number_of e.body else (if bytes_eq t half_topic then number_at (origin_text e) else None)) (λ n. n < high)) (topic_is e is) low

not_named : (o : Option ℕ) (high : ℕ) → IfSome o (λ n. n < high) → names o high ≡ false
unfolding names
not_named None high low = refl
not_named (Some n) high low = ne_eqb n high (λ same. omega (arith, low, same))

-- a record whose numbers are low doesn't name a high half message
pub not_renewed : (S : ℕ) (e : Entry) (own : ℕ) → IsAdmissible S e → own < 2 ^ 64 → IfSome (names_half e) (λ n. n < own) → is_renewal own e ≡ false
not_renewed S e own lawful small low = by_test (is_half e) refl
  where
    by_test : (b : Bool) → is_half e ≡ b → (b && is_text (digits_of own) (origin_text e)) ≡ false
    by_test false is = refl
    by_test true is = renewal_names (origin_text e) own small lawful.renewal
        ∙ not_named (named_by e) own (subst (λ (o : Option ℕ). IfSome o (λ n. n < own)) (renewal_read (origin_text e) lawful.renewal) (half_named e own is low))

pub not_named_it : (S : ℕ) (e : Entry) (own : ℕ) → IsAdmissible S e → own < 2 ^ 64 → IfSome (names_half e) (λ n. n < own) → names_it own e ≡ false
not_named_it S e own lawful small low = op_names e own small lawful.op ∙ not_named (cond (is_op e) (number_of e.body) None) own (by_test (is_op e) refl)
  where
    by_test : (b : Bool) → is_op e ≡ b → IfSome (cond b (number_of e.body) None) (λ n. n < own)
    by_test false is = tt
    by_test true is = subst (λ (b : Bool). IfSome (if b then number_of e.body else (if bytes_eq e.topic half_topic then number_at (origin_text e) else None)) (λ n. n < own)) is low

-- ---- nothing is said of it

pub and_false : (c : Bool) → (c && false) ≡ false
and_false true = refl
and_false false = refl

module _ (S : Geometry) (log : List Entry) (well : IsWellFormed S log) (small : S.base.queues half_topic 0 + length (filter is_half log) < 2 ^ 64) where
  pub unrenewed : (k : ℕ) (e : Entry) → slice_get log k ≡ Some e → is_renewal (S.base.queues half_topic 0 + length (filter is_half log)) e ≡ false
  unrenewed k e got = not_renewed S.size e (S.base.queues half_topic 0 + length (filter is_half log)) (well.each k e got).admissible small (named_low S log well k e got)

  pub unnamed : (k : ℕ) (e : Entry) → slice_get log k ≡ Some e → names_it (S.base.queues half_topic 0 + length (filter is_half log)) e ≡ false
  unnamed k e got = not_named_it S.size e (S.base.queues half_topic 0 + length (filter is_half log)) (well.each k e got).admissible small (named_low S log well k e got)

  filter_none : (p : Entry → Bool) (xs : List Entry) → ((k : ℕ) (e : Entry) → slice_get xs k ≡ Some e → p e ≡ false) → filter p xs ≡ []
  filter_none p [] fails = refl
  filter_none p (x ∷ xs) fails = ap (λ (b : Bool). cond b (x ∷ filter p xs) (filter p xs)) (fails 0 x refl) ∙ filter_none p xs (λ k e got. fails (suc k) e got)

  pub no_renewals : renewals log (S.base.queues half_topic 0 + length (filter is_half log)) ≡ []
  no_renewals = filter_none (is_renewal (S.base.queues half_topic 0 + length (filter is_half log))) log unrenewed

  pub not_origin : (k : ℕ) (e : Entry) → slice_get log k ≡ Some e → is_origin (S.base.queues half_topic 0 + length (filter is_half log)) e ≡ false
  not_origin k e got = by_test (is_half e) refl
    where
      by_test : (b : Bool) → is_half e ≡ b → (b && is_none (origin_text e) && nat_eq e.queue_offset (S.base.queues half_topic 0 + length (filter is_half log))) ≡ false
      by_test false is = refl
      by_test true is =
          ap (λ (c : Bool). is_none (origin_text e) && c) (ne_eqb e.queue_offset (S.base.queues half_topic 0 + length (filter is_half log))
          (λ same. let number = half_number S (take k log) e (well_formed_take S k log well) (well.each k e got) is in let less = front_less log k e got is in omega (arith, number, less, same)))
          ∙ and_false (is_none (origin_text e))

  pub no_family : family log (S.base.queues half_topic 0 + length (filter is_half log)) ≡ []
  no_family = filter_none (λ x. is_origin (S.base.queues half_topic 0 + length (filter is_half log)) x || is_renewal (S.base.queues half_topic 0 + length (filter is_half log)) x) log
      (λ k e got. ap (λ (b : Bool). b || is_renewal (S.base.queues half_topic 0 + length (filter is_half log)) e) (not_origin k e got) ∙ unrenewed k e got)

  unsettled_by : (k : ℕ) (e : Entry) → slice_get log k ≡ Some e → settles log (S.base.queues half_topic 0 + length (filter is_half log)) e ≡ false
  unsettled_by k e got =
      let none : is_of_family log (S.base.queues half_topic 0 + length (filter is_half log)) e.prepared ≡ false = ap (λ (l : List Entry). list_any (λ x. nat_eq x.offset e.prepared) l) no_family in
      ap (λ (b : Bool). names_it (S.base.queues half_topic 0 + length (filter is_half log)) e || (is_copy e && b) || (is_discard e && b)) none
      ∙ ap (λ (b : Bool). b || (is_copy e && false) || (is_discard e && false)) (unnamed k e got) ∙ by_tests (is_copy e) (is_discard e)
    where
      by_tests : (a b : Bool) → (false || (a && false) || (b && false)) ≡ false
      by_tests true true = refl
      by_tests true false = refl
      by_tests false true = refl
      by_tests false false = refl

  pub all_unsettled : (k : ℕ) (e : Entry) → slice_get log k ≡ Some e → settles log (S.base.queues half_topic 0 + length (filter is_half log)) e ≡ false
  all_unsettled k e got = unsettled_by k e got

  any_fails : (p : Entry → Bool) (xs : List Entry) → ((k : ℕ) (e : Entry) → slice_get xs k ≡ Some e → p e ≡ false) → list_any p xs ≡ false
  any_fails p [] fails = refl
  any_fails p (x ∷ xs) fails = ap (λ (b : Bool). b || list_any p xs) (fails 0 x refl) ∙ any_fails p xs (λ k e got. fails (suc k) e got)

  pub open_yet : transaction_state log (S.base.queues half_topic 0 + length (filter is_half log)) ≡ Open
  open_yet =
      ap (λ (b : Bool). if not b then Open else (if list_any (discards_it log (S.base.queues half_topic 0 + length (filter is_half log))) log then Discarded
      else (if list_any (copies_it log (S.base.queues half_topic 0 + length (filter is_half log))) log then Committed else RolledBack)))
      (any_fails (settles log (S.base.queues half_topic 0 + length (filter is_half log))) log unsettled_by)

-- a half message of a log names an earlier one, or none
pub names_earlier : (S : Geometry) (log : List Entry) → IsWellFormed S log → (k : ℕ) (e : Entry) → slice_get log k ≡ Some e → is_half e ≡ true → IfSome (named_by e) (λ n. n < e.queue_offset)
names_earlier S log well k e got is =
    let follows = well.each k e got in
    let front = well_formed_take S k log well in
    subst (λ (o : Option ℕ). IfSome o (λ n. n < e.queue_offset)) (renewal_read (origin_text e) follows.admissible.renewal)
    (subst (λ (m : ℕ). IfSome (number_at (origin_text e)) (λ n. n < m)) (next_half S (take k log) front ∙ sym (half_number S (take k log) e front follows is))
    (half_named e (queue_end S.base (take k log) half_topic 0) is follows.names))

pub rising_at : (xs : List Entry) → AreRising xs → (i j : ℕ) (x y : Entry) → i < j → slice_get xs i ≡ Some x → slice_get xs j ≡ Some y → x.offset < y.offset
unfolding AreRising
rising_at [] rises i j x y less at_i at_j = cc at_i
rising_at (z ∷ zs) rises zero zero x y less at_i at_j = absurd (omega (arith, less))
rising_at (z ∷ zs) rises zero (suc j) x y less at_i at_j = subst (λ (w : Entry). w.offset < y.offset) (same_Some z x at_i) (rises.0 j y at_j)
rising_at (z ∷ zs) rises (suc i) zero x y less at_i at_j = absurd (omega (arith, less))
rising_at (z ∷ zs) rises (suc i) (suc j) x y less at_i at_j = rising_at zs rises.1 i j x y (omega (arith, less)) at_i at_j
