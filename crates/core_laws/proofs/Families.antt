-- Families of halves, and the copies of them.
use Rattle.std.proofs.Common.{◌≡◌, ◌⊎◌, inl, inr, refl, ap, sym, ◌∙◌, subst, arith, ℕ, zero, suc, ◌+◌, ◌<◌, ◌≤◌, ◌^◌, List, [], ◌∷◌, ◌++◌, take, drop, filter, slice_get, Bool, true, false, Option, Some, None, cond, if◌then◌else◌}
use Rattle.std.specs.Prelude.{◌&&◌, ◌||◌, ◌==◌, not, is_none}
use Rattle.std.specs.List.{list_any}
use Rattle.std.specs.Str.Parse.{digits_value}
use Rattle.std.proofs.lemmas.Bool.{cases_Bool, and_parts, and_from, eqb-true, eq-eqb, cases_order, or_cases}
use Rattle.std.proofs.lemmas.Option.{same_Some}
use Rattle.mq_bytes.specs.Decimal.{digits_of}
use Rattle.record_codec.specs.Entry.{Entry}
use Rattle.log_model.specs.Kinds.{is_half, is_copy, is_text, origin_text}
use Rattle.log_model.specs.Numbered.{Log, with_appended}
use Rattle.log_model.specs.Transactions.{is_origin, family, is_of_family, copies_it, discards_it, names_it, settles, is_settled, copies, Open, Committed, RolledBack, Discarded, transaction_state, named_origin, origin_of}
use Rattle.core_laws.specs.Kept.{IsKept, IsNumberText}
use Rattle.core_laws.specs.Halves.{in_family}
use Rattle.core_laws.proofs.Lists.{get_append, get_left, get_take, take_get, drop_get, within}
use Rattle.core_laws.proofs.Counts.{count_le, count_none, count_take, count_drop, any_at, any_found}
use Rattle.core_laws.proofs.Pulls.{kept_was_there, kept_passes}
use Rattle.core_laws.proofs.Texts.{same_text, text_equal, number_value, found_at}

-- ---- places

pub places_rise : (log : Log) (i j : ℕ) (x y : Entry) → IsKept log → slice_get log.records i ≡ Some x → slice_get log.records j ≡ Some y → i < j → x.offset < y.offset
places_rise log i j x y kept at_i at_j low = let h = (kept.each j y at_j).place i x (take_get j i log.records x low at_i) in omega (arith, h)

-- two records at one place are one
pub one_place : (log : Log) (i j : ℕ) (x y : Entry) → IsKept log → slice_get log.records i ≡ Some x → slice_get log.records j ≡ Some y → x.offset ≡ y.offset → x ≡ y
one_place log i j x y kept at_i at_j same = elim (cases_order i j) [
  | inl is ↦ same_Some x y (sym at_i ∙ (ap (λ (n : ℕ). slice_get log.records n) is ∙ at_j))
  | inr other ↦ absurd (apart other)
]
  where
    apart : (i < j) ⊎ (j < i) → ⊥
    apart (inl low) = omega (arith, places_rise log i j x y kept at_i at_j low, same)
    apart (inr high) = omega (arith, places_rise log j i y x kept at_j at_i high, same)

-- ---- families

-- what passes is kept by a filter
filter_at : (test : Entry → Bool) (x : Entry) (xs : List Entry) (k : ℕ) (r : Entry) (b : Bool) → test x ≡ b
    → ((i : ℕ) → slice_get xs i ≡ Some r → (j : ℕ) × (slice_get (filter test xs) j ≡ Some r)) → slice_get (x ∷ xs) k ≡ Some r → test r ≡ true
    → (j : ℕ) × (slice_get (cond b (x ∷ filter test xs) (filter test xs)) j ≡ Some r)
filter_at test x xs zero r true is rest got passes = (0, got)
filter_at test x xs zero r false is rest got passes = absurd (let a = ap test (same_Some x r got) in let e : true ≡ false = sym passes ∙ (sym a ∙ is) in cc)
filter_at test x xs (suc k) r true is rest got passes = let there = rest k got in (suc there.0, there.1)
filter_at test x xs (suc k) r false is rest got passes = rest k got

pub passes_kept : (test : Entry → Bool) (xs : List Entry) (k : ℕ) (r : Entry) → slice_get xs k ≡ Some r → test r ≡ true → (j : ℕ) × (slice_get (filter test xs) j ≡ Some r)
passes_kept test [] k r got passes = absurd (cc)
passes_kept test (x ∷ xs) k r got passes = filter_at test x xs k r (test x) refl (λ i at. passes_kept test xs i r at passes) got passes

-- the family has a half message at this place
pub family_found : (log : List Entry) (h place : ℕ) → is_of_family log h place ≡ true → (k : ℕ) × (x : Entry) × (slice_get log k ≡ Some x) × (in_family h x ≡ true) × (x.offset ≡ place)
family_found log h place is =
    let found = any_found (λ r. r.offset == place) (family log h) is in
    let there = kept_was_there (in_family h) log found.0 found.1 found.2 in
    (there.0, found.1, there.1, kept_passes (in_family h) log found.0 found.1 found.2, eqb-true found.1.offset place found.3)

pub family_at : (log : List Entry) (h place k : ℕ) (x : Entry) → slice_get log k ≡ Some x → in_family h x ≡ true → x.offset ≡ place → is_of_family log h place ≡ true
family_at log h place k x at is same =
    let there = passes_kept (in_family h) log k x at is in
    any_at (λ r. r.offset == place) (family log h) there.0 x there.1 (eq-eqb x.offset place same)

-- behind a record that names an earlier place no half message has that place
pub old_family : (log : Log) (new : List Entry) (h k : ℕ) (r : Entry) → IsKept (with_appended log new) → slice_get log.records k ≡ Some r
    → r.prepared < r.offset → is_of_family (log.records ++ new) h r.prepared ≡ true → is_of_family log.records h r.prepared ≡ true
old_family log new h k r kept at low is =
    let found = family_found (log.records ++ new) h r.prepared is in
    let r_at : slice_get (log.records ++ new) k ≡ Some r = get_left log.records new k r at in
    elim (get_append log.records new found.0 found.1 found.2) [
      | inl there ↦ family_at log.records h r.prepared found.0 found.1 there found.3 found.4
      | inr later ↦ absurd (let less : k < found.0 = omega (arith, within log.records k r at, later.1) in
          omega (arith, places_rise (with_appended log new) k found.0 r found.1 kept r_at found.2 less, low, found.4))
    ]

-- a part of the log has no copy that the log hasn't
pub copies_part : (log part : List Entry) (h : ℕ) → ((j : ℕ) (x : Entry) → slice_get part j ≡ Some x → (k : ℕ) × (slice_get log k ≡ Some x))
    → (r : Entry) → copies_it part h r ≡ true → copies_it log h r ≡ true
copies_part log part h back r is =
    let parts = and_parts (is_copy r) (is_of_family part h r.prepared) is in
    let found = family_found part h r.prepared parts.1 in
    let there = back found.0 found.1 found.2 in
    and_from (is_copy r) (is_of_family log h r.prepared) parts.0 (family_at log h r.prepared there.0 found.1 there.1 found.3 found.4)

pub copies_take : (log : List Entry) (k h : ℕ) → copies (take k log) h ≤ copies log h
copies_take log k h = omega (
  arith,
  count_le (copies_it (take k log) h) (copies_it log h) (take k log)
      (λ j x at is. copies_part log (take k log) h (λ i y there. (i, (get_take k i log y there).0)) x is),
  count_take (copies_it log h) k log,
)

pub copies_drop : (log : List Entry) (k h : ℕ) → copies (drop k log) h ≤ copies log h
copies_drop log k h = omega (
  arith,
  count_le (copies_it (drop k log) h) (copies_it log h) (drop k log)
      (λ j x at is. copies_part log (drop k log) h (λ i y there. (k + i, drop_get k i log y there)) x is),
  count_drop (copies_it log h) k log,
)

-- ---- origins

open_case : (settled : Bool) (a b : Bool) → (if not settled then Open else (if a then Discarded else (if b then Committed else RolledBack))) ≡ Open → settled ≡ false
open_case false a b is = refl
open_case true true b is = absurd (cc)
open_case true false true is = absurd (cc)
open_case true false false is = absurd (cc)

pub open_unsettled : (log : List Entry) (h : ℕ) → transaction_state log h ≡ Open → is_settled log h ≡ false
open_unsettled log h is = open_case (is_settled log h) (list_any (discards_it log h) log) (list_any (copies_it log h) log) is

pub copy_settles : (log : List Entry) (h : ℕ) (r : Entry) → copies_it log h r ≡ true → settles log h r ≡ true
copy_settles log h r is = middle (names_it h r) (copies_it log h r) (discards_it log h r) is
  where
    middle : (a b c : Bool) → b ≡ true → (a || b || c) ≡ true
    middle true true c e = refl
    middle false true c e = refl
    middle a false c e = absurd (cc)

-- an open origin has no copy
pub open_no_copy : (log : List Entry) (h : ℕ) → transaction_state log h ≡ Open → copies log h ≡ 0
open_no_copy log h is = count_none (copies_it log h) log (λ k x at. elim (cases_Bool (copies_it log h x)) [
  | inl copy ↦ absurd (let a = any_at (settles log h) log k x at (copy_settles log h x copy) in let b = open_unsettled log h is in let e : true ≡ false = sym a ∙ b in cc)
  | inr not ↦ not
])

-- a half message's family is that of its origin
family_case : (h : ℕ) (half : Bool) (text : Option (List ℕ)) (offset : ℕ) (log : List Entry) (r origin : Entry) → h < 2 ^ 64 → r.queue_offset ≡ offset
    → ((half && is_none text && (offset == h)) || (half && is_text (digits_of h) text)) ≡ true → named_origin log text r ≡ Some origin → origin.queue_offset ≡ h
family_case h false text offset log r origin low number is found = absurd (cc)
family_case h true None offset log r origin low number is found =
    let same = same_Some r origin found in
    elim (or_cases (offset == h) false is) [
      | inl here ↦ ap (λ (x : Entry). x.queue_offset) (sym same) ∙ (number ∙ eqb-true offset h here)
      | inr never ↦ absurd (let e = never in cc)
    ]
family_case h true (Some text) offset log r origin low number is found =
    let there = found_at (is_origin (digits_value 10 text)) log origin found in
    let parts = and_parts (is_half origin && is_none (origin_text origin)) (origin.queue_offset == digits_value 10 text) there.2 in
    let named : origin.queue_offset ≡ digits_value 10 text = eqb-true origin.queue_offset (digits_value 10 text) parts.1 in
    let same : text ≡ digits_of h = same_text text (digits_of h) is in
    named ∙ (ap (digits_value 10) same ∙ number_value h low)

pub family_origin : (log : List Entry) (h : ℕ) (half origin : Entry) → h < 2 ^ 64 → in_family h half ≡ true → origin_of log half ≡ Some origin → origin.queue_offset ≡ h
family_origin log h half origin low is found = family_case h (is_half half) (origin_text half) half.queue_offset log half origin low refl is found

-- and each half message is of that family
own_case : (text : Option (List ℕ)) (offset g : ℕ) (log : List Entry) (r origin : Entry) → IsNumberText text → r.queue_offset ≡ offset → origin.queue_offset ≡ g
    → named_origin log text r ≡ Some origin → ((true && is_none text && (offset == g)) || (true && is_text (digits_of g) text)) ≡ true
own_case None offset g log r origin number same is found =
    let one = same_Some r origin found in
    or_true (offset == g) false (eq-eqb offset g (sym same ∙ (ap (λ (x : Entry). x.queue_offset) one ∙ is)))
  where
    or_true : (a b : Bool) → a ≡ true → (a || b) ≡ true
    or_true true b e = refl
    or_true false b e = absurd (cc)
own_case (Some text) offset g log r origin number same is found =
    let there = found_at (is_origin (digits_value 10 text)) log origin found in
    let parts = and_parts (is_half origin && is_none (origin_text origin)) (origin.queue_offset == digits_value 10 text) there.2 in
    let named : origin.queue_offset ≡ digits_value 10 text = eqb-true origin.queue_offset (digits_value 10 text) parts.1 in
    let value : digits_value 10 text ≡ number.0 = ap (digits_value 10) number.2 ∙ number_value number.0 number.1 in
    let g_is : g ≡ number.0 = sym is ∙ (named ∙ value) in
    text_equal text (digits_of g) (number.2 ∙ ap digits_of (sym g_is))

pub own_family : (log : List Entry) (half origin : Entry) → is_half half ≡ true → IsNumberText (origin_text half) → origin_of log half ≡ Some origin
    → in_family origin.queue_offset half ≡ true
own_family log half origin is number found =
    subst (λ (b : Bool). ((b && is_none (origin_text half) && (half.queue_offset == origin.queue_offset)) || (b && is_text (digits_of origin.queue_offset) (origin_text half))) ≡ true)
    (sym is) (own_case (origin_text half) half.queue_offset origin.queue_offset log half origin number refl refl found)
