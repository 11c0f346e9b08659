-- The keys of a log without its first records.
use Rattle.std.proofs.Common.{◌≡◌, ◌∙◌, ◌⊎◌, inl, inr, ℕ, zero, suc, ◌+◌, ◌-◌, ◌<◌, ◌≤◌, Bool, false, cond, List, [], ◌∷◌, ◌++◌, map, length, take, drop, get_or, slice_get, Some, refl, sym, ap, arith}
use Rattle.std.specs.Prelude.{nat_le, filter}
use Rattle.std.specs.List.Sorted.{IsNonDecreasingBy}
use Rattle.std.proofs.lemmas.Bool.{cases_lt, cases_Bool, le-leb, leb-true}
use Rattle.std.proofs.lemmas.List.{take-append-drop, length-take-le}
use Rattle.std.proofs.lemmas.List.Elements.{filter-append}
use Rattle.std.proofs.lemmas.Option.{same_Some}
use Rattle.record_codec.specs.Entry.{Entry}
use Rattle.record_codec.specs.Layout.{size}
use Rattle.log_model.specs.Bases.{Base}
use Rattle.log_model.specs.Keys.{index_keys}
use Rattle.log_model.specs.Log.{end_from}
use Rattle.log_model.specs.Numbered.{Log, above}
use Rattle.log_model.proofs.Lists.{get_take, get_within}
use Rattle.key_view.specs.Entries.{KeyEntry, place_of, entries_in, key_entries, AreRising, CutsKeys}

-- ---- the keys of one record

keys_from : (place : ℕ) (r : Entry) (hashes : List ℕ) → place ≤ r.offset
    → filter (λ (e : KeyEntry). nat_le place e.place) (map (λ hash. record { hash = hash; place = r.offset; store = r.store }) hashes)
    ≡ map (λ hash. record { hash = hash; place = r.offset; store = r.store }) hashes
keys_from place r [] high = refl
keys_from place r (h ∷ hashes) high =
    let key : ℕ → KeyEntry = λ hash. record { hash = hash; place = r.offset; store = r.store } in
    let rest = filter (λ (e : KeyEntry). nat_le place e.place) (map key hashes) in
    ap (λ (b : Bool). cond b (key h ∷ rest) rest) (le-leb place r.offset high) ∙ ap (λ (es : List KeyEntry). key h ∷ es) (keys_from place r hashes high)

not_le : (a b : ℕ) → b < a → nat_le a b ≡ false
not_le a b less = elim (cases_Bool (nat_le a b)) [
  | inl is ↦ absurd (let most = leb-true a b is in omega (arith, most, less))
  | inr is ↦ is
]

keys_before : (place : ℕ) (r : Entry) (hashes : List ℕ) → r.offset < place
    → filter (λ (e : KeyEntry). nat_le place e.place) (map (λ hash. record { hash = hash; place = r.offset; store = r.store }) hashes) ≡ []
keys_before place r [] low = refl
keys_before place r (h ∷ hashes) low =
    let key : ℕ → KeyEntry = λ hash. record { hash = hash; place = r.offset; store = r.store } in
    let rest = filter (λ (e : KeyEntry). nat_le place e.place) (map key hashes) in
    ap (λ (b : Bool). cond b (key h ∷ rest) rest) (not_le place r.offset low) ∙ keys_before place r hashes low

-- ---- the keys of records, the first of which stand before a place

AreBefore : ℕ → List Entry → Type 0
AreBefore place xs = (k : ℕ) (x : Entry) → slice_get xs k ≡ Some x → x.offset < place

AreFrom : ℕ → List Entry → Type 0
AreFrom place xs = (k : ℕ) (x : Entry) → slice_get xs k ≡ Some x → place ≤ x.offset

keys_left : (place : ℕ) (xs ys : List Entry) → AreBefore place xs → AreFrom place ys → filter (λ (e : KeyEntry). nat_le place e.place) (key_entries (xs ++ ys)) ≡ key_entries ys
unfolding AreBefore AreFrom
keys_left place [] [] low high = refl
keys_left place [] (y ∷ ys) low high =
    let test = λ (e : KeyEntry). nat_le place e.place in
    filter-append test (entries_in y) (key_entries ys)
    ∙ ap (λ (es : List KeyEntry). es ++ filter test (key_entries ys)) (keys_from place y (index_keys y) (high 0 y refl))
    ∙ ap (λ (es : List KeyEntry). entries_in y ++ es) (keys_left place [] ys low (λ k x at. high (suc k) x at))
keys_left place (x ∷ xs) ys low high =
    let test = λ (e : KeyEntry). nat_le place e.place in
    filter-append test (entries_in x) (key_entries (xs ++ ys))
    ∙ ap (λ (es : List KeyEntry). es ++ filter test (key_entries (xs ++ ys))) (keys_before place x (index_keys x) (low 0 x refl))
    ∙ keys_left place xs ys (λ k e at. low (suc k) e at) high

-- ---- a log without its first records

-- a front ends where its last record ends
front_end : (place : ℕ) (log : List Entry) (m : ℕ) (x : Entry) → slice_get log m ≡ Some x → end_from place (take (suc m) log) ≡ x.offset + size x
front_end place [] m x at = cc at
front_end place (y ∷ log) zero x at = ap (λ (z : Entry). z.offset + size z) (same_Some y x at)
front_end place (y ∷ log) (suc m) x at = front_end (y.offset + size y) log m x at

drop_get : {A : Type 0} (xs : List A) (n i : ℕ) → slice_get (drop n xs) i ≡ slice_get xs (n + i)
drop_get xs zero i = ap (slice_get xs) (let e : i ≡ 0 + i = omega arith in e)
drop_get [] (suc n) i = refl
drop_get (x ∷ xs) (suc n) i = drop_get xs n i ∙ ap (slice_get (x ∷ xs)) (let e : suc (n + i) ≡ suc n + i = omega arith in e)

there_within : {A : Type 0} (xs : List A) (k : ℕ) (x : A) → slice_get xs k ≡ Some x → k < length xs
there_within [] k x at = cc at
there_within (y ∷ xs) zero x at = omega arith
there_within (y ∷ xs) (suc k) x at = let low = there_within xs k x at in omega (arith, low)

module _ (log : Log) (later : Base) (rising : AreRising log.records) where
  -- the first n records stand before the place
  before_place : (n : ℕ) → n ≤ length log.records → end_from log.base.place (take n log.records) ≤ later.place → (k : ℕ) (x : Entry) → k < n → slice_get log.records k ≡ Some x → x.offset < later.place
  before_place zero long behind k x less at = absurd (omega (arith, less))
  before_place (suc m) long behind k x less at =
      let last = get_within log.records m (omega (arith, long)) in
      let ends = front_end log.base.place log.records m last.0 last.1 in
      let some : 0 < size last.0 = omega arith in
      by_order last.0 last.1 (let low : last.0.offset < later.place = omega (arith, ends, some, behind) in low) (cases_lt k m)
    where
      by_order : (y : Entry) → slice_get log.records m ≡ Some y → y.offset < later.place → (k < m) ⊎ (m ≤ k) → x.offset < later.place
      by_order y there low (inl past) = let rises = rising k m x y past at there in omega (arith, rises, low)
      by_order y there low (inr most) =
          let same : k ≡ m = omega (arith, most, less) in
          let one : x ≡ y = same_Some x y (sym at ∙ ap (λ (j : ℕ). slice_get log.records j) same ∙ there) in
          let offset : x.offset ≡ y.offset = ap (λ (z : Entry). z.offset) one in
          omega (arith, offset, low)

  from_place : (n : ℕ) → ((r : Entry) → slice_get log.records n ≡ Some r → later.place ≤ r.offset) → (k : ℕ) (x : Entry) → n ≤ k → slice_get log.records k ≡ Some x → (n < k) ⊎ (k ≤ n) → later.place ≤ x.offset
  from_place n before k x more at (inl past) =
      let within = there_within log.records k x at in
      let first = get_within log.records n (omega (arith, within, past)) in
      let from = before first.0 first.1 in
      let rises = rising n k first.0 x past first.1 at in
      omega (arith, from, rises)
  from_place n before k x more at (inr most) = before x ((let same : n ≡ k = omega (arith, more, most) in ap (λ (j : ℕ). slice_get log.records j) same) ∙ at)

  -- the keys at the place and behind are those of the log above the base
  pub keys_cut : (n : ℕ) → CutsKeys log n later → filter (λ (e : KeyEntry). nat_le later.place e.place) (key_entries log.records) ≡ key_entries (above log later).records
  unfolding AreBefore AreFrom
  keys_cut n cut =
      let counts = cut.records in
      let full = length-take-le n log.records cut.long in
      let gone : later.records - log.base.records ≡ n = omega (arith, counts, full) in
      let front = take n log.records in
      let rest = drop n log.records in
      ap (λ (rs : List Entry). filter (λ (e : KeyEntry). nat_le later.place e.place) (key_entries rs)) (sym (take-append-drop n log.records))
      ∙ keys_left later.place front rest
      (λ k x at. let was = get_take n k log.records x at in before_place n cut.long cut.behind k x was.1 was.0)
      (λ k x at. let more : n ≤ n + k = omega arith in from_place n cut.before (n + k) x more (sym (drop_get log.records n k) ∙ at) (cases_lt n (n + k)))
      ∙ ap (λ (j : ℕ). key_entries (drop j log.records)) (sym gone)

-- ---- the places of a log's keys don't fall

AllFrom : ℕ → List KeyEntry → Type 0
AllFrom place [] = Unit {0}
AllFrom place (e ∷ es) = (place ≤ e.place) × AllFrom place es

Rises : List KeyEntry → Type 0
Rises [] = Unit {0}
Rises (e ∷ es) = AllFrom e.place es × Rises es

from_at : (place : ℕ) (es : List KeyEntry) → AllFrom place es → (k : ℕ) (d : KeyEntry) → k < length es → place ≤ (get_or es k d).place
unfolding AllFrom
from_at place [] all k d within = absurd (omega (arith, within))
from_at place (e ∷ es) all zero d within = all.0
from_at place (e ∷ es) all (suc k) d within = from_at place es all.1 k d (omega (arith, within))

rises_at : (es : List KeyEntry) → Rises es → (i j : ℕ) (d : KeyEntry) → i ≤ j → j < length es → (get_or es i d).place ≤ (get_or es j d).place
unfolding Rises
rises_at [] rises i j d most within = absurd (omega (arith, within))
rises_at (e ∷ es) rises zero zero d most within = omega arith
rises_at (e ∷ es) rises zero (suc j) d most within = from_at e.place es rises.0 j d (omega (arith, within))
rises_at (e ∷ es) rises (suc i) zero d most within = absurd (omega (arith, most))
rises_at (e ∷ es) rises (suc i) (suc j) d most within = rises_at es rises.1 i j d (omega (arith, most)) (omega (arith, within))

all_from : (place : ℕ) (r : Entry) (hashes : List ℕ) (es : List KeyEntry) → place ≤ r.offset → AllFrom place es
    → AllFrom place (map (λ hash. record { hash = hash; place = r.offset; store = r.store }) hashes ++ es)
unfolding AllFrom
all_from place r [] es low all = all
all_from place r (h ∷ hashes) es low all = (low, all_from place r hashes es low all)

all_behind : (place : ℕ) (log : List Entry) → ((k : ℕ) (x : Entry) → slice_get log k ≡ Some x → place ≤ x.offset) → AllFrom place (key_entries log)
unfolding AllFrom
all_behind place [] from = tt
all_behind place (r ∷ log) from = all_from place r (index_keys r) (key_entries log) (from 0 r refl) (all_behind place log (λ k x at. from (suc k) x at))

rises_with : (r : Entry) (hashes : List ℕ) (es : List KeyEntry) → AllFrom r.offset es → Rises es → Rises (map (λ hash. record { hash = hash; place = r.offset; store = r.store }) hashes ++ es)
unfolding Rises
rises_with r [] es all rises = rises
rises_with r (h ∷ hashes) es all rises = (all_from r.offset r hashes es (omega arith) all, rises_with r hashes es all rises)

log_rises : (log : List Entry) → AreRising log → Rises (key_entries log)
unfolding Rises
log_rises [] rising = tt
log_rises (r ∷ log) rising =
    rises_with r (index_keys r) (key_entries log)
    (all_behind r.offset log (λ k x at. let past = rising 0 (suc k) r x (omega arith) refl at in omega (arith, past)))
    (log_rises log (λ i j a b less at there. rising (suc i) (suc j) a b (omega (arith, less)) at there))

-- so that the table of a log may be cut
pub places_rise : (log : List Entry) → AreRising log → IsNonDecreasingBy place_of (key_entries log)
places_rise log rising i j d most within = rises_at (key_entries log) (log_rises log rising) i j d most within
