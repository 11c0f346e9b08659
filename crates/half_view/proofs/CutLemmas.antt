-- The table of a log without its first records.
use Rattle.std.proofs.Common.{◌≡◌, ◌∙◌, ◌⊎◌, inl, inr, ℕ, zero, suc, ◌+◌, ◌-◌, ◌<◌, ◌≤◌, ◌^◌, ◌&&◌, ◌||◌, Bool, true, false, cond, min, List, [], ◌∷◌, ◌++◌, length, map, take, drop, filter, slice_get, Some, refl, sym, ap, subst, arith}
use Rattle.std.specs.Prelude.{nat_eq, nat_lt, nat_le, not, bit_and, if◌then◌else◌}
use Rattle.std.specs.List.{list_any, position_or_len}
use Rattle.std.proofs.lemmas.Bool.{cases_lt, cases_Bool, eqb-true, ne_eqb, lt-ltb, le-leb, leb-true}
use Rattle.std.proofs.lemmas.List.{take-append-drop, length-take-le}
use Rattle.std.proofs.lemmas.List.Elements.{filter-append}
use Rattle.record_codec.specs.Entry.{Entry}
use Rattle.log_model.specs.Admissible.{half_topic}
use Rattle.log_model.specs.Bases.{Base, Geometry, geometry}
use Rattle.log_model.specs.Kinds.{is_half, is_copy, is_discard}
use Rattle.log_model.specs.Log.{IsWellFormed}
use Rattle.log_model.specs.Numbered.{Log, above}
use Rattle.log_model.specs.Origins.{told_state}
use Rattle.log_model.specs.Transactions.{is_origin, is_renewal, renewals, family, is_of_family, names_it, copies_it, discards_it, settles, is_settled, transaction_state, TransactionState, Open, Committed, RolledBack, Discarded, last_of}
use Rattle.log_model.proofs.Lists.{get_take, take_get}
use Rattle.log_model.proofs.Places.{well_formed_take}
use Rattle.half_view.specs.declared.row.HalfRow.{HalfRow}
use Rattle.half_view.specs.Halves.{HalfTable, names_or, cut_at}
use Rattle.half_view.specs.OfLog.{named_by, due_after, last_or, after_last, half_of, AreHalvesOf, CutsHalves}
use Rattle.half_view.proofs.ListLemmas.{get_there, get_within}
use Rattle.half_view.proofs.LogLemmas.{half_number, halves_are, ends_past, rising, rising_at, kept_was, unrenewed, unnamed, not_origin}
use Rattle.half_view.proofs.GrowthLemmas.{low_number}

-- ---- lists with a front in which nothing passes

-- no item passes
Fails : (Entry → Bool) → List Entry → Type 0
Fails p xs = (k : ℕ) (x : Entry) → slice_get xs k ≡ Some x → p x ≡ false

filter_none : (p : Entry → Bool) (xs : List Entry) → Fails p xs → filter p xs ≡ []
unfolding Fails
filter_none p [] fails = refl
filter_none p (x ∷ xs) fails = ap (λ (b : Bool). cond b (x ∷ filter p xs) (filter p xs)) (fails 0 x refl) ∙ filter_none p xs (λ k e got. fails (suc k) e got)

filter_behind : (p : Entry → Bool) (xs ys : List Entry) → Fails p xs → filter p (xs ++ ys) ≡ filter p ys
filter_behind p xs ys fails = filter-append p xs ys ∙ ap (λ (l : List Entry). l ++ filter p ys) (filter_none p xs fails)

any_behind : (p : Entry → Bool) (xs ys : List Entry) → Fails p xs → list_any p (xs ++ ys) ≡ list_any p ys
unfolding Fails
any_behind p [] ys fails = refl
any_behind p (x ∷ xs) ys fails = ap (λ (b : Bool). b || list_any p (xs ++ ys)) (fails 0 x refl) ∙ any_behind p xs ys (λ k e got. fails (suc k) e got)

or_zero : (m : ℕ) → cond (nat_lt 0 m) m 0 ≡ m
or_zero zero = refl
or_zero (suc m) = ap (λ (b : Bool). cond b (suc m) 0) (lt-ltb 0 (suc m) (omega arith))

last_behind : (p : Entry → Bool) (n : ℕ) (xs ys : List Entry) → Fails p xs → after_last p n (xs ++ ys) ≡ after_last p (n + length xs) ys
unfolding Fails
last_behind p n [] ys fails = ap (λ (m : ℕ). after_last p m ys) (let e : n ≡ n + 0 = omega arith in e)
last_behind p n (x ∷ xs) ys fails =
    ap (λ (m : ℕ). cond (nat_lt 0 m) m (cond (p x) (n + 1) 0)) (last_behind p (n + 1) xs ys (λ k e got. fails (suc k) e got))
    ∙ ap (λ (b : Bool). cond (nat_lt 0 (after_last p (n + 1 + length xs) ys)) (after_last p (n + 1 + length xs) ys) (cond b (n + 1) 0)) (fails 0 x refl)
    ∙ or_zero (after_last p (n + 1 + length xs) ys)
    ∙ ap (λ (m : ℕ). after_last p m ys) (let e : n + 1 + length xs ≡ n + suc (length xs) = omega arith in e)

any_fails : (p : Entry → Bool) (xs : List Entry) → Fails p xs → list_any p xs ≡ false
unfolding Fails
any_fails p [] fails = refl
any_fails p (x ∷ xs) fails = ap (λ (b : Bool). b || list_any p xs) (fails 0 x refl) ∙ any_fails p xs (λ k e got. fails (suc k) e got)

drop_get : {A : Type 0} (xs : List A) (n i : ℕ) → slice_get (drop n xs) i ≡ slice_get xs (n + i)
drop_get xs zero i = ap (slice_get xs) (let e : i ≡ 0 + i = omega arith in e)
drop_get [] (suc n) i = refl
drop_get (x ∷ xs) (suc n) i = drop_get xs n i ∙ ap (slice_get (x ∷ xs)) (let e : suc (n + i) ≡ suc n + i = omega arith in e)

-- ---- rows by their places

not_le : (a b : ℕ) → b < a → nat_le a b ≡ false
not_le a b less = elim (cases_Bool (nat_le a b)) [
  | inl is ↦ absurd (let most = leb-true a b is in omega (arith, most, less))
  | inr is ↦ is
]

-- each stands below the place, and each at it or past it
AreBefore : ℕ → List Entry → Type 0
AreBefore place xs = (k : ℕ) (x : Entry) → slice_get xs k ≡ Some x → x.offset < place

AreFrom : ℕ → List Entry → Type 0
AreFrom place xs = (k : ℕ) (x : Entry) → slice_get xs k ≡ Some x → place ≤ x.offset

rows_left : (log : Log) (place : ℕ) (xs ys : List Entry) → AreBefore place xs → AreFrom place ys
    → filter (λ (row : HalfRow). nat_le place row.place) (map (half_of log) (xs ++ ys)) ≡ map (half_of log) ys
unfolding AreBefore AreFrom
rows_left log place [] [] low high = refl
rows_left log place [] (y ∷ ys) low high =
    let rest = filter (λ (row : HalfRow). nat_le place row.place) (map (half_of log) ys) in
    ap (λ (b : Bool). cond b (half_of log y ∷ rest) rest) (le-leb place y.offset (high 0 y refl))
    ∙ ap (λ (rows : List HalfRow). half_of log y ∷ rows) (rows_left log place [] ys low (λ k x at. high (suc k) x at))
rows_left log place (x ∷ xs) ys low high =
    let rest = filter (λ (row : HalfRow). nat_le place row.place) (map (half_of log) (xs ++ ys)) in
    ap (λ (b : Bool). cond b (half_of log x ∷ rest) rest) (not_le place x.offset (low 0 x refl))
    ∙ rows_left log place xs ys (λ k e at. low (suc k) e at) high

first_left : (log : Log) (place : ℕ) (xs ys : List Entry) → AreBefore place xs → AreFrom place ys
    → position_or_len (λ (row : HalfRow). nat_le place row.place) (map (half_of log) (xs ++ ys)) ≡ length xs
unfolding AreBefore AreFrom
first_left log place [] [] low high = refl
first_left log place [] (y ∷ ys) low high =
    by_test (nat_le place y.offset) (position_or_len (λ (row : HalfRow). nat_le place row.place) (map (half_of log) ys)) (le-leb place y.offset (high 0 y refl))
  where
    by_test : (b : Bool) (m : ℕ) → b ≡ true → cond (not b) (1 + m) 0 ≡ 0
    by_test true m is = refl
    by_test false m is = cc is
first_left log place (x ∷ xs) ys low high =
    let more = first_left log place xs ys (λ k e at. low (suc k) e at) high in
    ap (λ (b : Bool). cond (not b) (1 + position_or_len (λ (row : HalfRow). nat_le place row.place) (map (half_of log) (xs ++ ys))) 0) (not_le place x.offset (low 0 x refl))
    ∙ (let e : 1 + position_or_len (λ (row : HalfRow). nat_le place row.place) (map (half_of log) (xs ++ ys)) ≡ suc (length xs) = omega (arith, more) in e)

-- ---- a half message of a log, and what stands before it

state_by : Bool → Bool → Bool → TransactionState
state_by settled discarded copied = if not settled then Open else (if discarded then Discarded else (if copied then Committed else RolledBack))

-- a row of these parts
row_by : Entry → List Entry → ℕ → TransactionState → HalfRow
row_by e renewed settled state = record {
  place = e.offset;
  names = names_or e.queue_offset (named_by e);
  due = due_after e (last_of renewed);
  last = last_or e.queue_offset (last_of renewed);
  settled = settled;
  checks = min (length renewed) (2 ^ 32 - 1);
  state = told_state state;
}

module _ (S : Geometry) (log : List Entry) (i : ℕ) (e : Entry) (well : IsWellFormed S log) (got : slice_get log i ≡ Some e) (is : is_half e ≡ true) where
  front_well : IsWellFormed S (take i log)
  front_well = well_formed_take S i log well

  number : e.queue_offset ≡ S.base.queues half_topic 0 + length (filter is_half (take i log))
  number = half_number S (take i log) e front_well (well.each i e got) is

  small : S.base.queues half_topic 0 + length (filter is_half (take i log)) < 2 ^ 64
  small = let low = low_number e (well.each i e got).layout in let n = number in omega (arith, low, n)

  unrenewed_before : (k : ℕ) (x : Entry) → k < i → slice_get log k ≡ Some x → is_renewal e.queue_offset x ≡ false
  unrenewed_before k x less at = ap (λ (h : ℕ). is_renewal h x) number ∙ unrenewed S (take i log) front_well small k x (take_get i k log x less at)

  unnamed_before : (k : ℕ) (x : Entry) → k < i → slice_get log k ≡ Some x → names_it e.queue_offset x ≡ false
  unnamed_before k x less at = ap (λ (h : ℕ). names_it h x) number ∙ unnamed S (take i log) front_well small k x (take_get i k log x less at)

  no_member : (k : ℕ) (x : Entry) → k < i → slice_get log k ≡ Some x → (is_origin e.queue_offset x || is_renewal e.queue_offset x) ≡ false
  no_member k x less at =
      ap (λ (b : Bool). b || is_renewal e.queue_offset x) (ap (λ (h : ℕ). is_origin h x) number ∙ not_origin S (take i log) front_well small k x (take_get i k log x less at))
      ∙ unrenewed_before k x less at

  -- its family stands at its place and behind
  no_family_at : (place : ℕ) → place < e.offset → is_of_family log e.queue_offset place ≡ false
  unfolding Fails
  no_family_at place low = any_fails (λ (y : Entry). nat_eq y.offset place) (family log e.queue_offset)
      (λ m y at. let was = kept_was (λ x. is_origin e.queue_offset x || is_renewal e.queue_offset x) log m y at in by_order was.0 y was.1 was.2 (cases_lt was.0 i))
    where
      by_order : (j : ℕ) (y : Entry) → slice_get log j ≡ Some y → (is_origin e.queue_offset y || is_renewal e.queue_offset y) ≡ true → (j < i) ⊎ (i ≤ j) → nat_eq y.offset place ≡ false
      by_order j y at member (inl less) = cc (sym member ∙ no_member j y less at)
      by_order j y at member (inr more) = ne_eqb y.offset place (λ same. let high = from_it j y at more (cases_lt i j) in omega (arith, high, low, same))
        where
          from_it : (j : ℕ) (y : Entry) → slice_get log j ≡ Some y → i ≤ j → (i < j) ⊎ (j ≤ i) → e.offset ≤ y.offset
          from_it j y at more (inl past) = let rises = rising_at log (rising S log well) i j e y past got at in omega (arith, rises)
          from_it j y at more (inr most) =
              let same : i ≡ j = omega (arith, more, most) in
              let one : Some e ≡ Some y = sym got ∙ ap (λ (n : ℕ). slice_get log n) same ∙ at in
              let offsets : e.offset ≡ y.offset = ap (λ (z : Entry). z.offset) (let z : e ≡ y = cc one in z) in
              omega (arith, offsets)

  earlier_place : (k : ℕ) (x : Entry) → k < i → slice_get log k ≡ Some x → x.offset < e.offset
  earlier_place k x less at = rising_at log (rising S log well) k i x e less at got

  under : (a b : Bool) → (a ≡ true → b ≡ false) → (a && b) ≡ false
  under true b fails = fails refl
  under false b fails = refl

  uncopied_before : (k : ℕ) (x : Entry) → k < i → slice_get log k ≡ Some x → copies_it log e.queue_offset x ≡ false
  uncopied_before k x less at = under (is_copy x) (is_of_family log e.queue_offset x.prepared)
      (λ copy. no_family_at x.prepared (let past = (well.each k x at).admissible.copy (eqb-true (bit_and x.sysflag 12) 8 copy) in let low = earlier_place k x less at in omega (arith, past, low)))

  undiscarded_before : (k : ℕ) (x : Entry) → k < i → slice_get log k ≡ Some x → discards_it log e.queue_offset x ≡ false
  undiscarded_before k x less at = under (is_discard x) (is_of_family log e.queue_offset x.prepared)
      (λ discard. no_family_at x.prepared (let past = (well.each k x at).admissible.discard discard in let low = earlier_place k x less at in omega (arith, past, low)))

  unsettled_before : (k : ℕ) (x : Entry) → k < i → slice_get log k ≡ Some x → settles log e.queue_offset x ≡ false
  unsettled_before k x less at =
      ap (λ (b : Bool). b || copies_it log e.queue_offset x || discards_it log e.queue_offset x) (unnamed_before k x less at)
      ∙ ap (λ (b : Bool). false || b || discards_it log e.queue_offset x) (uncopied_before k x less at)
      ∙ undiscarded_before k x less at

  -- ---- its row without the records before it

  module _ (n : ℕ) (most : n ≤ i) where
    in_front : (p : Entry → Bool) → ((k : ℕ) (x : Entry) → k < i → slice_get log k ≡ Some x → p x ≡ false) → Fails p (take n log)
    unfolding Fails
    in_front p fails k x at = let was = get_take n k log x at in fails k x (let less = was.1 in omega (arith, less, most)) was.0

    split : log ≡ take n log ++ drop n log
    split = sym (take-append-drop n log)

    family_left : family log e.queue_offset ≡ family (drop n log) e.queue_offset
    family_left =
        let member = λ (x : Entry). is_origin e.queue_offset x || is_renewal e.queue_offset x in
        ap (filter member) split ∙ filter_behind member (take n log) (drop n log) (in_front member no_member)

    renewals_left : renewals log e.queue_offset ≡ renewals (drop n log) e.queue_offset
    renewals_left = ap (filter (is_renewal e.queue_offset)) split ∙ filter_behind (is_renewal e.queue_offset) (take n log) (drop n log) (in_front (is_renewal e.queue_offset) unrenewed_before)

    copies_left : copies_it log e.queue_offset ≡ copies_it (drop n log) e.queue_offset
    copies_left = ap {B = Entry → Bool} (λ (fam : List Entry) (r : Entry). is_copy r && list_any (λ q. nat_eq q.offset r.prepared) fam) family_left

    discards_left : discards_it log e.queue_offset ≡ discards_it (drop n log) e.queue_offset
    discards_left = ap {B = Entry → Bool} (λ (fam : List Entry) (r : Entry). is_discard r && list_any (λ q. nat_eq q.offset r.prepared) fam) family_left

    settles_left : settles log e.queue_offset ≡ settles (drop n log) e.queue_offset
    settles_left = ap {B = Entry → Bool} (λ (fam : List Entry) (r : Entry).
        names_it e.queue_offset r || (is_copy r && list_any (λ q. nat_eq q.offset r.prepared) fam) || (is_discard r && list_any (λ q. nat_eq q.offset r.prepared) fam)) family_left

    any_left : (p : Entry → Bool) → ((k : ℕ) (x : Entry) → k < i → slice_get log k ≡ Some x → p x ≡ false) → list_any p log ≡ list_any p (drop n log)
    any_left p fails = ap (list_any p) split ∙ any_behind p (take n log) (drop n log) (in_front p fails)

    state_left : transaction_state log e.queue_offset ≡ transaction_state (drop n log) e.queue_offset
    unfolding state_by
    state_left =
        let h = e.queue_offset in
        let rest = drop n log in
        ap (λ (b : Bool). state_by b (list_any (discards_it log h) log) (list_any (copies_it log h) log))
        (any_left (settles log h) unsettled_before ∙ ap (λ (p : Entry → Bool). list_any p rest) settles_left)
        ∙ ap (λ (b : Bool). state_by (is_settled rest h) b (list_any (copies_it log h) log))
        (any_left (discards_it log h) undiscarded_before ∙ ap (λ (p : Entry → Bool). list_any p rest) discards_left)
        ∙ ap (λ (b : Bool). state_by (is_settled rest h) (list_any (discards_it rest h) rest) b)
        (any_left (copies_it log h) uncopied_before ∙ ap (λ (p : Entry → Bool). list_any p rest) copies_left)

    settled_left : (base later : ℕ) → later ≡ base + length (take n log) → after_last (settles log e.queue_offset) base log ≡ after_last (settles (drop n log) e.queue_offset) later (drop n log)
    settled_left base later counts =
        let h = e.queue_offset in
        let rest = drop n log in
        ap (after_last (settles log h) base) split
        ∙ last_behind (settles log h) base (take n log) rest (in_front (settles log h) unsettled_before)
        ∙ ap (λ (m : ℕ). after_last (settles log h) m rest) (sym counts)
        ∙ ap (λ (p : Entry → Bool). after_last p later rest) settles_left

-- ---- the table

module _ (segment n : ℕ) (log : Log) (later : Base) (well : IsWellFormed (geometry segment log.base) log.records) (cut : CutsHalves log n later) where
  rest_log : Log
  rest_log = record { base = later; records = drop n log.records }

  above_is : above log later ≡ rest_log
  unfolding rest_log
  above_is = ap (λ (m : ℕ). record { base = later; records = drop m log.records })
      (let counts = cut.records in let all = length-take-le n log.records cut.long in let e : later.records - log.base.records ≡ n = omega (arith, counts, all) in e)

  row_left : (i : ℕ) (e : Entry) → slice_get log.records i ≡ Some e → is_half e ≡ true → n ≤ i → half_of log e ≡ half_of rest_log e
  unfolding row_by rest_log
  row_left i e got is most =
      let S = geometry segment log.base in
      let h = e.queue_offset in
      let rest = drop n log.records in
      ap (λ (l : List Entry). row_by e l (after_last (settles log.records h) log.base.records log.records) (transaction_state log.records h)) (renewals_left S log.records i e well got is n most)
      ∙ ap (λ (m : ℕ). row_by e (renewals rest h) m (transaction_state log.records h)) (settled_left S log.records i e well got is n most log.base.records later.records cut.records)
      ∙ ap (λ (s : TransactionState). row_by e (renewals rest h) (after_last (settles rest h) later.records rest) s) (state_left S log.records i e well got is n most)

  rows_same : (xs : List Entry) → ((k : ℕ) (x : Entry) → slice_get xs k ≡ Some x → half_of log x ≡ half_of rest_log x) → map (half_of log) xs ≡ map (half_of rest_log) xs
  rows_same [] same = refl
  rows_same (x ∷ xs) same =
      ap (λ (row : HalfRow). row ∷ map (half_of log) xs) (same 0 x refl) ∙ ap (λ (rows : List HalfRow). half_of rest_log x ∷ rows) (rows_same xs (λ k y at. same (suc k) y at))

  gone : List Entry
  gone = filter is_half (take n log.records)

  left : List Entry
  left = filter is_half (drop n log.records)

  all_are : filter is_half log.records ≡ gone ++ left
  unfolding gone left
  all_are = ap (filter is_half) (sym (take-append-drop n log.records)) ∙ filter-append is_half (take n log.records) (drop n log.records)

  gone_before : AreBefore later.place gone
  unfolding AreBefore gone
  gone_before k x at =
      let was = kept_was is_half (take n log.records) k x at in
      let there = get_take n was.0 log.records x was.1 in
      let past = ends_past (geometry segment log.base) log.records well n cut.long was.0 x there.1 there.0 in
      let behind = cut.behind in
      omega (arith, past, behind)

  rest_from : (j : ℕ) (x : Entry) → slice_get log.records j ≡ Some x → n ≤ j → (n < j) ⊎ (j ≤ n) → later.place ≤ x.offset
  rest_from j x at more (inl past) =
      let within = get_within log.records j x at in
      let first = get_there log.records n (omega (arith, within, past)) in
      let from = cut.before first.0 first.1 in
      let rises = rising_at log.records (rising (geometry segment log.base) log.records well) n j first.0 x past first.1 at in
      omega (arith, from, rises)
  rest_from j x at more (inr most) =
      cut.before x ((let same : n ≡ j = omega (arith, more, most) in ap (λ (m : ℕ). slice_get log.records m) same) ∙ at)

  left_is : (k : ℕ) (x : Entry) → slice_get left k ≡ Some x → (j : ℕ) × (slice_get log.records j ≡ Some x) × (n ≤ j) × (is_half x ≡ true)
  unfolding left
  left_is k x at =
      let was = kept_was is_half (drop n log.records) k x at in
      (n + was.0, sym (drop_get log.records n was.0) ∙ was.1, omega arith, was.2)

  left_from : AreFrom later.place left
  unfolding AreFrom
  left_from k x at = let it = left_is k x at in rest_from it.0 x it.1 it.2 (cases_lt n it.0)

  -- the table that was cut is that of the log above the base
  pub cut_follows : (t : HalfTable) (spare : ℕ) → AreHalvesOf log t → AreHalvesOf (above log later) (cut_at t later.place spare)
  unfolding rest_log gone left
  cut_follows t spare are =
      let all = are.halves ∙ ap (map (half_of log)) all_are in
      subst (λ (l : Log). AreHalvesOf l (cut_at t later.place spare)) (sym above_is)
      (record {
        low =
            ap (λ (rows : List HalfRow). t.low + position_or_len (λ (row : HalfRow). nat_le later.place row.place) rows) all
            ∙ ap (λ (m : ℕ). t.low + m) (first_left log later.place gone left gone_before left_from)
            ∙ ap (λ (m : ℕ). m + length gone) are.low
            ∙ ap (λ (l : List Entry). log.base.queues half_topic 0 + length l) (halves_are (geometry segment log.base) (take n log.records) (well_formed_take (geometry segment log.base) n log.records well))
            ∙ sym cut.halves;
        halves =
            ap (filter (λ (row : HalfRow). nat_le later.place row.place)) all
            ∙ rows_left log later.place gone left gone_before left_from
            ∙ rows_same left (λ k x at. let it = left_is k x at in row_left it.0 x it.1 it.3 it.2);
      })
