-- What the table of a log says is what the log says.
use Rattle.std.proofs.Common.{◌≡◌, ◌∙◌, ◌⊎◌, inl, inr, ℕ, suc, ◌+◌, ◌-◌, ◌<◌, ◌≤◌, ◌^◌, ◌&&◌, Bool, true, false, cond, min, List, [], ◌∷◌, length, map, filter, find, get_or, slice_get, Option, Some, None, refl, sym, ap, subst, arith}
use Rattle.std.specs.Prelude.{nat_eq, nat_lt, nat_le, not, is_none, IfSome, option_map}
use Rattle.std.specs.List.{list_any}
use Rattle.std.specs.List.Sorted.{IsNonDecreasingBy}
use Rattle.std.proofs.lemmas.List.{length-map}
use Rattle.std.specs.Str.Parse.{digits_value}
use Rattle.std.proofs.lemmas.Bool.{cases_lt, cases_Bool, eq-eqb, eqb-true, ne_eqb, ltb-true, ltb-false, lt-ltb}
use Rattle.std.proofs.lemmas.Option.{same_Some}
use Rattle.record_codec.specs.Entry.{Entry}
use Rattle.log_model.specs.Bases.{geometry}
use Rattle.log_model.specs.Kinds.{is_half, origin_text}
use Rattle.log_model.specs.Log.{IsWellFormed}
use Rattle.log_model.specs.Numbered.{Log}
use Rattle.log_model.specs.Origins.{told_state}
use Rattle.log_model.specs.Transactions.{is_origin, renewals, is_settled, discards_it, copies_it, transaction_state, last_of, Open, Committed, RolledBack, Discarded}
use Rattle.half_view.specs.declared.check.Check.{Check}
use Rattle.half_view.specs.declared.row.HalfRow.{HalfRow}
use Rattle.half_view.specs.Halves.{HalfTable, is_open, is_due_row, check_row, due_from, due_of, names_or, place_of, if_origin, origin_at, settling_number}
use Rattle.half_view.specs.OfLog.{named_by, due_after, last_or, half_of, AreHalvesOf, is_due_origin, due_origin, check_of, settling_in}
use Rattle.half_view.proofs.ListLemmas.{get_there, got_or, get-map, find_here, find_none}
use Rattle.half_view.proofs.LogLemmas.{numbers, kept_was, names_earlier, filter-filter, rising, rising_kept, rising_at, and_false}

-- ---- lists

pub find-filter : (p q : Entry → Bool) (xs : List Entry) → find p (filter q xs) ≡ find (λ x. q x && p x) xs
find-filter p q [] = refl
find-filter p q (x ∷ xs) = by_test (find-filter p q xs) (q x)
  where
    by_test : find p (filter q xs) ≡ find (λ y. q y && p y) xs → (b : Bool) → find p (cond b (x ∷ filter q xs) (filter q xs)) ≡ cond (b && p x) (Some x) (find (λ y. q y && p y) xs)
    by_test rest true = ap (λ (o : Option Entry). cond (p x) (Some x) o) rest
    by_test rest false = rest

pub find-agree : (p q : Entry → Bool) → ((x : Entry) → p x ≡ q x) → (xs : List Entry) → find p xs ≡ find q xs
find-agree p q agree [] = refl
find-agree p q agree (x ∷ xs) = ap (λ (b : Bool). cond b (Some x) (find p xs)) (agree x) ∙ ap (λ (o : Option Entry). cond (q x) (Some x) o) (find-agree p q agree xs)

pub and_assoc : (a b c : Bool) → (a && (b && c)) ≡ ((a && b) && c)
and_assoc true b c = refl
and_assoc false b c = refl

last_there : (xs : List Entry) → 0 < length xs → (y : Entry) × (last_of xs ≡ Some y)
last_there [] some = absurd (omega (arith, some))
last_there (x ∷ []) some = (x, refl)
last_there (x ∷ y ∷ xs) some = last_there (y ∷ xs) (omega arith)

-- ---- one half message

open_by : (settled a b : Bool) → is_open (told_state (cond (not settled) Open (cond a Discarded (cond b Committed RolledBack)))) ≡ not settled
open_by false a b = refl
open_by true true b = refl
open_by true false true = refl
open_by true false false = refl

-- an origin is open where nothing settles it
pub open_is : (log : List Entry) (h : ℕ) → is_open (told_state (transaction_state log h)) ≡ not (is_settled log h)
open_is log h = open_by (is_settled log h) (list_any (discards_it log h) log) (list_any (copies_it log h) log)

-- a half message that names none earlier names itself
pub names_itself : (own : ℕ) (o : Option ℕ) → IfSome o (λ n. n < own) → nat_eq (names_or own o) own ≡ is_none o
names_itself own None low = eq-eqb own own refl
names_itself own (Some n) low = ne_eqb n own (λ same. omega (arith, low, same))

none_mapped : (o : Option (List ℕ)) → is_none (option_map (digits_value 10) o) ≡ is_none o
none_mapped None = refl
none_mapped (Some text) = refl

-- it is an origin where it has no text
pub itself_is : (own : ℕ) (e : Entry) → e.queue_offset ≡ own → IfSome (named_by e) (λ n. n < e.queue_offset) → nat_eq (names_or e.queue_offset (named_by e)) own ≡ is_none (origin_text e)
itself_is own e number low =
    ap (λ (n : ℕ). nat_eq (names_or e.queue_offset (named_by e)) n) (sym number) ∙ names_itself e.queue_offset (named_by e) low ∙ none_mapped (origin_text e)

fifteen : (n : ℕ) → nat_lt (min n (2 ^ 32 - 1)) 15 ≡ nat_lt n 15
fifteen n = elim (cases_lt n 15) [
  | inl less ↦ lt-ltb (min n (2 ^ 32 - 1)) 15 (omega (arith, less)) ∙ sym (lt-ltb n 15 less)
  | inr more ↦ not_less (min n (2 ^ 32 - 1)) 15 (omega (arith, more)) ∙ sym (not_less n 15 more)
]
  where
    not_less : (a b : ℕ) → b ≤ a → nat_lt a b ≡ false
    not_less a b more = elim (cases_Bool (nat_lt a b)) [
      | inl is ↦ absurd (let less = ltb-true a b is in omega (arith, less, more))
      | inr is ↦ is
    ]

given_up_is : (own : ℕ) (renewed : List Entry) (b : Bool) → nat_lt (length renewed) 15 ≡ b
    → cond b None (Some (last_or own (last_of renewed))) ≡ cond b None (option_map (λ (renewal : Entry). renewal.queue_offset) (last_of renewed))
given_up_is own renewed true few = refl
given_up_is own renewed false many =
    let there = last_there renewed (let most = ltb-false (length renewed) 15 many in omega (arith, most)) in
    ap (λ (o : Option Entry). Some (last_or own o)) there.1 ∙ sym (ap (option_map (λ (renewal : Entry). renewal.queue_offset)) there.1)

pub check_is : (log : Log) (e : Entry) (own : ℕ) → e.queue_offset ≡ own → check_row own (half_of log e) ≡ check_of log.records e
check_is log e own number =
    let renewed = renewals log.records e.queue_offset in
    let checks = min (length renewed) (2 ^ 32 - 1) in
    ap (λ (n : ℕ). check_row n (half_of log e)) (sym number)
    ∙ ap (λ (o : Option ℕ). record { origin = e.queue_offset; checks = checks; given_up = o })
    (ap (λ (b : Bool). cond b None (Some (last_or e.queue_offset (last_of renewed)))) (fifteen (length renewed))
    ∙ given_up_is e.queue_offset renewed (nat_lt (length renewed) 15) refl)

-- ---- what is due

due_step : (log : Log) (now own : ℕ) (x : Entry) (found : Option Check) (later : Option Entry) (a b : Bool) → a ≡ b → x.queue_offset ≡ own → found ≡ option_map (check_of log.records) later
    → cond a (Some (check_row own (half_of log x))) found ≡ option_map (check_of log.records) (cond b (Some x) later)
due_step log now own x found later true true same number rest = ap (λ (c : Check). Some c) (check_is log x own number)
due_step log now own x found later false false same number rest = rest
due_step log now own x found later true false same number rest = cc same
due_step log now own x found later false true same number rest = cc same

due_in : (log : Log) (now own : ℕ) (xs : List Entry) → ((k : ℕ) (e : Entry) → slice_get xs k ≡ Some e → (e.queue_offset ≡ own + k) × IfSome (named_by e) (λ n. n < e.queue_offset))
    → due_from now own (map (half_of log) xs) ≡ option_map (check_of log.records) (find (λ e. is_none (origin_text e) && is_due_origin log.records now e) xs)
due_in log now own [] each = refl
due_in log now own (x ∷ xs) each =
    let this = each 0 x refl in
    let number : x.queue_offset ≡ own = (let e = this.0 in omega (arith, e)) in
    let rest = due_in log now (own + 1) xs (λ k e got. let there = each (suc k) e got in ((let n = there.0 in omega (arith, n)), there.1)) in
    let h = x.queue_offset in
    let come = nat_le (due_after x (last_of (renewals log.records h))) now in
    due_step log now own x (due_from now (own + 1) (map (half_of log) xs)) (find (λ e. is_none (origin_text e) && is_due_origin log.records now e) xs)
    (is_due_row now own (half_of log x)) (is_none (origin_text x) && is_due_origin log.records now x)
    (ap (λ (b : Bool). b && is_open (told_state (transaction_state log.records h)) && come) (itself_is own x number this.1)
    ∙ ap (λ (b : Bool). is_none (origin_text x) && b && come) (open_is log.records h)
    ∙ and_and (is_none (origin_text x)) (not (is_settled log.records h)) come)
    number rest
  where
    and_and : (a b c : Bool) → (a && b && c) ≡ (a && (b && c))
    and_and true b c = refl
    and_and false b c = refl

module _ (segment : ℕ) (log : Log) (t : HalfTable) (well : IsWellFormed (geometry segment log.base) log.records) (are : AreHalvesOf log t) where
  pub each_half : (k : ℕ) (e : Entry) → slice_get (filter is_half log.records) k ≡ Some e → (e.queue_offset ≡ t.low + k) × IfSome (named_by e) (λ n. n < e.queue_offset)
  each_half k e got =
      let was = kept_was is_half log.records k e got in
      (numbers (geometry segment log.base) log.records well k e got ∙ ap (λ (n : ℕ). n + k) (sym are.low), names_earlier (geometry segment log.base) log.records well was.0 e was.1 was.2)

  pub due_is : (now : ℕ) → due_of now t ≡ option_map (check_of log.records) (due_origin log.records now)
  due_is now =
      ap (λ (rows : List HalfRow). due_from now t.low rows) are.halves
      ∙ due_in log now t.low (filter is_half log.records) each_half
      ∙ ap (option_map (check_of log.records)) (sym
      (ap (find (is_due_origin log.records now)) (filter-filter is_half (λ x. is_none (origin_text x)) log.records)
      ∙ find-filter (is_due_origin log.records now) (λ x. is_none (origin_text x)) (filter is_half log.records)))

  -- its places rise
  pub places_rise : IsNonDecreasingBy place_of t.halves
  places_rise = subst (λ (rows : List HalfRow). IsNonDecreasingBy place_of rows) (sym are.halves) (λ i j d most within. by_order i j d within (cases_lt i j) most)
    where
      hs : List Entry
      hs = filter is_half log.records

      by_order : (i j : ℕ) (d : HalfRow) → j < length (map (half_of log) hs) → (i < j) ⊎ (j ≤ i) → i ≤ j → (get_or (map (half_of log) hs) i d).place ≤ (get_or (map (half_of log) hs) j d).place
      by_order i j d within (inr over) most =
          let same : i ≡ j = omega (arith, over, most) in
          let e : (get_or (map (half_of log) hs) i d).place ≡ (get_or (map (half_of log) hs) j d).place = ap (λ (n : ℕ). (get_or (map (half_of log) hs) n d).place) same in
          omega (arith, e)
      by_order i j d within (inl less) most =
          let counted = length-map hs (half_of log) in
          let x = get_there hs i (omega (arith, counted, within, less)) in
          let y = get_there hs j (omega (arith, counted, within)) in
          let rises = rising_at hs (rising_kept is_half log.records (rising (geometry segment log.base) log.records well)) i j x.0 y.0 less x.1 y.1 in
          let at_i : (get_or (map (half_of log) hs) i d).place ≡ x.0.offset = ap place_of (got_or (map (half_of log) hs) i (half_of log x.0) d (get-map (half_of log) hs i ∙ ap (option_map (half_of log)) x.1)) in
          let at_j : (get_or (map (half_of log) hs) j d).place ≡ y.0.offset = ap place_of (got_or (map (half_of log) hs) j (half_of log y.0) d (get-map (half_of log) hs j ∙ ap (option_map (half_of log)) y.1)) in
          omega (arith, at_i, at_j, rises)

  -- ---- origins

  pub row_there : (k : ℕ) → slice_get t.halves k ≡ option_map (half_of log) (slice_get (filter is_half log.records) k)
  row_there k = ap (λ (rows : List HalfRow). slice_get rows k) are.halves ∙ get-map (half_of log) (filter is_half log.records) k

  -- the half message with a number is the one at its index
  pub only_there : (h k : ℕ) (o : Option Entry) (p : Entry → Bool) → h ≡ t.low + k → slice_get (filter is_half log.records) k ≡ o
      → (j : ℕ) (y : Entry) → slice_get (filter is_half log.records) j ≡ Some y → y.queue_offset ≡ h → o ≡ Some y
  only_there h k o p is got j y at same =
      let number = (each_half j y at).0 in
      let one : k ≡ j = omega (arith, is, same, number) in
      sym got ∙ ap (λ (n : ℕ). slice_get (filter is_half log.records) n) one ∙ at

  origin_case : (h k : ℕ) (o : Option Entry) → h ≡ t.low + k → slice_get (filter is_half log.records) k ≡ o
      → if_origin h (option_map (half_of log) o) ≡ option_map (half_of log) (find (λ x. is_none (origin_text x) && nat_eq x.queue_offset h) (filter is_half log.records))
  origin_case h k None is got =
      sym (ap (option_map (half_of log)) (find_none (λ x. is_none (origin_text x) && nat_eq x.queue_offset h) (filter is_half log.records)
      (λ j y at. ap (λ (b : Bool). is_none (origin_text y) && b) (ne_eqb y.queue_offset h (λ same. let e = only_there h k None (λ x. true) is got j y at same in absurd (cc e))) ∙ and_false (is_none (origin_text y)))))
  origin_case h k (Some e) is got = by_text (is_none (origin_text e)) refl
    where
      number : e.queue_offset ≡ h
      number = (each_half k e got).0 ∙ sym is

      itself : nat_eq (names_or e.queue_offset (named_by e)) h ≡ is_none (origin_text e)
      itself = itself_is h e number (each_half k e got).1

      test : Entry → Bool
      test x = is_none (origin_text x) && nat_eq x.queue_offset h

      by_text : (b : Bool) → is_none (origin_text e) ≡ b → cond (nat_eq (names_or e.queue_offset (named_by e)) h) (Some (half_of log e)) None ≡ option_map (half_of log) (find test (filter is_half log.records))
      by_text true none =
          ap (λ (b : Bool). cond b (Some (half_of log e)) None) (itself ∙ none)
          ∙ sym (ap (option_map (half_of log)) (find_here test (filter is_half log.records) k e got
          (ap (λ (b : Bool). b && nat_eq e.queue_offset h) none ∙ eq-eqb e.queue_offset h number)
          (λ j y less at. ap (λ (b : Bool). is_none (origin_text y) && b) (ne_eqb y.queue_offset h (λ same. let n = (each_half j y at).0 in omega (arith, n, same, is, less))) ∙ and_false (is_none (origin_text y)))))
      by_text false some =
          ap (λ (b : Bool). cond b (Some (half_of log e)) None) (itself ∙ some)
          ∙ sym (ap (option_map (half_of log)) (find_none test (filter is_half log.records)
          (λ j y at. elim (cases_Bool (nat_eq y.queue_offset h)) [
            | inl same ↦
                (let one : e ≡ y = same_Some e y (only_there h k (Some e) (λ x. true) is got j y at (eqb-true y.queue_offset h same)) in
                ap (λ (b : Bool). b && nat_eq y.queue_offset h) (ap (λ (z : Entry). is_none (origin_text z)) (sym one) ∙ some))
            | inr differs ↦ ap (λ (b : Bool). is_none (origin_text y) && b) differs ∙ and_false (is_none (origin_text y))
          ])))

  origin_found : (h : ℕ) → origin_at t h ≡ option_map (half_of log) (find (λ x. is_none (origin_text x) && nat_eq x.queue_offset h) (filter is_half log.records))
  origin_found h = elim (cases_lt h t.low) [
    | inl less ↦ ap (λ (b : Bool). if_origin h (cond b None (slice_get t.halves (h - t.low)))) (lt-ltb h t.low less)
        ∙ sym (ap (option_map (half_of log)) (find_none (λ x. is_none (origin_text x) && nat_eq x.queue_offset h) (filter is_half log.records)
        (λ j y at. ap (λ (b : Bool). is_none (origin_text y) && b) (ne_eqb y.queue_offset h (λ same. let n = (each_half j y at).0 in omega (arith, n, same, less))) ∙ and_false (is_none (origin_text y)))))
    | inr more ↦ ap (λ (b : Bool). if_origin h (cond b None (slice_get t.halves (h - t.low)))) (not_less h t.low more)
        ∙ ap (if_origin h) (row_there (h - t.low))
        ∙ origin_case h (h - t.low) (slice_get (filter is_half log.records) (h - t.low)) (let e : h ≡ t.low + (h - t.low) = omega (arith, more) in e) refl
  ]
    where
      not_less : (a b : ℕ) → b ≤ a → nat_lt a b ≡ false
      not_less a b more = elim (cases_Bool (nat_lt a b)) [
        | inl is ↦ absurd (let less = ltb-true a b is in omega (arith, less, more))
        | inr is ↦ is
      ]

  -- the origin of the table is that of the log
  pub origin_is : (h : ℕ) → origin_at t h ≡ option_map (half_of log) (find (is_origin h) log.records)
  origin_is h =
      origin_found h ∙ ap (option_map (half_of log))
      (find-filter (λ x. is_none (origin_text x) && nat_eq x.queue_offset h) is_half log.records
      ∙ find-agree (λ x. is_half x && (is_none (origin_text x) && nat_eq x.queue_offset h)) (is_origin h) (λ x. and_assoc (is_half x) (is_none (origin_text x)) (nat_eq x.queue_offset h)) log.records)

  state_mapped : (o : Option Entry) → option_map (λ (row : HalfRow). row.state) (option_map (half_of log) o) ≡ option_map (λ (e : Entry). told_state (transaction_state log.records e.queue_offset)) o
  state_mapped None = refl
  state_mapped (Some e) = refl

  pub state_is : (h : ℕ) → option_map (λ (row : HalfRow). row.state) (origin_at t h) ≡ option_map (λ (e : Entry). told_state (transaction_state log.records e.queue_offset)) (find (is_origin h) log.records)
  state_is h = ap (option_map (λ (row : HalfRow). row.state)) (origin_is h) ∙ state_mapped (find (is_origin h) log.records)

  settled_mapped : (o : Option Entry) → settling_number (option_map (half_of log) o) ≡ settling_in log o
  settled_mapped None = refl
  settled_mapped (Some e) = refl

  pub settled_is : (h : ℕ) → settling_number (origin_at t h) ≡ settling_in log (find (is_origin h) log.records)
  settled_is h = ap settling_number (origin_is h) ∙ settled_mapped (find (is_origin h) log.records)
