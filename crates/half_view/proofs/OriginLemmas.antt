-- The origin that the table has for a half message is that of the log.
use Rattle.std.proofs.Common.{◌≡◌, ◌∙◌, inl, inr, ℕ, ◌+◌, ◌-◌, ◌≤◌, ◌&&◌, Bool, true, false, cond, List, [], ◌∷◌, filter, find, slice_get, Option, Some, None, refl, sym, ap, arith}
use Rattle.std.specs.Prelude.{nat_eq, nat_lt, is_none, option_map}
use Rattle.std.specs.Str.Parse.{digits_value}
use Rattle.std.proofs.lemmas.Bool.{cases_lt, cases_Bool, and_parts, eq-eqb, eqb-true, ne_eqb, ltb-true, lt-ltb}
use Rattle.std.proofs.lemmas.Option.{same_Some}
use Rattle.record_codec.specs.Entry.{Entry}
use Rattle.log_model.specs.Bases.{geometry}
use Rattle.log_model.specs.Kinds.{is_half, origin_text}
use Rattle.log_model.specs.Log.{IsWellFormed}
use Rattle.log_model.specs.Numbered.{Log}
use Rattle.log_model.specs.Transactions.{is_origin, named_origin, half_at}
use Rattle.half_view.specs.declared.row.HalfRow.{HalfRow}
use Rattle.half_view.specs.Halves.{HalfTable, names_or, row_at, if_at, if_origin, origin_at, origin_named}
use Rattle.half_view.specs.OfLog.{half_of, AreHalvesOf, origin_in}
use Rattle.half_view.proofs.ListLemmas.{find_here, find_none}
use Rattle.half_view.proofs.LogLemmas.{and_false}
use Rattle.half_view.proofs.DueLemmas.{find-filter, find-agree, and_assoc, each_half, row_there, only_there, origin_is}

-- what is found passes
pub found_passes : (p : Entry → Bool) (xs : List Entry) (x : Entry) → find p xs ≡ Some x → p x ≡ true
found_passes p [] x found = cc found
found_passes p (y ∷ xs) x found = by_test (λ there. found_passes p xs x there) (p y) refl found
  where
    by_test : (find p xs ≡ Some x → p x ≡ true) → (b : Bool) → p y ≡ b → cond b (Some y) (find p xs) ≡ Some x → p x ≡ true
    by_test rest true is here = ap p (sym (same_Some y x here)) ∙ is
    by_test rest false is there = rest there

-- what is there, where it passes
unfoldable pub if_passes : (Entry → Bool) → Option Entry → Option Entry
if_passes p None = None
if_passes p (Some e) = cond (p e) (Some e) None

module _ (segment : ℕ) (log : Log) (t : HalfTable) (well : IsWellFormed (geometry segment log.base) log.records) (are : AreHalvesOf log t) where
  -- ---- the half message of a number

  -- of the half messages with this number there is one at most
  pub only_one : (h k : ℕ) (o : Option Entry) (p : Entry → Bool) → h ≡ t.low + k → slice_get (filter is_half log.records) k ≡ o
      → find (λ x. nat_eq x.queue_offset h && p x) (filter is_half log.records) ≡ if_passes p o
  unfolding if_passes
  only_one h k None p is got = find_none (λ x. nat_eq x.queue_offset h && p x) (filter is_half log.records)
      (λ j y at. ap (λ (b : Bool). b && p y) (ne_eqb y.queue_offset h (λ same. let e = only_there segment log t well are h k None p is got j y at same in absurd (cc e))))
  only_one h k (Some e) p is got = by_test (p e) refl
    where
      number : e.queue_offset ≡ h
      number = (each_half segment log t well are k e got).0 ∙ sym is

      by_test : (b : Bool) → p e ≡ b → find (λ x. nat_eq x.queue_offset h && p x) (filter is_half log.records) ≡ cond b (Some e) None
      by_test true passes = find_here (λ x. nat_eq x.queue_offset h && p x) (filter is_half log.records) k e got
          (ap (λ (b : Bool). b && p e) (eq-eqb e.queue_offset h number) ∙ passes)
          (λ j y less at. ap (λ (b : Bool). b && p y) (ne_eqb y.queue_offset h (λ same. let n = (each_half segment log t well are j y at).0 in omega (arith, n, same, is, less))))
      by_test false fails = find_none (λ x. nat_eq x.queue_offset h && p x) (filter is_half log.records)
          (λ j y at. elim (cases_Bool (nat_eq y.queue_offset h)) [
            | inl same ↦
                (let one : e ≡ y = same_Some e y (only_there segment log t well are h k (Some e) p is got j y at (eqb-true y.queue_offset h same)) in
                ap (λ (b : Bool). nat_eq y.queue_offset h && b) (ap p (sym one) ∙ fails) ∙ and_false (nat_eq y.queue_offset h))
            | inr differs ↦ ap (λ (b : Bool). b && p y) differs
          ])

  pub half_there : (h place : ℕ) → half_at log.records h place ≡ find (λ x. nat_eq x.queue_offset h && nat_eq x.offset place) (filter is_half log.records)
  half_there h place =
      sym (find-filter (λ x. nat_eq x.queue_offset h && nat_eq x.offset place) is_half log.records
      ∙ find-agree (λ x. is_half x && (nat_eq x.queue_offset h && nat_eq x.offset place)) (λ x. is_half x && nat_eq x.queue_offset h && nat_eq x.offset place)
      (λ x. and_assoc (is_half x) (nat_eq x.queue_offset h) (nat_eq x.offset place)) log.records)

  -- ---- its origin

  own_origin : (k : ℕ) (e : Entry) → slice_get (filter is_half log.records) k ≡ Some e → is_none (origin_text e) ≡ true → (names : ℕ) → (half_of log e).names ≡ names → names ≡ e.queue_offset
      → origin_at t names ≡ Some (half_of log e)
  own_origin k e got none names named own =
      let number = (each_half segment log t well are k e got).0 in
      let index : names ≡ t.low + k = own ∙ number in
      ap (λ (n : ℕ). origin_at t n) index
      ∙ ap (λ (b : Bool). if_origin (t.low + k) (cond b None (slice_get t.halves (t.low + k - t.low)))) (not_less (t.low + k) t.low (omega arith))
      ∙ ap (λ (j : ℕ). if_origin (t.low + k) (slice_get t.halves j)) (let j : t.low + k - t.low ≡ k = omega arith in j)
      ∙ ap (if_origin (t.low + k)) (row_there segment log t well are k ∙ ap (option_map (half_of log)) got)
      ∙ ap (λ (b : Bool). cond b (Some (half_of log e)) None) (eq-eqb (half_of log e).names (t.low + k) (named ∙ index))
    where
      not_less : (a b : ℕ) → b ≤ a → nat_lt a b ≡ false
      not_less a b more = elim (cases_Bool (nat_lt a b)) [
        | inl is ↦ absurd (let less = ltb-true a b is in omega (arith, less, more))
        | inr is ↦ is
      ]

  named_by_text : (k : ℕ) (e : Entry) → slice_get (filter is_half log.records) k ≡ Some e → (text : Option (List ℕ)) → origin_text e ≡ text
      → option_map (λ (origin : HalfRow). names_or e.queue_offset (option_map (digits_value 10) text)) (origin_at t (names_or e.queue_offset (option_map (digits_value 10) text)))
      ≡ option_map (λ (origin : Entry). origin.queue_offset) (named_origin log.records text e)
  named_by_text k e got None is =
      ap (option_map (λ (origin : HalfRow). e.queue_offset))
      (own_origin k e got (ap (λ (o : Option (List ℕ)). is_none o) is) e.queue_offset (ap (λ (o : Option (List ℕ)). names_or e.queue_offset (option_map (digits_value 10) o)) is) refl)
  named_by_text k e got (Some text) is =
      let h = digits_value 10 text in
      ap (option_map (λ (origin : HalfRow). h)) (origin_is segment log t well are h) ∙ by_found (find (is_origin h) log.records) refl
    where
      by_found : (o : Option Entry) → find (is_origin (digits_value 10 text)) log.records ≡ o
          → option_map (λ (origin : HalfRow). digits_value 10 text) (option_map (half_of log) o) ≡ option_map (λ (origin : Entry). origin.queue_offset) o
      by_found None found = refl
      by_found (Some x) found =
          let parts = and_parts (is_half x && is_none (origin_text x)) (nat_eq x.queue_offset (digits_value 10 text)) (found_passes (is_origin (digits_value 10 text)) log.records x found) in
          ap (λ (n : ℕ). Some n) (sym (eqb-true x.queue_offset (digits_value 10 text) parts.1))

  named_there : (place k : ℕ) (o : Option Entry) → slice_get (filter is_half log.records) k ≡ o
      → origin_named t (if_at place (option_map (half_of log) o)) ≡ option_map (λ (origin : Entry). origin.queue_offset) (origin_in log.records (if_passes (λ e. nat_eq e.offset place) o))
  unfolding if_passes
  named_there place k None got = refl
  named_there place k (Some e) got = by_place (nat_eq e.offset place)
    where
      by_place : (b : Bool) → origin_named t (cond b (Some (half_of log e)) None) ≡ option_map (λ (origin : Entry). origin.queue_offset) (origin_in log.records (cond b (Some e) None))
      by_place true = named_by_text k e got (origin_text e) refl
      by_place false = refl

  -- the origin of the half message with this queue offset at this place
  pub origin_of_is : (h place : ℕ) → origin_named t (if_at place (row_at t h)) ≡ option_map (λ (origin : Entry). origin.queue_offset) (origin_in log.records (half_at log.records h place))
  origin_of_is h place = elim (cases_lt h t.low) [
    | inl less ↦ ap (λ (b : Bool). origin_named t (if_at place (cond b None (slice_get t.halves (h - t.low))))) (lt-ltb h t.low less)
        ∙ sym (ap (λ (o : Option Entry). option_map (λ (origin : Entry). origin.queue_offset) (origin_in log.records o))
        (half_there h place ∙ find_none (λ x. nat_eq x.queue_offset h && nat_eq x.offset place) (filter is_half log.records)
        (λ j y at. ap (λ (b : Bool). b && nat_eq y.offset place) (ne_eqb y.queue_offset h (λ same. let n = (each_half segment log t well are j y at).0 in omega (arith, n, same, less))))))
    | inr more ↦ ap (λ (b : Bool). origin_named t (if_at place (cond b None (slice_get t.halves (h - t.low))))) (not_less h t.low more)
        ∙ ap (λ (o : Option HalfRow). origin_named t (if_at place o)) (row_there segment log t well are (h - t.low))
        ∙ named_there place (h - t.low) (slice_get (filter is_half log.records) (h - t.low)) refl
        ∙ sym (ap (λ (o : Option Entry). option_map (λ (origin : Entry). origin.queue_offset) (origin_in log.records o))
        (half_there h place ∙ only_one h (h - t.low) (slice_get (filter is_half log.records) (h - t.low)) (λ x. nat_eq x.offset place) (let e : h ≡ t.low + (h - t.low) = omega (arith, more) in e) refl))
  ]
    where
      not_less : (a b : ℕ) → b ≤ a → nat_lt a b ≡ false
      not_less a b more = elim (cases_Bool (nat_lt a b)) [
        | inl is ↦ absurd (let less = ltb-true a b is in omega (arith, less, more))
        | inr is ↦ is
      ]
