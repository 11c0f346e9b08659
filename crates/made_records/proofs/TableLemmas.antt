-- What the table of half messages says of the place of one, and what a record that the broker made settles in it.
use Rattle.std.proofs.Common.{◌≡◌, ◌∙◌, refl, ap, sym, arith, ℕ, zero, suc, ◌<◌, Bool, true, false, cond, List, [], ◌∷◌, filter, slice_get, Option, Some, None}
use Rattle.std.specs.Prelude.{nat_eq, is_none, option_map, ◌&&◌, if◌then◌else◌}
use Rattle.std.specs.Str.Parse.{digits_value}
use Rattle.std.proofs.lemmas.Bool.{and_parts, eqb-true}
use Rattle.std.proofs.lemmas.Option.{same_Some}
use Rattle.record_codec.specs.Entry.{Entry}
use Rattle.log_model.specs.declared.origin.OriginState.TheVariants.{Committed, RolledBack, Discarded}
use Rattle.log_model.specs.Admissible.{number_of}
use Rattle.log_model.specs.Bases.{geometry}
use Rattle.log_model.specs.Kinds.{is_half, origin_text}
use Rattle.log_model.specs.Numbered.{Log, IsLawful}
use Rattle.log_model.specs.Transactions.{is_origin, named_origin, origin_of}
use Rattle.half_view.specs.declared.row.HalfRow.{HalfRow}
use Rattle.half_view.specs.Halves.{HalfTable, names_or, family_at, with_settled}
use Rattle.half_view.specs.OfLog.{half_of, AreHalvesOf, rolled_back_by, committed_by, discarded_by, with_settlement}
use Rattle.half_view.proofs.LogLemmas.{rising, rising_kept, rising_at}
use Rattle.half_view.proofs.PlaceLemmas.{place_found}
use Rattle.half_view.proofs.DueLemmas.{row_there}
use Rattle.half_view.proofs.OriginLemmas.{found_passes}
use Rattle.made_records.specs.Made.{IsCopyOfHalf, IsDiscardOfHalf, IsOpOf}

-- ---- the family of a half message

-- what passes a filter stands in what it keeps
pub kept_there : (test : Entry → Bool) (xs : List Entry) (k : ℕ) (e : Entry) → slice_get xs k ≡ Some e → test e ≡ true
    → (j : ℕ) × (slice_get (filter test xs) j ≡ Some e)
kept_there test [] k e at passes = cc at
kept_there test (x ∷ xs) zero e at passes = (0, by_test (test x) (ap test (same_Some x e at) ∙ passes))
  where
    by_test : (b : Bool) → b ≡ true → slice_get (cond b (x ∷ filter test xs) (filter test xs)) 0 ≡ Some e
    by_test true is = at
    by_test false is = absurd (cc)
kept_there test (x ∷ xs) (suc k) e at passes = by_test (kept_there test xs k e at passes) (test x)
  where
    by_test : (j : ℕ) × (slice_get (filter test xs) j ≡ Some e) → (b : Bool) → (j : ℕ) × (slice_get (cond b (x ∷ filter test xs) (filter test xs)) j ≡ Some e)
    by_test rest true = (suc rest.0, rest.1)
    by_test rest false = rest

-- a half message names its origin
names_origin : (log : List Entry) (h o : Entry) (text : Option (List ℕ)) → named_origin log text h ≡ Some o → names_or h.queue_offset (option_map (digits_value 10) text) ≡ o.queue_offset
names_origin log h o None is = ap (λ (e : Entry). e.queue_offset) (same_Some h o is)
names_origin log h o (Some text) is =
    let passes = found_passes (is_origin (digits_value 10 text)) log o is in
    let parts = and_parts (is_half o && is_none (origin_text o)) (nat_eq o.queue_offset (digits_value 10 text)) passes in
    sym (eqb-true o.queue_offset (digits_value 10 text) parts.1)

module _ (segment : ℕ) (log : Log) (t : HalfTable) (well : IsLawful segment log) (are : AreHalvesOf log t) where
  row_at_index : (j : ℕ) (e : Entry) → slice_get (filter is_half log.records) j ≡ Some e → slice_get t.halves j ≡ Some (half_of log e)
  row_at_index j e got = row_there segment log t well are j ∙ ap (option_map (half_of log)) got

  -- what stands in front of a half message has a lower place
  lower : (j : ℕ) (e : Entry) → slice_get (filter is_half log.records) j ≡ Some e
      → (i : ℕ) (x : HalfRow) → i < j → slice_get t.halves i ≡ Some x → x.place < e.offset
  lower j e got i x less at = by_entry (slice_get (filter is_half log.records) i) refl
    where
      by_entry : (o : Option Entry) → slice_get (filter is_half log.records) i ≡ o → x.place < e.offset
      by_entry None none = let bad : Some x ≡ None = sym at ∙ row_there segment log t well are i ∙ ap (option_map (half_of log)) none in absurd (cc bad)
      by_entry (Some y) there =
          let same : half_of log y ≡ x = same_Some (half_of log y) x (sym (row_at_index i y there) ∙ at) in
          let rises = rising_at (filter is_half log.records) (rising_kept is_half log.records (rising (geometry segment log.base) log.records well)) i j y e less there got in
          let place : y.offset ≡ x.place = ap (λ (row : HalfRow). row.place) same in
          omega (arith, rises, place)

  -- the table has at its place the origin that it names
  pub family_is_origin : (k : ℕ) (h o : Entry) → slice_get log.records k ≡ Some h → is_half h ≡ true → origin_of log.records h ≡ Some o
      → family_at t h.offset ≡ Some o.queue_offset
  family_is_origin k h o got half origin =
      let there = kept_there is_half log.records k h got half in
      sym (place_found t.halves h.offset there.0 (half_of log h) (lower there.0 h there.1) (row_at_index there.0 h there.1) refl)
      ∙ ap (λ (n : ℕ). Some n) (names_origin log.records h o (origin_text h) origin)

-- ---- what a record settles

settles_these : (t : HalfTable) (r : Entry) (number : ℕ) (a b c : Option ℕ) → rolled_back_by r ≡ a → committed_by t r ≡ b → discarded_by t r ≡ c
    → with_settlement t r number ≡ with_settled (with_settled (with_settled t a RolledBack number) b Committed number) c Discarded number
settles_these t r number a b c rolled committed discarded =
    ap (λ (o : Option ℕ). with_settled (with_settled (with_settled t o RolledBack number) (committed_by t r) Committed number) (discarded_by t r) Discarded number) rolled
    ∙ ap (λ (o : Option ℕ). with_settled (with_settled (with_settled t a RolledBack number) o Committed number) (discarded_by t r) Discarded number) committed
    ∙ ap (λ (o : Option ℕ). with_settled (with_settled (with_settled t a RolledBack number) b Committed number) o Discarded number) discarded

-- the committed copy of a half message commits its origin
pub copy_settles : (t : HalfTable) (h r : Entry) (origin number : ℕ) → IsCopyOfHalf h r → family_at t h.offset ≡ Some origin
    → with_settlement t r number ≡ with_settled t (Some origin) Committed number
copy_settles t h r origin number of family =
    settles_these t r number None (Some origin) None
    (ap (λ (b : Bool). if b then number_of r.body else None) of.op)
    (ap (λ (b : Bool). if b then family_at t r.prepared else None) of.copied ∙ ap (family_at t) of.place ∙ family)
    (ap (λ (b : Bool). if b then family_at t r.prepared else None) of.discard)

-- the discarded copy discards it
pub discard_settles : (t : HalfTable) (h r : Entry) (origin number : ℕ) → IsDiscardOfHalf h r → family_at t h.offset ≡ Some origin
    → with_settlement t r number ≡ with_settled t (Some origin) Discarded number
discard_settles t h r origin number of family =
    settles_these t r number None None (Some origin)
    (ap (λ (b : Bool). if b then number_of r.body else None) of.op)
    (ap (λ (b : Bool). if b then family_at t r.prepared else None) of.copied)
    (ap (λ (b : Bool). if b then family_at t r.prepared else None) of.discard ∙ ap (family_at t) of.place ∙ family)

-- an op record rolls its origin back
pub op_settles : (t : HalfTable) (r : Entry) (origin number : ℕ) → IsOpOf origin r
    → with_settlement t r number ≡ with_settled t (Some origin) RolledBack number
op_settles t r origin number of =
    settles_these t r number (Some origin) None None
    of.names
    (ap (λ (b : Bool). if b then family_at t r.prepared else None) of.copied)
    (ap (λ (b : Bool). if b then family_at t r.prepared else None) of.discard)
