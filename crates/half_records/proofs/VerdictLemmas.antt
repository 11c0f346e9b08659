-- The origin that a verdict is on, and what is kept whole of its family, as the log tells it.
use Rattle.std.proofs.Common.{◌≡◌, ◌∙◌, inl, inr, ℕ, zero, suc, ◌+◌, ◌-◌, ◌≤◌, ◌&&◌, Bool, true, false, cond, List, [], ◌∷◌, length, find, codes, slice_get, Option, Some, None, bytes_eq, refl, sym, ap, subst, arith}
use Rattle.std.specs.Prelude.{nat_eq, not, is_none, IsSome, option_map}
use Rattle.std.specs.Option.{unwrap_or}
use Rattle.std.specs.Str.Parse.{digits_value}
use Rattle.std.proofs.lemmas.Bool.{and_parts, cases_Bool, cases_lt, eq-eqb, eqb-true}
use Rattle.std.proofs.lemmas.Option.{same_Some}
use Rattle.std.proofs.lemmas.Slice.Eq.{bytes_eq-Decides}
use Rattle.record_codec.specs.Entry.{Entry}
use Rattle.record_codec.specs.Props.{value_of}
use Rattle.log_model.specs.Bases.{geometry}
use Rattle.log_model.specs.Kinds.{is_half, is_text, origin_text}
use Rattle.log_model.specs.Log.{IsWellFormed}
use Rattle.log_model.specs.Numbered.{Log}
use Rattle.log_model.specs.Transactions.{family, half_at, is_origin, is_settled, named_origin, origin_of}
use Rattle.half_view.specs.Halves.{HalfTable, origin_at}
use Rattle.half_view.specs.OfLog.{half_of, halves_in, origin_in}
use Rattle.half_view.proofs.DueLemmas.{each_half, find-agree, find-filter, origin_is}
use Rattle.half_view.proofs.ListLemmas.{get_there}
use Rattle.half_view.proofs.LogLemmas.{kept_was}
use Rattle.half_view.proofs.OriginLemmas.{found_passes, half_there, if_passes, only_one, origin_of_is}
use Rattle.half_records.specs.declared.halves.Halves.{Halves}
use Rattle.half_records.specs.declared.names.Names.{Names}
use Rattle.half_records.specs.Names.{AreApart, is_number, number_of}
use Rattle.half_records.specs.OfLog.{HasHalves}
use Rattle.half_records.specs.Tables.{family_of, kept_at}
use Rattle.half_records.specs.Verdicts.{is_half_of, is_kept_of, is_other_id, judged_at, judged_named, judged_of, judged_origin, judged_row}
use Rattle.half_records.proofs.ListLemmas.{at_before, at_number}

-- ---- lists

-- what is found is there
found_at : (p : Entry → Bool) (xs : List Entry) (x : Entry) → find p xs ≡ Some x → (k : ℕ) × (slice_get xs k ≡ Some x)
found_at p [] x found = cc found
found_at p (y ∷ xs) x found = by_test (λ there. found_at p xs x there) (p y) found
  where
    by_test : (find p xs ≡ Some x → (k : ℕ) × (slice_get xs k ≡ Some x)) → (b : Bool) → cond b (Some y) (find p xs) ≡ Some x → (k : ℕ) × (slice_get (y ∷ xs) k ≡ Some x)
    by_test rest true here = (0, here)
    by_test rest false there = let at = rest there in (suc at.0, at.1)

get_past : {A : Type 0} (xs : List A) (k : ℕ) → length xs ≤ k → slice_get xs k ≡ None
get_past [] zero past = refl
get_past [] (suc k) past = refl
get_past (x ∷ xs) zero past = absurd (omega (arith, past))
get_past (x ∷ xs) (suc k) past = get_past xs k (omega (arith, past))

pub none_of : {A B : Type 0} (f : A → B) (o : Option A) → option_map f o ≡ None → o ≡ None
none_of f None is = refl
none_of f (Some x) is = cc is

-- ---- groups

group_by : (names : Names) (group own : List ℕ) (n : ℕ) → AreApart names → number_of names own ≡ Some n → (o : Option ℕ) → number_of names group ≡ o
    → (b : Bool) → bytes_eq own group ≡ b → is_number n o ≡ b
group_by names group own n apart is None at false other = refl
group_by names group own n apart is None at true same =
    let one : own ≡ group = (bytes_eq-Decides own group).0 same in
    let bad : None ≡ Some n = sym at ∙ ap (number_of names) (sym one) ∙ is in cc bad
group_by names group own n apart is (Some m) at true same =
    let one : own ≡ group = (bytes_eq-Decides own group).0 same in
    eq-eqb m n (same_Some m n (sym at ∙ ap (number_of names) (sym one) ∙ is))
group_by names group own n apart is (Some m) at false other = elim (cases_Bool (nat_eq m n)) [
  | inl equal ↦
      (let number : number_of names group ≡ Some n = at ∙ ap (λ (x : ℕ). Some x) (eqb-true m n equal) in
      cc (sym ((bytes_eq-Decides own group).1 (apart.apart own group n is number)) ∙ other))
  | inr differs ↦ differs
]

-- the number of a half message's group tells the group
group_is : (names : Names) (group : List ℕ) (n : ℕ) (o : Option (List ℕ)) → AreApart names → IsSome o → number_of names (unwrap_or o []) ≡ Some n → is_number n (number_of names group) ≡ is_text group o
group_is names group n None apart some is = absurd (cc some)
group_is names group n (Some own) apart some is = group_by names group own n apart is (number_of names group) refl (bytes_eq own group) refl

-- ---- verdicts

judged_by : (log : Log) (t : HalfTable) (b : Bool) (o : Option Entry) → ((r : Entry) → o ≡ Some r → judged_row r.queue_offset (origin_at t r.queue_offset) ≡ Some (judged_of log.records r))
    → judged_named t b (option_map (λ (origin : Entry). origin.queue_offset) o) ≡ option_map (judged_of log.records) (cond b o None)
judged_by log t true None rows = refl
judged_by log t false None rows = refl
judged_by log t true (Some r) rows = rows r refl
judged_by log t false (Some r) rows = refl

module _ (segment : ℕ) (log : Log) (h : Halves) (well : IsWellFormed (geometry segment log.base) log.records) (has : HasHalves log h) where
  number_at : (k : ℕ) (e : Entry) → slice_get (halves_in log) k ≡ Some e → e.queue_offset ≡ h.first + k
  number_at k e got = (each_half segment log h.view well has.view k e got).0 ∙ ap (λ (n : ℕ). n + k) (sym has.first)

  -- what is kept of a half message
  kept_there : (k : ℕ) (e : Entry) (got : slice_get (halves_in log) k ≡ Some e) → kept_at h e.queue_offset ≡ Some (has.each k e got).0
  kept_there k e got = at_number h.kept.items h.first e.queue_offset k (number_at k e got) ∙ (has.each k e got).1

  has_group : (k : ℕ) (e : Entry) → slice_get (halves_in log) k ≡ Some e → IsSome (value_of (codes "PGROUP") e.props)
  has_group k e got = let was = kept_was is_half log.records k e got in ((well.each was.0 e was.1).admissible.half was.2).group

  -- the group and the id of a half message, as they are kept
  of_group : (group id : List ℕ) (k : ℕ) (e : Entry) → slice_get (halves_in log) k ≡ Some e → is_kept_of h.groups group id (kept_at h e.queue_offset) ≡ is_half_of group id e
  of_group group id k e got =
      let was = has.each k e got in
      ap (is_kept_of h.groups group id) (kept_there k e got)
      ∙ ap (λ (b : Bool). b && not (is_other_id id was.0.id)) (group_is h.groups group was.0.group (value_of (codes "PGROUP") e.props) has.names (has_group k e got) was.2.group)
      ∙ ap (λ (o : Option (List ℕ)). is_text group (value_of (codes "PGROUP") e.props) && not (is_other_id id o)) was.2.id

  -- an origin, among the half messages
  origin_there : (origin : ℕ) → find (is_origin origin) log.records ≡ find (λ x. nat_eq x.queue_offset origin && is_none (origin_text x)) (halves_in log)
  origin_there origin =
      sym (find-filter (λ x. nat_eq x.queue_offset origin && is_none (origin_text x)) is_half log.records
      ∙ find-agree (λ x. is_half x && (nat_eq x.queue_offset origin && is_none (origin_text x))) (is_origin origin) (λ x. turned (is_half x) (nat_eq x.queue_offset origin) (is_none (origin_text x))) log.records)
    where
      turned : (a b c : Bool) → (a && (b && c)) ≡ (a && c && b)
      turned true true true = refl
      turned true true false = refl
      turned true false true = refl
      turned true false false = refl
      turned false b c = refl

  -- the half message that has no text is its own origin
  itself : (k : ℕ) (e : Entry) → slice_get (halves_in log) k ≡ Some e → is_none (origin_text e) ≡ true → find (is_origin e.queue_offset) log.records ≡ Some e
  unfolding if_passes
  itself k e got none =
      origin_there e.queue_offset
      ∙ only_one segment log h.view well has.view e.queue_offset k (Some e) (λ x. is_none (origin_text x)) (each_half segment log h.view well has.view k e got).0 got
      ∙ ap (λ (b : Bool). cond b (Some e) None) none

  found_origin : (k : ℕ) (e : Entry) → slice_get (halves_in log) k ≡ Some e → (text : Option (List ℕ)) → origin_text e ≡ text → (o : Entry) → named_origin log.records text e ≡ Some o → find (is_origin o.queue_offset) log.records ≡ Some o
  found_origin k e got None is o named =
      subst (λ (x : Entry). find (is_origin x.queue_offset) log.records ≡ Some x) (same_Some e o named) (itself k e got (ap (λ (t : Option (List ℕ)). is_none t) is))
  found_origin k e got (Some text) is o named =
      let passes = found_passes (is_origin (digits_value 10 text)) log.records o named in
      let number = eqb-true o.queue_offset (digits_value 10 text) (and_parts (is_half o && is_none (origin_text o)) (nat_eq o.queue_offset (digits_value 10 text)) passes).1 in
      ap (λ (n : ℕ). find (is_origin n) log.records) number ∙ named

  row_of_origin : (o : Entry) → find (is_origin o.queue_offset) log.records ≡ Some o → judged_row o.queue_offset (origin_at h.view o.queue_offset) ≡ Some (judged_of log.records o)
  row_of_origin o found = ap (judged_row o.queue_offset) (origin_is segment log h.view well has.view o.queue_offset ∙ ap (option_map (half_of log)) found)

  judged_half : (half place : ℕ) (group id : List ℕ) (o : Option Entry) → half_at log.records half place ≡ o
      → judged_named h.view (is_kept_of h.groups group id (kept_at h half)) (option_map (λ (origin : Entry). origin.queue_offset) (origin_in log.records o))
      ≡ option_map (judged_of log.records) (judged_origin log.records group id o)
  judged_half half place group id None at = refl
  judged_half half place group id (Some e) at =
      let among : find (λ x. nat_eq x.queue_offset half && nat_eq x.offset place) (halves_in log) ≡ Some e = sym (half_there segment log h.view well has.view half place) ∙ at in
      let there = found_at (λ x. nat_eq x.queue_offset half && nat_eq x.offset place) (halves_in log) e among in
      let passes = found_passes (λ x. nat_eq x.queue_offset half && nat_eq x.offset place) (halves_in log) e among in
      let number = eqb-true e.queue_offset half (and_parts (nat_eq e.queue_offset half) (nat_eq e.offset place) passes).0 in
      ap (λ (b : Bool). judged_named h.view b (option_map (λ (origin : Entry). origin.queue_offset) (origin_of log.records e)))
      (ap (λ (n : ℕ). is_kept_of h.groups group id (kept_at h n)) (sym number) ∙ of_group group id there.0 e there.1)
      ∙ judged_by log h.view (is_half_of group id e) (origin_of log.records e)
      (λ o named. row_of_origin o (found_origin there.0 e there.1 (origin_text e) refl o named))

  -- the verdict is on the log's origin
  pub judged_is : (half place : ℕ) (group id : List ℕ) → judged_at h half place group id ≡ option_map (judged_of log.records) (judged_origin log.records group id (half_at log.records half place))
  judged_is half place group id =
      ap (judged_named h.view (is_kept_of h.groups group id (kept_at h half))) (origin_of_is segment log h.view well has.view half place)
      ∙ judged_half half place group id (half_at log.records half place) refl

  -- ---- families

  -- the family of an open origin is kept
  pub family_open : (origin : ℕ) (r : Entry) → find (is_origin origin) log.records ≡ Some r → is_settled log.records origin ≡ false → family_of (kept_at h origin) ≡ family log.records origin
  family_open origin r found opens =
      let among = sym (origin_there origin) ∙ found in
      let test : Entry → Bool = λ x. nat_eq x.queue_offset origin && is_none (origin_text x) in
      let there = found_at test (halves_in log) r among in
      let passes = and_parts (nat_eq r.queue_offset origin) (is_none (origin_text r)) (found_passes test (halves_in log) r among) in
      let number = eqb-true r.queue_offset origin passes.0 in
      let was = has.each there.0 r there.1 in
      ap (λ (n : ℕ). family_of (kept_at h n)) (sym number) ∙ ap family_of (kept_there there.0 r there.1) ∙ was.2.family
      ∙ ap (λ (n : ℕ). cond (is_none (origin_text r) && not (is_settled log.records n)) (family log.records n) []) number
      ∙ ap (λ (b : Bool). cond (is_none (origin_text r) && not b) (family log.records origin) []) opens
      ∙ ap (λ (b : Bool). cond (b && true) (family log.records origin) []) passes.1

  no_family : (b : Bool) (xs : List Entry) → cond (b && false) xs [] ≡ []
  no_family true xs = refl
  no_family false xs = refl

  -- that of a settled one isn't
  pub family_settled : (origin : ℕ) → is_settled log.records origin ≡ true → family_of (kept_at h origin) ≡ []
  family_settled origin settled = elim (cases_lt origin h.first) [
    | inl less ↦ ap family_of (at_before h.kept.items h.first origin less)
    | inr more ↦
        (let k = origin - h.first in
        let is : origin ≡ h.first + k = omega (arith, more) in
        elim (cases_lt k (length (halves_in log))) [
          | inl within ↦
              (let e = get_there (halves_in log) k within in
              let number : e.0.queue_offset ≡ origin = number_at k e.0 e.1 ∙ sym is in
              let was = has.each k e.0 e.1 in
              ap (λ (n : ℕ). family_of (kept_at h n)) (sym number) ∙ ap family_of (kept_there k e.0 e.1) ∙ was.2.family
              ∙ ap (λ (n : ℕ). cond (is_none (origin_text e.0) && not (is_settled log.records n)) (family log.records n) []) number
              ∙ ap (λ (b : Bool). cond (is_none (origin_text e.0) && not b) (family log.records origin) []) settled
              ∙ no_family (is_none (origin_text e.0)) (family log.records origin))
          | inr past ↦ ap family_of (at_number h.kept.items h.first origin k is ∙ get_past h.kept.items k (let long = has.long in omega (arith, long, past)))
        ])
  ]
