-- The origin that is due, and what is known of it and of its last renewal.
use Rattle.std.proofs.Common.{◌≡◌, ◌∙◌, ℕ, zero, suc, ◌+◌, ◌-◌, ◌≤◌, ◌^◌, ◌&&◌, ◌||◌, Bool, true, false, cond, min, List, [], ◌∷◌, length, filter, find, slice_get, Option, Some, None, refl, sym, ap, arith}
use Rattle.std.specs.Prelude.{nat_eq, nat_lt, not, is_none, IsSome, option_map}
use Rattle.std.proofs.lemmas.Bool.{and_parts, eq-eqb, eqb-true, ltb-true, not-true}
use Rattle.std.proofs.lemmas.Option.{same_Some}
use Rattle.mq_bytes.specs.Decimal.{digits_of}
use Rattle.record_codec.specs.Entry.{Entry}
use Rattle.log_model.specs.Bases.{geometry}
use Rattle.log_model.specs.Drafts.{renewal_draft, discard_draft, op_draft}
use Rattle.log_model.specs.Kinds.{is_half, is_text, origin_text}
use Rattle.log_model.specs.Log.{IsWellFormed}
use Rattle.log_model.specs.Numbered.{Log}
use Rattle.log_model.specs.Transactions.{family, is_origin, is_renewal, is_settled, last_of, origins, renewals}
use Rattle.half_view.specs.Halves.{HalfTable}
use Rattle.half_view.specs.OfLog.{AreHalvesOf, is_asked_at as is_asked_by_table, is_due_origin as is_due_in_table, due_origin as due_in_table}
use Rattle.half_view.proofs.DueLemmas.{each_half, find-filter, find-agree}
use Rattle.half_view.proofs.LogLemmas.{kept_was}
use Rattle.half_view.proofs.OriginLemmas.{found_passes, if_passes, only_one}
use Rattle.broker_model.specs.State.{State}
use Rattle.broker_model.specs.Appended.{is_asked_at, is_due_origin, due_origin, next_check}

-- ---- the model has the table's origin

asked_same : (now : ℕ) (e : Entry) (last : Option Entry) → is_asked_by_table now e last ≡ is_asked_at now e last
asked_same now e None = refl
asked_same now e (Some renewal) = refl

pub due_same : (s : State) (now : ℕ) → due_in_table s.log.records now ≡ due_origin s now
due_same s now =
    let log = s.log.records in
    find-agree (is_due_in_table log now) (is_due_origin log now)
    (λ e. ap (λ (b : Bool). not (is_settled log e.queue_offset) && b) (asked_same now e (last_of (renewals log e.queue_offset)))) (origins log)

-- ---- lists

-- what is found is there
pub found_at : (p : Entry → Bool) (xs : List Entry) (x : Entry) → find p xs ≡ Some x → (k : ℕ) × (slice_get xs k ≡ Some x)
found_at p [] x found = cc found
found_at p (y ∷ xs) x found = by_test (λ there. found_at p xs x there) (p y) found
  where
    by_test : (find p xs ≡ Some x → (k : ℕ) × (slice_get xs k ≡ Some x)) → (b : Bool) → cond b (Some y) (find p xs) ≡ Some x → (k : ℕ) × (slice_get (y ∷ xs) k ≡ Some x)
    by_test rest true here = (0, here)
    by_test rest false there = let at = rest there in (suc at.0, at.1)

-- what passes is kept
pub kept_in : (test : Entry → Bool) (xs : List Entry) (j : ℕ) (e : Entry) → slice_get xs j ≡ Some e → test e ≡ true → (k : ℕ) × (slice_get (filter test xs) k ≡ Some e)
kept_in test [] j e at is = cc at
kept_in test (x ∷ xs) zero e at is = by_test (test x) (ap test (same_Some x e at) ∙ is)
  where
    by_test : (b : Bool) → b ≡ true → (k : ℕ) × (slice_get (cond b (x ∷ filter test xs) (filter test xs)) k ≡ Some e)
    by_test true passes = (0, at)
    by_test false fails = cc fails
kept_in test (x ∷ xs) (suc j) e at is = by_test (kept_in test xs j e at is) (test x)
  where
    by_test : (k : ℕ) × (slice_get (filter test xs) k ≡ Some e) → (b : Bool) → (k : ℕ) × (slice_get (cond b (x ∷ filter test xs) (filter test xs)) k ≡ Some e)
    by_test rest true = (suc rest.0, rest.1)
    by_test rest false = rest

last_at : (xs : List Entry) (x : Entry) → last_of xs ≡ Some x → (k : ℕ) × (slice_get xs k ≡ Some x)
last_at [] x is = cc is
last_at (y ∷ []) x is = (0, is)
last_at (y ∷ z ∷ xs) x is = let rest = last_at (z ∷ xs) x is in (suc rest.0, rest.1)

last_none : (xs : List Entry) → last_of xs ≡ None → length xs ≡ 0
last_none [] is = refl
last_none (y ∷ []) is = cc is
last_none (y ∷ z ∷ xs) is = absurd (let more = last_none (z ∷ xs) is in omega (arith, more))

-- ---- half messages of a log

-- the half message stands in the log
pub record IsHalfIn (log : List Entry) (e : Entry) : Type 0 where
  pub index : ℕ
  pub at : slice_get log index ≡ Some e
  pub half : is_half e ≡ true

-- the record is the open origin with this number
pub record IsOriginIn (log : List Entry) (origin : ℕ) (e : Entry) : Type 0 where
  pub stands : IsHalfIn log e
  pub none : is_none (origin_text e) ≡ true
  pub number : e.queue_offset ≡ origin

pub origin_in : (log : List Entry) (origin : ℕ) (e : Entry) → find (is_origin origin) log ≡ Some e → IsOriginIn log origin e
origin_in log origin e found =
    let there = found_at (is_origin origin) log e found in
    let passes = and_parts (is_half e && is_none (origin_text e)) (nat_eq e.queue_offset origin) (found_passes (is_origin origin) log e found) in
    let kinds = and_parts (is_half e) (is_none (origin_text e)) passes.0 in
    record { stands = record { index = there.0; at = there.1; half = kinds.0 }; none = kinds.1; number = eqb-true e.queue_offset origin passes.1 }

text_some : (text : List ℕ) (o : Option (List ℕ)) → is_text text o ≡ true → IsSome o
text_some text None is = cc is
text_some text (Some value) is = refl

-- the last renewal of an origin
pub record IsRenewalIn (log : List Entry) (origin : ℕ) (e : Entry) : Type 0 where
  pub stands : IsHalfIn log e
  pub names : is_text (digits_of origin) (origin_text e) ≡ true
  pub some : IsSome (origin_text e)

pub last_renewal : (log : List Entry) (origin : ℕ) (e : Entry) → last_of (renewals log origin) ≡ Some e → IsRenewalIn log origin e
last_renewal log origin e last =
    let there = last_at (renewals log origin) e last in
    let was = kept_was (is_renewal origin) log there.0 e there.1 in
    let passes = and_parts (is_half e) (is_text (digits_of origin) (origin_text e)) was.2 in
    record { stands = record { index = was.0; at = was.1; half = passes.0 }; names = passes.1; some = text_some (digits_of origin) (origin_text e) passes.1 }

-- what is due is an open origin
pub record IsDueIn (log : List Entry) (e : Entry) : Type 0 where
  pub stands : IsHalfIn log e
  pub none : is_none (origin_text e) ≡ true
  pub unsettled : is_settled log e.queue_offset ≡ false

pub due_in : (s : State) (now : ℕ) (e : Entry) → due_origin s now ≡ Some e → IsDueIn s.log.records e
due_in s now e due =
    let log = s.log.records in
    let test : Entry → Bool = λ r. is_half r && is_none (origin_text r) in
    let there = found_at (is_due_origin log now) (origins log) e due in
    let was = kept_was test log there.0 e there.1 in
    let kinds = and_parts (is_half e) (is_none (origin_text e)) was.2 in
    let passes = and_parts (not (is_settled log e.queue_offset)) (is_asked_at now e (last_of (renewals log e.queue_offset))) (found_passes (is_due_origin log now) (origins log) e due) in
    record { stands = record { index = was.0; at = was.1; half = kinds.0 }; none = kinds.1; unsettled = not-true (is_settled log e.queue_offset) passes.0 }

module _ (segment : ℕ) (log : Log) (t : HalfTable) (well : IsWellFormed (geometry segment log.base) log.records) (are : AreHalvesOf log t) where
  and_swap : (a b : Bool) → (a && b) ≡ (b && a)
  and_swap true true = refl
  and_swap true false = refl
  and_swap false true = refl
  and_swap false false = refl

  turned : (a n q t z : Bool) → ((a && n && q || a && t) && z) ≡ (a && (z && (n && q || t)))
  turned false n q t z = refl
  turned true n q t z = and_swap (n && q || t) z

  turned_origin : (a n q : Bool) → (a && n && q) ≡ (a && (q && n))
  turned_origin false n q = refl
  turned_origin true n q = and_swap n q

  -- the origin is found by its number
  pub origin_found : (e : Entry) → IsHalfIn log.records e → is_none (origin_text e) ≡ true → find (is_origin e.queue_offset) log.records ≡ Some e
  unfolding if_passes
  origin_found e stands none =
      let h = e.queue_offset in
      let kept = kept_in is_half log.records stands.index e stands.at stands.half in
      let test : Entry → Bool = λ x. nat_eq x.queue_offset h && is_none (origin_text x) in
      find-agree (is_origin h) (λ x. is_half x && test x) (λ x. turned_origin (is_half x) (is_none (origin_text x)) (nat_eq x.queue_offset h)) log.records
      ∙ sym (find-filter test is_half log.records)
      ∙ only_one segment log t well are h kept.0 (Some e) (λ x. is_none (origin_text x)) (each_half segment log t well are kept.0 e kept.1).0 kept.1
      ∙ ap (λ (b : Bool). cond b (Some e) None) none

  -- a half message of a family is found there by its number
  member_found : (origin : ℕ) (e : Entry) → IsHalfIn log.records e → (is_none (origin_text e) && nat_eq e.queue_offset origin || is_text (digits_of origin) (origin_text e)) ≡ true
      → find (λ r. nat_eq r.queue_offset e.queue_offset) (family log.records origin) ≡ Some e
  unfolding if_passes
  member_found origin e stands one =
      let h = e.queue_offset in
      let kept = kept_in is_half log.records stands.index e stands.at stands.half in
      let its : Entry → Bool = λ x. is_none (origin_text x) && nat_eq x.queue_offset origin || is_text (digits_of origin) (origin_text x) in
      let test : Entry → Bool = λ x. nat_eq x.queue_offset h && its x in
      find-filter (λ x. nat_eq x.queue_offset h) (λ x. is_origin origin x || is_renewal origin x) log.records
      ∙ find-agree (λ x. (is_origin origin x || is_renewal origin x) && nat_eq x.queue_offset h) (λ x. is_half x && test x)
      (λ x. turned (is_half x) (is_none (origin_text x)) (nat_eq x.queue_offset origin) (is_text (digits_of origin) (origin_text x)) (nat_eq x.queue_offset h)) log.records
      ∙ sym (find-filter test is_half log.records)
      ∙ only_one segment log t well are h kept.0 (Some e) its (each_half segment log t well are kept.0 e kept.1).0 kept.1
      ∙ ap (λ (b : Bool). cond b (Some e) None) one

  or_true : (b : Bool) → (b || true) ≡ true
  or_true true = refl
  or_true false = refl

  pub origin_member : (e : Entry) → IsHalfIn log.records e → is_none (origin_text e) ≡ true → find (λ r. nat_eq r.queue_offset e.queue_offset) (family log.records e.queue_offset) ≡ Some e
  origin_member e stands none =
      let own = is_text (digits_of e.queue_offset) (origin_text e) in
      member_found e.queue_offset e stands
      (ap (λ (b : Bool). b && nat_eq e.queue_offset e.queue_offset || own) none ∙ ap (λ (b : Bool). b || own) (eq-eqb e.queue_offset e.queue_offset refl))

  pub renewal_member : (origin : ℕ) (e : Entry) → IsRenewalIn log.records origin e → find (λ r. nat_eq r.queue_offset e.queue_offset) (family log.records origin) ≡ Some e
  renewal_member origin e is =
      let own = is_none (origin_text e) && nat_eq e.queue_offset origin in
      member_found origin e is.stands (ap (λ (b : Bool). own || b) is.names ∙ or_true own)

-- ---- how it is checked

-- it is renewed
pub record IsAskedAgain (s : State) (now : ℕ) (e : Entry) (asked : List Entry) : Type 0 where
  pub few : min (length asked) (2 ^ 32 - 1) + 1 ≤ 15
  pub drafts : next_check s now e asked (last_of asked) ≡ renewal_draft s.setup.host (min (length asked) (2 ^ 32 - 1) + 1) e ∷ []

pub asked_again : (s : State) (now : ℕ) (e : Entry) (asked : List Entry) → cond (nat_lt (length asked) 15) None (option_map (λ (r : Entry). r.queue_offset) (last_of asked)) ≡ None → IsAskedAgain s now e asked
asked_again s now e asked none = by_last (last_of asked) refl none
  where
    first : last_of asked ≡ None → IsAskedAgain s now e asked
    first last =
        let empty = last_none asked last in
        let count : 1 ≡ min (length asked) (2 ^ 32 - 1) + 1 = omega (arith, empty) in
        record {
          few = omega (arith, empty);
          drafts = ap (λ (o : Option Entry). next_check s now e asked o) last ∙ ap (λ (n : ℕ). renewal_draft s.setup.host n e ∷ []) count;
        }

    more : (r : Entry) → last_of asked ≡ Some r → nat_lt (length asked) 15 ≡ true → IsAskedAgain s now e asked
    more r last less =
        let low = ltb-true (length asked) 15 less in
        let count : length asked + 1 ≡ min (length asked) (2 ^ 32 - 1) + 1 = omega (arith, low) in
        record {
          few = omega (arith, low);
          drafts = ap (λ (o : Option Entry). next_check s now e asked o) last
              ∙ ap (λ (b : Bool). cond b (renewal_draft s.setup.host (length asked + 1) e ∷ []) (discard_draft s.setup.host r ∷ op_draft s.setup.host now e.queue_offset ∷ [])) less
              ∙ ap (λ (n : ℕ). renewal_draft s.setup.host n e ∷ []) count;
        }

    by_count : (r : Entry) → last_of asked ≡ Some r → (b : Bool) → nat_lt (length asked) 15 ≡ b → cond b None (Some r.queue_offset) ≡ None → IsAskedAgain s now e asked
    by_count r last true less is = more r last less
    by_count r last false past is = cc is

    by_last : (o : Option Entry) → last_of asked ≡ o → cond (nat_lt (length asked) 15) None (option_map (λ (r : Entry). r.queue_offset) o) ≡ None → IsAskedAgain s now e asked
    by_last None last is = first last
    by_last (Some r) last is = by_count r last (nat_lt (length asked) 15) refl is

-- it is given up
pub record IsLeft (s : State) (now last : ℕ) (e : Entry) (asked : List Entry) : Type 0 where
  pub renewal : Entry
  pub is_last : last_of asked ≡ Some renewal
  pub number : renewal.queue_offset ≡ last
  pub drafts : next_check s now e asked (last_of asked) ≡ discard_draft s.setup.host renewal ∷ op_draft s.setup.host now e.queue_offset ∷ []

pub left : (s : State) (now last : ℕ) (e : Entry) (asked : List Entry) → cond (nat_lt (length asked) 15) None (option_map (λ (r : Entry). r.queue_offset) (last_of asked)) ≡ Some last → IsLeft s now last e asked
left s now last e asked some = by_last (last_of asked) refl (nat_lt (length asked) 15) refl some
  where
    by_last : (o : Option Entry) → last_of asked ≡ o → (b : Bool) → nat_lt (length asked) 15 ≡ b → cond b None (option_map (λ (r : Entry). r.queue_offset) o) ≡ Some last → IsLeft s now last e asked
    by_last o is true less at = cc at
    by_last None is false past at = cc at
    by_last (Some r) is false past at = record {
      renewal = r;
      is_last = is;
      number = same_Some r.queue_offset last at;
      drafts = ap (λ (o : Option Entry). next_check s now e asked o) is
          ∙ ap (λ (b : Bool). cond b (renewal_draft s.setup.host (length asked + 1) e ∷ []) (discard_draft s.setup.host r ∷ op_draft s.setup.host now e.queue_offset ∷ [])) past;
    }

-- ---- what a family has

-- what is found in the family of an origin is a half message of the log
pub member_in : (log : List Entry) (origin half : ℕ) (e : Entry) → find (λ r. nat_eq r.queue_offset half) (family log origin) ≡ Some e → IsHalfIn log e
member_in log origin half e found =
    let there = found_at (λ r. nat_eq r.queue_offset half) (family log origin) e found in
    let was = kept_was (λ r. is_origin origin r || is_renewal origin r) log there.0 e there.1 in
    record { index = was.0; at = was.1; half = by_kind (is_half e) (is_none (origin_text e)) (nat_eq e.queue_offset origin) (is_text (digits_of origin) (origin_text e)) was.2 }
  where
    by_kind : (a n q t : Bool) → (a && n && q || a && t) ≡ true → a ≡ true
    by_kind true n q t is = refl
    by_kind false n q t is = cc is
