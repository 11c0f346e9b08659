-- An origin whose Commit is kept stays committed until it is removed.
use Rattle.std.proofs.Common.{◌≡◌, ◌⊎◌, inl, inr, refl, ap, sym, ◌∙◌, subst, arith, ℕ, zero, suc, ◌+◌, ◌-◌, ◌<◌, ◌≤◌, ◌^◌, List, [], ◌∷◌, ◌++◌, slice_get, Bool, true, false, Option, Some, None, if◌then◌else◌}
use Rattle.std.specs.Prelude.{◌&&◌, ◌||◌, ◌==◌, not, is_none}
use Rattle.std.specs.List.{list_any}
use Rattle.std.specs.Str.{bytes_eq}
use Rattle.std.proofs.lemmas.Bool.{cases_Bool, cases_lt, and_parts, and_from, or_cases}
use Rattle.std.proofs.lemmas.Option.{same_Some}
use Rattle.mq_bytes.specs.Decimal.{digits_of}
use Rattle.record_codec.specs.Entry.{Entry}
use Rattle.log_model.specs.Admissible.{discard_topic}
use Rattle.log_model.specs.Bases.{Base}
use Rattle.log_model.specs.Drafts.{discard_draft, op_draft}
use Rattle.log_model.specs.Kinds.{is_half, is_copy, is_discard, is_text, origin_text}
use Rattle.log_model.specs.Numbered.{Log, with_appended, above, below, next_records}
use Rattle.log_model.specs.Transactions.{Open, Committed, RolledBack, Discarded, transaction_state, is_origin, is_renewal, is_of_family, copies_it, discards_it, settles, is_settled}
use Rattle.broker_model.specs.State.{State}
use Rattle.broker_model.specs.Events
use Rattle.broker_model.specs.Appended.{made_by, drafts_of, moment}
use Rattle.core_laws.specs.Kept.{IsKept}
use Rattle.core_laws.specs.Halves.{in_family, IsCommittedOrRemoved}
use Rattle.core_laws.specs.LogSteps.{Appends}
use Rattle.core_laws.proofs.Lists.{get_append, get_left, get_take, take_get, get_drop, drop_get}
use Rattle.core_laws.proofs.Counts.{any_at, any_found}
use Rattle.core_laws.proofs.Families.{one_place, family_found, old_family, family_at, copy_settles}
use Rattle.core_laws.proofs.Texts.{same_text, number_once}
use Rattle.core_laws.proofs.KeptRuns.{made_kept}
use Rattle.core_laws.proofs.LogMoves.{IsKeptByMoves}
use Rattle.core_laws.proofs.Discards.{NoDiscards, GivesUp, event_discards, none_discarded}

-- ---- what is kept

-- the record stands in the log with this number
abbrev pub IsAt : Log → ℕ → Entry → Type 0
IsAt log n r = (k : ℕ) × (n ≡ log.base.records + k) × (slice_get log.records k ≡ Some r)

-- no record gives the origin up
abbrev pub NoneGivesUp : List Entry → ℕ → Type 0
NoneGivesUp log h = (k : ℕ) (x : Entry) → slice_get log k ≡ Some x → discards_it log h x ≡ false

-- The origin has the number i, one of its family stands there or behind, and a copy of this one behind that, with the number n. No
-- record gives the origin up.
pub record IsCommittedAt (log : Log) (h i n : ℕ) : Type 0 where
  pub origin : Entry
  pub origin_at : IsAt log i origin
  pub is_origin : is_origin h origin ≡ true
  pub q : ℕ
  pub half : Entry
  pub half_at : IsAt log q half
  pub family : in_family h half ≡ true
  pub copy : Entry
  pub copy_at : IsAt log n copy
  pub copied : is_copy copy ≡ true
  pub prepared : half.offset ≡ copy.prepared
  pub first : i ≤ q
  pub follows : q < n
  pub none : NoneGivesUp log.records h

-- or the origin was removed
abbrev pub StaysCommitted : Log → ℕ → ℕ → ℕ → Type 0
StaysCommitted log h i n = (i < log.base.records) ⊎ IsCommittedAt log h i n

state_is : (settled given copied : Bool) → settled ≡ true → given ≡ false → copied ≡ true
    → (if not settled then Open else (if given then Discarded else (if copied then Committed else RolledBack))) ≡ Committed
state_is true false true a b c = refl
state_is true false false a b c = absurd (cc)
state_is true true copied a b c = absurd (cc)
state_is false given copied a b c = absurd (cc)

pub none_any : (p : Entry → Bool) (xs : List Entry) → ((k : ℕ) (x : Entry) → slice_get xs k ≡ Some x → p x ≡ false) → list_any p xs ≡ false
none_any p xs none = elim (cases_Bool (list_any p xs)) [
  | inl some ↦ absurd (let f = any_found p xs some in let a = none f.0 f.1 f.2 in let e : true ≡ false = sym f.3 ∙ a in cc)
  | inr not ↦ not
]

-- its copy is one in the words of the log
is_copied : (log : Log) (h i n : ℕ) → (c : IsCommittedAt log h i n) → copies_it log.records h c.copy ≡ true
is_copied log h i n c = and_from (is_copy c.copy) (is_of_family log.records h c.copy.prepared) c.copied
    (family_at log.records h c.copy.prepared c.half_at.0 c.half c.half_at.2 c.family c.prepared)

copied_settles : (log : Log) (h i n : ℕ) → (c : IsCommittedAt log h i n) → is_settled log.records h ≡ true
copied_settles log h i n c = any_at (settles log.records h) log.records c.copy_at.0 c.copy c.copy_at.2 (copy_settles log.records h c.copy (is_copied log h i n c))

pub is_committed : (log : Log) (h i n : ℕ) → IsCommittedAt log h i n → transaction_state log.records h ≡ Committed
is_committed log h i n c = state_is (is_settled log.records h) (list_any (discards_it log.records h) log.records) (list_any (copies_it log.records h) log.records)
    (copied_settles log h i n c) (none_any (discards_it log.records h) log.records c.none)
    (any_at (copies_it log.records h) log.records c.copy_at.0 c.copy c.copy_at.2 (is_copied log h i n c))

-- ---- a part of the log

pub part_none : (log part : List Entry) (r h : ℕ) → ((k : ℕ) (x : Entry) → slice_get part k ≡ Some x → slice_get log (r + k) ≡ Some x)
    → NoneGivesUp log h → NoneGivesUp part h
part_none log part r h back none = λ k x at. elim (cases_Bool (discards_it part h x)) [
  | inl given ↦ absurd (
      let parts = and_parts (is_discard x) (is_of_family part h x.prepared) given in
      let found = family_found part h x.prepared parts.1 in
      let there = family_at log h x.prepared (r + found.0) found.1 (back found.0 found.1 found.2) found.3 found.4 in
      let a = and_from (is_discard x) (is_of_family log h x.prepared) parts.0 there in
      let e : true ≡ false = sym a ∙ none (r + k) x (back k x at) in cc)
  | inr not ↦ not
]

-- removed in front, and cut behind n
part_committed : (log part : Log) (h i n r : ℕ) → ((k : ℕ) (x : Entry) → k ≤ n → part.base.records ≤ k → IsAt log k x → IsAt part k x)
    → ((k : ℕ) (x : Entry) → slice_get part.records k ≡ Some x → slice_get log.records (r + k) ≡ Some x)
    → log.base.records ≤ part.base.records → StaysCommitted log h i n → StaysCommitted part h i n
part_committed log part h i n r keeps back later (inl gone) = inl (omega (arith, gone, later))
part_committed log part h i n r keeps back later (inr c) = elim (cases_lt i part.base.records) [
  | inl gone ↦ inl gone
  | inr low ↦ inr (record {
    origin = c.origin;
    origin_at = keeps i c.origin (omega (arith, c.first, c.follows)) low c.origin_at;
    is_origin = c.is_origin;
    q = c.q;
    half = c.half;
    half_at = keeps c.q c.half (omega (arith, c.follows)) (omega (arith, low, c.first)) c.half_at;
    family = c.family;
    copy = c.copy;
    copy_at = keeps n c.copy (omega arith) (omega (arith, low, c.first, c.follows)) c.copy_at;
    copied = c.copied;
    prepared = c.prepared;
    first = c.first;
    follows = c.follows;
    none = part_none log.records part.records r h back c.none;
  })
]

above_committed : (log : Log) (later : Base) (h i n : ℕ) → log.base.records ≤ later.records → StaysCommitted log h i n → StaysCommitted (above log later) h i n
above_committed log later h i n low stays = part_committed log (above log later) h i n (later.records - log.base.records)
    (λ k x less from at. (
      at.0 - (later.records - log.base.records),
      omega (arith, at.1, from, low),
      get_drop (later.records - log.base.records) at.0 log.records x (omega (arith, at.1, from)) at.2,
    ))
    (λ k x at. drop_get (later.records - log.base.records) k log.records x at) low stays

below_committed : (log : Log) (m h i n : ℕ) → n < m → StaysCommitted log h i n → StaysCommitted (below log m) h i n
below_committed log m h i n low stays = part_committed log (below log m) h i n 0
    (λ k x less from at. (at.0, at.1, take_get (m - log.base.records) at.0 log.records x (omega (arith, at.1, less, low)) at.2))
    (λ k x at. let same : 0 + k ≡ k = omega arith in subst (λ (j : ℕ). slice_get log.records j ≡ Some x) (sym same) (get_take (m - log.base.records) k log.records x at).0)
    (omega arith) stays

-- ---- a longer log

second : (a b : Bool) → b ≡ true → (a || b) ≡ true
second true b e = refl
second false b e = e

-- where none gives the origin up, none does behind records that don't
pub more_none : (log : Log) (new : List Entry) (h : ℕ) → IsKept (with_appended log new)
    → ((j k : ℕ) (x y : Entry) → slice_get new j ≡ Some x → is_discard x ≡ true → slice_get (log.records ++ new) k ≡ Some y → in_family h y ≡ true → y.offset ≡ x.prepared → ⊥)
    → NoneGivesUp log.records h → NoneGivesUp (log.records ++ new) h
more_none log new h kept fresh none = λ k x at. elim (cases_Bool (discards_it (log.records ++ new) h x)) [
  | inl given ↦ absurd (gone k x at (and_parts (is_discard x) (is_of_family (log.records ++ new) h x.prepared) given))
  | inr not ↦ not
]
  where
    gone : (k : ℕ) (x : Entry) → slice_get (log.records ++ new) k ≡ Some x → (is_discard x ≡ true) × (is_of_family (log.records ++ new) h x.prepared ≡ true) → ⊥
    gone k x at parts = elim (get_append log.records new k x at) [
      | inl old ↦
          let family = old_family log new h k x kept old ((kept.each k x at).prepared (second (is_copy x) (is_discard x) parts.0)) parts.1 in
          let a = and_from (is_discard x) (is_of_family log.records h x.prepared) parts.0 family in
          let e : true ≡ false = sym a ∙ none k x old in cc
      | inr late ↦
          let found = family_found (log.records ++ new) h x.prepared parts.1 in
          fresh late.0 found.0 x found.1 late.2 parts.0 found.2 found.3 found.4
    ]

-- a renewal of one origin is of no other's family
renewal_family : (g h : ℕ) (r : Entry) → g < 2 ^ 64 → h < 2 ^ 64 → is_renewal g r ≡ true → in_family h r ≡ true → g ≡ h
renewal_family g h r low also renews family =
    let parts = and_parts (is_half r) (is_text (digits_of g) (origin_text r)) renews in
    elim (or_cases (is_origin h r) (is_renewal h r) family) [
      | inl origin ↦ absurd (no_text g (origin_text r) parts.1 (and_parts (is_half r) (is_none (origin_text r)) (and_parts (is_half r && is_none (origin_text r)) (r.queue_offset == h) origin).0).1)
      | inr renewal ↦ number_once g h low also (both g h (origin_text r) parts.1 (and_parts (is_half r) (is_text (digits_of h) (origin_text r)) renewal).1)
    ]
  where
    no_text : (g : ℕ) (o : Option (List ℕ)) → is_text (digits_of g) o ≡ true → is_none o ≡ true → ⊥
    no_text g None is none = cc
    no_text g (Some text) is none = cc

    both : (g h : ℕ) (o : Option (List ℕ)) → is_text (digits_of g) o ≡ true → is_text (digits_of h) o ≡ true → digits_of g ≡ digits_of h
    both g h None is also = absurd (cc)
    both g h (Some text) is also = sym (same_text text (digits_of g) is) ∙ same_text text (digits_of h) also

-- what a step gives up is of another origin, where this one is settled
pub other_given : (s : State) (e : Events.Event) (h : ℕ) → h < 2 ^ 64 → IsKept s.log → IsKept (with_appended s.log (made_by s e)) → is_settled s.log.records h ≡ true
    → NoDiscards (drafts_of s e) ⊎ GivesUp s e
    → (j k : ℕ) (x y : Entry) → slice_get (made_by s e) j ≡ Some x → is_discard x ≡ true → slice_get (s.log.records ++ made_by s e) k ≡ Some y → in_family h y ≡ true → y.offset ≡ x.prepared → ⊥
other_given s e h low before kept settled (inl none) j k x y at is there family same =
    let not = none_discarded s.setup.segment (moment s e) s.log (drafts_of s e) j x none at in let e : true ≡ false = sym is ∙ not in cc
other_given s e h low before kept settled (inr up) j k x y at is there family same =
    let made : made_by s e ≡ next_records s.setup.segment (moment s e) s.log (discard_draft s.setup.host up.renewal ∷ op_draft s.setup.host (moment s e) up.origin.queue_offset ∷ []) =
    ap (next_records s.setup.segment (moment s e) s.log) up.drafts_are in
    let prepared : x.prepared ≡ up.renewal.offset = given_place j x (subst (λ (l : List Entry). slice_get l j ≡ Some x) made at) is in
    let one : y ≡ up.renewal = one_place (with_appended s.log (made_by s e)) k up.place y up.renewal kept there (get_left s.log.records (made_by s e) up.place up.renewal up.there) (same ∙ prepared) in
    let of : up.origin.queue_offset ≡ h = renewal_family up.origin.queue_offset h up.renewal ((before.each up.index up.origin up.stands).low up.is_half) low up.renews
    (subst (λ (z : Entry). in_family h z ≡ true) one family) in
    let e : true ≡ false = sym settled ∙ (ap (is_settled s.log.records) (sym of) ∙ up.unsettled) in cc
  where
    given_place : (j : ℕ) (x : Entry) → slice_get (next_records s.setup.segment (moment s e) s.log (discard_draft s.setup.host up.renewal ∷ op_draft s.setup.host (moment s e) up.origin.queue_offset ∷ [])) j ≡ Some x
        → is_discard x ≡ true → x.prepared ≡ up.renewal.offset
    given_place zero x at is = ap (λ (z : Entry). z.prepared) (sym (same_Some _ x at))
    given_place (suc zero) x at is = absurd (let a = ap (λ (z : Entry). bytes_eq z.topic discard_topic) (same_Some _ x at) in let e : true ≡ false = sym is ∙ sym a in cc)
    given_place (suc (suc j)) x at is = absurd (cc)

pub at_longer : (log : Log) (new : List Entry) (n : ℕ) (r : Entry) → IsAt log n r → IsAt (with_appended log new) n r
at_longer log new n r at = (at.0, at.1, get_left log.records new at.0 r at.2)

grown : (log : Log) (new : List Entry) (h i n : ℕ) → NoneGivesUp (log.records ++ new) h → IsCommittedAt log h i n → IsCommittedAt (with_appended log new) h i n
grown log new h i n none c = record {
  origin = c.origin;
  origin_at = at_longer log new i c.origin c.origin_at;
  is_origin = c.is_origin;
  q = c.q;
  half = c.half;
  half_at = at_longer log new c.q c.half c.half_at;
  family = c.family;
  copy = c.copy;
  copy_at = at_longer log new n c.copy c.copy_at;
  copied = c.copied;
  prepared = c.prepared;
  first = c.first;
  follows = c.follows;
  none = none;
}

-- ---- moves

-- the first records are removed, those behind the copy are lost, or others come behind
pub committed_by_moves : (h i n : ℕ) → h < 2 ^ 64 → IsKeptByMoves (λ log. StaysCommitted log h i n) n
committed_by_moves h i n low = record {
  loses_front = λ log later less stays. above_committed log later h i n less stays;
  loses_end = λ log m more stays. below_committed log m h i n more stays;
  grows = step_committed;
}
  where
    step_committed : (s t : State) (e : Events.Event) → 0 < s.setup.segment → IsKept s.log → Appends s e t → StaysCommitted s.log h i n → StaysCommitted t.log h i n
    step_committed s t e some kept grows (inl gone) = inl (subst (λ (l : Log). i < l.base.records) (sym grows.log) gone)
    step_committed s t e some kept grows (inr c) =
        let longer = made_kept s e some kept grows.fine in
        let none = more_none s.log (made_by s e) h longer
        (other_given s e h low kept longer (copied_settles s.log h i n c) (event_discards s e kept grows.fine)) c.none in
        subst (λ (l : Log). StaysCommitted l h i n) (sym grows.log) (inr (grown s.log (made_by s e) h i n none c))

pub said_committed : (s : State) (h i n : ℕ) → StaysCommitted s.log h i n → IsCommittedOrRemoved s h i
said_committed s h i n (inl gone) = inl gone
said_committed s h i n (inr c) = inr (is_committed s.log h i n c)
