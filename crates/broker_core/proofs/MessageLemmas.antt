-- What is known of the message that a level delivers next.
use Rattle.std.proofs.Common.{◌≡◌, ◌∙◌, ◌≢◌, refl, ap, sym, subst, arith, ℕ, zero, suc, ◌+◌, ◌-◌, ◌^◌, ◌<◌, ◌≤◌, Bool, true, false, cond, List, [], ◌∷◌, ◌++◌, take, filter, length, slice_get, Option, Some, None, codes}
use Rattle.std.specs.Prelude.{nat_lt, ◌==◌, ◌&&◌, ◌||◌, not, if◌then◌else◌, unwrap_or, IsSome, IfSome}
use Rattle.std.specs.Str.{bytes_eq}
use Rattle.std.proofs.lemmas.Bool.{and_parts, ltb-false}
use Rattle.std.proofs.lemmas.Slice.Eq.{bytes_eq-Decides}
use Rattle.record_codec.specs.Entry.{Entry}
use Rattle.record_codec.specs.Props.{value_of, without}
use Rattle.record_codec.specs.Layout.{IsRecord}
use Rattle.record_codec.specs.Drafts.{draft_fault, draft_size, entry_of, IsEncodable}
use Rattle.record_codec.specs.declared.draft.Draft.{Draft}
use Rattle.record_codec.specs.declared.draft.Place.{Place}
use Rattle.record_codec.proofs.DraftLemmas.{HasNoFault-from, IsEncodable-from}
use Rattle.record_codec.proofs.LastLemmas.{value_of-kept}
use Rattle.log_model.specs.Admissible.{level_topic, is_system_topic, IsBelow, IsAdmissible, IsDelayedMessage, IsPlainTopic}
use Rattle.log_model.specs.Delays.{next_delayed, progress}
use Rattle.log_model.specs.Drafts.{text_in, without_real, delivery_draft, delivery_text}
use Rattle.record_codec.proofs.Records.{EntryFacts, said}
use Rattle.log_model.specs.Numbered.{queue_min}
use Rattle.log_model.proofs.Makes.{delivery_written}
use Rattle.delay_view.specs.Levels.{Level}
use Rattle.delay_view.proofs.GrowthLemmas.{get_within}
use Rattle.broker_model.specs.State.{State}
use Rattle.core_log.specs.declared.parts.Parts.{Parts}
use Rattle.core_log.specs.Represents.{Represents}
use Rattle.log_model.specs.Admissible.{half_topic}
use Rattle.log_model.specs.Numbered.{queue_max}
use Rattle.log_model.proofs.AdmissibleLemmas.{plain_names}
use Rattle.record_codec.specs.Props.{has_name}
use Rattle.queue_view.specs.Tables.{Table, number_of, added_of}
use Rattle.log_model.specs.Log.{place_after}
use Rattle.delay_view.specs.OfLog.{IsCopyOf}
use Rattle.core_log.specs.Appends.{IsMessage, IsNextPlace, MayStand}
use Rattle.broker_core.specs.Delivers.{IsDue}
use Rattle.broker_core.proofs.DueLemmas.{due_is_next}
use Rattle.broker_core.proofs.MadeLemmas.{made_admissible, made_kind, made_message}
use Rattle.core_log.proofs.StoreLemmas.{queue_few, offset_low, is_next}

ahead : (b : Bool) (n low : ℕ) (o : Option Entry) (r : Entry) → nat_lt n low ≡ b → cond b None o ≡ Some r → (low ≤ n) × (o ≡ Some r)
ahead true n low o r is at = absurd (let bad : None ≡ Some r = at in cc bad)
ahead false n low o r is at = (ltb-false n low is, at)

in_front : (n : ℕ) (xs : List Entry) (k : ℕ) (x : Entry) → slice_get (take n xs) k ≡ Some x → slice_get xs k ≡ Some x
in_front zero xs k x at = absurd (let bad : None ≡ Some x = at in cc bad)
in_front (suc n) [] k x at = at
in_front (suc n) (y ∷ xs) zero x at = at
in_front (suc n) (y ∷ xs) (suc k) x at = in_front n xs k x at

pub same_some : (a b : Entry) → Some a ≡ Some b → a ≡ b
same_some a b is = cc is

-- what passes a filter was there, and passes its test
kept_was : (test : Entry → Bool) (xs : List Entry) (k : ℕ) (e : Entry) → slice_get (filter test xs) k ≡ Some e → (j : ℕ) × (slice_get xs j ≡ Some e) × (test e ≡ true)
kept_was test [] k e at = cc at
kept_was test (x ∷ xs) k e at = by_test (λ i got. kept_was test xs i e got) (test x) refl k at
  where
    by_test : ((i : ℕ) → slice_get (filter test xs) i ≡ Some e → (j : ℕ) × (slice_get xs j ≡ Some e) × (test e ≡ true))
        → (b : Bool) → test x ≡ b → (i : ℕ) → slice_get (cond b (x ∷ filter test xs) (filter test xs)) i ≡ Some e → (j : ℕ) × (slice_get (x ∷ xs) j ≡ Some e) × (test e ≡ true)
    by_test rest true is zero got = (0, got, ap test (sym (same_some x e got)) ∙ is)
    by_test rest true is (suc i) got = let there = rest i got in (suc there.0, there.1, there.2)
    by_test rest false is i got = let there = rest i got in (suc there.0, there.1, there.2)

front_few : (n : ℕ) (xs : List Entry) → length (take n xs) ≤ length xs
front_few zero xs = omega arith
front_few (suc n) [] = omega arith
front_few (suc n) (y ∷ xs) = let rest = front_few n xs in omega (arith, rest)

apart : (a b : List ℕ) → bytes_eq a b ≡ false → a ≢ b
apart a b differs same = let bad : false ≡ true = sym differs ∙ (bytes_eq-Decides a b).1 same in cc bad

text_holds : (o : Option (List ℕ)) (P : List ℕ → Type 0) → IsSome o → IfSome o P → P (unwrap_or o [])
text_holds None P there is = absurd (cc)
text_holds (Some text) P there is = is

module _ (core : Parts) (s : State) (level : ℕ) (r : Entry) (are : Represents core s) (next : next_delayed s.log s.dispatched level ≡ Some r) where
  abbrev front : List Entry
  front = take (s.dispatched - s.log.base.records) s.log.records

  abbrev test : Entry → Bool
  test q = bytes_eq q.topic level_topic && (q.queue == level - 1)

  found : (queue_min s.log level_topic (level - 1) ≤ progress s.log level) × (slice_get (filter test front) (progress s.log level - queue_min s.log level_topic (level - 1)) ≡ Some r)
  found = ahead (nat_lt (progress s.log level) (queue_min s.log level_topic (level - 1))) (progress s.log level) (queue_min s.log level_topic (level - 1)) _ r refl next

  -- it stands in the log
  pub stands : (k : ℕ) × (slice_get s.log.records k ≡ Some r) × (test r ≡ true)
  stands = let was = kept_was test front (progress s.log level - queue_min s.log level_topic (level - 1)) r found.1 in
      (was.0, in_front (s.dispatched - s.log.base.records) s.log.records was.0 r was.1, was.2)

  pub topic : r.topic ≡ level_topic
  topic = (bytes_eq-Decides r.topic level_topic).0 (and_parts (bytes_eq r.topic level_topic) (r.queue == level - 1) stands.2).0

  pub may : IsAdmissible s.setup.segment r
  may = (are.state.log.each stands.0 r stands.1).admissible

  pub layout : IsRecord r
  layout = (are.state.log.each stands.0 r stands.1).layout

  message : IsDelayedMessage s.setup.segment r
  message = may.level ((bytes_eq-Decides r.topic level_topic).1 topic)

  -- the level was not cut past it, and few were delivered
  pub few : progress s.log level < 2 ^ 62
  few =
      let within = get_within (filter test front) (progress s.log level - queue_min s.log level_topic (level - 1)) r found.1 in
      let short = queue_few level_topic (level - 1) front in
      let least = front_few (s.dispatched - s.log.base.records) s.log.records in
      let counted = are.state.log.segment.counted level_topic (level - 1) in
      let from = found.0 in
      let all = are.numbers.few in
      let low = are.numbers.low in
      omega (arith, within, short, least, counted, from, all, low)

  pub few_copied : (l : Level) → 1 ≤ level → slice_get core.levels.view (level - 1) ≡ Some l → l.copied < 2 ^ 62
  few_copied l first there =
      let its = are.levels.view.each (level - 1) l there in
      let same : level - 1 + 1 ≡ level = omega (arith, first) in
      let copied = its.copied ∙ ap (λ (n : ℕ). progress s.log n) same in
      let short = few in
      omega (arith, copied, short)

  -- it tells its queue, and no delivery
  pub queue : IsBelow 1024 (text_in (codes "REAL_QID") r.props)
  queue = text_holds (value_of (codes "REAL_QID") r.props) (IsBelow 1024) message.waits.queue.0 message.waits.queue.1

  pub plain_topic : is_system_topic (text_in (codes "REAL_TOPIC") r.props) ≡ false
  plain_topic = (text_holds (value_of (codes "REAL_TOPIC") r.props) IsPlainTopic message.waits.topic.0 message.waits.topic.1).1

  pub free : value_of (codes "DELAY_FROM") (without (codes "DELAY") (without_real r.props)) ≡ None
  free =
      value_of-kept (codes "DELAY_FROM") (codes "DELAY") (without_real r.props) (apart (codes "DELAY_FROM") (codes "DELAY") refl)
      ∙ value_of-kept (codes "DELAY_FROM") (codes "REAL_QID") (without (codes "REAL_TOPIC") r.props) (apart (codes "DELAY_FROM") (codes "REAL_QID") refl)
      ∙ value_of-kept (codes "DELAY_FROM") (codes "REAL_TOPIC") r.props (apart (codes "DELAY_FROM") (codes "REAL_TOPIC") refl)
      ∙ may.undelivered (ap is_system_topic topic ∙ refl)

  -- its delivery can be written
  pub written : (host : List ℕ) (count : ℕ) → level ≤ 18 → count ≡ progress s.log level → draft_fault s.setup.segment (delivery_draft host level count r) ≡ None
  written host count last is =
      let short = few in
      delivery_written s.setup.segment r host layout may level count ((bytes_eq-Decides r.topic level_topic).1 topic) (omega (arith, last)) (omega (arith, short, is))

-- ---- its delivery

-- The record of a delivery may stand in a log, and is of no other kind.
pub delivery_admissible : (S level number : ℕ) (r : Entry) (host : List ℕ) (p : Place) → IsRecord r → IsAdmissible S r → r.topic ≡ level_topic → 1 ≤ level → level ≤ 18 → number < 2 ^ 62
    → IsAdmissible S (entry_of (delivery_draft host level number r) p)
delivery_admissible S level number r host p is may topic first last few = made_admissible S level number r host p may topic first last few

pub delivery_kind : (S level number : ℕ) (r : Entry) (host : List ℕ) (p : Place) → IsRecord r → IsAdmissible S r → r.topic ≡ level_topic → 1 ≤ level → level ≤ 18 → number < 2 ^ 62
    → IsCopyOf level (entry_of (delivery_draft host level number r) p)
delivery_kind S level number r host p is may topic first last few = made_kind S level number r host p may topic first last few

module _ (core : Parts) (s : State) (now level count : ℕ) (r : Entry) (d : Draft) (p : Place) (are : Represents core s) (due : IsDue s now level count r d) where
  turn : ((1 ≤ level) × (level ≤ 18)) × (next_delayed s.log s.dispatched level ≡ Some r)
  turn = due_is_next s.log s.dispatched now level r due.due

  low_number : count < 2 ^ 62
  low_number = let short = few core s level r are turn.1 in let is = due.count_is in omega (arith, short, is)

  pub of_kind : IsCopyOf level (entry_of d p)
  of_kind = subst (λ (x : Draft). IsCopyOf level (entry_of x p)) (sym due.draft)
      (delivery_kind s.setup.segment level count r s.setup.host p (layout core s level r are turn.1) (may core s level r are turn.1) (topic core s level r are turn.1) turn.0.0 turn.0.1 low_number)

  pub of_message : IsMessage (entry_of d p)
  of_message = subst (λ (x : Draft). IsMessage (entry_of x p)) (sym due.draft)
      (made_message s.setup.segment level count r s.setup.host p (may core s level r are turn.1) (topic core s level r are turn.1) turn.0.0 turn.0.1 low_number)

  fault_free : draft_fault s.setup.segment d ≡ None
  fault_free = subst (λ (x : Draft). draft_fault s.setup.segment x ≡ None) (sym due.draft) (written core s level r are turn.1 s.setup.host count turn.0.1 due.count_is)

  -- the delivery may stand at the next place
  pub delivery_stands : IsNextPlace s d p → p.offset + draft_size d ≤ 2 ^ 62 → is_system_topic d.topic ≡ false → MayStand s d p
  delivery_stands next low plain = record {
    next = next;
    room = (HasNoFault-from s.setup.segment d fault_free).fits;
    low = low;
    admissible = subst (λ (x : Draft). IsAdmissible s.setup.segment (entry_of x p)) (sym due.draft)
        (delivery_admissible s.setup.segment level count r s.setup.host p (layout core s level r are turn.1) (may core s level r are turn.1) (topic core s level r are turn.1) turn.0.0 turn.0.1 low_number);
    names = plain_names s.setup.segment (entry_of d p) plain (queue_max s.log half_topic 0);
  }

  -- and can be written
  pub delivery_encodable : MayStand s d p → has_name (codes "SEAL") d.props ≡ false → d.born < 2 ^ 62 → d.prepared < 2 ^ 62 → IsEncodable d p
  delivery_encodable stand unsealed born prepared =
      let number = offset_low core s d.topic d.queue are in
      let same = stand.next.queue_offset in
      let low = stand.low in
      IsEncodable-from s.setup.segment d p are.state.log.segment.high fault_free born prepared (omega (arith, number, same)) (omega (arith, low)) stand.next.time unsealed

neither : (a b : Bool) → a || b ≡ false → (a ≡ false) × (b ≡ false)
neither true b is = absurd (cc is)
neither false b is = (refl, is)

-- no property has the seal's name
lost : (name other : List ℕ) (ps : List (List ℕ × List ℕ)) → has_name name ps ≡ false → has_name name (without other ps) ≡ false
lost name other [] none = none
lost name other (p ∷ ps) none =
    by_test (not (bytes_eq other p.0)) (neither (bytes_eq name p.0) (has_name name ps) none).0 (lost name other ps (neither (bytes_eq name p.0) (has_name name ps) none).1)
  where
    by_test : (b : Bool) → bytes_eq name p.0 ≡ false → has_name name (without other ps) ≡ false → has_name name (if b then p ∷ without other ps else without other ps) ≡ false
    by_test true first rest = ap (λ (b : Bool). b || has_name name (without other ps)) first ∙ rest
    by_test false first rest = rest

lost_pushed : (name : List ℕ) (p : List ℕ × List ℕ) (ps : List (List ℕ × List ℕ)) → has_name name ps ≡ false → bytes_eq name p.0 ≡ false → has_name name (ps ++ p ∷ []) ≡ false
lost_pushed name p [] none differs = ap (λ (b : Bool). b || false) differs
lost_pushed name p (q ∷ ps) none differs =
    ap (λ (b : Bool). b || has_name name (ps ++ p ∷ [])) (neither (bytes_eq name q.0) (has_name name ps) none).0
    ∙ lost_pushed name p ps (neither (bytes_eq name q.0) (has_name name ps) none).1 differs

module _ (core : Parts) (s : State) (now level count size table : ℕ) (r : Entry) (d : Draft) (p : Place) (are : Represents core s) (due : IsDue s now level count r d)
    (mine : number_of core.queues d.topic d.queue ≡ Some table) (offset : (t : Table) → slice_get core.queues table ≡ Some t → p.queue_offset ≡ added_of t)
    (place : p.offset ≡ place_after core.pending.segment core.pending.end size) (store : p.store ≡ now) (size_is : size ≡ draft_size d)
    (low : place_after core.pending.segment core.pending.end size + size ≤ 2 ^ 62) where
  turned : ((1 ≤ level) × (level ≤ 18)) × (next_delayed s.log s.dispatched level ≡ Some r)
  turned = due_is_next s.log s.dispatched now level r due.due

  plain_there : is_system_topic d.topic ≡ false
  plain_there = subst (λ (x : Draft). is_system_topic x.topic ≡ false) (sym due.draft) (plain_topic core s level r are turned.1)

  facts : EntryFacts r
  facts = said r (layout core s level r are turned.1).entry

  unsealed : has_name (codes "SEAL") d.props ≡ false
  unsealed = subst (λ (x : Draft). has_name (codes "SEAL") x.props ≡ false) (sym due.draft)
      (lost_pushed (codes "SEAL") (codes "DELAY_FROM", delivery_text level count) (without (codes "DELAY") (without_real r.props))
      (lost (codes "SEAL") (codes "DELAY") (without_real r.props) (lost (codes "SEAL") (codes "REAL_QID") (without (codes "REAL_TOPIC") r.props) (lost (codes "SEAL") (codes "REAL_TOPIC") r.props facts.no_seal))) refl)

  next_place_is : IsNextPlace s d p
  next_place_is =
      let later = due.later in
      let same = are.numbers.now in
      is_next core s d p table size now are mine offset place size_is (omega (arith, store, later, same)) due.time

  pub delivery_may : MayStand s d p
  delivery_may = delivery_stands core s now level count r d p are due next_place_is (omega (arith, place, size_is, low)) plain_there

  pub delivery_may_be_written : IsEncodable d p
  delivery_may_be_written =
      let born = facts.born in
      delivery_encodable core s now level count r d p are due delivery_may unsealed
      (subst (λ (x : Draft). x.born < 2 ^ 62) (sym due.draft) born) (subst (λ (x : Draft). x.prepared < 2 ^ 62) (sym due.draft) (let e : 0 < 2 ^ 62 = omega arith in e))
