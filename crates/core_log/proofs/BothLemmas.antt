-- The copy of a half message and the op record of its origin, where they are to stand.
use Rattle.std.proofs.Common.{◌≡◌, ◌≢◌, ◌∙◌, refl, ap, sym, subst, arith, ℕ, ◌+◌, ◌^◌, ◌<◌, ◌≤◌, max, true, false, List, [], ◌∷◌, length, slice_get, Some}
use Rattle.std.specs.Str.{bytes_eq}
use Rattle.std.proofs.lemmas.Slice.Eq.{bytes_eq-Decides}
use Rattle.record_codec.specs.Entry.{Entry}
use Rattle.record_codec.specs.Drafts.{entry_of, draft_size, IsEncodable}
use Rattle.record_codec.specs.declared.draft.Draft.{Draft}
use Rattle.record_codec.specs.declared.draft.Place.{Place}
use Rattle.record_codec.proofs.DraftLemmas.{HasNoFault-from, IsEncodable-from}
use Rattle.log_model.specs.declared.origin.OriginState.{OriginState}
use Rattle.log_model.specs.Admissible.{half_topic, op_topic}
use Rattle.log_model.specs.Log.{place_after}
use Rattle.log_model.specs.Numbered.{place_end, queue_max, next_record, next_records, with_appended}
use Rattle.log_model.proofs.Places.{end_of-append}
use Rattle.queue_view.specs.Tables.{Table, added_of, number_of}
use Rattle.pending_log.proofs.LogLemmas.{place_past}
use Rattle.broker_model.specs.Lawful.{IsState}
use Rattle.broker_model.specs.State.{State, Setup}
use Rattle.broker_model.specs.Step.{with_records}
use Rattle.made_records.specs.Made.{CanStand, IsOpOf}
use Rattle.core_log.specs.declared.parts.Parts.{Parts}
use Rattle.core_log.specs.Appends.{IsNextPlace, MayStand, MayStandBoth, SettlesAs}
use Rattle.core_log.specs.declared.room.Room.TheVariants.{Free}
use Rattle.core_log.specs.Represents.{Represents}
use Rattle.core_log.specs.Rooms.{room_of}
use Rattle.core_log.specs.Settles.{IsSettling}
use Rattle.core_log.proofs.SettleLemmas.{Copies, before, copies, copy_is_no_op, earlier, op_may, op_is_its, queue_other}
use Rattle.core_log.proofs.RoomsLemmas.{fits_two}
use Rattle.core_log.proofs.StoreLemmas.{offset_low, is_next, is_next_record}

-- the record of a draft that can stand at the next place may stand there
pub may_stand_by : (s : State) (d : Draft) (p : Place) → CanStand s.setup.segment (queue_max s.log half_topic 0) d p → IsNextPlace s d p → p.offset + draft_size d ≤ 2 ^ 62 → MayStand s d p
may_stand_by s d p can next low = record { next = next; room = (HasNoFault-from s.setup.segment d can.passes).fits; low = low; admissible = can.admissible; names = can.names }

-- and can be written, with a low queue offset
pub written_by : (segment halves : ℕ) (d : Draft) (p : Place) → segment ≤ 2 ^ 30 → CanStand segment halves d p → p.queue_offset < 2 ^ 62 → p.offset + draft_size d ≤ 2 ^ 62 → p.store < 2 ^ 62 → IsEncodable d p
written_by segment halves d p high can number low time =
    IsEncodable-from segment d p high can.passes can.born can.prepared number (omega (arith, low)) time can.unsealed

module _ (core : Parts) (s : State) (now origin : ℕ) (how : OriginState) (half : Entry) (copy op : Draft) (are : Represents core s) (it : IsSettling s now origin how half copy op) where
  some_segment : 0 < s.setup.segment
  some_segment = let low = are.state.log.segment.low in omega (arith, low)

  -- the copy, at the next place
  module _ (p : Place) (table : ℕ) (mine : number_of core.queues copy.topic copy.queue ≡ Some table)
      (offset : (t : Table) → slice_get core.queues table ≡ Some t → p.queue_offset ≡ added_of t) (place : p.offset ≡ place_after core.pending.segment core.pending.end (draft_size copy)) (at : p.store ≡ now) where
    next : IsNextPlace s copy p
    next =
        let later = it.later in
        let same = are.numbers.now in
        let time : p.store ≡ max now core.now = omega (arith, at, later, same) in
        is_next core s copy p table (draft_size copy) now are mine offset place refl time it.time

    behind : place_end s.log ≤ p.offset
    behind =
        let past = place_past s.setup.segment (place_end s.log) (draft_size copy) some_segment in
        let there = next.offset in
        omega (arith, past, there)

    pub its : Copies s.setup.segment (queue_max s.log half_topic 0) core.halves.view origin how copy p
    its = copies s now origin how half copy op are.state it (queue_max s.log half_topic 0) core.halves.view p are.halves.view behind

    pub copy_may : p.offset + draft_size copy ≤ 2 ^ 62 → MayStand s copy p
    copy_may low = may_stand_by s copy p its.stands next low

    pub copy_written : p.offset + draft_size copy ≤ 2 ^ 62 → IsEncodable copy p
    copy_written low =
        let few = offset_low core s copy.topic copy.queue are in
        let number = next.queue_offset in
        written_by s.setup.segment (queue_max s.log half_topic 0) copy p are.state.log.segment.high its.stands (omega (arith, few, number)) low next.time

    pub copy_is_next : entry_of copy p ≡ next_record s.setup.segment now s.log copy
    copy_is_next = is_next_record s copy p now next at

    -- the op record behind it
    module _ (q : Place) (other : ℕ) (mine_too : number_of core.queues op.topic op.queue ≡ Some other)
        (offset_too : (t : Table) → slice_get core.queues other ≡ Some t → q.queue_offset ≡ added_of t) (place_too : q.offset ≡ place_after core.setup.segment (p.offset + draft_size copy) (draft_size op)) (at_too : q.store ≡ now) where
      abbrev with_copy : State
      with_copy = with_records s p.store (entry_of copy p ∷ [])

      op_topic_is : op.topic ≡ op_topic
      op_topic_is = ap (λ (d : Draft). d.topic) it.op_is

      apart : bytes_eq copy.topic op.topic ≡ false
      apart = ap (λ (name : List ℕ). bytes_eq copy.topic name) op_topic_is ∙ its.op

      halves_same : queue_max with_copy.log half_topic 0 ≡ queue_max s.log half_topic 0
      halves_same = queue_other s.log (entry_of copy p) half_topic 0 its.settles.half

      next_number : q.queue_offset ≡ queue_max s.log op.topic op.queue
      next_number =
          let later = it.later in
          let same = are.numbers.now in
          let time : now ≡ max now core.now = omega (arith, later, same) in
          (is_next core s op (record { queue_offset = q.queue_offset; offset = place_after core.pending.segment core.pending.end (draft_size op); store = now }) other (draft_size op) now are mine_too offset_too refl refl time it.time).queue_offset

      next_too : IsNextPlace with_copy op q
      next_too =
          let time = it.time in record {
            queue_offset = next_number ∙ sym (queue_other s.log (entry_of copy p) op.topic op.queue apart);
            offset = place_too
                ∙ ap (λ (t : Setup). place_after t.segment (p.offset + draft_size copy) (draft_size op)) are.numbers.setup
                ∙ ap (λ (n : ℕ). place_after s.setup.segment n (draft_size op)) (sym (end_of-append s.log.base s.log.records (entry_of copy p)));
            store = omega (arith, at, at_too);
            time = omega (arith, at_too, time);
          }

      op_can : CanStand s.setup.segment (queue_max with_copy.log half_topic 0) op q
      op_can =
          let less = earlier s origin it.first are.state it.named in
          let same = halves_same in
          subst (λ (d : Draft). CanStand s.setup.segment (queue_max with_copy.log half_topic 0) d q) (sym it.op_is)
          (op_may s origin it.first are.state it.named now (queue_max with_copy.log half_topic 0) q it.time (omega (arith, less, same)))

      pub is_its_op : IsOpOf origin (entry_of op q)
      is_its_op = subst (λ (d : Draft). IsOpOf origin (entry_of d q)) (sym it.op_is) (op_is_its s origin it.first are.state it.named now q it.time)

      pub both_may : p.offset + draft_size copy ≤ 2 ^ 62 → q.offset + draft_size op ≤ 2 ^ 62 → MayStandBoth s copy p op q
      both_may low low_too = record { first = copy_may low; second = may_stand_by with_copy op q op_can next_too low_too; time = at_too ∙ sym at }

      pub op_written : q.offset + draft_size op ≤ 2 ^ 62 → IsEncodable op q
      op_written low_too =
          let few = offset_low core s op.topic op.queue are in
          let number = next_number in
          written_by s.setup.segment (queue_max with_copy.log half_topic 0) op q are.state.log.segment.high op_can (omega (arith, few, number)) low_too next_too.time

      -- the two records are the next ones
      pub both_are_next : entry_of copy p ∷ entry_of op q ∷ [] ≡ next_records s.setup.segment now s.log (copy ∷ op ∷ [])
      both_are_next =
          ap (λ (x : Entry). entry_of copy p ∷ x ∷ []) (is_next_record with_copy op q now next_too at_too)
          ∙ ap (λ (r : Entry). r ∷ next_record s.setup.segment now (with_appended s.log (r ∷ [])) op ∷ []) copy_is_next

-- ---- all that an append of both owes

pub record AreReady (core : Parts) (s : State) (now origin : ℕ) (how : OriginState) (d : Draft) (p : Place) (e : Draft) (q : Place) : Type 0 where
  pub may : MayStandBoth s d p e q
  pub written : IsEncodable d p
  pub written_too : IsEncodable e q
  pub short : length core.pending.bytes + draft_size d + draft_size e ≤ 67108864
  pub settles : SettlesAs core.halves.view origin how (entry_of d p)
  pub op : IsOpOf origin (entry_of e q)
  pub records : entry_of d p ∷ entry_of e q ∷ [] ≡ next_records s.setup.segment now s.log (d ∷ e ∷ [])
  pub at : p.store ≡ now

pub are_ready : (core : Parts) (s : State) (now origin : ℕ) (how : OriginState) (half : Entry) (d e : Draft) (p q : Place) (table other first second : ℕ) → Represents core s → IsSettling s now origin how half d e
    → number_of core.queues d.topic d.queue ≡ Some table → number_of core.queues e.topic e.queue ≡ Some other
    → ((t : Table) → slice_get core.queues table ≡ Some t → p.queue_offset ≡ added_of t) × (p.offset ≡ place_after core.pending.segment core.pending.end first) × (p.store ≡ now)
    → ((t : Table) → slice_get core.queues other ≡ Some t → q.queue_offset ≡ added_of t) × (q.offset ≡ place_after core.setup.segment (p.offset + first) second) × (q.store ≡ now)
    → first ≡ draft_size d → second ≡ draft_size e → room_of s (next_records s.setup.segment now s.log (d ∷ e ∷ [])) ≡ Free → AreReady core s now origin how d p e q
are_ready core s now origin how half d e p q table other first second are it mine mine_too place place_too size size_too free =
    let fits = fits_two core s are d e now first second size size_too free in
    let fit = fits.0 in
    let fit_too = fits.1 in
    let short = fits.2 in
    let at = place.1 in
    let behind = place_too.1 in
    let here : p.offset ≡ place_after core.pending.segment core.pending.end (draft_size d) = at ∙ ap (λ (n : ℕ). place_after core.pending.segment core.pending.end n) size in
    let there : q.offset ≡ place_after core.setup.segment (p.offset + draft_size d) (draft_size e) =
    behind ∙ ap (λ (n : ℕ). place_after core.setup.segment (p.offset + n) second) size ∙ ap (λ (n : ℕ). place_after core.setup.segment (p.offset + draft_size d) n) size_too in
    let ends : place_after core.setup.segment (place_after core.pending.segment core.pending.end first + first) second ≡ q.offset =
    ap (λ (n : ℕ). place_after core.setup.segment (n + first) second) (sym at) ∙ sym behind in
    let low : p.offset + draft_size d ≤ 2 ^ 62 = omega (arith, fit, at, size) in
    let low_too : q.offset + draft_size e ≤ 2 ^ 62 = omega (arith, fit_too, ends, size_too) in
    record {
      may = both_may core s now origin how half d e are it p table mine place.0 here place.2 q other mine_too place_too.0 there place_too.2 low low_too;
      written = copy_written core s now origin how half d e are it p table mine place.0 here place.2 low;
      written_too = op_written core s now origin how half d e are it p table mine place.0 here place.2 q other mine_too place_too.0 there place_too.2 low_too;
      short = omega (arith, short, size, size_too);
      settles = (its core s now origin how half d e are it p table mine place.0 here place.2).settles;
      op = is_its_op core s now origin how half d e are it p table mine place.0 here place.2 q other mine_too place_too.0 there place_too.2;
      records = both_are_next core s now origin how half d e are it p table mine place.0 here place.2 q other mine_too place_too.0 there place_too.2;
      at = place.2;
    }

-- both are ready in the parts that made room for them
pub ready_in : (old core : Parts) (s : State) (now origin : ℕ) (how : OriginState) (half : Entry) (d e d_too e_too : Draft) (p q : Place) (table other n m first second : ℕ) → Represents old s → Represents core s → IsSettling s now origin how half d e
    → (d_too ≡ d) × (n ≡ first) × (e_too ≡ e) × (m ≡ second)
    → number_of core.queues d.topic d.queue ≡ Some table → number_of core.queues e.topic e.queue ≡ Some other
    → ((t : Table) → slice_get core.queues table ≡ Some t → p.queue_offset ≡ added_of t) × (p.offset ≡ place_after core.pending.segment core.pending.end first) × (p.store ≡ now)
    → ((t : Table) → slice_get core.queues other ≡ Some t → q.queue_offset ≡ added_of t) × (q.offset ≡ place_after core.setup.segment (p.offset + first) second) × (q.store ≡ now)
    → (first ≡ draft_size d) × (second ≡ draft_size e) → ((t : State) → Represents old t → room_of t (next_records t.setup.segment now t.log (d ∷ e ∷ [])) ≡ Free)
    → AreReady core s now origin how d_too p e_too q × (next_records s.setup.segment now s.log (d_too ∷ e_too ∷ []) ≡ next_records s.setup.segment now s.log (d ∷ e ∷ []))
ready_in old core s now origin how half d e d_too e_too p q table other n m first second are0 are it same mine mine_too place place_too sizes free =
    let ready = are_ready core s now origin how half d e p q table other first second are it mine mine_too place place_too sizes.0 sizes.1 (free s are0) in (
      subst (λ (x : Draft). AreReady core s now origin how x p e_too q) (sym same.0) (subst (λ (x : Draft). AreReady core s now origin how d p x q) (sym same.2) ready),
      ap (λ (x : Draft). next_records s.setup.segment now s.log (x ∷ e_too ∷ [])) same.0 ∙ ap (λ (x : Draft). next_records s.setup.segment now s.log (d ∷ x ∷ [])) same.2,
    )

-- the topics of a copy and of an op record differ
pub topics_differ : (s : State) (now origin : ℕ) (how : OriginState) (half : Entry) (d e : Draft) → IsState s → IsSettling s now origin how half d e → d.topic ≢ e.topic
topics_differ s now origin how half d e is it same =
    let p : Place = record { queue_offset = 0; offset = place_end s.log; store = now } in
    let past = before s origin half it.first is it.named it.stands in
    let none = copy_is_no_op s now origin how half d e is it p past in
    let topic : e.topic ≡ op_topic = ap (λ (x : Draft). x.topic) it.op_is in
    let bad : false ≡ true = sym none ∙ (bytes_eq-Decides d.topic op_topic).1 (same ∙ topic) in
    cc bad
