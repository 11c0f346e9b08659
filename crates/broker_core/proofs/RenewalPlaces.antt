-- The renewal of an open origin may stand at the next place.
use Rattle.std.proofs.Common.{◌≡◌, ℕ, ◌+◌, ◌^◌, ◌<◌, ◌≤◌, [], ◌∷◌, length, filter, slice_get, take, Some, None, sym, subst, arith}
use Rattle.record_codec.specs.Entry.{Entry}
use Rattle.record_codec.specs.Drafts.{draft_fault, draft_size, entry_of, IsEncodable}
use Rattle.record_codec.specs.declared.draft.Draft.{Draft}
use Rattle.record_codec.specs.declared.draft.Place.{Place}
use Rattle.record_codec.proofs.DraftLemmas.{HasNoFault-from, IsEncodable-from}
use Rattle.log_model.specs.Admissible.{half_topic}
use Rattle.log_model.specs.Bases.{geometry}
use Rattle.log_model.specs.Drafts.{renewal_draft}
use Rattle.log_model.specs.Kinds.{is_half}
use Rattle.log_model.specs.Log.{Follows, place_after}
use Rattle.log_model.specs.Numbered.{count_of, next_records, queue_max}
use Rattle.half_view.proofs.ListLemmas.{get_within}
use Rattle.half_view.proofs.LogLemmas.{next_half, numbers}
use Rattle.made_records.specs.Made.{CanStand, IsHalfOf}
use Rattle.made_records.proofs.RenewalLemmas.{renewal_stands, renewal_kind}
use Rattle.queue_view.specs.Tables.{Table, number_of, added_of}
use Rattle.broker_model.specs.State.{State}
use Rattle.core_log.specs.declared.parts.Parts.{Parts}
use Rattle.core_log.specs.Appends.{IsNextPlace, MayStand}
use Rattle.broker_core.specs.Checks.{IsHalfDraft, IsRenewedBy}
use Rattle.core_log.specs.Represents.{Represents}
use Rattle.core_log.specs.Rooms.{room_of}
use Rattle.core_log.specs.declared.room.Room.TheVariants.{Free}
use Rattle.core_log.proofs.AppendLemmas.{alike_length}
use Rattle.broker_core.proofs.CheckedOrigins.{IsHalfIn, IsOriginIn, origin_in, kept_in}
use Rattle.core_log.proofs.RoomsLemmas.{fits_one}
use Rattle.core_log.proofs.StoreLemmas.{is_next, offset_low}

-- a half message of the log has a lower number than the next one
pub below_next : (core : Parts) (s : State) (e : Entry) → Represents core s → IsHalfIn s.log.records e → e.queue_offset < queue_max s.log half_topic 0
below_next core s e are stands =
    let S = geometry s.setup.segment s.log.base in
    let kept = kept_in is_half s.log.records stands.index e stands.at stands.half in
    let number = numbers S s.log.records are.state.log kept.0 e kept.1 in
    let within = get_within (filter is_half s.log.records) kept.0 e kept.1 in
    let next = next_half S s.log.records are.state.log in
    omega (arith, number, within, next)

module _ (core : Parts) (s : State) (now origin : ℕ) (first : Entry) (d : Draft) (are : Represents core s) (by : IsRenewedBy s now origin first d) where
  its : IsOriginIn s.log.records origin first
  its = origin_in s.log.records origin first by.renewed.named

  follows : Follows (geometry s.setup.segment s.log.base) (take its.stands.index s.log.records) first
  follows = are.state.log.each its.stands.index first its.stands.at

  can : (p : Place) → CanStand s.setup.segment (queue_max s.log half_topic 0) d p
  can p = subst (λ (x : Draft). CanStand s.setup.segment (queue_max s.log half_topic 0) x p) (sym by.draft_is)
      (renewal_stands s.setup.segment (queue_max s.log half_topic 0) by.n first s.setup.host p follows.layout follows.admissible its.stands.half by.renewed.few (below_next core s first are its.stands))

  -- it names the origin
  pub of_origin : (p : Place) → IsHalfOf (Some origin) (entry_of d p)
  of_origin p = subst (λ (x : Draft). IsHalfOf (Some origin) (entry_of x p)) (sym by.draft_is)
      (subst (λ (n : ℕ). IsHalfOf (Some n) (entry_of (renewal_draft s.setup.host by.n first) p)) its.number
      (renewal_kind s.setup.segment (queue_max s.log half_topic 0) by.n first s.setup.host p follows.layout follows.admissible its.stands.half by.renewed.few (below_next core s first are its.stands)))

  -- it can be written
  pub fault_free : draft_fault s.setup.segment d ≡ None
  fault_free = (can (record { queue_offset = 0; offset = 0; store = 0 })).passes

  module _ (p : Place) (table size : ℕ) (mine : number_of core.queues d.topic d.queue ≡ Some table)
      (offset : (t : Table) → slice_get core.queues table ≡ Some t → p.queue_offset ≡ added_of t)
      (place : p.offset ≡ place_after core.pending.segment core.pending.end size) (store : p.store ≡ now) (size_is : size ≡ draft_size d)
      (low : place_after core.pending.segment core.pending.end size + size ≤ 2 ^ 62) where
    next_place_is : IsNextPlace s d p
    next_place_is =
        let later = by.renewed.later in
        let same = are.numbers.now in
        is_next core s d p table size now are mine offset place size_is (omega (arith, store, later, same)) by.renewed.time

    pub renewal_may : MayStand s d p
    renewal_may = record {
      next = next_place_is;
      room = (HasNoFault-from s.setup.segment d fault_free).fits;
      low = omega (arith, place, size_is, low);
      admissible = (can p).admissible;
      names = (can p).names;
    }

    pub renewal_may_be_written : IsEncodable d p
    renewal_may_be_written =
        let number = offset_low core s d.topic d.queue are in
        let same = next_place_is.queue_offset in
        let last = renewal_may.low in
        IsEncodable-from s.setup.segment d p are.state.log.segment.high fault_free (can p).born (can p).prepared (omega (arith, number, same)) (omega (arith, last)) next_place_is.time (can p).unsealed

    pub renewal_is_half : IsHalfDraft s.setup.segment d p
    renewal_is_half = record { encodable = renewal_may_be_written; admissible = (can p).admissible; half = (of_origin p).half }

-- ---- all that the append of a renewal asks

pub record IsReadyRenewal (core : Parts) (s : State) (d : Draft) (p : Place) (bytes : ℕ) : Type 0 where
  pub may : MayStand s d p
  pub written : IsEncodable d p
  pub half : IsHalfDraft s.setup.segment d p
  pub short : length core.pending.bytes + bytes ≤ 67108864

pub ready : (core : Parts) (s : State) (now origin : ℕ) (first : Entry) (d : Draft) (p : Place) (table bytes : ℕ) → Represents core s → IsRenewedBy s now origin first d
    → number_of core.queues d.topic d.queue ≡ Some table → ((t : Table) → slice_get core.queues table ≡ Some t → p.queue_offset ≡ added_of t) → p.offset ≡ place_after core.pending.segment core.pending.end bytes
    → p.store ≡ now → bytes ≡ draft_size d → room_of s (next_records s.setup.segment now s.log (d ∷ [])) ≡ Free → IsReadyRenewal core s d p bytes
ready core s now origin first d p table bytes are by mine offset place store bytes_is free =
    let fits = fits_one core s are d now bytes bytes_is free in
    record {
      may = renewal_may core s now origin first d are by p table bytes mine offset place store bytes_is fits.0;
      written = renewal_may_be_written core s now origin first d are by p table bytes mine offset place store bytes_is fits.0;
      half = renewal_is_half core s now origin first d are by p table bytes mine offset place store bytes_is fits.0;
      short = fits.1;
    }

-- the next record has this number
pub number_is : (core : Parts) (s : State) (number : ℕ) → Represents core s → number ≡ core.rows.first + length core.rows.items → number ≡ count_of s.log
number_is core s number are is =
    let long = alike_length core.rows.items s.log.records are.rows.items in
    let first = are.rows.first in
    omega (arith, is, long, first)
