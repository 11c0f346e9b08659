-- When a record may be appended, and that there is room for it.
use Rattle.std.specs.Prelude.{◌≡◌, ◌≢◌, ℕ, ◌+◌, ◌-◌, ◌^◌, ◌<◌, ◌≤◌, [], ◌∷◌, false, length, slice_get, Some}
use Rattle.record_codec.specs.Entry.{Entry}
use Rattle.log_model.specs.Kinds.{is_half, is_op, is_copy, is_discard}
use Rattle.log_model.specs.declared.origin.OriginState.{OriginState}
use Rattle.half_view.specs.Halves.{HalfTable, with_settled}
use Rattle.half_view.specs.OfLog.{with_settlement}
use Rattle.delay_view.specs.OfLog.{IsOther}
use Rattle.delay_view.specs.Levels.{Level}
use Rattle.level_records.specs.declared.levels.Levels.{Levels}
use Rattle.key_view.specs.Hashes.{keys_in}
use Rattle.record_codec.specs.Drafts.{entry_of, draft_size}
use Rattle.record_codec.specs.declared.draft.Draft.{Draft}
use Rattle.record_codec.specs.declared.draft.Place.{Place}
use Rattle.log_model.specs.Admissible.{half_topic, IsAdmissible, NamesEarlier}
use Rattle.log_model.specs.Log.{place_after}
use Rattle.log_model.specs.Numbered.{place_end, queue_max}
use Rattle.broker_model.specs.State.{State}
use Rattle.broker_model.specs.Step.{with_records}
use Rattle.queue_view.specs.Tables.{Table}
use Rattle.core_log.specs.declared.parts.Parts.{Parts}

-- how many keys the records of a draft have
abbrev pub key_count : Draft → ℕ
key_count d = length (keys_in d.topic d.props)

-- there is room for one record more in the rows, for its unit in this table, and for its keys
pub record HasRoomFor (core : Parts) (table : ℕ) (d : Draft) : Type 0 where
  pub row : 0 < core.rows.spare
  pub unit : (t : Table) → slice_get core.queues table ≡ Some t → 0 < t.spare
  pub keys : key_count d ≤ core.keys.spare

-- this is the next place in the state's log for a record of this draft, at a time that isn't before now
pub record IsNextPlace (s : State) (d : Draft) (p : Place) : Type 0 where
  pub queue_offset : p.queue_offset ≡ queue_max s.log d.topic d.queue
  pub offset : p.offset ≡ place_after s.setup.segment (place_end s.log) (draft_size d)
  pub store : s.now ≤ p.store
  pub time : p.store < 2 ^ 62

-- the draft's record may stand there: there is room in a segment and below the end of all places, and its kind may stand in the log
pub record MayStand (s : State) (d : Draft) (p : Place) : Type 0 where
  pub next : IsNextPlace s d p
  pub room : draft_size d + 8 ≤ s.setup.segment
  pub low : p.offset + draft_size d ≤ 2 ^ 62
  pub admissible : IsAdmissible s.setup.segment (entry_of d p)
  pub names : NamesEarlier (queue_max s.log half_topic 0) (entry_of d p)

-- ---- what a record is to the half messages

-- the record is no half message, and settles none
pub record IsMessage (r : Entry) : Type 0 where
  pub half : is_half r ≡ false
  pub op : is_op r ≡ false
  pub copied : is_copy r ≡ false
  pub discard : is_discard r ≡ false

-- the record, which is no half message, settles this origin so, as the table has it
pub record SettlesAs (t : HalfTable) (origin : ℕ) (how : OriginState) (r : Entry) : Type 0 where
  pub half : is_half r ≡ false
  pub other : IsOther r
  pub settles : (number : ℕ) → with_settlement t r number ≡ with_settled t (Some origin) how number

-- ---- two records

-- the records of these two drafts may stand there, one behind the other, at one time
pub record MayStandBoth (s : State) (d : Draft) (p : Place) (e : Draft) (q : Place) : Type 0 where
  pub first : MayStand s d p
  pub second : MayStand (with_records s p.store (entry_of d p ∷ [])) e q
  pub time : q.store ≡ p.store

-- there is room for two records more, of these two tables, and for their keys
pub record HasRoomForTwo (core : Parts) (table other : ℕ) (d e : Draft) : Type 0 where
  pub rows : 2 ≤ core.rows.spare
  pub unit : (t : Table) → slice_get core.queues table ≡ Some t → 0 < t.spare
  pub unit_too : (t : Table) → slice_get core.queues other ≡ Some t → 0 < t.spare
  pub apart : table ≢ other
  pub keys : key_count d + key_count e ≤ core.keys.spare

-- ---- deliveries

-- few messages of the level were delivered
abbrev pub HasFewDelivered : Levels → ℕ → Type 0
HasFewDelivered levels level = (l : Level) → slice_get levels.view (level - 1) ≡ Some l → l.copied < 2 ^ 62
