-- A half message whose verdict is missing: its origin is renewed and asked for, or given up.
use Rattle.std.specs.Prelude.{◌≡◌, ℕ, ◌^◌, ◌<◌, ◌≤◌, ◌==◌, List, find, true, false, IsSome, Some}
use Rattle.record_codec.specs.Entry.{Entry}
use Rattle.record_codec.specs.Drafts.{entry_of, IsEncodable}
use Rattle.record_codec.specs.declared.draft.Draft.{Draft}
use Rattle.record_codec.specs.declared.draft.Place.{Place}
use Rattle.log_model.specs.Admissible.{IsAdmissible}
use Rattle.log_model.specs.Drafts.{renewal_draft}
use Rattle.log_model.specs.Kinds.{is_half, origin_text}
use Rattle.log_model.specs.Numbered.{count_of, next_records}
use Rattle.log_model.specs.Transactions.{family, is_origin, is_settled}
use Rattle.half_view.specs.declared.check.Check.{Check}
use Rattle.half_view.specs.OfLog.{check_of}
use Rattle.broker_model.specs.State.{State}
use Rattle.broker_model.specs.Events as model
use Rattle.broker_model.specs.Appended.{due_origin, check_drafts}
use Rattle.broker_model.specs.Answers.{asks_of}
use Rattle.broker_events.specs.declared.said.Said.{Said}
use Rattle.broker_events.specs.Steps.{Says}
use Rattle.core_log.specs.declared.parts.Parts.{Parts}
use Rattle.core_log.specs.declared.room.Room.{Room}
use Rattle.core_log.specs.declared.room.Room.TheVariants.{Free, Past, Full}
use Rattle.core_log.specs.Represents.{Represents}
use Rattle.core_log.specs.Rooms.{room_of, state_in}

-- ---- half messages

-- the draft's record is a half message that a log in segments of S bytes may have there
pub record IsHalfDraft (S : ℕ) (d : Draft) (p : Place) : Type 0 where
  pub encodable : IsEncodable d p
  pub admissible : IsAdmissible S (entry_of d p)
  pub half : is_half (entry_of d p) ≡ true

-- the half message with this queue offset is one of the family of this open origin
pub record IsOpenMember (log : List Entry) (origin half : ℕ) (r : Entry) : Type 0 where
  pub first : Entry
  pub named : find (is_origin origin) log ≡ Some first
  pub unsettled : is_settled log origin ≡ false
  pub stands : find (λ r. r.queue_offset == half) (family log origin) ≡ Some r

-- ---- renewals

-- at this time the open origin, which is this half message, is asked for the n-th time
pub record IsRenewed (s : State) (now origin n : ℕ) (first : Entry) : Type 0 where
  pub named : find (is_origin origin) s.log.records ≡ Some first
  pub unsettled : is_settled s.log.records origin ≡ false
  pub some : 1 ≤ n
  pub few : n ≤ 15
  pub later : s.now ≤ now
  pub time : now < 2 ^ 62

-- and this is the draft of its renewal
pub record IsRenewedBy (s : State) (now origin : ℕ) (first : Entry) (draft : Draft) : Type 0 where
  pub n : ℕ
  pub renewed : IsRenewed s now origin n first
  pub draft_is : draft ≡ renewal_draft s.setup.host n first

-- ---- origins that are given up

-- at this time the open origin is given up, whose last renewal, with this queue offset, is this half message
pub record IsGivenUp (s : State) (now origin last : ℕ) (half : Entry) : Type 0 where
  pub member : IsOpenMember s.log.records origin last half
  pub renewal : IsSome (origin_text half)
  pub later : s.now ≤ now
  pub time : now < 2 ^ 62

-- ---- checks

-- the model's answer to the check of an origin that appends these records, by the room for them
abbrev pub check_answer : Room → State → ℕ → List Entry → model.Answer
check_answer Free s origin records =
    model.Checked (Some (record { origin = origin; number = count_of s.log; asks = asks_of s records }))
check_answer Past s origin records = model.LogEnd
check_answer (Full pending) s origin records = model.Full pending

-- the check of this origin with these records at this time is answered so
pub record IsCheckedWith (s : State) (now origin : ℕ) (records : List Entry) (said : Said) (new : Parts) : Type 0 where
  pub answer : Says said (check_answer (room_of s records) s origin records)
  pub state : Represents new (state_in (room_of s records) s now records)

-- the same by the drafts of the records
abbrev pub IsCheckedBy : State → (now origin : ℕ) → List Draft → Said → Parts → Type 0
IsCheckedBy s now origin drafts said new = IsCheckedWith s now origin (next_records s.setup.segment now s.log drafts) said new

-- an origin is due at this time, and this is its check
pub record IsDueCheck (s : State) (now : ℕ) (due : Check) : Type 0 where
  pub origin : Entry
  pub is : due_origin s now ≡ Some origin
  pub check : due ≡ check_of s.log.records origin
  pub later : s.now ≤ now
  pub time : now < 2 ^ 62

-- it is checked
pub record Checks (s : State) (now : ℕ) (said : Said) (new : Parts) : Type 0 where
  pub origin : Entry
  pub is : due_origin s now ≡ Some origin
  pub done : IsCheckedBy s now origin.queue_offset (check_drafts s now (Some origin)) said new
