-- A delayed message that is delivered.
use Rattle.std.specs.Prelude.{◌≡◌, ℕ, ◌^◌, ◌<◌, ◌≤◌, [], ◌∷◌, Some, if◌then◌else◌}
use Rattle.record_codec.specs.Entry.{Entry}
use Rattle.record_codec.specs.declared.draft.Draft.{Draft}
use Rattle.log_model.specs.Delays.{due_delayed, progress}
use Rattle.log_model.specs.Drafts.{delivery_draft}
use Rattle.log_model.specs.Numbered.{next_record}
use Rattle.broker_model.specs.State.{State}
use Rattle.broker_model.specs.Events as model
use Rattle.broker_model.specs.Step.{with_records}
use Rattle.broker_events.specs.declared.said.Said.{Said}
use Rattle.broker_events.specs.Steps.{Says}
use Rattle.core_log.specs.declared.parts.Parts.{Parts}
use Rattle.core_log.specs.Represents.{Represents}
use Rattle.core_log.specs.Rooms.{is_past, is_over}

-- at this time the message is the one that is due, of this level and with this number there, and the draft is its delivery
pub record IsDue (s : State) (now level count : ℕ) (r : Entry) (d : Draft) : Type 0 where
  pub due : due_delayed s.log s.dispatched now ≡ Some (level, r)
  pub count_is : count ≡ progress s.log level
  pub draft : d ≡ delivery_draft s.setup.host level count r
  pub later : s.now ≤ now
  pub time : now < 2 ^ 62

-- the record of a delivery at this time
abbrev pub delivered_entry : State → ℕ → Draft → Entry
delivered_entry s now d = next_record s.setup.segment now s.log d

-- the model's answer to a delivery: there is no place for its record, or no room in the buffer, or it is delivered
abbrev pub delivery_answer : State → Entry → ℕ → ℕ → model.Answer
delivery_answer s e level count =
    if is_past e then model.LogEnd else (if is_over s e then model.Full s.flushed else model.Delivered (Some (level, count)))

-- the state afterwards: the same, unless it is delivered
abbrev pub delivery_state : State → ℕ → Entry → State
delivery_state s now e = if is_past e then s else (if is_over s e then s else with_records s now (e ∷ []))

-- the delivery of this draft is answered so
pub record IsDelivered (s : State) (now level count : ℕ) (d : Draft) (said : Said) (new : Parts) : Type 0 where
  pub answer : Says said (delivery_answer s (delivered_entry s now d) level count)
  pub state : Represents new (delivery_state s now (delivered_entry s now d))

-- some message of this level is due at this time, and it has this number there
pub record IsTurnOf (s : State) (now level count : ℕ) : Type 0 where
  pub message : Entry
  pub due : due_delayed s.log s.dispatched now ≡ Some (level, message)
  pub count_is : count ≡ progress s.log level
  pub later : s.now ≤ now
  pub time : now < 2 ^ 62

-- it is delivered, or finds no room
pub record Delivers (s : State) (now level count : ℕ) (said : Said) (new : Parts) : Type 0 where
  pub message : Entry
  pub due : due_delayed s.log s.dispatched now ≡ Some (level, message)
  pub done : IsDelivered s now level count (delivery_draft s.setup.host level count message) said new
