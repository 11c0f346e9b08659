-- A producer's verdict on a half message.
use Rattle.std.specs.Prelude.{◌≡◌, ℕ, ◌^◌, ◌<◌, ◌≤◌, ◌==◌, ◌||◌, nat_le, max, List, length, find, codes, Bool, false}
use Rattle.std.specs.Prelude.{Option, Some, None, if◌then◌else◌}
use Rattle.record_codec.specs.Entry.{Entry}
use Rattle.record_codec.specs.declared.draft.Draft.{Draft}
use Rattle.log_model.specs.Drafts.{op_draft}
use Rattle.log_model.specs.Numbered.{next_records}
use Rattle.log_model.specs.Origins.{told_state}
use Rattle.log_model.specs.Transactions.{family, is_origin, is_settled, transaction_state}
use Rattle.log_model.specs.declared.origin.OriginState.{OriginState}
use Rattle.log_model.specs.declared.origin.OriginState.TheVariants.{Open, Committed, RolledBack, Discarded}
use Rattle.request_fields.specs.Requests.{EndSaid}
use Rattle.request_fields.specs.declared.request.Request.TheVariants.{EndTransaction}
use Rattle.broker_model.specs.State.{State}
use Rattle.broker_model.specs.Events as model
use Rattle.broker_model.specs.Refusals.{plain_reply, end_refusal, verdict_origin}
use Rattle.broker_model.specs.Answers.{answer_of, append_answer, done_reply, repeated_answer, settling_number}
use Rattle.broker_model.specs.Step.{after}
use Rattle.broker_events.specs.declared.said.Said.{Said}
use Rattle.broker_events.specs.Steps.{Says}
use Rattle.core_log.specs.declared.parts.Parts.{Parts}
use Rattle.core_log.specs.declared.room.Room.{Room}
use Rattle.core_log.specs.declared.room.Room.TheVariants.{Free, Past, Full}
use Rattle.core_log.specs.Represents.{Represents}
use Rattle.core_log.specs.Rooms.{room_of, state_in}

-- the remark that refuses a verdict which disagrees with what the origin became; 0 is no verdict
abbrev pub disagreement_of : ℕ → OriginState → Option (List ℕ)
disagreement_of verdict Open = None
disagreement_of verdict Committed = if verdict == 12 then Some (codes "settled committed") else None
disagreement_of verdict RolledBack = if verdict == 8 then Some (codes "settled rolledback") else None
disagreement_of verdict Discarded = if verdict == 0 then None else Some (codes "settled discarded")

-- it is the first verdict on an open origin
abbrev pub is_first_verdict : ℕ → OriginState → Bool
is_first_verdict verdict Open = (verdict == 8) || (verdict == 12)
is_first_verdict verdict Committed = false
is_first_verdict verdict RolledBack = false
is_first_verdict verdict Discarded = false

-- ---- an origin is settled

-- what is answered where an origin is settled by these records, by the room for them
abbrev pub settled_answer : Room → State → Bool → List Entry → model.Answer
settled_answer Free s awaited records = append_answer s awaited done_reply (length records)
settled_answer Past s awaited records = model.Replies (plain_reply 14 (codes "log end"))
settled_answer (Full pending) s awaited records = model.Full pending

-- an origin that is settled at this time by these records is answered so
pub record IsSettledBy (s : State) (now : ℕ) (awaited : Bool) (records : List Entry) (said : Said) (new : Parts) : Type 0 where
  pub answer : Says said (settled_answer (room_of s records) s awaited records)
  pub state : Represents new (state_in (room_of s records) s now records)

-- the same by the records of these drafts
abbrev pub IsSettled : State → ℕ → Bool → List Draft → Said → Parts → Type 0
IsSettled s now awaited drafts said new = IsSettledBy s now awaited (next_records s.setup.segment now s.log drafts) said new

-- at this time the draft is the op record of this origin
pub record IsRollingBack (s : State) (now origin : ℕ) (op : Draft) : Type 0 where
  pub first : Entry
  pub named : find (is_origin origin) s.log.records ≡ Some first
  pub op_is : op ≡ op_draft s.setup.host now origin
  pub later : s.now ≤ now
  pub time : now < 2 ^ 62

-- ---- verdicts

-- the half message that the verdict names is this one, of this open origin
pub record IsNamedBy (s : State) (end : EndSaid) (origin : ℕ) (half : Entry) : Type 0 where
  pub first : Entry
  pub named : find (is_origin origin) s.log.records ≡ Some first
  pub opens : is_settled s.log.records origin ≡ false
  pub stands : find (λ r. r.queue_offset == half.queue_offset) (family s.log.records origin) ≡ Some half
  pub number : half.queue_offset ≡ end.queue_offset

-- the verdict, which nothing refuses, is on this origin, which became this, and is answered at this time
pub record IsJudged (s : State) (now : ℕ) (end : EndSaid) (origin : ℕ) (state : OriginState) : Type 0 where
  pub first : Entry
  pub on : verdict_origin s end ≡ Some first
  pub number : first.queue_offset ≡ origin
  pub state_is : told_state (transaction_state s.log.records origin) ≡ state
  pub taken : end_refusal s end ≡ None
  pub later : s.now ≤ now
  pub time : now < 2 ^ 62

-- a verdict that comes on this link
abbrev pub verdict_event : ℕ → List ℕ → ℕ → EndSaid → model.Event
verdict_event link host given end = model.Asks (record { link = link; host = host; now = given; request = EndTransaction end })

-- on whatever link, at this time the verdict is answered so
abbrev pub AnswersVerdict : State → ℕ → EndSaid → Said → Parts → Type 0
AnswersVerdict s now end said new = (link : ℕ) (host : List ℕ) (given : ℕ) → max given s.now ≡ now
    → Says said (answer_of s (verdict_event link host given end)) × Represents new (after s (verdict_event link host given end))

-- the number of the record that settles the origin, where it isn't flushed yet
abbrev pub awaited_in : Option ℕ → ℕ → Option ℕ
awaited_in None flushed = None
awaited_in (Some number) flushed = if nat_le flushed number then Some number else None

-- the answer to a verdict on this origin that appends nothing
abbrev pub agreed_answer : State → ℕ → Option Entry → model.Answer
agreed_answer s verdict origin =
    if verdict == 0 then model.Replies done_reply else repeated_answer s (settling_number s origin)
