-- A message that is stored, and the reply to its send.
use Rattle.std.specs.Prelude.{◌≡◌, ℕ, ◌<◌, ◌≤◌, List, [], ◌∷◌, codes, true, false, Option, if◌then◌else◌}
use Rattle.record_codec.specs.Entry.{Entry}
use Rattle.record_codec.specs.Layout.{is_legal}
use Rattle.record_codec.specs.declared.draft.Draft.{Draft}
use Rattle.reply_fields.specs.Sent.{sent_fields}
use Rattle.log_model.specs.Admissible.{is_system_topic}
use Rattle.log_model.specs.Numbered.{next_record}
use Rattle.client_tables.specs.declared.topics.Topics.{Topics}
use Rattle.client_tables.specs.Counts.{queues_of}
use Rattle.broker_model.specs.State.{State}
use Rattle.broker_model.specs.Events as model
use Rattle.broker_model.specs.Refusals.{plain_reply}
use Rattle.broker_model.specs.Sends.{waits}
use Rattle.broker_model.specs.Answers.{append_answer, reply_with}
use Rattle.broker_model.specs.Step.{with_made, with_records}
use Rattle.broker_events.specs.declared.said.Said.{Said}
use Rattle.broker_events.specs.Steps.{Says}
use Rattle.core_log.specs.declared.parts.Parts.{Parts}
use Rattle.core_log.specs.Represents.{Represents}
use Rattle.core_log.specs.Rooms.{is_past, is_over}

-- A message may be for this topic, which has so many queues where it is known and is made with this number where it isn't.
pub record IsTarget (topics : Topics) (topic : List ℕ) (known : Option ℕ) (made : ℕ) : Type 0 where
  pub found : known ≡ queues_of topics topic
  pub some : 0 < made
  pub few : made ≤ 8
  pub legal : is_legal topic ≡ true
  pub plain : is_system_topic topic ≡ false

-- the model's answer to the send of a message to this queue, whose record is stored
abbrev pub stored_reply : State → Draft → ℕ → Entry → model.Answer
stored_reply s d queue r = append_answer s (waits d.props) (reply_with (sent_fields d.store_host r.offset queue r.queue_offset) []) 1

-- the answer to the send of a record
abbrev pub stored_answer : State → Draft → ℕ → Entry → (Said → Type 0)
stored_answer s d queue r said = Says said (stored_reply s d queue r)

-- the state with a record, and with this topic, which has at least so many queues
abbrev pub stored_state : State → Draft → List ℕ → ℕ → ℕ → State
stored_state s d topic n time = with_records (with_made s topic n) time (next_record s.setup.segment time s.log d ∷ [])

-- the draft's record was stored at this time, for this topic, which has at least so many queues, and this queue, and its send is
-- answered so
pub record IsStored (s : State) (d : Draft) (topic : List ℕ) (queue n time : ℕ) (said : Said) (new : Parts) : Type 0 where
  pub answer : stored_answer s d queue (next_record s.setup.segment time s.log d) said
  pub state : Represents new (stored_state s d topic n time)

-- ---- a message that is stored where there is room

-- the model's answer to the send of a record: there is no place for it, or no room in the buffer, or it is stored
abbrev pub sent_reply : State → Draft → ℕ → Entry → model.Answer
sent_reply s d queue r =
    if is_past r then model.Replies (plain_reply 14 (codes "log end"))
    else (if is_over s r then model.Full s.flushed else stored_reply s d queue r)

-- the state afterwards: the same, unless it is stored
abbrev pub sent_state : State → Draft → List ℕ → ℕ → ℕ → State
sent_state s d topic n time =
    if is_past (next_record s.setup.segment time s.log d) then s
    else (if is_over s (next_record s.setup.segment time s.log d) then s else stored_state s d topic n time)

-- the send of a draft at this time, for a topic that has at least so many queues then, and for this queue, is answered so
pub record IsSent (s : State) (d : Draft) (topic : List ℕ) (queue n time : ℕ) (said : Said) (new : Parts) : Type 0 where
  pub answer : Says said (sent_reply s d queue (next_record s.setup.segment time s.log d))
  pub state : Represents new (sent_state s d topic n time)
