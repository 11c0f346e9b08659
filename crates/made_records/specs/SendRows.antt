-- Why a send is refused, by what it says, the bytes of a segment, and how many queues its topic has.
use Rattle.std.specs.Prelude.{ℕ, ◌+◌, ◌==◌, ◌&&◌, not, nat_lt, Bool, List, [], ◌∷◌, length, codes, is_none, Option, unwrap_or}
use Rattle.record_codec.specs.Layout.{is_legal, are_hosts_short}
use Rattle.record_codec.specs.Drafts.{first_that_holds}
use Rattle.log_model.specs.Admissible.{is_system_topic}
use Rattle.request_fields.specs.Requests.{SendSaid}
use Rattle.broker_model.specs.Events as model
use Rattle.broker_model.specs.Sends.{queue_named, flag_of}
use Rattle.broker_model.specs.Refusals.{plain_reply, made_queues}
use Rattle.made_records.specs.declared.send_rows.Refusal.{Refusal}
use Rattle.made_records.specs.declared.send_rows.Refusal.TheVariants.{Topic, SysFlag, Body, Properties, Record, SystemTopic, NoTopic, Queue}

-- the rows, in their order
abbrev pub rows_of : ℕ → Option ℕ → SendSaid → List (Bool × Refusal)
rows_of segment known send =
    (not (is_legal send.topic), Topic)
    ∷ (not (are_hosts_short (flag_of send)), SysFlag)
    ∷ (nat_lt 4194304 (length send.body), Body)
    ∷ (nat_lt 31999 (length send.props), Properties)
    ∷ (nat_lt segment (length send.body + length send.props + 1024), Record)
    ∷ (is_system_topic send.topic, SystemTopic)
    ∷ (is_none known && (length send.default_topic == 0), NoTopic)
    ∷ (not (nat_lt (queue_named send.queue) (unwrap_or known (made_queues send.default_queues))), Queue)
    ∷ []

-- the first refusal that holds
unfoldable pub refusal_by : ℕ → Option ℕ → SendSaid → Option Refusal
refusal_by segment known send = first_that_holds (rows_of segment known send)

-- what is answered
abbrev pub refused : Refusal → model.Reply
refused Topic = plain_reply 13 (codes "topic")
refused SysFlag = plain_reply 13 (codes "sysFlag")
refused Body = plain_reply 13 (codes "body")
refused Properties = plain_reply 13 (codes "properties")
refused Record = plain_reply 13 (codes "record")
refused SystemTopic = plain_reply 16 (codes "system topic")
refused NoTopic = plain_reply 17 (codes "no topic")
refused Queue = plain_reply 1 (codes "queue")
