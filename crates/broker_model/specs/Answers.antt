-- What the broker answers to an event.
use Rattle.std.specs.Prelude.{ℕ, ◌+◌, ◌-◌, ◌==◌, ◌&&◌, nat_lt, nat_le, min, max, List, [], ◌∷◌, length, take_while, filter, find}
use Rattle.std.specs.Prelude.{codes, ℤ, pos, int_lt, bit_and, Bool, true, Option, Some, None, option_map, if◌then◌else◌}
use Rattle.std.specs.Int.{w32, cast_unsigned}
use Rattle.mq_bytes.specs.Decimal.{digits_of}
use Rattle.mq_bytes.specs.Ids.{message_id_of}
use Rattle.record_codec.specs.Entry.{Entry}
use Rattle.log_model.specs.Batches.{blank_between}
use Rattle.log_model.specs.Numbered.{Log, count_of, place_end, below, queue_max, queue_min, records_of}
use Rattle.log_model.specs.Transactions.{settles}
use Rattle.log_model.specs.Delays.{due_delayed, progress}
use Rattle.log_model.specs.Keys.{query_of}
use Rattle.log_model.specs.Pulls.{Pulled, pull_reply}
use Rattle.log_model.specs.Drafts.{text_in}
use Rattle.request_fields.specs.Requests.{SendSaid, PullSaid, EndSaid}
use Rattle.request_fields.specs.declared.request.Request.{Request}
use Rattle.request_fields.specs.declared.request.Request.TheVariants.{Send, Pull, Query, OffsetOf, SetOffset, MakeTopic, Search, MaxOffset}
use Rattle.request_fields.specs.declared.request.Request.TheVariants.{MinOffset, ViewById, Beat, Unregister, EndTransaction, Lock, Unlock}
use Rattle.broker_model.specs.Tables.{offset_in, granted}
use Rattle.broker_model.specs.Clients.{heard_words, producer_link}
use Rattle.broker_model.specs.State.{State, Out, FailedTurn, seen, next_batch}
use Rattle.broker_model.specs.Sends.{queue_named, waits, kept_props}
use Rattle.broker_model.specs.Events
use Rattle.broker_model.specs.Refusals.{plain_reply, refusal_of, verdict_origin, named_half}
use Rattle.broker_model.specs.Appended.{due_origin, is_refused, is_past_end, appended}

-- ---- replies

-- code 0 with these fields and this body
abbrev pub reply_with : List (List ℕ × List ℕ) → List Entry → Events.Reply
reply_with ext body = record { code = 0; remark = []; ext = ext; body = body }

-- code 0 and nothing else
abbrev pub done_reply : Events.Reply
done_reply = reply_with [] []

-- the records that were found, or 22 where there is none
abbrev pub found_reply : List (List ℕ × List ℕ) → List Entry → Events.Reply
found_reply ext [] = plain_reply 22 []
found_reply ext (r ∷ body) = reply_with ext (r ∷ body)

-- an offset
abbrev pub offset_reply : ℕ → Events.Reply
offset_reply n = reply_with ((codes "offset", digits_of n) ∷ []) []

-- an offset, or 22 where there is none
abbrev pub stored_reply : Option ℕ → Events.Reply
stored_reply None = plain_reply 22 []
stored_reply (Some n) = offset_reply n

-- ---- requests that append

-- the reply to a request that appended so many records: at once, or once the last of them is on the disk
abbrev pub append_answer : State → Bool → Events.Reply → ℕ → Events.Answer
append_answer s is_awaited reply added =
    if s.setup.sync && is_awaited then Events.After reply (count_of s.log + added - 1) s.turns else Events.Replies reply

-- the fields of the reply to a send: the id of its record, the queue that was asked for, and the record's queue offset
abbrev pub send_ext : SendSaid → List Entry → List (List ℕ × List ℕ)
send_ext send [] = []
send_ext send (r ∷ more) =
    (codes "msgId", message_id_of r.store_host r.offset) ∷ (codes "queueId", digits_of (queue_named send.queue))
    ∷ (codes "queueOffset", digits_of r.queue_offset) ∷ []

-- the answer to a send that appended these records
abbrev pub send_answer : State → SendSaid → List Entry → Events.Answer
send_answer s send records = append_answer s (waits (kept_props send.props)) (reply_with (send_ext send records) []) 1

-- the first number, or else the other one
abbrev pub or_number : Option ℕ → Option ℕ → Option ℕ
or_number None other = other
or_number (Some n) other = Some n

-- the number of the last record that passes, where the first record has the number n
abbrev pub last_number : (Entry → Bool) → ℕ → List Entry → Option ℕ
last_number test n [] = None
last_number test n (r ∷ log) = or_number (last_number test (n + 1) log) (if test r then Some n else None)

-- the number of the last record that settles the origin
abbrev pub settling_number : State → Option Entry → Option ℕ
settling_number s None = None
settling_number s (Some origin) = last_number (settles s.log.records origin.queue_offset) s.log.base.records s.log.records

-- a verdict that agrees with an earlier one waits until the last record that settles the origin is on the disk
abbrev pub repeated_answer : State → Option ℕ → Events.Answer
repeated_answer s None = Events.Replies done_reply
repeated_answer s (Some number) =
    if s.setup.sync && nat_le s.flushed number then Events.After done_reply number s.turns else Events.Replies done_reply

-- the half message that was named waits for the disk
abbrev pub half_waits : Option Entry → Bool
half_waits None = true
half_waits (Some half) = waits half.props

-- the answer to a verdict that appended these records
abbrev pub end_answer : State → EndSaid → List Entry → Events.Answer
end_answer s end [] =
    if end.verdict == 0 then Events.Replies done_reply else repeated_answer s (settling_number s (verdict_origin s end))
end_answer s end (r ∷ more) = append_answer s (half_waits (named_half s end)) done_reply (length (r ∷ more))

-- ---- requests that read

-- the subscription of a pull: its own where bit 4 says so, or what the group's last heartbeat said
abbrev pub pull_words : State → PullSaid → List ℕ
pull_words s p =
    if bit_and (cast_unsigned w32 p.sysflag) 4 == 4 then p.subscription else heard_words s.clients p.group p.topic

-- what a pull finds among what consumers see
abbrev pub pull_of : State → PullSaid → Pulled Entry
pull_of s p = pull_reply (seen s) p.topic p.queue p.from p.most (pull_words s p)

-- the reply of a pull
abbrev pub pulled_reply : Pulled Entry → Events.Reply
pulled_reply p = record {
  code = p.code;
  remark = [];
  ext = (codes "maxOffset", digits_of p.high) ∷ (codes "minOffset", digits_of p.low) ∷ (codes "nextBeginOffset", digits_of p.next)
      ∷ (codes "suggestWhichBrokerId", codes "0") ∷ [];
  body = p.taken;
}

-- the first offset of a queue whose record has at least this store time
abbrev pub offset_at : Log → List ℕ → ℕ → ℤ → ℕ
offset_at log topic queue time =
    queue_min log topic queue + length (take_while (λ r. int_lt (pos r.store) time) (records_of log topic queue))

-- a record or none as a list
abbrev pub view_found : Option Entry → List Entry
view_found None = []
view_found (Some r) = r ∷ []

-- the record that begins at this place
abbrev pub viewed : List Entry → ℕ → List Entry
viewed log place = view_found (find (λ r. r.offset == place) log)

-- the fields of the reply to a query
abbrev pub query_ext : List (List ℕ × List ℕ)
query_ext = (codes "indexLastUpdatePhyoffset", codes "0") ∷ (codes "indexLastUpdateTimestamp", codes "0") ∷ []

-- the answer to a request that came at this reading of the clock, is not refused, and appended these records
unfoldable pub request_answer : State → ℕ → Request → List Entry → Events.Answer
request_answer s now (Send send) records = send_answer s send records
request_answer s now (Pull p) records = Events.Replies (pulled_reply (pull_of s p))
request_answer s now (Query q) records =
    Events.Replies (found_reply query_ext (query_of (seen s).records q.topic q.key q.from q.to q.most))
request_answer s now (OffsetOf q) records = Events.Replies (stored_reply (offset_in s.offsets q.group q.topic q.queue))
request_answer s now (SetOffset q) records = Events.Replies done_reply
request_answer s now (MakeTopic t) records = Events.Replies done_reply
request_answer s now (Search q) records = Events.Replies (offset_reply (offset_at (seen s) q.topic q.queue q.time))
request_answer s now (MaxOffset q) records = Events.Replies (offset_reply (queue_max (seen s) q.topic q.queue))
request_answer s now (MinOffset q) records = Events.Replies (offset_reply (queue_min (seen s) q.topic q.queue))
request_answer s now (ViewById v) records = Events.Replies (found_reply [] (viewed (seen s).records v.offset))
request_answer s now (Beat b) records = Events.Replies done_reply
request_answer s now (Unregister u) records = Events.Replies done_reply
request_answer s now (EndTransaction end) records = end_answer s end records
request_answer s now (Lock l) records = Events.Locked (granted now l.group l.client s.locks l.queues)
request_answer s now (Unlock l) records = Events.Replies done_reply

-- ---- looks

-- a later turn than this one that failed held up the record
abbrev pub holds_up : ℕ → ℕ → FailedTurn → Bool
holds_up number turn f = nat_lt turn f.turn && nat_le f.from number && nat_lt number f.held

-- the count of the last of some failed turns
abbrev pub last_count : List FailedTurn → Events.Awaited
last_count [] = Events.NotYet
last_count (f ∷ []) = Events.HasFailed f.count
last_count (f ∷ g ∷ turns) = last_count (g ∷ turns)

-- what became of the record with this number, for one who asked when so many turns had been taken
abbrev pub looked : State → ℕ → ℕ → Events.Awaited
looked s number turn =
    if nat_lt number s.flushed then Events.IsFlushed else last_count (filter (holds_up number turn) s.failed)

-- ---- flush turns

-- what a flush turn is given of these records: nothing where there is none or a turn is out
abbrev pub taken_of : State → Option Out → List Entry → Option Events.Taken
taken_of s (Some out) records = None
taken_of s None [] = None
taken_of s None (r ∷ records) = Some (record {
  from = s.flushed;
  records = r ∷ records;
  blank = blank_between (place_end (below s.log s.flushed)) r.offset;
})

-- what a flush turn is given
abbrev pub taken : State → Option Events.Taken
taken s = taken_of s s.out (next_batch s)

-- ---- check-backs and deliveries

-- the first client of the record's producer group is asked for it, where there is one
abbrev pub asked_link : State → Entry → Option (ℕ × Entry)
asked_link s r = option_map (λ link. (link, r)) (producer_link s.clients (text_in (codes "PGROUP") r.props))

-- who is asked by a check that appended these records: one is a renewal, two are a discarded one and its op record
abbrev pub asks_of : State → List Entry → Option (ℕ × Entry)
asks_of s [] = None
asks_of s (r ∷ []) = asked_link s r
asks_of s (r ∷ t ∷ more) = None

-- what a check of this origin did
abbrev pub checked_of : State → List Entry → Option Entry → Option Events.CheckDone
checked_of s records None = None
checked_of s records (Some origin) =
    Some (record { origin = origin.queue_offset; number = count_of s.log; asks = asks_of s records })

-- the level and the number of a delivery
abbrev pub delivered_of : State → Option (ℕ × Entry) → Option (ℕ × ℕ)
delivered_of s None = None
delivered_of s (Some due) = Some (due.0, progress s.log due.0)

-- ---- all events

-- the answer to an event that nothing keeps from being carried out, and that appended these records
unfoldable pub carried_out_answer : State → Events.Event → List Entry → Events.Answer
carried_out_answer s (Events.Asks a) records = request_answer s a.now a.request records
carried_out_answer s Events.Take records = Events.Batch (taken s)
carried_out_answer s (Events.Flushed count) records = Events.Done
carried_out_answer s (Events.FlushFailed count) records = Events.Done
carried_out_answer s (Events.Look number turn) records = Events.Looked (looked s number turn)
carried_out_answer s (Events.Dispatch most) records = Events.Moved (min s.flushed (s.dispatched + most))
carried_out_answer s (Events.Deliver now) records = Events.Delivered (delivered_of s (due_delayed s.log s.dispatched (max now s.now)))
carried_out_answer s (Events.Check now) records = Events.Checked (checked_of s records (due_origin s (max now s.now)))
carried_out_answer s (Events.Leave link) records = Events.Done
carried_out_answer s (Events.Trim base) records = Events.Done

-- the answer where a record would end past 2^62: a reply to a request
abbrev pub end_of_log : Events.Event → Events.Answer
end_of_log (Events.Asks a) = Events.Replies (plain_reply 14 (codes "log end"))
end_of_log Events.Take = Events.LogEnd
end_of_log (Events.Flushed count) = Events.LogEnd
end_of_log (Events.FlushFailed count) = Events.LogEnd
end_of_log (Events.Look number turn) = Events.LogEnd
end_of_log (Events.Dispatch most) = Events.LogEnd
end_of_log (Events.Deliver now) = Events.LogEnd
end_of_log (Events.Check now) = Events.LogEnd
end_of_log (Events.Leave link) = Events.LogEnd
end_of_log (Events.Trim base) = Events.LogEnd

-- the refusal by a row, for a request
abbrev pub event_refusal : State → Events.Event → Option Events.Reply
event_refusal s (Events.Asks a) = refusal_of s a.request
event_refusal s Events.Take = None
event_refusal s (Events.Flushed count) = None
event_refusal s (Events.FlushFailed count) = None
event_refusal s (Events.Look number turn) = None
event_refusal s (Events.Dispatch most) = None
event_refusal s (Events.Deliver now) = None
event_refusal s (Events.Check now) = None
event_refusal s (Events.Leave link) = None
event_refusal s (Events.Trim base) = None

-- the refusal, or else this answer
abbrev pub or_refused : Option Events.Reply → Events.Answer → Events.Answer
or_refused None answer = answer
or_refused (Some reply) answer = Events.Replies reply

-- the answer to an event whose records find no room: the end of all places comes before the full buffer
abbrev pub refused_answer : State → Events.Event → Events.Answer
refused_answer s e = if is_past_end s e then end_of_log e else Events.Full s.flushed

-- the answer to an event
unfoldable pub answer_of : State → Events.Event → Events.Answer
answer_of s e =
    or_refused (event_refusal s e) (if is_refused s e then refused_answer s e else carried_out_answer s e (appended s e))
