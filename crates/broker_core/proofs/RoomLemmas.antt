-- A send that isn't refused by a row: there is no place for its record, no room in the buffer, or it is stored.
use Rattle.std.proofs.Common.{◌≡◌, refl, ap, sym, ◌∙◌, subst, arith, ℕ, ◌+◌, ◌^◌, ◌<◌, ◌≤◌, max, nat_lt, Bool, true, false, List, [], ◌∷◌, length, codes, ℤ, pos, negsuc, Option, Some, None, All, option_map, if◌then◌else◌}
use Rattle.std.specs.Option.{unwrap_or}
use Rattle.record_codec.specs.Entry.{Entry}
use Rattle.record_codec.specs.Drafts.{draft_size}
use Rattle.record_codec.specs.declared.draft.Draft.{Draft}
use Rattle.log_model.specs.Log.{place_after}
use Rattle.log_model.specs.Numbered.{place_end, next_record, records_from}
use Rattle.request_fields.specs.Requests.{SendSaid, KeepsSend}
use Rattle.request_fields.specs.declared.request.Request.TheVariants.{Send}
use Rattle.reply_fields.specs.Parts.{ReplyParts, plain}
use Rattle.client_tables.specs.Counts.{queues_of}
use Rattle.pending_log.proofs.RemovalLemmas.{layouts_size}
use Rattle.broker_model.specs.State.{State, Setup, pending_bytes}
use Rattle.broker_model.specs.Tables.{TopicRow, queues_in}
use Rattle.broker_model.specs.Lawful.{IsTopic}
use Rattle.broker_model.specs.Events as model
use Rattle.broker_model.specs.Refusals.{plain_reply, refusal_of, send_queues, made_queues}
use Rattle.broker_model.specs.Appended.{request_drafts}
use Rattle.broker_model.specs.Sends.{queue_named, plain_draft}
use Rattle.broker_model.specs.Answers.{answer_of, append_answer, reply_with, request_answer}
use Rattle.broker_model.specs.Step.{after, request_changed}
use Rattle.broker_events.specs.Replies.{IsReplyOf}
use Rattle.broker_events.specs.Steps.{Says}
use Rattle.broker_events.specs.declared.said.Said.{Said}
use Rattle.broker_events.specs.declared.said.Said.TheVariants as said
use Rattle.core_log.specs.declared.parts.Parts.{Parts}
use Rattle.made_records.specs.declared.send_rows.Refusal.{Refusal}
use Rattle.made_records.specs.declared.send_rows.Refusal.TheVariants.{Topic, SysFlag, Body, Properties, Record, SystemTopic, NoTopic, Queue}
use Rattle.broker_core.specs.Kinds.{kind_of, draft_by}
use Rattle.made_records.specs.SendRows.{refusal_by, refused}
use Rattle.core_log.specs.Represents.{Represents}
use Rattle.broker_core.specs.Asked.{CarriesRequest}
use Rattle.core_log.specs.Stands.{IsStorable}
use Rattle.reply_fields.specs.Sent.{sent_fields}
use Rattle.broker_core.specs.Stores.{IsStored, IsSent, stored_reply, stored_state, sent_reply, sent_state}
use Rattle.core_log.specs.Rooms.{is_past, is_over}
use Rattle.broker_core.proofs.AnswerLemmas.{is_plain_reply, carries_refused}
use Rattle.broker_core.proofs.EventLemmas.{log_end_answer, full_answer, stored_says, stored_after}
use Rattle.made_records.proofs.RowLemmas.{rows_are, is_taken}
use Rattle.broker_core.proofs.SendLemmas.{kept_is}
use Rattle.broker_core.proofs.StorableLemmas.{storable, waits_stay}
use Rattle.core_log.proofs.StoreLemmas.{found_topic}

-- ---- the model

-- one of the three
one_of : {A : Type 0} (past over : Bool) (x a b c : A) → (past ≡ true → x ≡ a) → (past ≡ false → over ≡ true → x ≡ b) → (past ≡ false → over ≡ false → x ≡ c)
    → x ≡ (if past then a else (if over then b else c))
one_of true over x a b c first second third = first refl
one_of false true x a b c first second third = second refl refl
one_of false false x a b c first second third = third refl refl

module _ (s : State) (link : ℕ) (host : List ℕ) (now : ℕ) (send : SendSaid) (taken : refusal_of s (Send send) ≡ None) where
  abbrev a : model.Asked
  a = record { link = link; host = host; now = now; request = Send send }

  abbrev d : Draft
  d = draft_by (kind_of send) send.group (plain_draft s.setup.host host send)

  abbrev r : Entry
  r = next_record s.setup.segment (max now s.now) s.log d

  drafts : request_drafts s (max now s.now) host (Send send) ≡ d ∷ []
  drafts = ap (λ (x : Draft). x ∷ []) (kept_is s.setup.host host send)

  -- what is asked of the disk, and the host, are as the send has them
  says : stored_reply s d (queue_named send.queue) r ≡ request_answer s now (Send send) (r ∷ [])
  unfolding request_answer
  says =
      ap (λ (b : Bool). append_answer s b (reply_with (sent_fields d.store_host r.offset (queue_named send.queue) r.queue_offset) []) 1)
      (waits_stay (kind_of send) send.group (plain_draft s.setup.host host send))

  pub send_says : answer_of s (model.Asks a) ≡ sent_reply s d (queue_named send.queue) r
  send_says = one_of (is_past r) (is_over s r) (answer_of s (model.Asks a)) (model.Replies (plain_reply 14 (codes "log end"))) (model.Full s.flushed) (stored_reply s d (queue_named send.queue) r)
      (λ past. (log_end_answer s a d taken drafts past).0)
      (λ low over. (full_answer s a d taken drafts low over).0)
      (λ low short. stored_says s a d taken drafts low short ∙ sym says)

  pub send_leaves : after s (model.Asks a) ≡ sent_state s d send.topic (send_queues s send) (max now s.now)
  unfolding request_changed
  send_leaves = one_of (is_past r) (is_over s r) (after s (model.Asks a)) s s (stored_state s d send.topic (send_queues s send) (max now s.now))
      (λ past. (log_end_answer s a d taken drafts past).1)
      (λ low over. (full_answer s a d taken drafts low over).1)
      (λ low short. stored_after s a d taken drafts low short)

-- ---- the rows

pub segment_is : (core : Parts) (s : State) → Represents core s → core.setup.segment ≡ s.setup.segment
segment_is core s are = ap (λ (x : Setup). x.segment) are.numbers.setup

-- the parts refuse as the model does
refusal_is : (core : Parts) (s : State) (known : Option ℕ) (send : SendSaid) → Represents core s → known ≡ queues_of core.topics send.topic
    → refusal_of s (Send send) ≡ option_map refused (refusal_by core.setup.segment known send)
refusal_is core s known send are is =
    sym (rows_are s send)
    ∙ ap (λ (o : Option ℕ). option_map refused (refusal_by s.setup.segment o send)) (sym (are.topics send.topic) ∙ sym is)
    ∙ ap (λ (n : ℕ). option_map refused (refusal_by n known send)) (sym (segment_is core s are))

is_refused_reply : (refusal : Refusal) (reply : ReplyParts) → reply ≡ plain (pos (refused refusal).code) (refused refusal).remark → IsReplyOf reply (refused refusal)
is_refused_reply Topic reply is = is_plain_reply reply 13 (codes "topic") is
is_refused_reply SysFlag reply is = is_plain_reply reply 13 (codes "sysFlag") is
is_refused_reply Body reply is = is_plain_reply reply 13 (codes "body") is
is_refused_reply Properties reply is = is_plain_reply reply 13 (codes "properties") is
is_refused_reply Record reply is = is_plain_reply reply 13 (codes "record") is
is_refused_reply SystemTopic reply is = is_plain_reply reply 16 (codes "system topic") is
is_refused_reply NoTopic reply is = is_plain_reply reply 17 (codes "no topic") is
is_refused_reply Queue reply is = is_plain_reply reply 1 (codes "queue") is

-- a send that a row refuses
pub refused_send : (core : Parts) (host : List ℕ) (now : ℕ) (send : SendSaid) (known : Option ℕ) (refusal : Refusal) (reply : ReplyParts) → known ≡ queues_of core.topics send.topic
    → refusal_by core.setup.segment known send ≡ Some refusal → reply ≡ plain (pos (refused refusal).code) (refused refusal).remark → CarriesRequest core host now (Send send) (said.Reply reply) core
refused_send core host now send known refusal reply is row told =
    carries_refused core host now (Send send) (refused refusal) reply (λ s are. refusal_is core s known send are is ∙ ap (λ (o : Option Refusal). option_map refused o) row) (is_refused_reply refusal reply told)

-- ---- the draft

made_few : (asked : ℤ) → made_queues asked ≤ 1024
made_few (pos n) = omega arith
made_few (negsuc n) = omega arith

pub made_some : (asked : ℤ) → 0 < made_queues asked
made_some (pos n) = omega arith
made_some (negsuc n) = omega arith

few_queues : (rows : List TopicRow) (topic : List ℕ) (o : Option ℕ) (asked : ℤ) → All IsTopic rows → queues_in rows topic ≡ o → unwrap_or o (made_queues asked) ≤ 1024
few_queues rows topic None asked all is = made_few asked
few_queues rows topic (Some n) asked all is = (found_topic rows topic n all is).few

-- the draft of a send that isn't refused can be stored
pub draft_is_storable : (core : Parts) (s : State) (store_host born_host : List ℕ) (send : SendSaid) (known : Option ℕ) → Represents core s → known ≡ queues_of core.topics send.topic
    → refusal_by core.setup.segment known send ≡ None → KeepsSend send → IsStorable core.setup.segment (kind_of send) (draft_by (kind_of send) send.group (plain_draft store_host born_host send))
draft_is_storable core s store_host born_host send known are is none keeps =
    let fine = is_taken core.setup.segment known send none in
    let few = few_queues s.topics send.topic known send.default_queues are.state.topics (sym (are.topics send.topic) ∙ sym is) in
    let queue = fine.queue in
    storable core.setup.segment known store_host born_host send fine (omega (arith, few, queue)) keeps.born keeps.group

-- what is said of the send is said of its draft
pub carries_sent : (old new : Parts) (host : List ℕ) (now : ℕ) (send : SendSaid) (what : Said) (known : Option ℕ)
    → known ≡ queues_of old.topics send.topic → refusal_by old.setup.segment known send ≡ None
    → ((s : State) → Represents old s → IsSent s (draft_by (kind_of send) send.group (plain_draft old.setup.host host send)) send.topic (queue_named send.queue) (unwrap_or known (made_queues send.default_queues)) (max now s.now) what new)
    → CarriesRequest old host now (Send send) what new
carries_sent old new host now send what known is none sent link s are =
    let taken : refusal_of s (Send send) ≡ None = refusal_is old s known send are is ∙ ap (λ (o : Option Refusal). option_map refused o) none in
    let hosts : old.setup.host ≡ s.setup.host = ap (λ (x : Setup). x.host) are.numbers.setup in
    let counts : known ≡ queues_in s.topics send.topic = is ∙ are.topics send.topic in
    let draft = λ (h : List ℕ). draft_by (kind_of send) send.group (plain_draft h host send) in
    let queue = queue_named send.queue in
    let it = subst (λ (o : Option ℕ). IsSent s (draft s.setup.host) send.topic queue (unwrap_or o (made_queues send.default_queues)) (max now s.now) what new) counts
    (subst (λ (h : List ℕ). IsSent s (draft h) send.topic queue (unwrap_or known (made_queues send.default_queues)) (max now s.now) what new) hosts (sent s are)) in (
      subst (λ (answer : model.Answer). Says what answer) (sym (send_says s link host now send taken)) it.answer,
      subst (λ (t : State). Represents new t) (sym (send_leaves s link host now send taken)) it.state,
    )

-- ---- the three cases

module _ (core : Parts) (s : State) (d : Draft) (topic : List ℕ) (queue n time : ℕ) (what : Said) (new : Parts) (bytes : ℕ) (are : Represents core s) (bytes_is : bytes ≡ draft_size d) where
  abbrev its : Entry
  its = next_record s.setup.segment time s.log d

  pub past_is : nat_lt (2 ^ 62) (place_after core.pending.segment core.pending.end bytes + bytes) ≡ is_past its
  past_is =
      ap (λ (k : ℕ). nat_lt (2 ^ 62) (place_after k core.pending.end bytes + bytes)) are.numbers.segment
      ∙ ap (λ (k : ℕ). nat_lt (2 ^ 62) (place_after s.setup.segment k bytes + bytes)) are.pending.end
      ∙ ap (λ (k : ℕ). nat_lt (2 ^ 62) (place_after s.setup.segment (place_end s.log) k + k)) bytes_is

  pending_is : length core.pending.bytes ≡ pending_bytes s
  pending_is =
      ap (λ (l : List ℕ). length l) are.pending.bytes ∙ layouts_size (records_from s.log core.pending.flushed)
      ∙ ap (λ (k : ℕ). pending_bytes (record s { flushed = k })) are.numbers.flushed

  pub over_is : nat_lt 67108864 (length core.pending.bytes + bytes) ≡ is_over s its
  over_is =
      ap (λ (k : ℕ). nat_lt 67108864 (k + bytes)) pending_is ∙ ap (λ (k : ℕ). nat_lt 67108864 (pending_bytes s + k)) bytes_is

  -- it would end past all places
  pub sent_past : nat_lt (2 ^ 62) (place_after core.pending.segment core.pending.end bytes + bytes) ≡ true → Says what (model.Replies (plain_reply 14 (codes "log end"))) → Represents new s → IsSent s d topic queue n time what new
  sent_past past says stays =
      let h : is_past its ≡ true = sym past_is ∙ past in
      record {
        answer = subst (λ (b : Bool). Says what (if b then model.Replies (plain_reply 14 (codes "log end")) else (if is_over s its then model.Full s.flushed else stored_reply s d queue its))) (sym h) says;
        state = subst (λ (b : Bool). Represents new (if b then s else (if is_over s its then s else stored_state s d topic n time))) (sym h) stays;
      }

  -- the buffer has no room
  pub sent_full : nat_lt (2 ^ 62) (place_after core.pending.segment core.pending.end bytes + bytes) ≡ false → nat_lt 67108864 (length core.pending.bytes + bytes) ≡ true
      → Says what (model.Full s.flushed) → Represents new s → IsSent s d topic queue n time what new
  sent_full low over says stays =
      let h : is_past its ≡ false = sym past_is ∙ low in
      let f : is_over s its ≡ true = sym over_is ∙ over in
      record {
        answer = subst (λ (b : Bool). Says what (if b then model.Replies (plain_reply 14 (codes "log end")) else (if is_over s its then model.Full s.flushed else stored_reply s d queue its))) (sym h)
            (subst (λ (b : Bool). Says what (if b then model.Full s.flushed else stored_reply s d queue its)) (sym f) says);
        state = subst (λ (b : Bool). Represents new (if b then s else (if is_over s its then s else stored_state s d topic n time))) (sym h)
            (subst (λ (b : Bool). Represents new (if b then s else stored_state s d topic n time)) (sym f) stays);
      }

  -- it is stored
  pub sent_stored : nat_lt (2 ^ 62) (place_after core.pending.segment core.pending.end bytes + bytes) ≡ false → nat_lt 67108864 (length core.pending.bytes + bytes) ≡ false
      → IsStored s d topic queue n time what new → IsSent s d topic queue n time what new
  sent_stored low short is =
      let h : is_past its ≡ false = sym past_is ∙ low in
      let f : is_over s its ≡ false = sym over_is ∙ short in
      record {
        answer = subst (λ (b : Bool). Says what (if b then model.Replies (plain_reply 14 (codes "log end")) else (if is_over s its then model.Full s.flushed else stored_reply s d queue its))) (sym h)
            (subst (λ (b : Bool). Says what (if b then model.Full s.flushed else stored_reply s d queue its)) (sym f) is.answer);
        state = subst (λ (b : Bool). Represents new (if b then s else (if is_over s its then s else stored_state s d topic n time))) (sym h)
            (subst (λ (b : Bool). Represents new (if b then s else stored_state s d topic n time)) (sym f) is.state);
      }
