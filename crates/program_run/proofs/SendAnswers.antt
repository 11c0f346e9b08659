-- What the model answers to a message that waits for the disk, and the record that it appends.
use Rattle.std.proofs.Common.{◌≡◌, ◌⊎◌, ⊎_elim, inl, inr, ℕ, ◌+◌, ◌-◌, ◌<◌, max, List, [], ◌∷◌, length, Bool, true, false, Option, Some, None, refl, ap, ◌∙◌, subst, arith}
use Rattle.std.specs.Prelude.{◌&&◌, ◌==◌, not, nat_lt, codes, is_none, if◌then◌else◌}
use Rattle.record_codec.specs.Entry.{Entry}
use Rattle.record_codec.specs.Layout.{is_legal, are_hosts_short}
use Rattle.log_model.specs.Admissible.{is_system_topic}
use Rattle.log_model.specs.Numbered.{count_of, next_record, with_appended}
use Rattle.request_fields.specs.Requests.{SendSaid}
use Rattle.request_fields.specs.declared.request.Request.TheVariants.{Send}
use Rattle.broker_model.specs.State.{State}
use Rattle.broker_model.specs.Events as model
use Rattle.broker_model.specs.Tables.{queues_in}
use Rattle.broker_model.specs.Sends.{send_draft, half_draft, delayed_draft, delayed_or_plain, plain_draft, is_half_send, level_of, kept_props, queue_named, waits, flag_of}
use Rattle.broker_model.specs.Refusals.{plain_reply, send_refusal, send_queues, refusal_of}
use Rattle.broker_model.specs.Appended.{drafts_of, made_by, appended, is_refused, is_past_end}
use Rattle.broker_model.specs.Answers.{reply_with, send_ext, send_answer, request_answer, carried_out_answer, refused_answer, or_refused, answer_of}
use Rattle.broker_model.specs.Step.{after}
use Rattle.broker_model.proofs.StepLemmas.{log_grows}
use Rattle.program_run.specs.Stand.{IsKeptAs, IsKeptFor, IsMessage}

-- a message that came on this link from this host, at this reading
abbrev pub asks : ℕ → List ℕ → ℕ → SendSaid → model.Event
asks link host now send = model.Asks (record { link = link; host = host; now = now; request = Send send })

-- ---- its record

-- the record of the message
abbrev pub record_for : State → List ℕ → ℕ → SendSaid → Entry
record_for s host now send = next_record s.setup.segment (max now s.now) s.log (send_draft s.setup.host host send)

-- the event makes one record
pub made_one : (s : State) (link : ℕ) (host : List ℕ) (now : ℕ) (send : SendSaid) → made_by s (asks link host now send) ≡ record_for s host now send ∷ []
unfolding drafts_of
made_one s link host now send = refl

-- the record of a message that is kept as a delayed one, or as it was sent
message_for : (s : State) (host : List ℕ) (now : ℕ) (send : SendSaid) (level : Option ℕ)
    → (r : Entry) × (r ≡ next_record s.setup.segment (max now s.now) s.log (delayed_or_plain level (plain_draft s.setup.host host send))) × (r.body ≡ send.body) × IsKeptFor level send r
message_for s host now send None = (next_record s.setup.segment (max now s.now) s.log (plain_draft s.setup.host host send), refl, refl, (refl, refl, refl))
message_for s host now send (Some level) =
    (next_record s.setup.segment (max now s.now) s.log (delayed_draft level (plain_draft s.setup.host host send)), refl, refl, (refl, refl, refl))

-- the record of a half message, and of any other
kept_as : (s : State) (host : List ℕ) (now : ℕ) (send : SendSaid) (half : Bool)
    → (r : Entry) × (r ≡ next_record s.setup.segment (max now s.now) s.log (if half then half_draft send.group (plain_draft s.setup.host host send) else delayed_or_plain (level_of send) (plain_draft s.setup.host host send)))
    × (r.body ≡ send.body) × IsKeptAs half send r
kept_as s host now send true =
    (next_record s.setup.segment (max now s.now) s.log (half_draft send.group (plain_draft s.setup.host host send)), refl, refl, (refl, refl, refl))
kept_as s host now send false = message_for s host now send (level_of send)

-- the record is the message
pub is_message : (s : State) (host : List ℕ) (now : ℕ) (send : SendSaid) → IsMessage send (record_for s host now send)
is_message s host now send =
    let it = kept_as s host now send (is_half_send send) in
    subst (λ (r : Entry). IsMessage send r) it.1 (record { body = it.2; kept = it.3 })

-- ---- refusals

-- where there is a reply its code isn't 0
abbrev HasCode : Option model.Reply → Type 0
HasCode None = Unit {0}
HasCode (Some told) = told.code ≡ 0 → ⊥

row_code : (test : Bool) (code : ℕ) (remark : List ℕ) (rest : Option model.Reply) → 0 < code → HasCode rest → HasCode (if test then Some (plain_reply code remark) else rest)
row_code true code remark rest high later = λ is. omega (arith, high, is)
row_code false code remark rest high later = later

-- a refusal has another code than 0
send_refusal_code : (s : State) (send : SendSaid) → HasCode (send_refusal s send)
send_refusal_code s send =
    row_code (not (is_legal send.topic)) 13 (codes "topic") _ (omega arith)
    (row_code (not (are_hosts_short (flag_of send))) 13 (codes "sysFlag") _ (omega arith)
    (row_code (nat_lt 4194304 (length send.body)) 13 (codes "body") _ (omega arith)
    (row_code (nat_lt 31999 (length send.props)) 13 (codes "properties") _ (omega arith)
    (row_code (nat_lt s.setup.segment (length send.body + length send.props + 1024)) 13 (codes "record") _ (omega arith)
    (row_code (is_system_topic send.topic) 16 (codes "system topic") _ (omega arith)
    (row_code (is_none (queues_in s.topics send.topic) && (length send.default_topic == 0)) 17 (codes "no topic") _ (omega arith)
    (row_code (not (nat_lt (queue_named send.queue) (send_queues s send))) 1 (codes "queue") None (omega arith) tt)))))))

-- ---- the answer

-- the answer says that nothing was appended: a reply with another code than 0, or that there is no room
abbrev pub TellsNone : model.Answer → Type 0
TellsNone (model.Replies told) = told.code ≡ 0 → ⊥
TellsNone (model.After reply number turn) = ⊥
TellsNone (model.Locked queues) = ⊥
TellsNone (model.Full pending) = Unit {0}
TellsNone model.LogEnd = ⊥
TellsNone (model.Batch taken) = ⊥
TellsNone model.Done = ⊥
TellsNone (model.Looked what) = ⊥
TellsNone (model.Moved number) = ⊥
TellsNone (model.Delivered what) = ⊥
TellsNone (model.Checked what) = ⊥

no_room_told : (past : Bool) (pending : ℕ) → TellsNone (if past then model.Replies (plain_reply 14 (codes "log end")) else model.Full pending)
no_room_told true pending = λ is. omega (arith, is)
no_room_told false pending = tt

either : (refusal : Option model.Reply) (refused : Bool) (otherwise carried_out : model.Answer) → HasCode refusal → TellsNone otherwise
    → TellsNone (or_refused refusal (if refused then otherwise else carried_out))
    ⊎ ((refused ≡ false) × (or_refused refusal (if refused then otherwise else carried_out) ≡ carried_out))
either (Some told) refused otherwise carried_out code none = inl code
either None true otherwise carried_out code none = inl none
either None false otherwise carried_out code none = inr (refl, refl)

answered : (s : State) (link : ℕ) (host : List ℕ) (now : ℕ) (send : SendSaid)
    → TellsNone (answer_of s (asks link host now send)) ⊎ ((is_refused s (asks link host now send) ≡ false)
    × (answer_of s (asks link host now send) ≡ send_answer s send (appended s (asks link host now send))))
unfolding answer_of refusal_of carried_out_answer request_answer
answered s link host now send =
    let e = asks link host now send in
    either (send_refusal s send) (is_refused s e) (refused_answer s e) (send_answer s send (appended s e)) (send_refusal_code s send) (no_room_told (is_past_end s e) s.flushed)

-- what isn't refused is appended
appends_made : (s : State) (e : model.Event) → is_refused s e ≡ false → appended s e ≡ made_by s e
unfolding appended
appends_made s e fine = ap (λ (b : Bool). if b then [] else made_by s e) fine

-- in sync mode the answer waits for the record
awaited : (s : State) (send : SendSaid) (records : List Entry) → s.setup.sync ≡ true → waits (kept_props send.props) ≡ true
    → send_answer s send records ≡ model.After (reply_with (send_ext send records) []) (count_of s.log + 1 - 1) s.turns
awaited s send records sync waiting =
    λ i. if sync i && waiting i then model.After (reply_with (send_ext send records) []) (count_of s.log + 1 - 1) s.turns else model.Replies (reply_with (send_ext send records) [])

-- the reply that waits
abbrev pub waiting_reply : State → List ℕ → ℕ → SendSaid → model.Reply
waiting_reply s host now send = reply_with (send_ext send (record_for s host now send ∷ [])) []

-- the answer to a message that was taken
pub record IsTaken (s : State) (link : ℕ) (host : List ℕ) (now : ℕ) (send : SendSaid) : Type 0 where
  pub answer : answer_of s (asks link host now send) ≡ model.After (waiting_reply s host now send) (count_of s.log + 1 - 1) s.turns
  pub log : (after s (asks link host now send)).log ≡ with_appended s.log (record_for s host now send ∷ [])

-- The message was not taken, and the answer says so. Or its record was appended, and the answer waits for it.
pub send_taken : (s : State) (link : ℕ) (host : List ℕ) (now : ℕ) (send : SendSaid) → s.setup.sync ≡ true → waits (kept_props send.props) ≡ true
    → TellsNone (answer_of s (asks link host now send)) ⊎ IsTaken s link host now send
send_taken s link host now send sync waiting =
    let e = asks link host now send in
    ⊎_elim
    (λ (none : TellsNone (answer_of s e)). inl none)
    (λ (fine : (is_refused s e ≡ false) × (answer_of s e ≡ send_answer s send (appended s e))).
    let one : appended s e ≡ record_for s host now send ∷ [] = appends_made s e fine.0 ∙ made_one s link host now send in
    inr (record {
      answer = fine.1 ∙ awaited s send (appended s e) sync waiting
          ∙ ap (λ (l : List Entry). model.After (reply_with (send_ext send l) []) (count_of s.log + 1 - 1) s.turns) one;
      log = log_grows s e (λ removal. removal) ∙ ap (λ (l : List Entry). with_appended s.log l) one;
    }))
    (answered s link host now send)
