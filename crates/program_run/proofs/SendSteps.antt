-- What a step with a message leaves, by what was said to it, and what a look at its record finds.
use Rattle.std.proofs.Common.{◌≡◌, ◌⊎◌, ⊎_elim, inl, inr, ℕ, ◌+◌, ◌-◌, ◌<◌, List, [], ◌∷◌, true, Option, Some, None, sym, ap, ◌∙◌, subst, arith}
use Rattle.std.specs.Prelude.{pos}
use Rattle.log_model.specs.Numbered.{count_of, with_appended}
use Rattle.request_fields.specs.Requests.{SendSaid}
use Rattle.request_fields.specs.declared.request.Request.TheVariants.{Send}
use Rattle.request_fields.specs.declared.fault.RequestFault.{RequestFault}
use Rattle.request_fields.specs.declared.fault.RequestFault.TheVariants as faults
use Rattle.reply_fields.specs.Parts.{ReplyParts}
use Rattle.reply_fields.specs.Refusals.{fault_reply}
use Rattle.broker_model.specs.State.{State}
use Rattle.broker_model.specs.Events as model
use Rattle.broker_model.specs.Sends.{kept_props, waits}
use Rattle.broker_model.specs.Answers.{send_ext, answer_of}
use Rattle.broker_model.specs.Step.{Step, after}
use Rattle.broker_events.specs.Replies.{IsToldAs}
use Rattle.broker_events.specs.Steps.{event_of, Says, SaysIn}
use Rattle.broker_events.specs.declared.event.Event.{Event}
use Rattle.broker_events.specs.declared.event.Event.TheVariants as events
use Rattle.broker_events.specs.declared.said.Said.{Said}
use Rattle.broker_events.specs.declared.said.Said.TheVariants as said
use Rattle.broker_events.specs.declared.said.Awaited.{Awaited}
use Rattle.broker_events.specs.declared.said.Awaited.TheVariants as awaited
use Rattle.session.specs.Owing.{applied_of}
use Rattle.session.specs.declared.owed.Applied.{Applied}
use Rattle.session.specs.declared.owed.Applied.TheVariants.{Owes}
use Rattle.session.specs.declared.owed.Awaits.{Awaits}
use Rattle.pipe_stream.specs.Asking.{IsDue}
use Rattle.flush_story.specs.Story.{StepsAs}
use Rattle.flush_story.proofs.Steps.{step_flushed}
use Rattle.core_laws.proofs.Acknowledged.{step_flushed as looked_flushed}
use Rattle.program_run.proofs.SendAnswers.{TellsNone, IsTaken, record_for, send_taken, waiting_reply}

-- a message that came on this link from this host, at this reading
abbrev pub sends : ℕ → List ℕ → ℕ → SendSaid → Event
sends link host now send = events.Request link host now (Send send)

-- ---- codes

-- a frame that is no request is not answered with 0
pub fault_code : (fault : RequestFault) → (fault_reply fault).code ≡ pos 0 → ⊥
fault_code (faults.Unsupported code) is = cc
fault_code (faults.Missing field) is = cc
fault_code (faults.BadNumber field) is = cc
fault_code faults.BadBody is = cc
fault_code faults.Memory is = cc

pub same_code : (m n : ℕ) → pos m ≡ pos n → m ≡ n
same_code m n is = cc

-- nor is a message that was not taken
told_code : (answer : model.Answer) (reply : ReplyParts) → IsToldAs reply answer → TellsNone answer → reply.code ≡ pos 0 → ⊥
told_code (model.Replies told) reply is none code = none (same_code told.code 0 (sym is.code ∙ code))
told_code (model.After told number turn) reply is none code = is
told_code (model.Locked queues) reply is none code = none
told_code (model.Full pending) reply is none code = is
told_code model.LogEnd reply is none code = is
told_code (model.Batch taken) reply is none code = is
told_code model.Done reply is none code = is
told_code (model.Looked what) reply is none code = is
told_code (model.Moved number) reply is none code = is
told_code (model.Delivered what) reply is none code = is
told_code (model.Checked what) reply is none code = is

-- ---- a step with a message

said_by : (s t : State) (e : Event) (what : Said) (answer : Option model.Answer) → SaysIn (Some what) answer → Step s (event_of e) answer t
    → Says what (answer_of s (event_of e)) × (t ≡ after s (event_of e))
said_by s t e what None says step = absurd says
said_by s t e what (Some answer) says step = (subst (λ (a : model.Answer). Says what a) step.1 says, step.2)

-- what was said is the model's answer, and the state is the model's
step_said : (s t : State) (e : Event) (what : Said) → StepsAs s e (Some what) t → Says what (answer_of s (event_of e)) × (t ≡ after s (event_of e))
step_said s t e what step = said_by s t e what step.answer step.says step.step

-- a message that waits for the disk is not answered with 0 at once
replied_code : (s t : State) (link : ℕ) (host : List ℕ) (now : ℕ) (send : SendSaid) (reply : ReplyParts) → s.setup.sync ≡ true → waits (kept_props send.props) ≡ true
    → StepsAs s (sends link host now send) (Some (said.Reply reply)) t → reply.code ≡ pos 0 → ⊥
replied_code s t link host now send reply sync waiting step code =
    let told = step_said s t (sends link host now send) (said.Reply reply) step in
    ⊎_elim
    (λ (none : TellsNone (answer_of s (event_of (sends link host now send)))). told_code (answer_of s (event_of (sends link host now send))) reply told.0 none code)
    (λ (taken : IsTaken s link host now send). subst (λ (a : model.Answer). IsToldAs reply a) taken.answer told.0)
    (send_taken s link host now send sync waiting)

-- the message's record was appended, the answer waits for it, and the reply names it
pub record IsAppended (s : State) (host : List ℕ) (now : ℕ) (send : SendSaid) (reply : ReplyParts) (number : ℕ) (t : State) : Type 0 where
  pub log : t.log ≡ with_appended s.log (record_for s host now send ∷ [])
  pub number_is : number ≡ count_of s.log
  pub named : reply.ext ≡ send_ext send (record_for s host now send ∷ [])

same_reply : (a b : model.Reply) (m n j k : ℕ) → model.After a m j ≡ model.After b n k → a ≡ b
same_reply a b m n j k is = cc

same_number : (a b : model.Reply) (m n j k : ℕ) → model.After a m j ≡ model.After b n k → m ≡ n
same_number a b m n j k is = cc

-- so it is where the reply is to wait
pub waiting_appended : (s t : State) (link : ℕ) (host : List ℕ) (now : ℕ) (send : SendSaid) (reply : ReplyParts) (number turn : ℕ) → s.setup.sync ≡ true → waits (kept_props send.props) ≡ true
    → StepsAs s (sends link host now send) (Some (said.After reply number turn)) t → IsAppended s host now send reply number t
waiting_appended s t link host now send reply number turn sync waiting step =
    let told = step_said s t (sends link host now send) (said.After reply number turn) step in
    ⊎_elim
    (λ (none : TellsNone (answer_of s (event_of (sends link host now send)))). absurd (subst (λ (a : model.Answer). TellsNone a) told.0.1 none))
    (λ (taken : IsTaken s link host now send).
    let same = sym told.0.1 ∙ taken.answer in
    let numbers = same_number told.0.0 (waiting_reply s host now send) number (count_of s.log + 1 - 1) turn s.turns same in
    record {
      log = ap (λ (u : State). u.log) told.1 ∙ taken.log;
      number_is = omega (arith, numbers);
      named = told.0.2.ext ∙ ap (λ (r : model.Reply). r.ext) (same_reply told.0.0 (waiting_reply s host now send) number (count_of s.log + 1 - 1) turn s.turns same);
    })
    (send_taken s link host now send sync waiting)

-- ---- what is owed for it

-- the reply was said, or memory ran out
abbrev pub IsAtOnce : Option Said → ReplyParts → Type 0
IsAtOnce what reply = (what ≡ Some (said.Reply reply)) ⊎ (reply ≡ fault_reply faults.Memory)

-- the reply waits for a record
pub record IsWaiting (what : Option Said) (reply : ReplyParts) (awaits : Option Awaits) : Type 0 where
  pub number : ℕ
  pub turn : ℕ
  pub said_is : what ≡ Some (said.After reply number turn)
  pub awaits_is : awaits ≡ Some (record { number = number; turn = turn })

pub same_owed : (a b : ReplyParts) (x y : Option Awaits) → ◌≡◌ {A = Option Applied} (Some (Owes a x)) (Some (Owes b y)) → a ≡ b
same_owed a b x y is = cc

pub same_awaits : (a b : ReplyParts) (x y : Option Awaits) → ◌≡◌ {A = Option Applied} (Some (Owes a x)) (Some (Owes b y)) → x ≡ y
same_awaits a b x y is = cc

pub owed_cases : (what : Option Said) (reply : ReplyParts) (awaits : Option Awaits) → applied_of what ≡ Some (Owes reply awaits)
    → (IsAtOnce what reply × (awaits ≡ None)) ⊎ IsWaiting what reply awaits
owed_cases None reply awaits is = inl (inr (sym (same_owed (fault_reply faults.Memory) reply None awaits is)), sym (same_awaits (fault_reply faults.Memory) reply None awaits is))
owed_cases (Some (said.Reply r)) reply awaits is =
    inl (inl (ap (λ (x : ReplyParts). Some (said.Reply x)) (same_owed r reply None awaits is)), sym (same_awaits r reply None awaits is))
owed_cases (Some (said.After r number turn)) reply awaits is =
    let there : Option Awaits = Some (record { number = number; turn = turn }) in
    inr (record {
      number = number;
      turn = turn;
      said_is = ap (λ (x : ReplyParts). Some (said.After x number turn)) (same_owed r reply there awaits is);
      awaits_is = sym (same_awaits r reply there awaits is);
    })
owed_cases (Some (said.Full pending)) reply awaits is = absurd (cc)
owed_cases (Some (said.Batch batch)) reply awaits is = absurd (cc)
owed_cases (Some said.Done) reply awaits is = absurd (cc)
owed_cases (Some (said.Awaited what)) reply awaits is = absurd (cc)
owed_cases (Some (said.Moved number)) reply awaits is = absurd (cc)
owed_cases (Some said.LogEnd) reply awaits is = absurd (cc)
owed_cases (Some (said.Delivered what)) reply awaits is = absurd (cc)
owed_cases (Some (said.Checked what)) reply awaits is = absurd (cc)

-- what is owed at once for a message that waits for the disk is no 0
pub once_code : (s t : State) (link : ℕ) (host : List ℕ) (now : ℕ) (send : SendSaid) (what : Option Said) (reply : ReplyParts) → s.setup.sync ≡ true → waits (kept_props send.props) ≡ true
    → StepsAs s (sends link host now send) what t → IsAtOnce what reply → reply.code ≡ pos 0 → ⊥
once_code s t link host now send what reply sync waiting step once code = ⊎_elim
    (λ (is : what ≡ Some (said.Reply reply)). replied_code s t link host now send reply sync waiting (subst (λ (w : Option Said). StepsAs s (sends link host now send) w t) is step) code)
    (λ (is : reply ≡ fault_reply faults.Memory). fault_code faults.Memory (ap (λ (r : ReplyParts). r.code) (sym is) ∙ code))
    once

-- ---- a look

-- it finds on the disk what is flushed
pub found_by : (s t : State) (number turn : ℕ) (answer : Option model.Answer) → SaysIn (Some (said.Awaited awaited.Flushed)) answer → Step s (model.Look number turn) answer t → number < s.flushed
found_by s t number turn None says step = absurd says
found_by s t number turn (Some answer) says step = looked_flushed s t number turn (subst (λ (a : model.Answer). Step s (model.Look number turn) (Some a) t) says step)

-- where the reply says 0 behind a look, the record was found on the disk
pub due_found : (s t : State) (number turn : ℕ) (what : Awaited) (owed reply : ReplyParts) → StepsAs s (events.Look number turn) (Some (said.Awaited what)) t
    → IsDue what owed reply → reply.code ≡ pos 0 → (number < t.flushed) × (reply ≡ owed)
due_found s t number turn awaited.Flushed owed reply step due code =
    (omega (arith, found_by s t number turn step.answer step.says step.step, step_flushed s t (events.Look number turn) step.answer tt step.step), due)
due_found s t number turn (awaited.Failed count) owed reply step due code =
    let ten : pos 10 ≡ pos 0 = sym (ap (λ (r : ReplyParts). r.code) due) ∙ code in
    absurd (omega (arith, same_code 10 0 ten))
due_found s t number turn awaited.NotYet owed reply step due code = absurd due
