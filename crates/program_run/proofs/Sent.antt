-- A message that was answered with 0 once it was on the disk: its record stands in the log of the run, and flush turns flushed it.
use Rattle.std.proofs.Common.{◌≡◌, ◌⊎◌, ⊎_elim, inl, inr, ℕ, ◌+◌, ◌<◌, List, [], ◌∷◌, ◌++◌, length, slice_get, true, Option, Some, None, Result, Ok, Err, refl, sym, ap, ◌∙◌, subst, arith}
use Rattle.std.specs.Prelude.{ℤ, pos}
use Rattle.mq_outside.specs.Readings.{Giving}
use Rattle.record_codec.specs.Entry.{Entry}
use Rattle.log_model.specs.Numbered.{Log}
use Rattle.log_model.specs.Stored.{FlushTurn, turned_in}
use Rattle.request_fields.specs.Reading.{Reads, request_of}
use Rattle.request_fields.specs.Requests.{SendSaid}
use Rattle.request_fields.specs.declared.request.Request.{Request}
use Rattle.request_fields.specs.declared.request.Request.TheVariants.{Send}
use Rattle.request_fields.specs.declared.fault.RequestFault.{RequestFault}
use Rattle.reply_fields.specs.Parts.{ReplyParts}
use Rattle.broker_model.specs.State.{State, Saved, Setup as ModelSetup}
use Rattle.broker_model.specs.Sends.{kept_props, waits}
use Rattle.broker_events.specs.declared.event.Setup.{Setup}
use Rattle.broker_events.specs.declared.event.Event.TheVariants as events
use Rattle.broker_events.specs.declared.said.Said.{Said}
use Rattle.broker_events.specs.declared.said.Said.TheVariants as said
use Rattle.broker_core.specs.declared.alone.Alone.{Alone}
use Rattle.session.specs.declared.owed.Awaits.{Awaits}
use Rattle.worker_turns.specs.Acts.{Act, Made, Acts, Change, DiskView, Place, turns_of}
use Rattle.pipe_stream.specs.Asking.{born_host, event_for, tries_of, no_room, refusal, IsSaid, IsGivenUp, IsAsked, IsRefused, IsGiven, IsLooked}
use Rattle.pipe_stream.specs.declared.answer.Answer.{Answer}
use Rattle.pipe_stream.specs.Serving.{Served, IsAnswered, IsSettled}
use Rattle.pipe_stream.specs.Telling.{FaultCounts}
use Rattle.flush_story.specs.Story.{StepsAs}
use Rattle.flush_story.specs.Keeping.{Grows}
use Rattle.flush_story.proofs.Steps.{grows_then}
use Rattle.flush_story.specs.Leads.{alone}
use Rattle.broker_run.specs.Promise.{RunsTo, opened_over}
use Rattle.core_laws.proofs.Lists.{get_left}
use Rattle.program_run.specs.Sent.{IsSent}
use Rattle.program_run.proofs.SendAnswers.{record_for, is_message}
use Rattle.program_run.proofs.SendSteps.{IsAppended, IsAtOnce, IsWaiting, fault_code, waiting_appended, owed_cases, once_code, due_found}
use Rattle.program_run.proofs.Walks.{Walks, walks_parted, walks_step, walks_grows, walks_flushed, run_walks, turned_append}

-- ---- where its record stands

get_last : {A : Type 0} (xs : List A) (x : A) → slice_get (xs ++ x ∷ []) (length xs) ≡ Some x
get_last [] x = refl
get_last (y ∷ xs) x = get_last xs x

-- a record that was appended stands where its number says, in each log that this one grows into
pub appended_stands : (s t reached : State) (host : List ℕ) (now : ℕ) (send : SendSaid) (reply : ReplyParts) (number : ℕ) → s.log.base.records ≡ 0 → IsAppended s host now send reply number t
    → Grows t reached → slice_get reached.log.records number ≡ Some (record_for s host now send)
appended_stands s t reached host now send reply number base appended grows =
    let r : Entry = record_for s host now send in
    let here : length s.log.records ≡ number = omega (arith, appended.number_is, base) in
    let log : reached.log.records ≡ (s.log.records ++ r ∷ []) ++ grows.more = ap (λ (l : Log). l.records) grows.log ∙ ap (λ (l : Log). l.records ++ grows.more) appended.log in
    subst (λ (l : List Entry). slice_get l number ≡ Some r) (sym log)
    (subst (λ (n : ℕ). slice_get ((s.log.records ++ r ∷ []) ++ grows.more) n ≡ Some r) here
    (get_left (s.log.records ++ r ∷ []) grows.more (length s.log.records) r (get_last s.log.records r)))

-- ---- what became of it

-- behind the flush turns it was found on the disk
looked_found : (s t : State) (owed reply : ReplyParts) (awaits : Awaits) (settled : List Act) → Walks s settled t → IsLooked owed awaits reply settled → reply.code ≡ pos 0
    → (awaits.number < t.flushed) × (reply ≡ owed)
looked_found s t owed reply awaits settled walks looked code =
    let look : Act = Made (events.Look awaits.number awaits.turn) (Some (said.Awaited looked.what)) in
    let parts = walks_parted s looked.turns (look ∷ []) t (subst (λ (l : List Act). Walks s l t) looked.are_all walks) in
    due_found parts.mid t awaits.number awaits.turn looked.what owed reply
    (walks_step parts.mid (events.Look awaits.number awaits.turn) (Some (said.Awaited looked.what)) t parts.behind) looked.due code

-- a reply that waits for nothing is told as it is
settled_once : (answer : Answer) (reply : ReplyParts) (settled : List Act) → answer.awaits ≡ None → IsSettled answer.reply answer.awaits reply settled → reply ≡ answer.reply
settled_once answer reply settled none is = let once = subst (λ (a : Option Awaits). IsSettled answer.reply a reply settled) none is in once.0

-- ---- how it was given

pub same_request : (x y : Request) → ◌≡◌ {A = Result Request RequestFault} (Ok x) (Ok y) → x ≡ y
same_request x y is = cc

-- a message that was read was given to the broker, and else it was refused
given_cases : (code : ℤ) (now : ℕ) (request : Result Request RequestFault) (send : SendSaid) (answer : Answer) (given : List Act)
    → Reads request (Ok (Send send)) → IsGiven code now request answer given
    → IsAsked (event_for now (Send send)) answer given ⊎ ((fault : RequestFault) × IsRefused fault answer given)
given_cases code now (Err fault) send answer given read is = inr (fault, is)
given_cases code now (Ok x) send answer given read is =
    inl (subst (λ (r : Request). IsGiven code now (Ok r) answer given) (sym (same_request (Send send) x read)) is)

-- what was refused is not answered with 0
refused_code : (fault : RequestFault) (answer : Answer) (reply : ReplyParts) (given settled : List Act) → IsRefused fault answer given
    → IsSettled answer.reply answer.awaits reply settled → reply.code ≡ pos 0 → ⊥
refused_code fault answer reply given settled refused is code =
    let once = settled_once (refusal fault) reply settled refl (subst (λ (a : Answer). IsSettled a.reply a.awaits reply settled) refused.told is) in
    fault_code fault (ap (λ (r : ReplyParts). r.code) (sym once) ∙ code)

pub one_is_zero : pos 1 ≡ pos 0 → ⊥
one_is_zero is = cc

-- nor what was given up
given_up_code : (count : ℕ) (answer : Answer) (reply : ReplyParts) (settled : List Act) → answer ≡ no_room count
    → IsSettled answer.reply answer.awaits reply settled → reply.code ≡ pos 0 → ⊥
given_up_code count answer reply settled told is code =
    let once = settled_once (no_room count) reply settled refl (subst (λ (a : Answer). IsSettled a.reply a.awaits reply settled) told is) in
    one_is_zero (ap (λ (r : ReplyParts). r.code) (sym once) ∙ code)

-- ---- one message

-- The message is given from the first state on, and answered in the second one, up to which these turns flushed.
module _ (opened : ℕ) (s t reached : State) (turns : List FlushTurn) (now : ℕ) (send : SendSaid) (answer : Answer) (reply : ReplyParts) where
  -- what was said to it is owed for it
  said_sent : (mid : State) (tries last settled : List Act) → s.setup.sync ≡ true → s.log.base.records ≡ 0 → waits (kept_props send.props) ≡ true
      → Walks s (tries ++ last) mid → Walks mid settled t → Grows t reached → t.flushed ≡ opened + turned_in turns → IsSaid (event_for now (Send send)) answer last
      → IsSettled answer.reply answer.awaits reply settled → reply.code ≡ pos 0 → IsSent opened reached turns send reply
  said_sent mid tries last settled sync base waiting first later grows total told is code =
      let act : Act = Made (event_for now (Send send)) told.what in
      let parts = walks_parted s tries (act ∷ []) mid (subst (λ (l : List Act). Walks s (tries ++ l) mid) told.given first) in
      let from : State = parts.mid in
      let before = walks_grows s tries from parts.before in
      let synced : from.setup.sync ≡ true = ap (λ (c : ModelSetup). c.sync) before.setup ∙ sync in
      let whole : from.log.base.records ≡ 0 = ap (λ (l : Log). l.base.records) before.log ∙ base in
      let step = walks_step from (event_for now (Send send)) told.what mid parts.behind in
      ⊎_elim
      (λ (once : IsAtOnce told.what answer.reply × (answer.awaits ≡ None)).
      let same = settled_once answer reply settled once.1 is in
      absurd (once_code from mid 0 born_host now send told.what answer.reply synced waiting step once.0 (ap (λ (r : ReplyParts). r.code) (sym same) ∙ code)))
      (λ (waits_for : IsWaiting told.what answer.reply answer.awaits).
      let awaits : Awaits = record { number = waits_for.number; turn = waits_for.turn } in
      let looked : IsLooked answer.reply awaits reply settled = subst (λ (a : Option Awaits). IsSettled answer.reply a reply settled) waits_for.awaits_is is in
      let appended = waiting_appended from mid 0 born_host now send answer.reply waits_for.number waits_for.turn synced waiting
      (subst (λ (w : Option Said). StepsAs from (event_for now (Send send)) w mid) waits_for.said_is step) in
      let found = looked_found mid t answer.reply reply awaits settled later looked code in
      record {
        number = waits_for.number;
        r = record_for from born_host now send;
        is = appended_stands from mid reached born_host now send answer.reply waits_for.number whole appended (grows_then mid t reached (walks_grows mid settled t later) grows);
        flushed = omega (arith, found.0, total);
        message = is_message from born_host now send;
        named = ap (λ (r : ReplyParts). r.ext) found.1 ∙ appended.named;
      })
      (owed_cases told.what answer.reply answer.awaits told.told)

  -- it was given as often as there was no room
  asked_sent : (mid : State) (given settled : List Act) → s.setup.sync ≡ true → s.log.base.records ≡ 0 → waits (kept_props send.props) ≡ true
      → Walks s given mid → Walks mid settled t → Grows t reached → t.flushed ≡ opened + turned_in turns → IsAsked (event_for now (Send send)) answer given
      → IsSettled answer.reply answer.awaits reply settled → reply.code ≡ pos 0 → IsSent opened reached turns send reply
  asked_sent mid given settled sync base waiting first later grows total asked is code =
      let tries : List Act = tries_of (event_for now (Send send)) asked.tries in
      let walks = subst (λ (l : List Act). Walks s l mid) asked.are_all first in
      ⊎_elim
      (λ (told : IsSaid (event_for now (Send send)) answer asked.last). said_sent mid tries asked.last settled sync base waiting walks later grows total told is code)
      (λ (up : IsGivenUp (event_for now (Send send)) answer asked.last). absurd (given_up_code up.count answer reply settled up.told is code))
      asked.ended

  -- it was read of a frame
  pub answered_sent : (code : ℤ) (request : Result Request RequestFault) (given settled : List Act) → s.setup.sync ≡ true → s.log.base.records ≡ 0 → waits (kept_props send.props) ≡ true
      → Walks s (given ++ settled) t → Grows t reached → t.flushed ≡ opened + turned_in turns → Reads request (Ok (Send send)) → IsGiven code now request answer given
      → IsSettled answer.reply answer.awaits reply settled → reply.code ≡ pos 0 → IsSent opened reached turns send reply
  answered_sent code request given settled sync base waiting walks grows total read is_given is zero_is =
      let parts = walks_parted s given settled t walks in
      ⊎_elim
      (λ (asked : IsAsked (event_for now (Send send)) answer given). asked_sent parts.mid given settled sync base waiting parts.before parts.behind grows total asked is zero_is)
      (λ (refused : (fault : RequestFault) × IsRefused fault answer given). absurd (refused_code refused.0 answer reply given settled refused.1 is zero_is))
      (given_cases code now request send answer given read is_given)

-- ---- in a run

-- Among the acts of a run in sync mode are those of a message that waits for the disk and was answered with 0. Its record stands in the
-- log of the last state, and the turns up to the answer flushed it.
pub sent : {D : Type 0} (view : DiskView D) (change : Change Alone (Place D)) (setup : Setup) (saved : Saved) (log : List Entry) (acts : List Act) (reached : State) (gives : Giving) (it : Served)
    (answer : Answer) (faults : FaultCounts) (front later : List Act) (send : SendSaid)
    → RunsTo setup saved log acts reached → Acts alone view acts change → setup.sync ≡ true → acts ≡ front ++ (it.acts ++ later) → (is : IsAnswered gives it answer faults)
    → request_of it.frame.header it.frame.body ≡ Ok (Send send) → waits (kept_props send.props) ≡ true → is.reply.code ≡ pos 0
    → IsSent (length log) reached (turns_of (front ++ it.acts)) send is.reply
sent view change setup saved log acts reached gives it answer faults front later send runs happened sync parts is asked waiting code =
    let start : State = (opened_over setup saved log).now in
    let all = run_walks alone view acts change happened (opened_over setup saved log) runs.boot runs.moves reached runs.are runs.run runs.reached_is in
    let first = walks_parted start front (it.acts ++ later) reached (subst (λ (l : List Act). Walks start l reached) parts all) in
    let own = walks_parted first.mid it.acts later reached first.behind in
    let before = walks_grows start front first.mid first.before in
    let synced : first.mid.setup.sync ≡ true = ap (λ (c : ModelSetup). c.sync) before.setup ∙ sync in
    let whole : first.mid.log.base.records ≡ 0 = ap (λ (l : Log). l.base.records) before.log in
    let flushed : own.mid.flushed ≡ length log + turned_in (turns_of (front ++ it.acts)) = omega (
      arith,
      walks_flushed start front first.mid first.before,
      walks_flushed first.mid it.acts own.mid own.before,
      turned_append front it.acts,
    ) in
    answered_sent (length log) first.mid own.mid reached (turns_of (front ++ it.acts)) it.reading send answer is.reply it.frame.header.code is.request is.given is.settled synced whole waiting
    (subst (λ (l : List Act). Walks first.mid l own.mid) is.are_all own.before) (walks_grows own.mid later reached own.behind) flushed
    (subst (λ (r : Result Request RequestFault). Reads is.request r) asked is.read) is.is_given is.is_settled code
