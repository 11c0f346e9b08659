-- What was written to a link: each of its replies with its request, and where the message is that a reply of 0 was for.
use Rattle.std.proofs.Common.{◌≡◌, ◌⊎◌, ⊎_elim, ℕ, List, [], ◌∷◌, ◌++◌, map, pos, true, All, Option, Some, None, Ok, refl, sym, ap, ◌∙◌, subst, arith, append_assoc}
use Rattle.std.specs.List.{AllByRecursion}
use Rattle.std.proofs.lemmas.List.Elements.{All-nil, All-cons}
use Rattle.mq_outside.specs.Disk.{DiskState}
use Rattle.mq_outside.specs.Readings.{Giving}
use Rattle.mq_peers.specs.Ended.{LinkEnd}
use Rattle.remoting_frame.specs.Held.{Held}
use Rattle.request_fields.specs.Requests.{SendSaid}
use Rattle.request_fields.specs.declared.request.Request.{Request}
use Rattle.request_fields.specs.declared.request.Request.TheVariants.{Send}
use Rattle.reply_fields.specs.Asks.{ask_bytes}
use Rattle.reply_fields.specs.Parts.{AskParts, ReplyParts}
use Rattle.reply_fields.specs.Refusals.{fault_reply}
use Rattle.broker_model.specs.Sends.{kept_props, waits}
use Rattle.broker_events.specs.declared.event.Event.{Event}
use Rattle.broker_events.specs.declared.event.Event.TheVariants as events
use Rattle.broker_events.specs.declared.said.Said.{Said}
use Rattle.broker_events.specs.declared.said.Said.TheVariants as said
use Rattle.broker_events.specs.declared.said.Awaited.{Awaited}
use Rattle.broker_events.specs.declared.said.Awaited.TheVariants.{Failed, Flushed, NotYet}
use Rattle.session.specs.Asking.{next_count, opaque_of}
use Rattle.session.specs.Readers.{ReaderView}
use Rattle.session.specs.Owing.{look_for}
use Rattle.session.specs.Room.{IsGivenUp, no_room, steps_of_tries}
use Rattle.session.specs.Serving.{IsAnswered, IsAsked, IsRefused, Made, caller_of}
use Rattle.session.specs.Settling.{IsDueAfter, IsDueAt, IsPut, unsent_of}
use Rattle.session.specs.Sessions as sessions
use Rattle.session.specs.Sessions.{Answer, AreAnswers, ArePieces, IsAnswer, IsReplyTo, asking_in, asking_of, found_in, finds, held_in, made_in, made_of, owed_among, read_replies_of, sent_of, settling_in, settling_of, stream_of}
use Rattle.session.specs.Talks.{HasHeard}
use Rattle.session.specs.declared.caller.Caller.{Caller}
use Rattle.session.specs.declared.heard.Heard.{Heard}
use Rattle.session.specs.declared.owed.Applied.{Applied}
use Rattle.session.specs.declared.owed.Applied.TheVariants.{Owes}
use Rattle.session.specs.declared.owed.Awaits.{Awaits}
use Rattle.session.specs.declared.owed.Owed.{Owed}
use Rattle.session.specs.declared.talk.Talk.{Talk}
use Rattle.link_service.specs.Transcripts.{counted_to}
use Rattle.link_service.proofs.Went.{made_append, stream_append}
use Rattle.event_loops.specs.Tales.{IsAnsweredInOrder, asks_for, made_for, reads_for, steps_of}
use Rattle.serve_threads.specs.Links.{AreAnsweredFrom, LoopLinks}
use Rattle.program_run.specs.Acknowledged.{IsAccepted, IsAcknowledged, IsWritten, LinkStands, LinksStand, Past, Piece, Replied, checked, piece_bytes, replied, replied_among}
use Rattle.program_run.proofs.Histories.{IsIn}
use Rattle.program_run.proofs.LinkSteps.{each_both, each_filter, each_first, each_later, each_made, each_same}
use Rattle.program_run.proofs.SendSteps.{IsAtOnce, IsWaiting, fault_code, owed_cases, same_awaits, same_code, same_owed, sends}
use Rattle.program_run.proofs.Sent.{one_is_zero, same_request}

-- What is known of each message of a history that waits for the disk: what is owed for it at once is no 0; and where its reply
-- waited for a record, and a look found this on the disk, the message is acknowledged.
pub record Knows (past : Past) (disk : DiskState) : Type 0 where
  pub at_once : (link : ℕ) (host : List ℕ) (now : ℕ) (send : SendSaid) (what : Option Said) (reply : ReplyParts) → waits (kept_props send.props) ≡ true
      → IsIn past.history (sends link host now send, what) → IsAtOnce what reply → reply.code ≡ pos 0 → ⊥
  pub found : (link : ℕ) (host : List ℕ) (now : ℕ) (send : SendSaid) (reply : ReplyParts) (number turn : ℕ) → waits (kept_props send.props) ≡ true
      → IsIn past.history (sends link host now send, Some (said.After reply number turn)) → IsIn past.history (events.Look number turn, Some (said.Awaited Flushed))
      → IsAcknowledged past disk reply send

-- ---- which reply was due

-- the reply that waits for nothing is due as it is
due_once : (awaits : Option Awaits) (reply due : ReplyParts) (looks : Made) → awaits ≡ None → IsDueAfter awaits reply due looks → due ≡ reply
due_once awaits reply due looks none is = let once = subst (λ (a : Option Awaits). IsDueAfter a reply due looks) none is in once.0

-- one that is 0 behind a look is due where the look found the record flushed
due_found : (what : Awaited) (awaits : Awaits) (reply due : ReplyParts) (looks : Made) → IsDueAt what reply due → looks ≡ look_for awaits what ∷ [] → due.code ≡ pos 0
    → (reply ≡ due) × (looks ≡ look_for awaits Flushed ∷ [])
due_found Flushed awaits reply due looks is are code = (sym is, are)
due_found (Failed count) awaits reply due looks is are code =
    let ten : pos 10 ≡ pos 0 = sym (ap (λ (r : ReplyParts). r.code) is) ∙ code in
    absurd (omega (arith, same_code 10 0 ten))
due_found NotYet awaits reply due looks is are code = absurd is

-- the answer is owed to who asked
caller_is : (talk : Talk) (answer : Answer) → IsAnswer talk answer → answer.owed.caller ≡ caller_of answer.heard
caller_is talk answer is = ⊎_elim
    (λ (it : (now : ℕ) × IsAnswered talk now answer.heard answer.owed answer.made). it.1.caller)
    (λ (it : IsGivenUp answer.heard answer.tries answer.made answer.owed). ap (λ (o : Owed). o.caller) it.told)
    is.1

-- ---- the steps of calls

module _ (P : Event × Option Said → Type 0) where
  asking_call : (call : sessions.Call) → AllByRecursion P (made_in call) → AllByRecursion P (asking_in call)
  asking_call (sessions.fed piece) each = tt
  asking_call (sessions.served now made result) each = each
  asking_call (sessions.looked made result) each = each
  asking_call (sessions.settled made reads) each = tt
  asking_call (sessions.sent count bytes) each = tt
  asking_call (sessions.asked ask) each = tt

  settling_call : (call : sessions.Call) → AllByRecursion P (made_in call) → AllByRecursion P (settling_in call)
  settling_call (sessions.fed piece) each = tt
  settling_call (sessions.served now made result) each = tt
  settling_call (sessions.looked made result) each = tt
  settling_call (sessions.settled made reads) each = each
  settling_call (sessions.sent count bytes) each = tt
  settling_call (sessions.asked ask) each = tt

  -- what holds of each step of calls holds of those that were made for requests
  each_asking : (calls : List sessions.Call) → AllByRecursion P (made_of calls) → AllByRecursion P (asking_of calls)
  each_asking [] each = tt
  each_asking (call ∷ calls) each = each_both P (asking_in call) (asking_of calls) (asking_call call (each_first P (made_in call) (made_of calls) each))
      (each_asking calls (each_later P (made_in call) (made_of calls) each))

  -- and of those for replies
  each_settling : (calls : List sessions.Call) → AllByRecursion P (made_of calls) → AllByRecursion P (settling_of calls)
  each_settling [] each = tt
  each_settling (call ∷ calls) each = each_both P (settling_in call) (settling_of calls) (settling_call call (each_first P (made_in call) (made_of calls) each))
      (each_settling calls (each_later P (made_in call) (made_of calls) each))

-- ---- one reply

module _ (past : Past) (disk : DiskState) (knows : Knows past disk) where
  module _ (talk : Talk) (answer : Answer) (looks : Made) (due : ReplyParts) (send : SendSaid) (looked : AllByRecursion (IsIn past.history) looks)
      (stepped : AllByRecursion (IsIn past.history) answer.made) (is : IsDueAfter answer.owed.awaits answer.owed.reply due looks)
      (sent : answer.heard.request ≡ Ok (Send send)) (waiting : waits (kept_props send.props) ≡ true) (code : due.code ≡ pos 0) where
    -- what is owed at once with this reply waits for nothing
    code_once : (reply : ReplyParts) → answer.owed.reply ≡ reply → answer.owed.awaits ≡ None → reply.code ≡ pos 0
    code_once reply owed none = ap (λ (r : ReplyParts). r.code) (sym (due_once answer.owed.awaits answer.owed.reply due looks none is ∙ owed)) ∙ code

    -- a refusal is no 0
    refused_reply : IsRefused answer.heard (Owes answer.owed.reply answer.owed.awaits) answer.made → ⊥
    refused_reply refused =
        let told = ap (λ (a : Applied). Some a) refused.told in
        let reply = same_owed answer.owed.reply (fault_reply refused.fault) answer.owed.awaits None told in
        let none = same_awaits answer.owed.reply (fault_reply refused.fault) answer.owed.awaits None told in
        fault_code refused.fault (code_once (fault_reply refused.fault) reply none)

    -- the message was given to the broker by this step
    asked_step : (now : ℕ) (asked : IsAsked talk now answer.heard (Owes answer.owed.reply answer.owed.awaits) answer.made)
        → IsIn past.history (sends talk.link talk.host now send, asked.what)
    asked_step now asked =
        let same : asked.request ≡ Send send = same_request asked.request (Send send) (sym asked.is ∙ sent) in
        let made : answer.made ≡ (sends talk.link talk.host now send, asked.what) ∷ [] =
        asked.one ∙ ap (λ (r : Request). (events.Request talk.link talk.host now r, asked.what) ∷ []) same in
        let all = each_same (IsIn past.history) answer.made ((sends talk.link talk.host now send, asked.what) ∷ []) made stepped in
        all.0

    -- its reply waited for a record, which was found on the disk
    waited_reply : (now : ℕ) (asked : IsAsked talk now answer.heard (Owes answer.owed.reply answer.owed.awaits) answer.made) → IsWaiting asked.what answer.owed.reply answer.owed.awaits
        → IsAcknowledged past disk due send
    waited_reply now asked waited =
        let awaits : Awaits = record { number = waited.number; turn = waited.turn } in
        let after : IsDueAfter (Some awaits) answer.owed.reply due looks = subst (λ (a : Option Awaits). IsDueAfter a answer.owed.reply due looks) waited.awaits_is is in
        let found = due_found after.0 awaits answer.owed.reply due looks after.1 after.2 code in
        let look = each_same (IsIn past.history) looks (look_for awaits Flushed ∷ []) found.1 looked in
        let step = subst (λ (w : Option Said). IsIn past.history (sends talk.link talk.host now send, w)) waited.said_is (asked_step now asked) in
        subst (λ (r : ReplyParts). IsAcknowledged past disk r send) found.0
        (knows.found talk.link talk.host now send answer.owed.reply waited.number waited.turn waiting step look.0)

    -- the broker said so
    asked_reply : (now : ℕ) → IsAsked talk now answer.heard (Owes answer.owed.reply answer.owed.awaits) answer.made → IsAcknowledged past disk due send
    asked_reply now asked = ⊎_elim
        (λ (once : IsAtOnce asked.what answer.owed.reply × (answer.owed.awaits ≡ None)).
        absurd (knows.at_once talk.link talk.host now send asked.what answer.owed.reply waiting (asked_step now asked) once.0 (code_once answer.owed.reply refl once.1)))
        (λ (waited : IsWaiting asked.what answer.owed.reply answer.owed.awaits). waited_reply now asked waited)
        (owed_cases asked.what answer.owed.reply answer.owed.awaits asked.told)

    -- whatever came of it
    answer_stands : IsAnswer talk answer → IsAcknowledged past disk due send
    answer_stands came = ⊎_elim
        (λ (it : (now : ℕ) × IsAnswered talk now answer.heard answer.owed answer.made). ⊎_elim
        (λ (refused : IsRefused answer.heard (Owes answer.owed.reply answer.owed.awaits) answer.made). absurd (refused_reply refused))
        (λ (asked : IsAsked talk it.0 answer.heard (Owes answer.owed.reply answer.owed.awaits) answer.made). asked_reply it.0 asked)
        it.1.comes)
        (λ (full : IsGivenUp answer.heard answer.tries answer.made answer.owed).
        let none : Owed = no_room (caller_of answer.heard) full.count in
        absurd (one_is_zero (code_once none.reply (ap (λ (o : Owed). o.reply) full.told) (ap (λ (o : Owed). o.awaits) full.told))))
        came.1

  -- ---- all replies

  module _ (reader : ReaderView) where
    -- the message of a reply that accepted one stands
    abbrev Stands : Replied → Type 0
    Stands one = (send : SendSaid) → IsAccepted one send → IsAcknowledged past disk one.reply send

    -- what was written to a link that gave these requests: these bytes, where so many check-backs were written before
    record Wrote (count : ℕ) (given : List Heard) (bytes : List ℕ) : Type 0 where
      pieces : List Piece
      left : List Heard
      heard : map (λ one. one.heard) (replied_among pieces) ++ left ≡ given
      written : All (IsWritten reader) (replied_among pieces)
      bytes_are : piece_bytes count pieces ≡ bytes
      stand : All Stands (replied_among pieces)

    wrote : (talk : Talk) (count : ℕ) (answers : List Answer) (pieces : List sessions.Piece) (last : List Owed) (looks : Made) (reads : ℕ) (bytes : List ℕ) → AreAnswers talk answers
        → AllByRecursion (IsIn past.history) (sessions.steps_of answers) → map (λ (answer : Answer). answer.owed) answers ≡ owed_among pieces ++ last
        → AllByRecursion (IsIn past.history) looks → ArePieces reader count pieces looks reads bytes → Wrote count (map (λ (answer : Answer). answer.heard) answers) bytes
    wrote talk count answers [] last looks reads bytes are stepped left looked pieces_are = record {
      pieces = [];
      left = map (λ (answer : Answer). answer.heard) answers;
      heard = refl;
      written = All-nil (IsWritten reader);
      bytes_are = sym pieces_are.2;
      stand = All-nil Stands;
    }
    wrote talk count [] (sessions.replied owed ∷ pieces) last looks reads bytes are stepped left looked pieces_are =
        let none : ◌≡◌ {A = List Owed} [] (owed ∷ (owed_among pieces ++ last)) = left in absurd (cc)
    wrote talk count (answer ∷ answers) (sessions.replied owed ∷ pieces) last looks reads bytes are stepped left looked pieces_are =
        let both : answer.owed ∷ map (λ (one : Answer). one.owed) answers ≡ owed ∷ (owed_among pieces ++ last) = left in
        let same : answer.owed ≡ owed = cc in
        let others : map (λ (one : Answer). one.owed) answers ≡ owed_among pieces ++ last = cc in
        let own : Made = pieces_are.0 in
        let later : Made = pieces_are.1 in
        let own_reads : ℕ = pieces_are.2 in
        let later_reads : ℕ = pieces_are.3 in
        let first : List ℕ = pieces_are.4 in
        let rest : List ℕ = pieces_are.5 in
        let all = each_same (IsIn past.history) looks (own ++ later) pieces_are.6 looked in
        let tried : Made = steps_of_tries answer.tries in
        let made = each_later (IsIn past.history) tried answer.made (each_first (IsIn past.history) (tried ++ answer.made) (sessions.steps_of answers) stepped) in
        let next = wrote talk count answers pieces last later later_reads rest are.1 (each_later (IsIn past.history) (tried ++ answer.made) (sessions.steps_of answers) stepped) others
        (each_later (IsIn past.history) own later all) pieces_are.10 in
        let reply = subst (λ (o : Owed). IsReplyTo reader o own own_reads first) (sym same) pieces_are.9 in
        let one : Replied = record { heard = answer.heard; reply = reply.due; bytes = first } in
        let put = subst (λ (c : Caller). IsPut reader c reply.due reply.count own_reads [] first) (caller_is talk answer are.0) reply.put in
        record {
          pieces = replied one ∷ next.pieces;
          left = next.left;
          heard = ap (λ (l : List Heard). answer.heard ∷ l) next.heard;
          written = All-cons (IsWritten reader) one (replied_among next.pieces) (reply.count, own_reads, put) next.written;
          bytes_are = ap (λ (l : List ℕ). first ++ l) next.bytes_are ∙ sym pieces_are.8;
          stand = All-cons Stands one (replied_among next.pieces)
              (λ send accepted.
              answer_stands talk answer own reply.due send (each_first (IsIn past.history) own later all) made reply.is accepted.asked accepted.awaited accepted.code are.0)
              next.stand;
        }
    wrote talk count answers (sessions.checked ask ∷ pieces) last looks reads bytes are stepped left looked pieces_are =
        let next = wrote talk (next_count count) answers pieces last looks reads pieces_are.0 are stepped left looked pieces_are.2 in
        record {
          pieces = checked ask ∷ next.pieces;
          left = next.left;
          heard = next.heard;
          written = next.written;
          bytes_are = ap (λ (l : List ℕ). ask_bytes (opaque_of count) ask.view ++ l) next.bytes_are ∙ sym pieces_are.1;
          stand = next.stand;
        }

    -- ---- a link

    -- the same requests were heard
    heard_as : (bytes : List ℕ) (heard others : List Heard) (held : Held) → heard ≡ others → HasHeard 0 bytes heard held → HasHeard 0 bytes others held
    heard_as bytes heard others held same it = subst (λ (l : List Heard). HasHeard 0 bytes l held) same it

    -- each reply is its request's, and the message of one that accepted it is acknowledged
    link_stands : (tells : Type 0) (it : LinkEnd) (made : Made) (asks : List AskParts) (reads : ℕ) → tells → IsAnsweredInOrder tells reader it made asks reads → AllByRecursion (IsIn past.history) made
        → LinkStands reader past disk it
    link_stands tells it made asks reads told is each =
        let script = is.transcript in
        let replies = script.replies in
        let calls : List sessions.Call = script.calls in
        let passes = each_first (IsIn past.history) is.passes is.end (each_same (IsIn past.history) made (is.passes ++ is.end) is.both each) in
        let both = each_same (IsIn past.history) is.passes (made_of calls ++ made_of script.end) (script.steps ∙ made_append calls script.end) passes in
        let own = each_first (IsIn past.history) (made_of calls) (made_of script.end) both in
        let looked = each_filter (IsIn past.history) (λ (step : Event × Option Said). finds step.0 step.1) (settling_of calls) (each_settling (IsIn past.history) calls own) in
        let served = each_same (IsIn past.history) (asking_of calls) (sessions.steps_of replies.answers ++ steps_of_tries replies.tries) replies.served
        (each_asking (IsIn past.history) calls own) in
        let stepped = each_first (IsIn past.history) (sessions.steps_of replies.answers) (steps_of_tries replies.tries) served in
        let all = wrote script.first.session.talk 0 replies.answers replies.pieces script.last.owed.items (found_in (settling_of calls)) (read_replies_of calls) (sent_of calls ++ unsent_of script.last) replies.are
        stepped replies.left looked replies.replies in
        let held : List Heard = held_in script.last.held in
        let heard : List Heard = map (λ (answer : Answer). answer.heard) replies.answers in
        let first : List Heard = map (λ (one : Replied). one.heard) (replied_among all.pieces) in
        record {
          read = stream_of calls;
          unread = stream_of script.end;
          given = sym (is.given told) ∙ (script.given told ∙ stream_append calls script.end);
          pieces = all.pieces;
          left = all.left ++ held;
          held = script.last.talk.cutter;
          heard = heard_as (stream_of calls) (heard ++ held) (first ++ (all.left ++ held)) script.last.talk.cutter
              (ap (λ (l : List Heard). l ++ held) (sym all.heard) ∙ append_assoc first all.left held) replies.hears;
          written = all.written;
          unsent = unsent_of script.last;
          taken = ap (λ (l : List ℕ). l ++ unsent_of script.last) (sym (is.taken told) ∙ script.taken told) ∙ sym all.bytes_are;
          stand = all.stand;
        }

  -- ---- the links of a loop

  pub links_stand : (gives : Giving) (failures : ℕ) (links : LoopLinks) (number : ℕ) (put : List AskParts) (steps : Made) → links.tells → links.told → AreAnsweredFrom links gives failures number put steps
      → AllByRecursion (IsIn past.history) steps → LinksStand (counted_to gives failures) past disk links.ended
  links_stand gives failures links number put steps tells told answered each k it got =
      let is = answered.2 in
      let entered = is.ended told in
      let was = entered.each k it got in
      let acts = each_same (IsIn past.history) steps (steps_of is.acts) is.all each in
      link_stands (counted_to gives failures) links.tells it (made_for it.number is.acts) (asks_for it.number is.acts) (reads_for it.number is.acts) tells was.1 (each_made (IsIn past.history) it.number is.acts acts)
