-- Requests that are refused, and topics that are made, as the model answers them.
use Rattle.std.proofs.Common.{◌≡◌, refl, ap, sym, subst, ℕ, ◌||◌, max, true, false, List, codes, pos, Option, Some, None, is_some, if◌then◌else◌}
use Rattle.record_codec.specs.Layout.{is_legal}
use Rattle.log_model.specs.Admissible.{is_system_topic}
use Rattle.request_fields.specs.Requests.{TopicSaid}
use Rattle.request_fields.specs.declared.request.Request.{Request}
use Rattle.request_fields.specs.declared.request.Request.TheVariants.{MakeTopic}
use Rattle.reply_fields.specs.Parts.{ReplyParts, plain}
use Rattle.broker_model.specs.State.{State}
use Rattle.broker_model.specs.Events as model
use Rattle.broker_model.specs.Refusals.{plain_reply, refusal_of}
use Rattle.broker_model.specs.Appended.{is_refused, is_past_end, is_full, drafts_of, made_by, appended}
use Rattle.broker_model.specs.Answers.{answer_of, refused_answer, carried_out_answer, request_answer, or_refused, done_reply}
use Rattle.broker_model.specs.Step.{after, changed, request_changed, with_made, with_records}
use Rattle.broker_events.specs.Replies.{IsReplyOf, IsToldAs}
use Rattle.broker_events.specs.declared.said.Said.TheVariants as said
use Rattle.core_log.specs.declared.parts.Parts.{Parts}
use Rattle.core_log.specs.Represents.{Represents}
use Rattle.broker_core.specs.Asked.{CarriesRequest}

-- ---- replies

pub is_plain_reply : (reply : ReplyParts) (code : ℕ) (remark : List ℕ) → reply ≡ plain (pos code) remark → IsReplyOf reply (plain_reply code remark)
is_plain_reply reply code remark is = subst (λ (r : ReplyParts). IsReplyOf r (plain_reply code remark)) (sym is) (record { code = refl; remark = refl; ext = refl; body = tt })

-- ---- a refused request

refused_answers : (s : State) (a : model.Asked) (told : model.Reply) → refusal_of s a.request ≡ Some told → answer_of s (model.Asks a) ≡ model.Replies told
unfolding answer_of
refused_answers s a told h =
    ap (λ (o : Option model.Reply). or_refused o (if is_refused s (model.Asks a) then refused_answer s (model.Asks a) else carried_out_answer s (model.Asks a) (appended s (model.Asks a)))) h

refused_stays : (s : State) (a : model.Asked) (told : model.Reply) → refusal_of s a.request ≡ Some told → after s (model.Asks a) ≡ s
unfolding after is_refused
refused_stays s a told h =
    ap (λ (o : Option model.Reply). if is_some o || is_past_end s (model.Asks a) || is_full s (model.Asks a) then s
    else with_records (changed s (model.Asks a)) (max a.now s.now) (made_by s (model.Asks a))) h

pub carries_refused : (old : Parts) (host : List ℕ) (now : ℕ) (request : Request) (told : model.Reply) (reply : ReplyParts) → ((s : State) → Represents old s → refusal_of s request ≡ Some told) → IsReplyOf reply told
    → CarriesRequest old host now request (said.Reply reply) old
carries_refused old host now request told reply refused is link s are =
    let a : model.Asked = record { link = link; host = host; now = now; request = request } in
    let h = refused s are in
    (subst (λ (w : model.Answer). IsToldAs reply w) (sym (refused_answers s a told h)) is, subst (λ (t : State). Represents old t) (sym (refused_stays s a told h)) are)

-- ---- topics

pub illegal_topic : (s : State) (t : TopicSaid) → is_legal t.topic ≡ false → refusal_of s (MakeTopic t) ≡ Some (plain_reply 13 (codes "topic"))
unfolding refusal_of
illegal_topic s t h = rw h refl

pub system_topic : (s : State) (t : TopicSaid) → is_legal t.topic ≡ true → is_system_topic t.topic ≡ true → refusal_of s (MakeTopic t) ≡ Some (plain_reply 16 (codes "system topic"))
unfolding refusal_of
system_topic s t h own = rw (h, own) refl

pub topic_taken : (s : State) (t : TopicSaid) → is_legal t.topic ≡ true → is_system_topic t.topic ≡ false → refusal_of s (MakeTopic t) ≡ None
unfolding refusal_of
topic_taken s t h own = rw (h, own) refl

pub topic_answers : (s : State) (link : ℕ) (host : List ℕ) (now : ℕ) (t : TopicSaid) → refusal_of s (MakeTopic t) ≡ None
    → answer_of s (model.Asks (record { link = link; host = host; now = now; request = MakeTopic t })) ≡ model.Replies done_reply
unfolding answer_of is_refused drafts_of carried_out_answer request_answer
topic_answers s link host now t h =
    let e = model.Asks (record { link = link; host = host; now = now; request = MakeTopic t }) in
    ap (λ (o : Option model.Reply). or_refused o (if is_some o || false || false then refused_answer s e else model.Replies done_reply)) h

pub topic_after : (s : State) (link : ℕ) (host : List ℕ) (now : ℕ) (t : TopicSaid) → refusal_of s (MakeTopic t) ≡ None
    → after s (model.Asks (record { link = link; host = host; now = now; request = MakeTopic t })) ≡ record (with_made s t.topic (max t.read t.write)) { now = max now s.now }
unfolding after is_refused drafts_of changed request_changed
topic_after s link host now t h =
    ap (λ (o : Option model.Reply). if is_some o || false || false then s else record (with_made s t.topic (max t.read t.write)) { now = max now s.now }) h
