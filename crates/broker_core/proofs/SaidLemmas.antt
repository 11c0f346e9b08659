-- What may be said to a request that is served: a reply, one that waits, or that the buffer is full; and to a delivery and a check.
use Rattle.std.proofs.Common.{◌≡◌, subst, ℕ, ◌+◌, ◌-◌, ◌&&◌, Bool, true, false, List, [], ◌∷◌, length, max, Option, Some, None, Result, Ok, Err, IfOk, if◌then◌else◌}
use Rattle.std.specs.Prelude.{◌==◌, nat_le}
use Rattle.record_codec.specs.Entry.{Entry}
use Rattle.log_model.specs.Numbered.{count_of}
use Rattle.request_fields.specs.Requests.{EndSaid}
use Rattle.request_fields.specs.declared.request.Request.{Request as ARequest}
use Rattle.request_fields.specs.declared.request.Request.TheVariants.{Send, Pull, Query, OffsetOf, SetOffset, MakeTopic, Search, MaxOffset, MinOffset, ViewById, Beat, Unregister, EndTransaction, Lock, Unlock}
use Rattle.broker_model.specs.State.{State}
use Rattle.broker_model.specs.Events as events
use Rattle.broker_model.specs.Sends.{waits, kept_props}
use Rattle.broker_model.specs.Refusals.{refusal_of, verdict_origin, named_half}
use Rattle.broker_model.specs.Appended.{is_refused, is_past_end, appended}
use Rattle.broker_model.specs.Answers.{answer_of, append_answer, reply_with, send_ext, request_answer, carried_out_answer, refused_answer, end_of_log, or_refused}
use Rattle.broker_model.specs.Answers.{done_reply, end_answer, repeated_answer, settling_number, half_waits}
use Rattle.reply_fields.specs.Parts.{ReplyParts}
use Rattle.broker_events.specs.Replies.{IsToldAs}
use Rattle.broker_events.specs.Served.{is_served}
use Rattle.broker_events.specs.declared.said.Said.{Said}
use Rattle.broker_events.specs.declared.said.Said.TheVariants as said
use Rattle.broker_events.specs.Steps.{IsOfCheck, IsOfDelivery, IsOfRequest, Says}
use Rattle.core_log.specs.declared.parts.Parts.{Parts}
use Rattle.core_log.specs.Carries.{Carries, RepresentsSome}

-- the model answers a request so
abbrev IsRequestAnswer : events.Answer → Type 0
IsRequestAnswer (events.Replies reply) = Unit {0}
IsRequestAnswer (events.After reply number turn) = Unit {0}
IsRequestAnswer (events.Locked queues) = Unit {0}
IsRequestAnswer (events.Full pending) = Unit {0}
IsRequestAnswer events.LogEnd = ⊥
IsRequestAnswer (events.Batch batch) = ⊥
IsRequestAnswer events.Done = ⊥
IsRequestAnswer (events.Looked what) = ⊥
IsRequestAnswer (events.Moved number) = ⊥
IsRequestAnswer (events.Delivered what) = ⊥
IsRequestAnswer (events.Checked what) = ⊥

either : (b : Bool) (x y : events.Answer) → IsRequestAnswer x → IsRequestAnswer y → IsRequestAnswer (if b then x else y)
either true x y first second = first
either false x y first second = second

or_reply : (o : Option events.Reply) (x : events.Answer) → IsRequestAnswer x → IsRequestAnswer (or_refused o x)
or_reply None x is = is
or_reply (Some reply) x is = tt

append_says : (s : State) (awaited : Bool) (reply : events.Reply) (n : ℕ) → IsRequestAnswer (append_answer s awaited reply n)
append_says s awaited reply n = either (s.setup.sync && awaited) (events.After reply (count_of s.log + n - 1) s.turns) (events.Replies reply) tt tt

repeated_says : (s : State) (o : Option ℕ) → IsRequestAnswer (repeated_answer s o)
repeated_says s None = tt
repeated_says s (Some number) = either (s.setup.sync && nat_le s.flushed number) (events.After done_reply number s.turns) (events.Replies done_reply) tt tt

verdict_says : (s : State) (end : EndSaid) (records : List Entry) → IsRequestAnswer (end_answer s end records)
verdict_says s end [] =
    let repeated = repeated_answer s (settling_number s (verdict_origin s end)) in
    either (end.verdict == 0) (events.Replies done_reply) repeated tt (repeated_says s (settling_number s (verdict_origin s end)))
verdict_says s end (r ∷ more) = append_says s (half_waits (named_half s end)) done_reply (length (r ∷ more))

served_answer : (s : State) (now : ℕ) (request : ARequest) (records : List Entry) → is_served request ≡ true → IsRequestAnswer (request_answer s now request records)
unfolding request_answer
served_answer s now (Send send) records served = append_says s (waits (kept_props send.props)) (reply_with (send_ext send records) []) 1
served_answer s now (Pull p) records served = tt
served_answer s now (Query q) records served = tt
served_answer s now (OffsetOf q) records served = tt
served_answer s now (SetOffset q) records served = tt
served_answer s now (MakeTopic t) records served = tt
served_answer s now (Search q) records served = tt
served_answer s now (MaxOffset q) records served = tt
served_answer s now (MinOffset q) records served = tt
served_answer s now (ViewById v) records served = tt
served_answer s now (Beat b) records served = tt
served_answer s now (Unregister u) records served = tt
served_answer s now (EndTransaction end) records served = verdict_says s end records
served_answer s now (Lock l) records served = tt
served_answer s now (Unlock l) records served = tt

asked_answer : (s : State) (a : events.Asked) → is_served a.request ≡ true → IsRequestAnswer (answer_of s (events.Asks a))
unfolding answer_of carried_out_answer
asked_answer s a served =
    let e = events.Asks a in
    or_reply (refusal_of s a.request) (if is_refused s e then refused_answer s e else carried_out_answer s e (appended s e))
    (either (is_refused s e) (refused_answer s e) (carried_out_answer s e (appended s e))
    (either (is_past_end s e) (end_of_log e) (events.Full s.flushed) tt tt)
    (served_answer s a.now a.request (appended s e) served))

is_of_request : (what : Said) (answer : events.Answer) → Says what answer → IsRequestAnswer answer → IsOfRequest what
is_of_request (said.Reply reply) answer says is = tt
is_of_request (said.After reply number turn) answer says is = tt
is_of_request (said.Full pending) answer says is = tt
is_of_request (said.Batch batch) answer says is = absurd (subst (λ (a : events.Answer). IsRequestAnswer a) says.1 is)
is_of_request said.Done answer says is = absurd (subst (λ (a : events.Answer). IsRequestAnswer a) says is)
is_of_request (said.Awaited what) answer says is = absurd (subst (λ (a : events.Answer). IsRequestAnswer a) says is)
is_of_request (said.Moved number) answer says is = absurd (subst (λ (a : events.Answer). IsRequestAnswer a) says is)
is_of_request said.LogEnd answer says is = absurd (subst (λ (a : events.Answer). IsRequestAnswer a) says is)
is_of_request (said.Delivered what) answer says is = absurd (subst (λ (a : events.Answer). IsRequestAnswer a) says is)
is_of_request (said.Checked what) answer says is = absurd (subst (λ (a : events.Answer). IsRequestAnswer a) says is)

-- a request's call says what may be said to it
pub request_says : {E : Type 0} (old new : Parts) (link : ℕ) (host : List ℕ) (now : ℕ) (request : ARequest) (result : Result Said E) → is_served request ≡ true
    → IfOk result (λ what. Carries old (events.Asks (record { link = link; host = host; now = now; request = request })) (Says what) new) → RepresentsSome old → IfOk result IsOfRequest
request_says old new link host now request (Ok what) served carries some =
    is_of_request what _ (carries some.0 some.1).0 (asked_answer some.0 (record { link = link; host = host; now = now; request = request }) served)
request_says old new link host now request (Err fault) served carries some = tt

-- ---- deliveries

-- the model answers a delivery so
abbrev IsDeliveryAnswer : events.Answer → Type 0
IsDeliveryAnswer (events.Replies reply) = ⊥
IsDeliveryAnswer (events.After reply number turn) = ⊥
IsDeliveryAnswer (events.Locked queues) = ⊥
IsDeliveryAnswer (events.Full pending) = Unit {0}
IsDeliveryAnswer events.LogEnd = Unit {0}
IsDeliveryAnswer (events.Batch batch) = ⊥
IsDeliveryAnswer events.Done = ⊥
IsDeliveryAnswer (events.Looked what) = ⊥
IsDeliveryAnswer (events.Moved number) = ⊥
IsDeliveryAnswer (events.Delivered what) = Unit {0}
IsDeliveryAnswer (events.Checked what) = ⊥

one_of_both : (b : Bool) (x y : events.Answer) → IsDeliveryAnswer x → IsDeliveryAnswer y → IsDeliveryAnswer (if b then x else y)
one_of_both true x y first second = first
one_of_both false x y first second = second

delivery_answer : (s : State) (now : ℕ) → IsDeliveryAnswer (answer_of s (events.Deliver now))
unfolding answer_of carried_out_answer
delivery_answer s now =
    let e = events.Deliver now in
    one_of_both (is_refused s e) (refused_answer s e) (carried_out_answer s e (appended s e))
    (one_of_both (is_past_end s e) (end_of_log e) (events.Full s.flushed) tt tt) tt

not_told : (reply : ReplyParts) (answer : events.Answer) → IsToldAs reply answer → IsDeliveryAnswer answer → ⊥
not_told reply (events.Replies told) says is = is
not_told reply (events.Locked queues) says is = is
not_told reply (events.After told number turn) says is = is
not_told reply (events.Full pending) says is = says
not_told reply events.LogEnd says is = says
not_told reply (events.Batch batch) says is = says
not_told reply events.Done says is = says
not_told reply (events.Looked what) says is = says
not_told reply (events.Moved number) says is = says
not_told reply (events.Delivered what) says is = says
not_told reply (events.Checked what) says is = says

is_of_delivery : (what : Said) (answer : events.Answer) → Says what answer → IsDeliveryAnswer answer → IsOfDelivery what
is_of_delivery (said.Reply reply) answer says is = absurd (not_told reply answer says is)
is_of_delivery (said.After reply number turn) answer says is = absurd (subst (λ (a : events.Answer). IsDeliveryAnswer a) says.1 is)
is_of_delivery (said.Full pending) answer says is = tt
is_of_delivery (said.Batch batch) answer says is = absurd (subst (λ (a : events.Answer). IsDeliveryAnswer a) says.1 is)
is_of_delivery said.Done answer says is = absurd (subst (λ (a : events.Answer). IsDeliveryAnswer a) says is)
is_of_delivery (said.Awaited what) answer says is = absurd (subst (λ (a : events.Answer). IsDeliveryAnswer a) says is)
is_of_delivery (said.Moved number) answer says is = absurd (subst (λ (a : events.Answer). IsDeliveryAnswer a) says is)
is_of_delivery said.LogEnd answer says is = tt
is_of_delivery (said.Delivered what) answer says is = tt
is_of_delivery (said.Checked what) answer says is = absurd (subst (λ (a : events.Answer). IsDeliveryAnswer a) says is)

-- a delivery's call says what may be said to it
pub delivery_says : {E : Type 0} (old new : Parts) (now : ℕ) (result : Result Said E)
    → IfOk result (λ what. Carries old (events.Deliver now) (Says what) new) → RepresentsSome old → IfOk result IsOfDelivery
delivery_says old new now (Ok what) carries some = is_of_delivery what _ (carries some.0 some.1).0 (delivery_answer some.0 now)
delivery_says old new now (Err fault) carries some = tt

-- ---- checks

-- the model answers a check so
abbrev IsCheckAnswer : events.Answer → Type 0
IsCheckAnswer (events.Replies reply) = ⊥
IsCheckAnswer (events.After reply number turn) = ⊥
IsCheckAnswer (events.Locked queues) = ⊥
IsCheckAnswer (events.Full pending) = Unit {0}
IsCheckAnswer events.LogEnd = Unit {0}
IsCheckAnswer (events.Batch batch) = ⊥
IsCheckAnswer events.Done = ⊥
IsCheckAnswer (events.Looked what) = ⊥
IsCheckAnswer (events.Moved number) = ⊥
IsCheckAnswer (events.Delivered what) = ⊥
IsCheckAnswer (events.Checked what) = Unit {0}

one_of_checks : (b : Bool) (x y : events.Answer) → IsCheckAnswer x → IsCheckAnswer y → IsCheckAnswer (if b then x else y)
one_of_checks true x y first second = first
one_of_checks false x y first second = second

check_answer : (s : State) (now : ℕ) → IsCheckAnswer (answer_of s (events.Check now))
unfolding answer_of carried_out_answer
check_answer s now =
    let e = events.Check now in
    one_of_checks (is_refused s e) (refused_answer s e) (carried_out_answer s e (appended s e))
    (one_of_checks (is_past_end s e) (end_of_log e) (events.Full s.flushed) tt tt) tt

not_told_check : (reply : ReplyParts) (answer : events.Answer) → IsToldAs reply answer → IsCheckAnswer answer → ⊥
not_told_check reply (events.Replies told) says is = is
not_told_check reply (events.Locked queues) says is = is
not_told_check reply (events.After told number turn) says is = is
not_told_check reply (events.Full pending) says is = says
not_told_check reply events.LogEnd says is = says
not_told_check reply (events.Batch batch) says is = says
not_told_check reply events.Done says is = says
not_told_check reply (events.Looked what) says is = says
not_told_check reply (events.Moved number) says is = says
not_told_check reply (events.Delivered what) says is = says
not_told_check reply (events.Checked what) says is = says

is_of_check : (what : Said) (answer : events.Answer) → Says what answer → IsCheckAnswer answer → IsOfCheck what
is_of_check (said.Reply reply) answer says is = absurd (not_told_check reply answer says is)
is_of_check (said.After reply number turn) answer says is = absurd (subst (λ (a : events.Answer). IsCheckAnswer a) says.1 is)
is_of_check (said.Full pending) answer says is = tt
is_of_check (said.Batch batch) answer says is = absurd (subst (λ (a : events.Answer). IsCheckAnswer a) says.1 is)
is_of_check said.Done answer says is = absurd (subst (λ (a : events.Answer). IsCheckAnswer a) says is)
is_of_check (said.Awaited what) answer says is = absurd (subst (λ (a : events.Answer). IsCheckAnswer a) says is)
is_of_check (said.Moved number) answer says is = absurd (subst (λ (a : events.Answer). IsCheckAnswer a) says is)
is_of_check said.LogEnd answer says is = tt
is_of_check (said.Delivered what) answer says is = absurd (subst (λ (a : events.Answer). IsCheckAnswer a) says is)
is_of_check (said.Checked what) answer says is = tt

-- a check's call says what may be said to it
pub check_says : {E : Type 0} (old new : Parts) (now : ℕ) (result : Result Said E)
    → IfOk result (λ what. Carries old (events.Check now) (Says what) new) → RepresentsSome old → IfOk result IsOfCheck
check_says old new now (Ok what) carries some = is_of_check what _ (carries some.0 some.1).0 (check_answer some.0 now)
check_says old new now (Err fault) carries some = tt
