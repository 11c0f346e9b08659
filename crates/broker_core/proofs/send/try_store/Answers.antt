use Rattle.std.proofs.Common.{rules, ◌≡◌, ◌^◌, ◌+◌, ap, sym, ◌∙◌, ℕ, length, max, nat_lt, true, false, codes}
use Rattle.std.specs.Option.{unwrap_or}
use Rattle.std.proofs.lemmas.Result.{IfOk-weaker}
use Rattle.log_model.specs.Log.{place_after}
use Rattle.broker_model.specs.State.{State}
use Rattle.broker_model.specs.Events as model
use Rattle.broker_events.specs.declared.said.Said.{Said}
use Rattle.broker_events.specs.declared.said.Said.TheVariants as said
use Rattle.core_log.specs.Represents.{Represents}
use Rattle.broker_core.specs.Stores.{IsStored, IsSent}
use Rattle.broker_core.proofs.AnswerLemmas.{is_plain_reply}
use Rattle.broker_core.proofs.RoomLemmas.{sent_past, sent_full, sent_stored}
use Rattle.broker_core.proofs.send.try_store.Goals as goal

pub returns-then-is_past_end-clause-sent : goal.returns-then-is_past_end-clause-sent
returns-then-is_past_end-clause-sent c s are =
    let core = c.args.parts.now in
    let size = c.size_of-size.result in
    let past : nat_lt (2 ^ 62) (place_after core.pending.segment core.pending.end size + size) ≡ true =
    ap (λ (p : ℕ). nat_lt (2 ^ 62) (p + size)) (sym c.next_place.ensures) ∙ sym c.is_past_end.ensures ∙ c.if-is_past_end.true in
    sent_past core s c.args.draft.now c.args.target.now.topic.now c.args.target.now.queue (unwrap_or c.args.target.now.known c.args.target.now.made) (max c.args.now s.now) (said.Reply c.in_ok-plain.field-0) core size are c.size_of-size.ensures past
    (is_plain_reply c.in_ok-plain.field-0 14 (codes "log end") c.in_ok-plain.ensures) are

pub returns-then-is_full-clause-sent : goal.returns-then-is_full-clause-sent
returns-then-is_full-clause-sent c s are =
    let core = c.args.parts.now in
    let size = c.size_of-size.result in
    let low : nat_lt (2 ^ 62) (place_after core.pending.segment core.pending.end size + size) ≡ false =
    ap (λ (p : ℕ). nat_lt (2 ^ 62) (p + size)) (sym c.next_place.ensures) ∙ sym c.is_past_end.ensures ∙ c.if-is_past_end.false in
    let over : nat_lt 67108864 (length core.pending.bytes + size) ≡ true = search rules in
    sent_full core s c.args.draft.now c.args.target.now.topic.now c.args.target.now.queue (unwrap_or c.args.target.now.known c.args.target.now.made) (max c.args.now s.now) (said.Full c.flushed_count.result) core size are c.size_of-size.ensures low over
    (ap (λ (n : ℕ). model.Full n) (sym are.numbers.flushed ∙ sym c.flushed_count.ensures)) are

pub returns-clause-sent : goal.returns-clause-sent
returns-clause-sent c =
    let core = c.args.parts.now in
    let d = c.args.draft.now in
    let target = c.args.target.now in
    let n = unwrap_or target.known target.made in
    let new = c.store.new.parts in
    let size = c.size_of-size.result in
    let low : nat_lt (2 ^ 62) (place_after core.pending.segment core.pending.end size + size) ≡ false =
    ap (λ (p : ℕ). nat_lt (2 ^ 62) (p + size)) (sym c.next_place.ensures) ∙ sym c.is_past_end.ensures ∙ c.if-is_past_end.false in
    let short : nat_lt 67108864 (length core.pending.bytes + size) ≡ false = search rules in
    IfOk-weaker c.store.result (λ (what : Said). (s : State) → Represents core s → IsStored s d target.topic.now target.queue n (max c.args.now s.now) what new)
    (λ (what : Said). (s : State) → Represents core s → IsSent s d target.topic.now target.queue n (max c.args.now s.now) what new)
    (λ what stored s are. sent_stored core s d target.topic.now target.queue n (max c.args.now s.now) what new size are c.size_of-size.ensures low short (stored s are))
    c.store.ensures.stored
