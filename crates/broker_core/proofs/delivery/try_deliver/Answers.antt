use Rattle.std.proofs.Common.{rules, [], ◌≡◌, ◌∙◌, ap, sym, subst, ℕ, None, nat_lt, true, false, ◌+◌, ◌^◌, length}
use Rattle.log_model.specs.Log.{place_after}
use Rattle.record_codec.specs.Drafts.{draft_fault}
use Rattle.record_codec.specs.declared.draft.Draft.{Draft}
use Rattle.broker_events.specs.declared.said.Said.TheVariants as said
use Rattle.broker_core.proofs.RoomLemmas.{past_is, over_is, segment_is}
use Rattle.broker_core.proofs.DueLemmas.{due_is_next}
use Rattle.broker_core.proofs.DeliverLemmas.{finds_end, finds_full}
use Rattle.broker_core.proofs.MessageLemmas.{written}
use Rattle.broker_core.proofs.delivery.try_deliver.Goals as goal

pub size_of-size-requires : goal.size_of-size-requires
size_of-size-requires c =
    let it = c.requires.due in
    let s = it.0 in
    let due = it.3 in
    let next = due_is_next s.log s.dispatched c.args.now c.args.level it.1 due.due in
    let fits = written c.args.parts.now s c.args.level it.1 it.2 next.1 s.setup.host c.args.count next.0.1 due.count_is in
    subst (λ (S : ℕ). draft_fault S c.args.draft.now ≡ None) (sym (segment_is c.args.parts.now s it.2)) (subst (λ (d : Draft). draft_fault s.setup.segment d ≡ None) (sym due.draft) fits)

pub returns-then-is_past_end-clause-delivered : goal.returns-then-is_past_end-clause-delivered
returns-then-is_past_end-clause-delivered c s r are due =
    let core = c.args.parts.now in
    let size = c.size_of-size.result in
    let past : nat_lt (2 ^ 62) (place_after core.pending.segment core.pending.end size + size) ≡ true =
    ap (λ (p : ℕ). nat_lt (2 ^ 62) (p + size)) (sym c.next_place.ensures) ∙ sym c.is_past_end.ensures ∙ c.if-is_past_end.true in
    finds_end core s c.args.draft.now c.args.now c.args.level c.args.count are (sym (past_is core s c.args.draft.now [] 0 0 c.args.now said.LogEnd core size are c.size_of-size.ensures) ∙ past)

pub returns-then-is_full-clause-delivered : goal.returns-then-is_full-clause-delivered
returns-then-is_full-clause-delivered c s r are due =
    let core = c.args.parts.now in
    let size = c.size_of-size.result in
    let low : nat_lt (2 ^ 62) (place_after core.pending.segment core.pending.end size + size) ≡ false =
    ap (λ (p : ℕ). nat_lt (2 ^ 62) (p + size)) (sym c.next_place.ensures) ∙ sym c.is_past_end.ensures ∙ c.if-is_past_end.false in
    let over : nat_lt 67108864 (length core.pending.bytes + size) ≡ true = search rules in
    finds_full core s c.args.draft.now c.args.now c.args.level c.args.count c.flushed_count.result are
    (sym (past_is core s c.args.draft.now [] 0 0 c.args.now said.LogEnd core size are c.size_of-size.ensures) ∙ low)
    (sym (over_is core s c.args.draft.now [] 0 0 c.args.now said.LogEnd core size are c.size_of-size.ensures) ∙ over) (c.flushed_count.ensures ∙ are.numbers.flushed)
