use Rattle.std.proofs.Common.{subst}
use Rattle.std.proofs.lemmas.Result.{IfOk-weaker}
use Rattle.record_codec.specs.declared.draft.Draft.{Draft}
use Rattle.broker_model.specs.State.{State}
use Rattle.record_codec.specs.Entry.{Entry}
use Rattle.broker_events.specs.declared.said.Said.{Said}
use Rattle.core_log.specs.Represents.{Represents}
use Rattle.broker_core.specs.Delivers.{IsTurnOf, IsDue, IsDelivered, Delivers}
use Rattle.broker_core.proofs.DueLemmas.{due_is_next}
use Rattle.broker_core.proofs.delivery.deliver_from.Goals as goal

pub delivery-requires-clause-next : goal.delivery-requires-clause-next
delivery-requires-clause-next c =
    let it = c.requires.due in
    (it.0, it.2.message, it.1, (due_is_next it.0.log it.0.dispatched c.args.now c.args.level it.2.message it.2.due).1)

pub try_deliver-requires : goal.try_deliver-requires
try_deliver-requires c =
    let it = c.requires.due in
    let s = it.0 in
    let turn = it.2 in
    let draft = c.in_ok-draft.ensures s turn.message it.1 (due_is_next s.log s.dispatched c.args.now c.args.level turn.message turn.due).1 in
    record { due = (s, turn.message, it.1, record { due = turn.due; count_is = turn.count_is; draft = draft; later = turn.later; time = turn.time }) }

pub returns-clause-delivered : goal.returns-clause-delivered
returns-clause-delivered c =
    let core = c.args.parts.now in
    let d = c.in_ok-draft.draft in
    let new = c.try_deliver.new.parts in
    IfOk-weaker c.try_deliver.result
    (λ (what : Said). (s : State) (r : Entry) → Represents core s → IsDue s c.args.now c.args.level c.args.count r d → IsDelivered s c.args.now c.args.level c.args.count d what new)
    (λ (what : Said). (s : State) → Represents core s → IsTurnOf s c.args.now c.args.level c.args.count → Delivers s c.args.now c.args.level c.args.count what new)
    (λ what done s are turn.
    let draft = c.in_ok-draft.ensures s turn.message are (due_is_next s.log s.dispatched c.args.now c.args.level turn.message turn.due).1 in
    record {
      message = turn.message;
      due = turn.due;
      done = subst (λ (x : Draft). IsDelivered s c.args.now c.args.level c.args.count x what new) draft
          (done s turn.message are (record { due = turn.due; count_is = turn.count_is; draft = draft; later = turn.later; time = turn.time }));
    })
    c.try_deliver.ensures.delivered
