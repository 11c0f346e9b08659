use Rattle.std.proofs.Common.{◌≡◌, ◌∙◌, ap, sym, subst, ℕ, max, None}
use Rattle.std.proofs.lemmas.Result.{IfOk-weaker}
use Rattle.log_model.specs.Delays.{due_delayed}
use Rattle.broker_model.specs.State.{State}
use Rattle.broker_model.specs.Events as model
use Rattle.broker_events.specs.declared.said.Said.{Said}
use Rattle.broker_events.specs.Steps.{Says}
use Rattle.core_log.specs.Carries.{Carries}
use Rattle.core_log.specs.Represents.{Represents}
use Rattle.broker_core.specs.Delivers.{IsTurnOf, Delivers}
use Rattle.broker_core.proofs.DueLemmas.{due_is_next, told_none, turn_at}
use Rattle.broker_core.proofs.DeliverLemmas.{delivers_none, after_none, carries_delivery}
use Rattle.broker_core.proofs.ReadLemmas.{represents_read}
use Rattle.broker_core.proofs.delivery.deliver.Goals as goal

pub deliver_from-requires-clause-low : goal.deliver_from-requires-clause-low
deliver_from-requires-clause-low c =
    let some = c.requires.some in
    let it = turn_at c.args.parts.now some.0 c.args.now c.max-moment.result c.in-Some.level c.in-Some.count some.1 c.requires.time c.max-moment.ensures (sym (c.due.ensures some.0.log some.0.dispatched some.1.levels) ∙ c.in-Some.is) in
    (due_is_next some.0.log some.0.dispatched c.max-moment.result c.in-Some.level it.message it.due).0.0

pub deliver_from-requires-clause-high : goal.deliver_from-requires-clause-high
deliver_from-requires-clause-high c =
    let some = c.requires.some in
    let it = turn_at c.args.parts.now some.0 c.args.now c.max-moment.result c.in-Some.level c.in-Some.count some.1 c.requires.time c.max-moment.ensures (sym (c.due.ensures some.0.log some.0.dispatched some.1.levels) ∙ c.in-Some.is) in
    (due_is_next some.0.log some.0.dispatched c.max-moment.result c.in-Some.level it.message it.due).0.1

pub deliver_from-requires-clause-due : goal.deliver_from-requires-clause-due
deliver_from-requires-clause-due c =
    let some = c.requires.some in
    (some.0, some.1, turn_at c.args.parts.now some.0 c.args.now c.max-moment.result c.in-Some.level c.in-Some.count some.1 c.requires.time c.max-moment.ensures (sym (c.due.ensures some.0.log some.0.dispatched some.1.levels) ∙ c.in-Some.is))

pub returns-in-Some-clause-carries : goal.returns-in-Some-clause-carries
returns-in-Some-clause-carries c =
    let core = c.args.parts.now in
    IfOk-weaker c.deliver_from.result
    (λ (what : Said). (s : State) → Represents core s → IsTurnOf s c.max-moment.result c.in-Some.level c.in-Some.count → Delivers s c.max-moment.result c.in-Some.level c.in-Some.count what c.deliver_from.new.parts)
    (λ (what : Said). Carries core (model.Deliver c.args.now) (Says what) c.deliver_from.new.parts)
    (λ what done s are.
    let it = turn_at core s c.args.now c.max-moment.result c.in-Some.level c.in-Some.count are c.requires.time c.max-moment.ensures (sym (c.due.ensures s.log s.dispatched are.levels) ∙ c.in-Some.is) in
    carries_delivery core s c.args.now c.max-moment.result c.in-Some.level c.in-Some.count what c.deliver_from.new.parts are c.max-moment.ensures it.count_is (done s are it))
    c.deliver_from.ensures.delivered

pub returns-in-None-clause-carries : goal.returns-in-None-clause-carries
returns-in-None-clause-carries c s are =
    let core = c.args.parts.now in
    let time : c.max-moment.result ≡ max c.args.now s.now = c.max-moment.ensures ∙ ap (λ (n : ℕ). max c.args.now n) are.numbers.now in
    let none = told_none s.log (due_delayed s.log s.dispatched c.max-moment.result) (sym (c.due.ensures s.log s.dispatched are.levels) ∙ c.in-None.is) in
    let at : due_delayed s.log s.dispatched (max c.args.now s.now) ≡ None = ap (λ (n : ℕ). due_delayed s.log s.dispatched n) (sym time) ∙ none in (
      delivers_none s c.args.now at,
      subst (λ (t : State). Represents (record core { now = c.max-moment.result }) t) (sym (after_none s c.args.now at))
          (represents_read core (record core { now = c.max-moment.result }) s c.args.now are (ap (λ (n : ℕ). record core { now = n }) c.max-moment.ensures) c.requires.time),
    )
