use Rattle.std.proofs.Common.{◌≡◌, ◌∙◌, ap, sym, subst, ℕ, max, None}
use Rattle.std.proofs.lemmas.Result.{IfOk-weaker}
use Rattle.broker_model.specs.State.{State}
use Rattle.broker_model.specs.Appended.{due_origin}
use Rattle.broker_model.specs.Events as model
use Rattle.broker_events.specs.declared.said.Said.{Said}
use Rattle.broker_events.specs.Steps.{Says}
use Rattle.core_log.specs.Carries.{Carries}
use Rattle.broker_core.specs.Checks.{IsDueCheck, Checks}
use Rattle.core_log.specs.Represents.{Represents}
use Rattle.broker_core.proofs.CheckLemmas.{carries_check, checks_none, after_none}
use Rattle.broker_core.proofs.ReadLemmas.{represents_read}
use Rattle.broker_core.proofs.DueChecks.{due_check, none_due}
use Rattle.broker_core.proofs.check_back.check.Goals as goal

pub check_due-requires : goal.check_due-requires
check_due-requires c =
    let some = c.requires.some in
    record {
      due = (
        some.0,
        some.1,
        due_check c.args.parts.now some.0 c.args.now c.max-moment.result c.due.result c.in-Some.due some.1 c.requires.time c.max-moment.ensures (c.due.ensures some.0.setup.segment some.0.log some.1.state.log some.1.halves) c.in-Some.is,
      );
    }

pub returns-in-Some-clause-carries : goal.returns-in-Some-clause-carries
returns-in-Some-clause-carries c =
    let core = c.args.parts.now in
    IfOk-weaker c.check_due.result
    (λ (what : Said). (s : State) → Represents core s → IsDueCheck s c.max-moment.result c.in-Some.due → Checks s c.max-moment.result what c.check_due.new.parts)
    (λ (what : Said). Carries core (model.Check c.args.now) (Says what) c.check_due.new.parts)
    (λ what done s are.
    let it = due_check core s c.args.now c.max-moment.result c.due.result c.in-Some.due are c.requires.time c.max-moment.ensures (c.due.ensures s.setup.segment s.log are.state.log are.halves) c.in-Some.is in
    carries_check core s c.args.now c.max-moment.result what c.check_due.new.parts are c.max-moment.ensures (done s are it))
    c.check_due.ensures.checked

pub returns-in-None-clause-carries : goal.returns-in-None-clause-carries
returns-in-None-clause-carries c s are =
    let core = c.args.parts.now in
    let time : c.max-moment.result ≡ max c.args.now s.now = c.max-moment.ensures ∙ ap (λ (n : ℕ). max c.args.now n) are.numbers.now in
    let none = none_due s c.max-moment.result (sym (c.due.ensures s.setup.segment s.log are.state.log are.halves) ∙ c.in-None.is) in
    let at : due_origin s (max c.args.now s.now) ≡ None = ap (λ (n : ℕ). due_origin s n) (sym time) ∙ none in (
      checks_none s c.args.now at,
      subst (λ (t : State). Represents (record core { now = c.max-moment.result }) t) (sym (after_none s c.args.now at))
          (represents_read core (record core { now = c.max-moment.result }) s c.args.now are (ap (λ (n : ℕ). record core { now = n }) c.max-moment.ensures) c.requires.time),
    )
