use Rattle.std.proofs.Common.{◌≡◌, ◌∙◌, ap, sym, subst, false, Some}
use Rattle.std.proofs.lemmas.Result.{IfOk-weaker}
use Rattle.log_model.specs.declared.origin.OriginState.{OriginState}
use Rattle.log_model.specs.declared.origin.OriginState.TheVariants.{Open}
use Rattle.request_fields.specs.Requests.{EndSaid}
use Rattle.broker_model.specs.State.{State}
use Rattle.broker_events.specs.declared.said.Said.{Said}
use Rattle.broker_events.specs.Steps.{Says}
use Rattle.core_log.specs.Represents.{Represents}
use Rattle.broker_core.specs.Verdicts.{is_first_verdict, IsJudged, AnswersVerdict, agreed_answer}
use Rattle.broker_core.proofs.JudgeLemmas.{first_is_open, agrees, origin_found}
use Rattle.broker_core.proofs.verdict.judge.Goals as goal

pub returns-then-is_first-clause-answered : goal.returns-then-is_first-clause-answered
returns-then-is_first-clause-answered c =
    let core = c.args.parts.now in
    let end = c.args.end.now in
    let new = c.settle.new.parts in
    let judged = c.args.judged.now in
    let open_one : judged.state ≡ Open = first_is_open c.end.inside.verdict judged.state (sym c.is_first.ensures ∙ c.if-is_first.true) in
    IfOk-weaker c.settle.result
    (λ (what : Said). (s : State) → Represents core s → IsJudged s c.args.now end judged.origin Open → AnswersVerdict s c.args.now end what new)
    (λ (what : Said). (s : State) → Represents core s → IsJudged s c.args.now end judged.origin judged.state → AnswersVerdict s c.args.now end what new)
    (λ what done s are it. done s are (subst (λ (state : OriginState). IsJudged s c.args.now end judged.origin state) open_one it))
    c.settle.ensures.answered

pub returns-clause-answered : goal.returns-clause-answered
returns-clause-answered c s are it =
    let core = c.args.parts.now in
    let end = c.args.end.now in
    let judged = c.args.judged.now in
    let later : is_first_verdict end.verdict judged.state ≡ false = ap (λ (e : EndSaid). is_first_verdict e.verdict judged.state) (sym c.end.view_is) ∙ sym c.is_first.ensures ∙ c.if-is_first.false in
    let says = c.in_ok-said.ensures s it.first are (origin_found core s c.args.now judged.origin end judged.state are it) in
    agrees core s c.args.now judged.origin end judged.state c.in_ok-said.said are it later
    (subst (λ (e : EndSaid). Says c.in_ok-said.said (agreed_answer s e.verdict (Some it.first))) c.end.view_is says)
