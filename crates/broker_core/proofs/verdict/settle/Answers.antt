use Rattle.std.proofs.Common.{◌≡◌, ◌∙◌, ⊎_elim, ap, sym, subst, true, false, codes, [], ◌∷◌}
use Rattle.std.specs.Prelude.{◌==◌}
use Rattle.std.proofs.lemmas.Bool.{eq-eqb, ne_eqb}
use Rattle.std.proofs.lemmas.Result.{IfOk-weaker}
use Rattle.record_codec.specs.Entry.{Entry}
use Rattle.log_model.specs.Admissible.{IsBelow}
use Rattle.log_model.specs.Drafts.{text_in, copy_draft}
use Rattle.log_model.specs.declared.origin.OriginState.TheVariants.{Open, Committed}
use Rattle.request_fields.specs.Requests.{EndSaid}
use Rattle.broker_model.specs.Sends.{waits}
use Rattle.broker_model.specs.State.{State, Setup}
use Rattle.broker_events.specs.declared.said.Said.{Said}
use Rattle.core_log.specs.Represents.{Represents}
use Rattle.core_log.specs.Settles.{IsSettling}
use Rattle.broker_core.specs.Verdicts.{IsJudged, IsSettled, IsRollingBack, AnswersVerdict}
use Rattle.broker_core.proofs.VerdictLemmas.{named_by_first}
use Rattle.broker_core.proofs.JudgeLemmas.{its_queue, settles_named, rolls_named, commit_answers, roll_answers}
use Rattle.broker_core.proofs.verdict.settle.Goals as goal

pub named_half-requires : goal.named_half-requires
named_half-requires c =
    let some = c.requires.some in
    let it = named_by_first some.0 c.args.now c.args.origin c.args.end.now some.1.state some.2 in
    record { named = (some.0, it.0, some.1, it.2) }

pub commit_draft-requires : goal.commit_draft-requires
commit_draft-requires c =
    let some = c.requires.some in
    let it = named_by_first some.0 c.args.now c.args.origin c.args.end.now some.1.state some.2 in
    subst (λ (r : Entry). IsBelow 1024 (text_in (codes "REAL_QID") r.props)) (sym (c.in_ok-half.ensures some.0 it.0 some.1 it.2))
    (its_queue some.0 c.args.end.now c.args.origin it.0 c.args.parts.now some.1 it.2)

pub commit_half-requires : goal.commit_half-requires
commit_half-requires c =
    let some = c.requires.some in
    let s = some.0 in
    let are = some.1 in
    let it = named_by_first s c.args.now c.args.origin c.args.end.now are.state some.2 in
    let host = ap (λ (x : Setup). x.host) are.numbers.setup in
    let said = c.in_ok-half.ensures s it.0 are it.2 in
    record {
      some = (
        s,
        it.0,
        are,
        settles_named s c.args.now c.args.origin c.args.end.now it.0 c.in_ok-copy.copy c.in_ok-op.op c.args.parts.now.setup.host some.2 it.2 host
            (c.in_ok-copy.ensures ∙ ap (copy_draft c.args.parts.now.setup.host) said) c.in_ok-op.ensures,
      );
    }

pub returns-then-end-eq-COMMIT-clause-answered : goal.returns-then-end-eq-COMMIT-clause-answered
returns-then-end-eq-COMMIT-clause-answered c =
    let core = c.args.parts.now in
    let end = c.args.end.now in
    let new = c.commit_half.new.parts in
    let copy = c.in_ok-copy.copy in
    let op = c.in_ok-op.op in
    IfOk-weaker c.commit_half.result
    (λ (what : Said). (s : State) (half : Entry) → Represents core s → IsSettling s c.args.now c.args.origin Committed half copy op → IsSettled s c.args.now c.waits-awaited.result (copy ∷ op ∷ []) what new)
    (λ (what : Said). (s : State) → Represents core s → IsJudged s c.args.now end c.args.origin Open → AnswersVerdict s c.args.now end what new)
    (λ what done s are judged.
    let it = named_by_first s c.args.now c.args.origin end are.state judged in
    let host = ap (λ (x : Setup). x.host) are.numbers.setup in
    let said = c.in_ok-half.ensures s it.0 are it.2 in
    let settling = settles_named s c.args.now c.args.origin end it.0 copy op core.setup.host judged it.2 host (c.in_ok-copy.ensures ∙ ap (copy_draft core.setup.host) said) c.in_ok-op.ensures in
    commit_answers s c.args.now c.args.origin end it.0 copy op c.waits-awaited.result what new judged it.1 settling
    (ap (λ (e : EndSaid). e.verdict == 8) (sym c.end.view_is) ∙ eq-eqb c.end.inside.verdict 8 c.if-end-eq-COMMIT.true)
    (c.waits-awaited.ensures ∙ ap (λ (r : Entry). waits r.props) said)
    (done s it.0 are settling))
    c.commit_half.ensures.settled

pub roll_back-requires : goal.roll_back-requires
roll_back-requires c =
    let some = c.requires.some in
    let s = some.0 in
    let are = some.1 in
    let it = named_by_first s c.args.now c.args.origin c.args.end.now are.state some.2 in
    let host = ap (λ (x : Setup). x.host) are.numbers.setup in
    record { some = (s, are, rolls_named s c.args.now c.args.origin c.args.end.now it.0 c.in_ok-op.op c.args.parts.now.setup.host some.2 it.2 host c.in_ok-op.ensures) }

pub returns-clause-answered : goal.returns-clause-answered
returns-clause-answered c =
    let core = c.args.parts.now in
    let end = c.args.end.now in
    let new = c.roll_back.new.parts in
    let op = c.in_ok-op.op in
    let eight : (end.verdict == 8) ≡ false = ap (λ (e : EndSaid). e.verdict == 8) (sym c.end.view_is) ∙ ne_eqb c.end.inside.verdict 8 (λ same. c.if-end-eq-COMMIT.false same) in
    let twelve : (end.verdict == 12) ≡ true = ⊎_elim
    (λ (first : end.verdict ≡ 8). let bad : false ≡ true = sym eight ∙ eq-eqb end.verdict 8 first in cc bad)
    (λ (second : end.verdict ≡ 12). eq-eqb end.verdict 12 second) c.requires.verdict in
    IfOk-weaker c.roll_back.result
    (λ (what : Said). (s : State) → Represents core s → IsRollingBack s c.args.now c.args.origin op → IsSettled s c.args.now c.waits-awaited.result (op ∷ []) what new)
    (λ (what : Said). (s : State) → Represents core s → IsJudged s c.args.now end c.args.origin Open → AnswersVerdict s c.args.now end what new)
    (λ what done s are judged.
    let it = named_by_first s c.args.now c.args.origin end are.state judged in
    let host = ap (λ (x : Setup). x.host) are.numbers.setup in
    let said = c.in_ok-half.ensures s it.0 are it.2 in
    let rolling = rolls_named s c.args.now c.args.origin end it.0 op core.setup.host judged it.2 host c.in_ok-op.ensures in
    roll_answers s c.args.now c.args.origin end it.0 op c.waits-awaited.result what new judged it.1 rolling eight twelve
    (c.waits-awaited.ensures ∙ ap (λ (r : Entry). waits r.props) said)
    (done s are rolling))
    c.roll_back.ensures.settled
