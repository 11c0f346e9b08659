use Rattle.std.proofs.Common.{◌≡◌, ◌∙◌, ap, arith, ℕ, List, codes, Option, option_map, refl}
use Rattle.std.proofs.lemmas.Result.{IfOk-weaker}
use Rattle.half_records.specs.Verdicts as records
use Rattle.half_records.specs.Verdicts.{judged_of}
use Rattle.half_records.specs.declared.judged.Judged.{Judged}
use Rattle.log_model.specs.Transactions.{half_at}
use Rattle.request_fields.specs.Requests.{EndSaid}
use Rattle.request_fields.specs.declared.request.Request.TheVariants.{EndTransaction}
use Rattle.broker_model.specs.State.{State}
use Rattle.broker_model.specs.Refusals.{plain_reply, verdict_origin}
use Rattle.broker_events.specs.declared.said.Said.{Said}
use Rattle.broker_events.specs.Steps.{Says}
use Rattle.core_log.specs.Carries.{Carries}
use Rattle.core_log.specs.Represents.{Represents}
use Rattle.broker_core.specs.Verdicts.{IsJudged, AnswersVerdict, verdict_event}
use Rattle.broker_core.proofs.AnswerLemmas.{is_plain_reply, carries_refused}
use Rattle.broker_core.proofs.VerdictLemmas.{judged_is_origin, refused_none}
use Rattle.broker_core.proofs.JudgeLemmas.{nobody_judged, refused_by, is_judged}
use Rattle.broker_core.proofs.verdict.end_transaction.Goals as goal

told : (s : State) (end : EndSaid) (group msg_id : List ℕ) (half place : ℕ) (inside : EndSaid) (judged : Option Judged) → inside ≡ end → half ≡ inside.queue_offset → place ≡ inside.place → group ≡ inside.group → msg_id ≡ inside.msg_id
    → judged ≡ option_map (judged_of s.log.records) (records.judged_origin s.log.records group msg_id (half_at s.log.records half place)) → judged ≡ option_map (judged_of s.log.records) (verdict_origin s end)
told s end group msg_id half place inside judged same a b d e is =
    is
    ∙ ap (λ (n : ℕ). option_map (judged_of s.log.records) (records.judged_origin s.log.records group msg_id (half_at s.log.records n place))) a
    ∙ ap (λ (n : ℕ). option_map (judged_of s.log.records) (records.judged_origin s.log.records group msg_id (half_at s.log.records inside.queue_offset n))) b
    ∙ ap (λ (t : List ℕ). option_map (judged_of s.log.records) (records.judged_origin s.log.records t msg_id (half_at s.log.records inside.queue_offset inside.place))) d
    ∙ ap (λ (t : List ℕ). option_map (judged_of s.log.records) (records.judged_origin s.log.records inside.group t (half_at s.log.records inside.queue_offset inside.place))) e
    ∙ judged_is_origin s inside ∙ ap (λ (x : EndSaid). option_map (judged_of s.log.records) (verdict_origin s x)) same

pub returns-in_default-clause-carries : goal.returns-in_default-clause-carries
returns-in_default-clause-carries c link host =
    let core = c.args.parts.now in
    let end = c.args.end.now in
    carries_refused core host c.args.now (EndTransaction end) (plain_reply 1 (codes "half")) c.in_ok-plain.field-0
    (λ s are. refused_none s end (nobody_judged s.log.records (verdict_origin s end) c.judged-judged.result
    (told s end c.as_str.result.now c.as_str-2.result.now c.end.inside.queue_offset c.end.inside.place _ c.judged-judged.result c.end.view_is refl refl c.as_str.ensures.value c.as_str-2.ensures.value
    (c.judged-judged.ensures s.setup.segment s.log are.state.log are.halves)) (λ judged is. c.in_default.not-Some judged is)))
    (is_plain_reply c.in_ok-plain.field-0 1 (codes "half") c.in_ok-plain.ensures) link

pub returns-in-Some-disagreement-clause-carries : goal.returns-in-Some-disagreement-clause-carries
returns-in-Some-disagreement-clause-carries c link host =
    let core = c.args.parts.now in
    let end = c.args.end.now in
    carries_refused core host c.args.now (EndTransaction end) (plain_reply 1 c.in-Some-disagreement.remark.now) c.in_ok-plain-2.field-0
    (λ s are. refused_by _ s end c.end.inside.verdict c.judged-judged.result c.in-Some.judged c.disagreement.result c.in-Some-disagreement.remark c.in-Some.is
    (told s end c.as_str.result.now c.as_str-2.result.now c.end.inside.queue_offset c.end.inside.place _ c.judged-judged.result c.end.view_is refl refl c.as_str.ensures.value c.as_str-2.ensures.value
    (c.judged-judged.ensures s.setup.segment s.log are.state.log are.halves))
    (ap (λ (e : EndSaid). e.verdict) c.end.view_is) c.disagreement.ensures c.in-Some-disagreement.is)
    (is_plain_reply c.in_ok-plain-2.field-0 1 c.in-Some-disagreement.remark.now c.in_ok-plain-2.ensures) link

pub judge-requires : goal.judge-requires
judge-requires c =
    let core = c.args.parts.now in
    let end = c.args.end.now in
    let s = c.requires.some.0 in
    let are = c.requires.some.1 in
    record {
      some = (
        s,
        are,
        is_judged _ core s c.args.now c.max.result end c.end.inside.verdict c.judged-judged.result c.in-Some.judged c.disagreement.result are c.in-Some.is
            (told s end c.as_str.result.now c.as_str-2.result.now c.end.inside.queue_offset c.end.inside.place _ c.judged-judged.result c.end.view_is refl refl c.as_str.ensures.value c.as_str-2.ensures.value
            (c.judged-judged.ensures s.setup.segment s.log are.state.log are.halves))
            (ap (λ (e : EndSaid). e.verdict) c.end.view_is) c.disagreement.ensures (λ remark is. c.in_default-disagreement.not-Some remark is) c.max.ensures c.requires.time,
      );
    }

pub returns-clause-carries : goal.returns-clause-carries
returns-clause-carries c link host =
    let core = c.args.parts.now in
    let end = c.args.end.now in
    let new = c.judge.new.parts in
    let judged = c.in-Some.judged in
    IfOk-weaker c.judge.result
    (λ (what : Said). (s : State) → Represents core s → IsJudged s c.max.result end judged.origin judged.state → AnswersVerdict s c.max.result end what new)
    (λ (what : Said). Carries core (verdict_event link host c.args.now end) (Says what) new)
    (λ what done s are.
    let it = is_judged _ core s c.args.now c.max.result end c.end.inside.verdict c.judged-judged.result judged c.disagreement.result are c.in-Some.is
    (told s end c.as_str.result.now c.as_str-2.result.now c.end.inside.queue_offset c.end.inside.place _ c.judged-judged.result c.end.view_is refl refl c.as_str.ensures.value c.as_str-2.ensures.value
    (c.judged-judged.ensures s.setup.segment s.log are.state.log are.halves))
    (ap (λ (e : EndSaid). e.verdict) c.end.view_is) c.disagreement.ensures (λ remark is. c.in_default-disagreement.not-Some remark is) c.max.ensures c.requires.time in
    let time = c.max.ensures in
    let same = are.numbers.now in
    done s are it link host c.args.now (omega (arith, time, same)))
    c.judge.ensures.answered
