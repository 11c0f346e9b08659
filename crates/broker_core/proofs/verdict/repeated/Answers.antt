use Rattle.std.proofs.Common.{◌≡◌, ◌∙◌, ap, sym, subst, ℕ, Bool, true, cond, codes, Option, Some, None}
use Rattle.std.proofs.lemmas.Bool.{ne_eqb}
use Rattle.broker_model.specs.State.{Setup}
use Rattle.broker_model.specs.Events as model
use Rattle.broker_model.specs.Answers.{done_reply, repeated_answer, settling_number}
use Rattle.broker_events.specs.Replies.{IsToldAs}
use Rattle.broker_core.specs.Verdicts.{awaited_in}
use Rattle.broker_core.proofs.AnswerLemmas.{is_plain_reply}
use Rattle.broker_core.proofs.JudgeLemmas.{repeated_waits, repeated_done, number_told}
use Rattle.broker_core.proofs.verdict.repeated.Goals as goal

pub returns-in-Some : goal.returns-in-Some
returns-in-Some c s first are found =
    let sync : s.setup.sync ≡ true = ap (λ (x : Setup). x.sync) (sym are.numbers.setup) ∙ c.if-not-parts.false in
    let settled = number_told s c.args.origin first c.settled_by.result found (c.settled_by.ensures s.setup.segment s.log are.state.log are.halves) in
    let flushed = c.flushed_count.ensures ∙ are.numbers.flushed in
    let told : awaited_in (settling_number s (Some first)) c.flushed_count.result ≡ Some c.in-Some.number =
    ap (λ (o : Option ℕ). awaited_in o c.flushed_count.result) (sym settled) ∙ sym c.awaited.ensures ∙ c.in-Some.is in
    let waits = repeated_waits s (settling_number s (Some first)) c.flushed_count.result c.in-Some.number sync flushed told in
    let turns : s.turns ≡ c.turns.result = sym are.numbers.turns ∙ sym c.turns.ensures in (
      done_reply,
      ap (λ (b : Bool). cond b (model.Replies done_reply) (repeated_answer s (settling_number s (Some first)))) (ne_eqb c.args.verdict 0 (λ same. c.if-verdict-eq0.false same)) ∙ waits ∙ ap (λ (n : ℕ). model.After done_reply c.in-Some.number n) turns,
      is_plain_reply c.in_ok-reply.reply 0 (codes "") c.in_ok-reply.ensures,
    )

pub returns-in-None : goal.returns-in-None
returns-in-None c s first are found =
    let settled = number_told s c.args.origin first c.settled_by.result found (c.settled_by.ensures s.setup.segment s.log are.state.log are.halves) in
    let flushed = c.flushed_count.ensures ∙ are.numbers.flushed in
    let told : awaited_in (settling_number s (Some first)) c.flushed_count.result ≡ None =
    ap (λ (o : Option ℕ). awaited_in o c.flushed_count.result) (sym settled) ∙ sym c.awaited.ensures ∙ c.in-None.is in
    let done = repeated_done s (settling_number s (Some first)) c.flushed_count.result flushed told in
    subst (λ (answer : model.Answer). IsToldAs c.in_ok-reply.reply answer)
    (sym (ap (λ (b : Bool). cond b (model.Replies done_reply) (repeated_answer s (settling_number s (Some first)))) (ne_eqb c.args.verdict 0 (λ same. c.if-verdict-eq0.false same)) ∙ done))
    (is_plain_reply c.in_ok-reply.reply 0 (codes "") c.in_ok-reply.ensures)
