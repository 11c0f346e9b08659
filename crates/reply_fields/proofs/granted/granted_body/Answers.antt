use Rattle.std.proofs.Common.{◌≡◌, ap, ◌∙◌, subst, sym, List, ℕ, false, length, ◌<◌, ◌^◌}
use Rattle.std.proofs.lemmas.Result.{IfOk-weaker}
use Rattle.serde_json.specs.View.{view}
use Rattle.serde_json.specs.Written.{has_float, compact_text}
use Rattle.reply_fields.specs.Granted.{granted_text}
use Rattle.reply_fields.proofs.GrantedLemmas.{no_float, length-granted}
use Rattle.reply_fields.proofs.granted.granted_body.Goals as goal

pub returns-clause-text : goal.returns-clause-text
returns-clause-text c =
    let qs = c.args.queues.now in
    IfOk-weaker c.to_vec.result (λ b. has_float (view c.in_ok-value.value) ≡ false → b.items ≡ compact_text (view c.in_ok-value.value)) (λ b. b.items ≡ granted_text qs)
    (λ b text. text (ap has_float c.in_ok-value.ensures ∙ no_float qs) ∙ ap compact_text c.in_ok-value.ensures) c.to_vec.ensures.text

pub returns-clause-short : goal.returns-clause-short
returns-clause-short c names few =
    let qs = c.args.queues.now in
    IfOk-weaker c.to_vec.result (λ b. has_float (view c.in_ok-value.value) ≡ false → b.items ≡ compact_text (view c.in_ok-value.value)) (λ b. length b.items < 2 ^ 30)
    (λ b text. subst (λ (l : List ℕ). length l < 2 ^ 30) (sym (text (ap has_float c.in_ok-value.ensures ∙ no_float qs) ∙ ap compact_text c.in_ok-value.ensures)) (length-granted qs names few)) c.to_vec.ensures.text
