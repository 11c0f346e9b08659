use Rattle.std.proofs.Common.{◌≡◌, ◌∙◌, refl, sym, subst, arith, rules, ◌<◌, ℕ, List, [], length, pos, vec_len, IfOk}
use Rattle.std.proofs.lemmas.Bool.{eqb-true}
use Rattle.std.proofs.lemmas.Bool.Decides.{Decides-eqb}
use mathlib.Core.Bool.{true≢false}
use Rattle.reply_fields.specs.Parts.{ReplyParts}
use Rattle.reply_fields.specs.declared.slice.Slice.{Slice}
use Rattle.broker_model.specs.Events as model
use Rattle.broker_model.specs.Refusals.{plain_reply}
use Rattle.broker_model.specs.Answers.{found_reply}
use Rattle.broker_events.specs.Replies.{IsReplyOf, AreSlicesOf}
use Rattle.broker_core.proofs.QueryLemmas.{found_none, found_some}
use Rattle.broker_core.proofs.query.found.Goals as goal

pub returns-then-is_empty : goal.returns-then-is_empty
returns-then-is_empty c records are =
    let told : IfOk c.plain.result (λ (made : ReplyParts). IsReplyOf made (plain_reply 22 [])) = search rules in
    let empty : vec_len c.args.slices ≡ 0 = eqb-true (vec_len c.args.slices) 0 (sym c.is_empty.ensures ∙ c.if-is_empty.true) in
    let long = c.args.slices.ok.0 in
    subst (λ (reply : model.Reply). IfOk c.plain.result (λ (made : ReplyParts). IsReplyOf made reply))
    (found_none c.args.fields c.args.slices.items records (omega (arith, long, empty)) are) told

pub returns : goal.returns
returns c records are =
    let made : ReplyParts = record { code = pos 0; remark = c.of.result; ext = c.of-2.result; body = c.of-3.result } in
    let long = c.args.slices.ok.0 in
    let some : 0 < vec_len c.args.slices = omega (arith, λ (none : vec_len c.args.slices ≡ 0). true≢false (sym ((Decides-eqb (vec_len c.args.slices) 0).1 none) ∙ sym c.is_empty.ensures ∙ c.if-is_empty.false)) in
    let body : 0 < length c.of-3.result = subst (λ (slices : List Slice). 0 < length slices) (sym c.of-3.ensures) (omega (arith, long, some)) in
    subst (λ (ext : List (List ℕ × List ℕ)). IsReplyOf made (found_reply ext records)) c.of-2.ensures
    (found_some made records refl (c.of.ensures ∙ c.new.ensures.bytes) body (subst (λ (slices : List Slice). AreSlicesOf slices records) (sym c.of-3.ensures) are))
