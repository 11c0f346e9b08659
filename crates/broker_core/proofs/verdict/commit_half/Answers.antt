use Rattle.std.proofs.Common.{◌∙◌, sym, [], ◌∷◌, codes}
use Rattle.log_model.specs.declared.origin.OriginState.TheVariants.{Committed}
use Rattle.broker_model.specs.Answers.{done_reply}
use Rattle.broker_core.proofs.AnswerLemmas.{is_plain_reply}
use Rattle.broker_core.proofs.JudgeLemmas.{op_fits, copy_fits, free_of, refused_settling, settled_freely}
use Rattle.broker_core.proofs.verdict.commit_half.Goals as goal

pub size_of-requires : goal.size_of-requires
size_of-requires c =
    let some = c.requires.some in
    copy_fits c.args.parts.now some.0 c.args.now c.args.origin Committed some.1 c.args.copy.now c.args.op.now some.2 some.3

pub size_of-requires-2 : goal.size_of-requires-2
size_of-requires-2 c =
    let some = c.requires.some in
    let it = some.3 in
    op_fits c.args.parts.now some.0 c.args.now c.args.origin it.first c.args.op.now some.2 it.named it.op_is it.time

pub returns-in-Some-clause-settled : goal.returns-in-Some-clause-settled
returns-in-Some-clause-settled c s half are it =
    refused_settling s c.args.now c.args.awaited (c.args.copy.now ∷ c.args.op.now ∷ []) c.in-Some.said c.args.parts.now c.room_for_two.result c.in_ok-said.field-0
    (c.room_for_two.ensures s c.args.copy.now c.args.op.now c.args.now are c.size_of.ensures c.size_of-2.ensures) c.in_ok-said.ensures c.in-Some.is are

pub append_both-requires-clause-room : goal.append_both-requires-clause-room
append_both-requires-clause-room c s are =
    sym (c.room_for_two.ensures s c.args.copy.now c.args.op.now c.args.now are c.size_of.ensures c.size_of-2.ensures)
    ∙ free_of c.room_for_two.result c.in_ok-said.field-0 c.in_ok-said.ensures (λ what is. c.in_default.not-Some what is)

pub returns-in-Ok-clause-settled : goal.returns-in-Ok-clause-settled
returns-in-Ok-clause-settled c s half are it =
    let free = sym (c.room_for_two.ensures s c.args.copy.now c.args.op.now c.args.now are c.size_of.ensures c.size_of-2.ensures)
    ∙ free_of c.room_for_two.result c.in_ok-said.field-0 c.in_ok-said.ensures (λ what is. c.in_default.not-Some what is) in
    settled_freely s c.args.now c.args.awaited c.args.copy.now (c.args.op.now ∷ []) c.answer-said.result c.append_both.new.self free
    (c.answer-said.ensures s done_reply are (is_plain_reply c.in_ok-reply.reply 0 (codes "") c.in_ok-reply.ensures))
    (c.in-Ok.ensures.appended s half are it)
