use Rattle.std.proofs.Common.{◌∙◌, sym, [], ◌∷◌, codes}
use Rattle.broker_model.specs.Answers.{done_reply}
use Rattle.broker_core.proofs.AnswerLemmas.{is_plain_reply}
use Rattle.broker_core.proofs.JudgeLemmas.{op_fits, free_of, refused_settling, settled_freely}
use Rattle.broker_core.proofs.verdict.roll_back.Goals as goal

pub size_of-size-requires : goal.size_of-size-requires
size_of-size-requires c =
    let some = c.requires.some in
    let it = some.2 in
    op_fits c.args.parts.now some.0 c.args.now c.args.origin it.first c.args.op.now some.1 it.named it.op_is it.time

pub returns-in-Some-clause-settled : goal.returns-in-Some-clause-settled
returns-in-Some-clause-settled c s are it =
    refused_settling s c.args.now c.args.awaited (c.args.op.now ∷ []) c.in-Some.said c.args.parts.now c.room.result c.in_ok-said.field-0
    (c.room.ensures s c.args.op.now c.args.now are c.size_of-size.ensures) c.in_ok-said.ensures c.in-Some.is are

pub append_alone-requires-clause-room : goal.append_alone-requires-clause-room
append_alone-requires-clause-room c s are =
    sym (c.room.ensures s c.args.op.now c.args.now are c.size_of-size.ensures)
    ∙ free_of c.room.result c.in_ok-said.field-0 c.in_ok-said.ensures (λ what is. c.in_default.not-Some what is)

pub returns-in-Ok-clause-settled : goal.returns-in-Ok-clause-settled
returns-in-Ok-clause-settled c s are it =
    let free = sym (c.room.ensures s c.args.op.now c.args.now are c.size_of-size.ensures)
    ∙ free_of c.room.result c.in_ok-said.field-0 c.in_ok-said.ensures (λ what is. c.in_default.not-Some what is) in
    settled_freely s c.args.now c.args.awaited c.args.op.now [] c.answer-said.result c.append_alone.new.parts free
    (c.answer-said.ensures s done_reply are (is_plain_reply c.in_ok-reply.reply 0 (codes "") c.in_ok-reply.ensures))
    (c.in-Ok.ensures.appended s are it)
