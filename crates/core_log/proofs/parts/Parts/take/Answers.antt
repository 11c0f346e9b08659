use Rattle.std.proofs.Common.{◌∙◌, sym}
use Rattle.core_log.proofs.TurnLemmas.{takes, takes_none, represents_room, stays_taken, is_out-some, is_out-none}
use Rattle.core_log.proofs.parts.Parts.take.Goals as goal

pub returns-then-is_out-clause-carries : goal.returns-then-is_out-clause-carries
returns-then-is_out-clause-carries c s are =
    takes_none c.args.self.now s are (is_out-some c.args.self.now.pending.out (sym c.is_out.ensures ∙ c.if-is_out.true))

pub returns-in-Err-clause-stays : goal.returns-in-Err-clause-stays
returns-in-Err-clause-stays c s are =
    represents_room c.args.self.now s c.reserve.new.self (is_out-none c.args.self.now.pending.out (sym c.is_out.ensures ∙ c.if-is_out.false)) c.reserve.ensures.pieces c.reserve.ensures.end are

pub returns-clause-carries : goal.returns-clause-carries
returns-clause-carries c =
    takes c.args.self.now c.reserve.new.self c.take.new.self c.take.result
    (is_out-none c.args.self.now.pending.out (sym c.is_out.ensures ∙ c.if-is_out.false))
    c.reserve.ensures.pieces c.reserve.ensures.end c.in_default.ensures.room
    c.take.ensures.idle c.take.ensures.none c.take.ensures.batch c.take.ensures.turn c.take.ensures.log

pub returns-clause-stays : goal.returns-clause-stays
returns-clause-stays c =
    stays_taken c.args.self.now c.reserve.new.self c.take.new.self c.take.result
    (is_out-none c.args.self.now.pending.out (sym c.is_out.ensures ∙ c.if-is_out.false)) c.reserve.ensures.pieces c.reserve.ensures.end c.take.ensures.same
