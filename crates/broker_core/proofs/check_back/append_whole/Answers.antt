use Rattle.std.proofs.Common.{sym, subst}
use Rattle.core_log.specs.declared.parts.Parts.{Parts}
use Rattle.core_log.specs.Represents.{Represents}
use Rattle.core_log.proofs.LevelLemmas.{represents_halves}
use Rattle.core_log.proofs.StoreLemmas.{on_err, on_ok, err_then}
use Rattle.broker_core.proofs.check_back.append_whole.Goals as goal

pub returns-in_err-kept-clause-stays : goal.returns-in_err-kept-clause-stays
returns-in_err-kept-clause-stays c =
    on_err c.from_residual-in_err-kept.result (λ s are. represents_halves c.args.parts.now c.make_ready.new.self s are (c.make_ready.ensures.same s.log are.halves))

pub append_half-requires-clause-some : goal.append_half-requires-clause-some
append_half-requires-clause-some c =
    let it = c.requires.some in
    (it.0, represents_halves c.args.parts.now c.make_ready.new.self it.0 it.1 (c.make_ready.ensures.same it.0.log it.1.halves), it.2)

pub returns-clause-appended : goal.returns-clause-appended
returns-clause-appended c =
    on_ok c.append_half.result c.append_half.ensures.appended
    (λ done s are may. done s (represents_halves c.args.parts.now c.make_ready.new.self s are (c.make_ready.ensures.same s.log are.halves)) may)

pub returns-clause-stays : goal.returns-clause-stays
returns-clause-stays c =
    err_then c.append_half.result c.append_half.ensures.same (λ same s are.
    subst (λ (core : Parts). Represents core s) (sym same) (represents_halves c.args.parts.now c.make_ready.new.self s are (c.make_ready.ensures.same s.log are.halves)))
