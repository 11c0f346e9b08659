use Rattle.std.proofs.Common.{sym, subst}
use Rattle.core_log.specs.declared.parts.Parts.{Parts}
use Rattle.core_log.specs.Represents.{Represents}
use Rattle.core_log.proofs.LevelLemmas.{represents_levels}
use Rattle.core_log.proofs.StoreLemmas.{on_err, on_ok, err_then}
use Rattle.core_log.proofs.parts.Parts.append_delayed.Goals as goal

pub returns-in_err-reserve-clause-stays : goal.returns-in_err-reserve-clause-stays
returns-in_err-reserve-clause-stays c =
    on_err c.from_residual-in_err-reserve.result (λ s are. represents_levels c.args.self.now c.reserve.new.self s are (c.reserve.ensures.same s.log s.dispatched are.levels))

pub append_whole-requires-clause-some : goal.append_whole-requires-clause-some
append_whole-requires-clause-some c =
    let it = c.requires.some in
    (it.0, represents_levels c.args.self.now c.reserve.new.self it.0 it.1 (c.reserve.ensures.same it.0.log it.0.dispatched it.1.levels), it.2)

pub returns-clause-appended : goal.returns-clause-appended
returns-clause-appended c =
    on_ok c.append_whole.result c.append_whole.ensures.appended
    (λ done s are may. done s (represents_levels c.args.self.now c.reserve.new.self s are (c.reserve.ensures.same s.log s.dispatched are.levels)) may)

pub returns-clause-stays : goal.returns-clause-stays
returns-clause-stays c =
    err_then c.append_whole.result c.append_whole.ensures.same (λ same s are.
    subst (λ (core : Parts). Represents core s) (sym same) (represents_levels c.args.self.now c.reserve.new.self s are (c.reserve.ensures.same s.log s.dispatched are.levels)))
