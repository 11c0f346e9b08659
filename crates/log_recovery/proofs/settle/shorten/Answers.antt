use Rattle.mq_outside.specs.Files.{Same}
use Rattle.log_recovery.specs.Settle.{IsCut}
use Rattle.log_recovery.proofs.SettleLemmas.{turns_start, turns_call, cut_start, cut_more, cut_same}
use Rattle.log_recovery.proofs.settle.shorten.Goals as goal

pub returns-in_err-cut-clause-turns : goal.returns-in_err-cut-clause-turns
returns-in_err-cut-clause-turns g c = λ tells.
    let change = IsCut c.args.name.now c.args.len in
    turns_call change change (cut_more c.args.name.now c.args.len)
    (turns_call change Same (cut_same c.args.name.now c.args.len) (turns_start change (cut_start c.args.name.now c.args.len) (g.D.Disk.state c.args.disk.now)) (c.len.ensures.moves tells))
    (c.cut.ensures.moves tells)

pub returns-clause-turns : goal.returns-clause-turns
returns-clause-turns g c = λ tells.
    let change = IsCut c.args.name.now c.args.len in
    turns_call change change (cut_more c.args.name.now c.args.len)
    (turns_call change Same (cut_same c.args.name.now c.args.len) (turns_start change (cut_start c.args.name.now c.args.len) (g.D.Disk.state c.args.disk.now)) (c.len.ensures.moves tells))
    (c.cut.ensures.moves tells)
