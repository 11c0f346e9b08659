use Rattle.std.proofs.Common.{◌≡◌, ◌∙◌, ℕ, List, subst}
use Rattle.mq_bytes.specs.Names.{log_file}
use Rattle.mq_outside.specs.Files.{Same}
use Rattle.mq_outside.specs.Disk.{EachImage}
use Rattle.log_recovery.specs.Settle.{Turns, IsCut, CutsTo}
use Rattle.log_recovery.proofs.SettleLemmas.{turns_call, cut_same, cut_each}
use Rattle.log_recovery.proofs.settle.cut_last.Goals as goal

pub returns-in_err-renew-clause-turns : goal.returns-in_err-renew-clause-turns
returns-in_err-renew-clause-turns g c = λ tells.
    let name : List ℕ = c.as_str-name.result.now in
    let named : name ≡ log_file c.args.base = c.as_str-name.ensures ∙ c.of-file.ensures in
    subst (λ (n : List ℕ). Turns (IsCut n c.args.len) (g.D.Disk.state c.args.disk.now) (g.D.Disk.state c.renew.new.self)) named
    (turns_call (IsCut name c.args.len) Same (cut_same name c.args.len) (c.shorten.ensures.turns tells) (c.renew.ensures.moves tells))

pub returns-clause-turns : goal.returns-clause-turns
returns-clause-turns g c = λ tells.
    let name : List ℕ = c.as_str-name.result.now in
    let named : name ≡ log_file c.args.base = c.as_str-name.ensures ∙ c.of-file.ensures in
    subst (λ (n : List ℕ). Turns (IsCut n c.args.len) (g.D.Disk.state c.args.disk.now) (g.D.Disk.state c.renew.new.self)) named
    (turns_call (IsCut name c.args.len) Same (cut_same name c.args.len) (c.shorten.ensures.turns tells) (c.renew.ensures.moves tells))

pub returns-clause-cut : goal.returns-clause-cut
returns-clause-cut g c = λ tells.
    let name : List ℕ = c.as_str-name.result.now in
    let named : name ≡ log_file c.args.base = c.as_str-name.ensures ∙ c.of-file.ensures in
    subst (λ (n : List ℕ). EachImage (CutsTo n c.args.len (g.D.Disk.state c.args.disk.now).reads) (g.D.Disk.state c.renew.new.self)) named
    (cut_each name c.args.len (g.D.Disk.state c.args.disk.now).reads (c.in_ok-shorten.ensures.cut tells) (c.shorten.ensures.turns tells).reads (c.renew.ensures.moves tells) (c.in_ok-renew.ensures.durable tells))
