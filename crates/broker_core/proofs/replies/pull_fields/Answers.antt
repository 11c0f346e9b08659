use Rattle.std.proofs.Common.{◌≡◌, ◌≤◌, ◌<◌, ◌^◌, List, ℕ, rules, subst, sym}
use Rattle.remoting_frame.specs.Head.{IsInOrder, pairs_size}
use Rattle.broker_core.specs.Reads.{pull_ext}
use Rattle.broker_core.proofs.ReplyLemmas.{pull_in_order, pull_is_short}
use Rattle.broker_core.proofs.replies.pull_fields.Goals as goal

pub returns-clause-ordered : goal.returns-clause-ordered
returns-clause-ordered c =
    let fields : c.fill_pull.new.fields ≡ pull_ext c.args.max c.args.min c.args.next = search rules in
    subst (λ (l : List (List ℕ × List ℕ)). IsInOrder l) (sym fields) (pull_in_order c.args.max c.args.min c.args.next)

pub returns-clause-short : goal.returns-clause-short
returns-clause-short c =
    let fields : c.fill_pull.new.fields ≡ pull_ext c.args.max c.args.min c.args.next = search rules in
    let high : c.args.max < 2 ^ 64 = search rules in
    let low : c.args.min < 2 ^ 64 = search rules in
    let next : c.args.next < 2 ^ 64 = search rules in
    subst (λ (l : List (List ℕ × List ℕ)). pairs_size l ≤ 200) (sym fields) (pull_is_short c.args.max c.args.min c.args.next high low next)
