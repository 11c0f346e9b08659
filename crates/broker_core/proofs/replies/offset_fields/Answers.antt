use Rattle.std.proofs.Common.{◌≡◌, ◌≤◌, ◌<◌, ◌^◌, List, ℕ, rules, subst, sym}
use Rattle.remoting_frame.specs.Head.{IsInOrder, pairs_size}
use Rattle.broker_core.specs.Reads.{offset_ext}
use Rattle.broker_core.proofs.ReplyLemmas.{offset_in_order, offset_is_short}
use Rattle.broker_core.proofs.replies.offset_fields.Goals as goal

pub returns-clause-ordered : goal.returns-clause-ordered
returns-clause-ordered c =
    let fields : c.push_number.new.self ≡ offset_ext c.args.offset = search rules in
    subst (λ (l : List (List ℕ × List ℕ)). IsInOrder l) (sym fields) (offset_in_order c.args.offset)

pub returns-clause-short : goal.returns-clause-short
returns-clause-short c =
    let fields : c.push_number.new.self ≡ offset_ext c.args.offset = search rules in
    let small : c.args.offset < 2 ^ 64 = search rules in
    subst (λ (l : List (List ℕ × List ℕ)). pairs_size l ≤ 200) (sym fields) (offset_is_short c.args.offset small)
