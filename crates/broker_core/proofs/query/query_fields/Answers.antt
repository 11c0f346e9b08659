use Rattle.std.proofs.Common.{◌≡◌, ◌≤◌, List, ℕ, rules, subst, sym}
use Rattle.remoting_frame.specs.Head.{IsInOrder, pairs_size}
use Rattle.broker_model.specs.Answers.{query_ext}
use Rattle.broker_core.proofs.ReplyLemmas.{query_in_order, query_is_short}
use Rattle.broker_core.proofs.query.query_fields.Goals as goal

pub returns-clause-ordered : goal.returns-clause-ordered
returns-clause-ordered c =
    let fields : c.push-2.new.self ≡ query_ext = search rules in
    subst (λ (l : List (List ℕ × List ℕ)). IsInOrder l) (sym fields) query_in_order

pub returns-clause-short : goal.returns-clause-short
returns-clause-short c =
    let fields : c.push-2.new.self ≡ query_ext = search rules in
    subst (λ (l : List (List ℕ × List ℕ)). pairs_size l ≤ 200) (sym fields) query_is_short
