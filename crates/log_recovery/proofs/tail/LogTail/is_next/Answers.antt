use Rattle.std.proofs.Common.{◌≡◌, ◌∙◌, ℕ, sym, subst}
use Rattle.log_model.specs.Bases.{geometry}
use Rattle.log_model.specs.Admissible.{half_topic}
use Rattle.log_recovery.specs.Counts.{count_in}
use Rattle.log_recovery.specs.Matches.{Matches}
use Rattle.log_recovery.proofs.NextLemmas.{matches_follow, follows_match}
use Rattle.log_recovery.proofs.tail.LogTail.is_next.Goals as goal

pub returns : goal.returns
returns c base log stands =
    let tail = c.args.self.now in
    let r = c.args.view.now in
    let S = geometry tail.segment base in
    let count_is : c.count_of-count.result ≡ count_in tail.counts r.topic r.queue = c.count_of-count.ensures ∙ (λ i. count_in tail.counts (c.topic.ensures i) (c.queue.ensures i)) in
    let halves_is : c.count_of-halves.result ≡ count_in tail.counts half_topic 0 = c.count_of-halves.ensures in (
      λ yes. matches_follow S log tail r stands c.requires
          (subst (λ (n : ℕ). Matches tail.segment tail.end tail.stored (count_in tail.counts r.topic r.queue) n r) halves_is
          (subst (λ (n : ℕ). Matches tail.segment tail.end tail.stored n c.count_of-halves.result r) count_is (c.is_match.ensures.0 yes))),
      λ follows. c.is_match.ensures.1
          (subst (λ (n : ℕ). Matches tail.segment tail.end tail.stored n c.count_of-halves.result r) (sym count_is)
          (subst (λ (n : ℕ). Matches tail.segment tail.end tail.stored (count_in tail.counts r.topic r.queue) n r) (sym halves_is) (follows_match S log tail r stands follows))),
    )
