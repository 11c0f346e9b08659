use Rattle.std.proofs.Common.{ℕ, ◌+◌, ◌%◌, ◌^◌, ap, ◌∙◌}
use Rattle.serve_tests.specs.declared.story_tests.Counter.{Counter}
use Rattle.story_lock.proofs.Counting.{counts_snoc}
use Rattle.serve_tests.proofs.story_tests.add.Goals as goal

pub end-requires-clause-represented : goal.end-requires-clause-represented
end-requires-clause-represented g c = let was = ap (λ (x : Counter). x.count) c.state.ensures.value in let adds = c.add-before.ensures in
    rw c.enter-turn.ensures.story (counts_snoc _ _ _ _ _ _ c.enter-turn.ensures.finds.represented (adds.said ∙ was) (adds.count ∙ ap (λ (z : ℕ). (z + c.args.amount) % 2 ^ 64) was))
