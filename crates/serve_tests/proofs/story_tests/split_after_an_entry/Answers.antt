use Rattle.std.proofs.Common.{◌∙◌}
use Rattle.serve_tests.proofs.story_tests.split_after_an_entry.Goals as goal

pub returns-clause-seen : goal.returns-clause-seen
returns-clause-seen g c = let adds = c.add-pass.ensures.adds in (adds.between, c.add-pass.result.1, c.split.ensures.seen.1 ∙ adds.seen)
