use Rattle.std.proofs.Common.{rules}
use Rattle.story_lock.proofs.PassSteps.{open_ok}
use Rattle.story_lock.proofs.Sums.{length_from}
use Rattle.story_lock.proofs.story.Story.new.Goals as goal

pub new-requires : goal.new-requires
new-requires g c = open_ok _ _ _ _ _ (search rules) (rw c.of.ensures c.requires.opens)

pub returns-in-Ok-clause-numbers : goal.returns-in-Ok-clause-numbers
returns-in-Ok-clause-numbers g c = (search rules, rw c.in-Ok.ensures.ok.4 (length_from 0 c.args.seats))
