use Rattle.std.proofs.Common.{rules}
use Rattle.story_lock.proofs.TurnSteps.{pass_ok}
use Rattle.story_lock.proofs.story.Story.put_back.Goals as goal

pub fetch_add-requires : goal.fetch_add-requires
fetch_add-requires g c = (search rules, search rules, pass_ok _ _ _ _ _ _ _ c.args.ticket c.args.state (search rules) (search rules) (search rules))
