use Rattle.std.proofs.Common.{rules}
use Rattle.story_lock.proofs.TurnSteps.{commit_ok}
use Rattle.story_lock.proofs.story.Story.commit.Goals as goal

pub load-requires : goal.load-requires
load-requires g c = (search rules, search rules, commit_ok _ _ _ _ _ _ _ c.args.ticket (c.args.event.now, c.args.said.now) _ c.requires.served c.requires.seat c.requires.key c.requires.appended)
