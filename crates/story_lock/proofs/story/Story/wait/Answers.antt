use Rattle.std.proofs.Common.{rules, ap, ◌∙◌}
use Rattle.story_lock.proofs.TurnSteps.{look_ok}
use Rattle.story_lock.proofs.story.Story.wait.Goals as goal

pub load-requires : goal.load-requires
load-requires g c = (search rules, search rules, look_ok _ _ _ _ _ _ _ c.args.ticket (ap (λ m. m.0.stage) c.loop.invariant.1 ∙ c.requires.waits))
