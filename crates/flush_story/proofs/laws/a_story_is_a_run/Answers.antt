use Rattle.flush_story.proofs.Keeps.{story_reaches}
use Rattle.flush_story.proofs.laws.a_story_is_a_run.Goals as goal

pub returns : goal.returns
returns g c s t file file_then story happened = story_reaches _ _ s t story _ _ happened
