use Rattle.flush_story.proofs.ActStory.{acts_lead}
use Rattle.flush_story.proofs.acts.acts_keep_the_log.Goals as goal

pub returns : goal.returns
returns g c s x y acts file file_then are happened = acts_lead _ acts s x y _ _ are happened
