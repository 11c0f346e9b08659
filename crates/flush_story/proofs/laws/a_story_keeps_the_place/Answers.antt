use Rattle.flush_story.proofs.Placing.{placed_story, takes_to_place}
use Rattle.flush_story.proofs.laws.a_story_keeps_the_place.Goals as goal

pub returns-clause-places : goal.returns-clause-places
returns-clause-places g c s t file file_then story low lawful here happened = placed_story _ _ s t story _ _ lawful low here happened

pub returns-clause-goes : goal.returns-clause-goes
returns-clause-goes g c s t file batch low lawful here takes = takes_to_place s t batch file lawful low here takes
