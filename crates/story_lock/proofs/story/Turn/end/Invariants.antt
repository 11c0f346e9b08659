use Rattle.std.proofs.Common.{[], ◌∷◌}
use Rattle.story_lock.proofs.story.Turn.end.Given as goal

abbrev pub ghosts-commit : goal.ghosts-commit
ghosts-commit g a = record { appended = (a.event.now, a.said.now) ∷ [] }
