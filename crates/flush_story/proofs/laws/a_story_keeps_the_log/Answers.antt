use Rattle.std.specs.Prelude.{[]}
use Rattle.flush_story.proofs.Keeps.{keeps_start, keeps_story, keeps_recovers, keeps_stores}
use Rattle.flush_story.proofs.laws.a_story_keeps_the_log.Goals as goal

pub returns-clause-keeps : goal.returns-clause-keeps
returns-clause-keeps g c told s t file file_then story low lawful first happened =
    keeps_story _ _ told s s t [] story _ _ _ lawful low (keeps_start s _ first) happened

pub returns-clause-recovers : goal.returns-clause-recovers
returns-clause-recovers g c told s t file file_then story low lawful first happened m files before behind image =
    keeps_recovers s t _ _ _ lawful (keeps_story _ _ told s s t [] story _ _ _ lawful low (keeps_start s _ first) happened) m files before behind image

pub returns-clause-stores : goal.returns-clause-stores
returns-clause-stores g c told s t file file_then story low lawful first happened =
    keeps_stores s t _ _ _ (keeps_story _ _ told s s t [] story _ _ _ lawful low (keeps_start s _ first) happened)
