use Rattle.log_replay.proofs.WordLemmas.{words_in-nil}
use Rattle.key_view.proofs.keys.bytes_of.Goals as goal

pub returns-in-None-clause-words : goal.returns-in-None-clause-words
returns-in-None-clause-words c = rw c.in-None.is words_in-nil
