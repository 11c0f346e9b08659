use Rattle.config_store.proofs.TextLaws.{topics_one_text}
use Rattle.config_store.proofs.laws.topics_have_one_text.Goals as goal

pub returns : goal.returns
returns c = topics_one_text
