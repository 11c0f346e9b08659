use Rattle.config_store.proofs.TextLaws.{offsets_one_text}
use Rattle.config_store.proofs.laws.offsets_have_one_text.Goals as goal

pub returns : goal.returns
returns c = offsets_one_text
