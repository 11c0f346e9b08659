use Rattle.config_store.proofs.StoreLemmas.{puts_both}
use Rattle.config_store.proofs.storing.store_config.Goals as goal

pub returns-in-Ok-clause-puts : goal.returns-in-Ok-clause-puts
returns-in-Ok-clause-puts g c = λ told. puts_both _ _ _ _ _ (c.in-Ok.ensures.moves told) (c.replace-in-Ok.ensures.moves told)
