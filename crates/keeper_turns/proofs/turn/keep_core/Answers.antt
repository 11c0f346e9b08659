use Rattle.std.proofs.Common.{◌∙◌}
use Rattle.keeper_turns.proofs.KeptLemmas.{kept_as, kept_none, seen_as}
use Rattle.keeper_turns.proofs.turn.keep_core.Goals as goal

pub returns-in_default-clause-kept : goal.returns-in_default-clause-kept
returns-in_default-clause-kept g c = λ s are. kept_none _ s _ _

pub returns-in_default-texts_of-clause-kept : goal.returns-in_default-texts_of-clause-kept
returns-in_default-texts_of-clause-kept g c = λ s are. kept_none _ s _ _

pub returns-clause-kept : goal.returns-clause-kept
returns-clause-kept g c = λ s are.
    kept_as _ s c.as_slice.result.now c.as_slice-2.result.now c.store_config.result _ _
    (c.as_slice.ensures.value ∙ (c.in-Ok-texts_of.ensures.offsets ∙ c.in-Ok.ensures.offsets s are))
    (c.as_slice-2.ensures.value ∙ (c.in-Ok-texts_of.ensures.topics ∙ c.in-Ok.ensures.topics s are))
    c.store_config.ensures.puts c.store_config.ensures.done

pub returns-clause-seen : goal.returns-clause-seen
returns-clause-seen g c =
    seen_as _ _ c.as_slice.result.now c.as_slice-2.result.now c.store_config.result _ _
    (λ s are. c.as_slice.ensures.value ∙ (c.in-Ok-texts_of.ensures.offsets ∙ c.in-Ok.ensures.offsets s are))
    (λ s are. c.as_slice-2.ensures.value ∙ (c.in-Ok-texts_of.ensures.topics ∙ c.in-Ok.ensures.topics s are))
    c.store_config.ensures.puts c.store_config.ensures.done
