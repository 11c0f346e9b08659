use Rattle.std.proofs.Common.{◌∙◌, IfOk, subst}
use Rattle.core_log.specs.declared.parts.Parts.{Parts}
use Rattle.config_store.specs.Texts.{offsets_text_of, topics_text_of}
use Rattle.keeper_turns.specs.Turns.{IsOffsetsOf, IsTopicsOf}
use Rattle.keeper_turns.proofs.KeptLemmas.{seen_as, seen_none}
use Rattle.keeper_turns.proofs.turn.keeper_turn.Goals as goal

pub returns-in_default-clause-kept : goal.returns-in_default-clause-kept
returns-in_default-clause-kept g c = (c.look-seen.ensures.0, c.look-seen.ensures.1, seen_none _ _ _ _)

pub returns-in_default-texts_of-clause-kept : goal.returns-in_default-texts_of-clause-kept
returns-in_default-texts_of-clause-kept g c = (c.look-seen.ensures.0, c.look-seen.ensures.1, seen_none _ _ _ _)

pub returns-clause-kept : goal.returns-clause-kept
returns-clause-kept g c =
    let saw = c.look-seen.ensures in
    let read = saw.2 in
    let rows = c.in-Ok.rows in
    let offsets = subst (λ r. IfOk r (λ config. IsOffsetsOf read.0.now (offsets_text_of config.offsets.items))) c.in-Ok.is read.1.0 in
    let topics = subst (λ r. IfOk r (λ config. IsTopicsOf read.0.now (topics_text_of config.topics.items))) c.in-Ok.is read.1.1 in
    let offsets_at = subst (λ (core : Parts). IsOffsetsOf core (offsets_text_of rows.offsets.items)) read.2 offsets in
    let topics_at = subst (λ (core : Parts). IsTopicsOf core (topics_text_of rows.topics.items)) read.2 topics in (
      saw.0,
      saw.1,
      seen_as _ saw.0 _ _ _ _ _ (λ s are. c.in-Ok-texts_of.ensures.offsets ∙ offsets_at s are) (λ s are. c.in-Ok-texts_of.ensures.topics ∙ topics_at s are)
          c.store_texts.ensures.puts c.store_texts.ensures.done,
    )
