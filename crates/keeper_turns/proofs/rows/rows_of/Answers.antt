use Rattle.std.proofs.Common.{◌≡◌, ◌∙◌, ap, subst, refl, List, All, Some}
use Rattle.broker_model.specs.Tables.{TopicRow}
use Rattle.client_tables.specs.Counts.{queues_of}
use Rattle.client_tables.specs.declared.topics.Topics.{Topics}
use Rattle.group_tables.specs.Offsets.{offset_of, IsStored}
use Rattle.group_tables.specs.declared.groups.Groups.{Groups}
use Rattle.keeper_turns.proofs.TextLemmas.{text_of_offsets, text_of_topics}
use Rattle.keeper_turns.proofs.rows.rows_of.Goals as goal

pub returns-clause-offsets : goal.returns-clause-offsets
returns-clause-offsets c =
    let rows = c.in_ok-offsets.offsets.items in
    λ s are. text_of_offsets c.args.core.now s rows _ are
    (λ g t q. c.in_ok-offsets.ensures.same g t q ∙ ap (λ (groups : Groups). offset_of groups g t q) c.groups.ensures)
    (subst (λ (groups : Groups). All (IsStored groups) rows) c.groups.ensures c.in_ok-offsets.ensures.each)
    refl

pub returns-clause-topics : goal.returns-clause-topics
returns-clause-topics c =
    let rows = c.in_ok-topics.topics.items in
    λ s are. text_of_topics c.args.core.now s rows _ are
    (λ topic. c.in_ok-topics.ensures.same topic ∙ ap (λ (topics : Topics). queues_of topics topic) c.topics.ensures)
    (subst (λ (topics : Topics). All (λ (row : TopicRow). queues_of topics row.topic ≡ Some row.queues) rows) c.topics.ensures c.in_ok-topics.ensures.each)
    refl
