-- The rows of a core's tables have the texts of each state that it represents.
use Rattle.std.proofs.Common.{◌≡◌, ◌∙◌, sym, ℕ, List, Some, All}
use Rattle.std.proofs.lemmas.List.Elements.{All-weaker}
use Rattle.broker_model.specs.State.{State}
use Rattle.broker_model.specs.Tables.{OffsetRow, TopicRow, offset_in, queues_in}
use Rattle.client_tables.specs.Counts.{queues_of}
use Rattle.group_tables.specs.Offsets.{offset_of, IsStored, IsOffset}
use Rattle.core_log.specs.declared.parts.Parts.{Parts}
use Rattle.core_log.specs.Represents.{Represents}
use Rattle.core_log.proofs.StoreLemmas.{found_topic, found_named}
use Rattle.config_store.specs.Texts.{IsKeptTopic, offsets_text_of, topics_text_of}
use Rattle.config_store.proofs.OffsetLaws.{found_ok}
use Rattle.config_store.proofs.TextLaws.{offsets_one_text, topics_one_text}

-- ---- offsets

stored_kept : (core : Parts) (s : State) (row : OffsetRow) → Represents core s → IsStored core.groups row → IsOffset row
stored_kept core s row are is =
    found_ok s.offsets row.group row.topic row.queue row.offset are.kept (sym (are.offsets row.group row.topic row.queue) ∙ is)

pub text_of_offsets : (core : Parts) (s : State) (rows : List OffsetRow) (text : List ℕ) → Represents core s
    → ((group topic : List ℕ) (queue : ℕ) → offset_in rows group topic queue ≡ offset_of core.groups group topic queue) → All (IsStored core.groups) rows
    → text ≡ offsets_text_of rows → text ≡ offsets_text_of s.offsets
text_of_offsets core s rows text are same each is =
    is ∙ (offsets_one_text rows s.offsets (All-weaker (IsStored core.groups) IsOffset (λ row stored. stored_kept core s row are stored) rows each) are.kept).1
    (λ group topic queue. same group topic queue ∙ are.offsets group topic queue)

-- ---- topics

-- the row says how many queues its topic has
abbrev pub IsKnown : Parts → TopicRow → Type 0
IsKnown core row = queues_of core.topics row.topic ≡ Some row.queues

known_kept : (core : Parts) (s : State) (row : TopicRow) → Represents core s → IsKnown core row → IsKeptTopic row
known_kept core s row are is =
    let found = sym (are.topics row.topic) ∙ is in
    let topic = found_topic s.topics row.topic row.queues are.state.topics found in
    record { plain = (found_named s.topics row.topic row.queues are.names found, topic.plain); some = topic.some; few = topic.few }

pub text_of_topics : (core : Parts) (s : State) (rows : List TopicRow) (text : List ℕ) → Represents core s
    → ((topic : List ℕ) → queues_in rows topic ≡ queues_of core.topics topic) → All (IsKnown core) rows
    → text ≡ topics_text_of rows → text ≡ topics_text_of s.topics
text_of_topics core s rows text are same each is =
    is ∙ (topics_one_text rows s.topics (All-weaker (IsKnown core) IsKeptTopic (λ row known. known_kept core s row are known) rows each)
    (λ k d within. let topic = are.state.topics k d within in record { plain = (are.names k d within, topic.plain); some = topic.some; few = topic.few })).1
    (λ topic. same topic ∙ are.topics topic)
