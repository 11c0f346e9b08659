-- The texts of the two kept files.
use Rattle.std.specs.Prelude.{ℕ, ◌<◌, ◌≤◌, List, [], ◌∷◌, ◌++◌, codes, option_and_then, unwrap_or}
use Rattle.mq_bytes.specs.Decimal.{digits_of}
use Rattle.log_model.specs.Admissible.{IsPlainTopic}
use Rattle.broker_model.specs.Tables.{TopicRow, OffsetRow}
pub use Rattle.group_tables.specs.Offsets.{IsOffset}
use Rattle.serde_json.specs.Data.{Data, number, unsigned, object, Members, no_members, member, put}
use Rattle.serde_json.specs.Find.{get_member, as_object}
use Rattle.serde_json.specs.Written.{compact_text}

-- ---- offsets

-- the name of a group's offsets of a topic: the topic, `@` (64) and the group
abbrev pub key_of : List ℕ → List ℕ → List ℕ
key_of topic group = topic ++ 64 ∷ group

-- the members of the object at this name, none where there is none
abbrev pub members_at : List ℕ → Members → Members
members_at name ms = unwrap_or (option_and_then as_object (get_member name ms)) no_members

-- a table of offsets with this row
abbrev pub with_offset_row : OffsetRow → Members → Members
with_offset_row row ms =
    let key = key_of row.topic row.group in
    put key (object (put (digits_of row.queue) (number (unsigned row.offset)) (members_at key ms))) ms

-- the table of these rows; of two rows of one group and queue the first counts
abbrev pub offset_members : List OffsetRow → Members
offset_members [] = no_members
offset_members (row ∷ rows) = with_offset_row row (offset_members rows)

-- an object that has this table alone, in which names stand in byte order
abbrev pub offsets_data : List OffsetRow → Data
offsets_data rows = object (member (codes "offsetTable") (object (offset_members rows)) no_members)

-- its text, with no space
abbrev pub offsets_text_of : List OffsetRow → List ℕ
offsets_text_of rows = compact_text (offsets_data rows)

-- ---- topics

-- a table of topics with this row
abbrev pub with_topic_row : TopicRow → Members → Members
with_topic_row row ms = put row.topic (object (member (codes "queues") (number (unsigned row.queues)) no_members)) ms

-- the table of these rows; of two rows of one topic the first counts
abbrev pub topic_members : List TopicRow → Members
topic_members [] = no_members
topic_members (row ∷ rows) = with_topic_row row (topic_members rows)

-- an object that has this table alone, in which names stand in byte order
abbrev pub topics_data : List TopicRow → Data
topics_data rows = object (member (codes "topicConfigTable") (object (topic_members rows)) no_members)

-- its text, with no space
abbrev pub topics_text_of : List TopicRow → List ℕ
topics_text_of rows = compact_text (topics_data rows)

-- a topic that can be kept: with a legal name, none of the broker's own, and with 1 to 1,024 queues
pub record IsKeptTopic (row : TopicRow) : Type 0 where
  pub plain : IsPlainTopic row.topic
  pub some : 0 < row.queues
  pub few : row.queues ≤ 1024
