-- Which rows a table of a kept file has, whatever the order of its names.
use Rattle.std.specs.Prelude.{◌≡◌, ℕ, ◌<◌, List, [], ◌∷◌, ◌++◌, length, codes, Option, Some, option_and_then}
use Rattle.mq_bytes.specs.Decimal.{digits_of}
use Rattle.broker_model.specs.Tables.{TopicRow, OffsetRow}
use Rattle.serde_json.specs.Data.{Data, object, Members, no_members, member}
use Rattle.serde_json.specs.Find.{get, as_number, as_u64}
use Rattle.config_store.specs.Texts.{key_of}

-- the number that the data is
abbrev pub number_in : Data → Option ℕ
number_in d = option_and_then as_u64 (as_number d)

-- these rows are the queues and offsets of a group and topic
abbrev pub AreQueueRows : List ℕ → List ℕ → Members → List OffsetRow → Type 0
AreQueueRows topic group no_members rows = rows ≡ []
AreQueueRows topic group (member name d ms) rows =
    (queue : ℕ) × (offset : ℕ) × (rest : List OffsetRow) × (name ≡ digits_of queue) × (number_in d ≡ Some offset)
    × (rows ≡ record { group = group; topic = topic; queue = queue; offset = offset } ∷ rest) × AreQueueRows topic group ms rest

-- these rows are those of a member of the table of offsets, of which there is one at least
pub record AreKeyRows (name : List ℕ) (d : Data) (rows : List OffsetRow) : Type 0 where
  pub topic : List ℕ
  pub group : List ℕ
  pub queues : Members
  pub named : name ≡ key_of topic group
  pub table : d ≡ object queues
  pub are : AreQueueRows topic group queues rows
  pub some : 0 < length rows

-- these rows are those of the table of offsets
abbrev pub AreTableRows : Members → List OffsetRow → Type 0
AreTableRows no_members rows = rows ≡ []
AreTableRows (member name d ms) rows = (first : List OffsetRow) × (rest : List OffsetRow) × AreKeyRows name d first × (rows ≡ first ++ rest)
    × AreTableRows ms rest

-- these rows are those of the table of topics
abbrev pub AreTopicRows : Members → List TopicRow → Type 0
AreTopicRows no_members rows = rows ≡ []
AreTopicRows (member name d ms) rows =
    (queues : ℕ) × (rest : List TopicRow) × (option_and_then number_in (get (codes "queues") d) ≡ Some queues)
    × (rows ≡ record { topic = name; queues = queues } ∷ rest) × AreTopicRows ms rest
