-- What the table of topics says.
use Rattle.std.specs.Prelude.{ℕ, List, Option}
use Rattle.indexmap.specs.IndexMap.{get_by_text, spare}
use Rattle.broker_model.specs.Tables.{TopicRow}
use Rattle.client_tables.specs.declared.topics.Topics.{Topics}

-- how many queues a topic has
abbrev pub queues_of : Topics → List ℕ → Option ℕ
queues_of topics topic = get_by_text topics.counts topic

-- for how many more topics there is room
abbrev pub room_in : Topics → ℕ
room_in topics = spare topics.counts

-- a row of a topic
abbrev pub topic_row : List ℕ → ℕ → TopicRow
topic_row topic queues = record { topic = topic; queues = queues }
