-- The offsets that are kept, and the rows that they equal.
use Rattle.std.specs.Prelude.{◌≡◌, ℕ, ◌<◌, ◌^◌, List, String, Option, Some, true}
use Rattle.std.specs.HashMap.{HashMap}
use Rattle.std.specs.Str.{IsUtf8}
use Rattle.request_fields.specs.Clients.{IsName}
use Rattle.record_codec.specs.Layout.{is_legal}
use Rattle.broker_model.specs.Tables.{OffsetRow, offset_in}
use Rattle.group_tables.specs.Table.{in_queues, in_topics, in_groups}
use Rattle.group_tables.specs.declared.groups.Groups.{Groups}

-- the offset that a group stored for a queue
abbrev pub offset_of : Groups → List ℕ → List ℕ → ℕ → Option ℕ
offset_of groups group topic queue = in_groups groups.offsets group topic queue

-- each queue of each group is looked up as in these rows
abbrev pub HasOffsets : Groups → List OffsetRow → Type 0
HasOffsets groups rows = (group topic : List ℕ) (queue : ℕ) → offset_of groups group topic queue ≡ offset_in rows group topic queue

-- a row of these
abbrev pub offset_row : List ℕ → List ℕ → ℕ → ℕ → OffsetRow
offset_row group topic queue offset = record { group = group; topic = topic; queue = queue; offset = offset }

-- ---- rows of a table

-- the row is that of a queue of this group and topic
abbrev pub IsOfQueues : {S : Type 0} → List ℕ → List ℕ → HashMap ℕ ℕ S → OffsetRow → Type 0
IsOfQueues group topic queues row = (row.group ≡ group) × (row.topic ≡ topic) × (in_queues queues row.queue ≡ Some row.offset)

-- the row is that of a queue of this group
abbrev pub IsOfTopics : {A S T : Type 0} → List ℕ → HashMap (String A) (HashMap ℕ ℕ S) T → OffsetRow → Type 0
IsOfTopics group topics row = (row.group ≡ group) × (in_topics topics row.topic row.queue ≡ Some row.offset)

-- the row is that of a queue
abbrev pub IsOfGroups : {A S T U : Type 0} → HashMap (String A) (HashMap (String A) (HashMap ℕ ℕ S) T) U → OffsetRow → Type 0
IsOfGroups groups row = in_groups groups row.group row.topic row.queue ≡ Some row.offset

-- the row says what its group stored for its queue
abbrev pub IsStored : Groups → OffsetRow → Type 0
IsStored groups row = offset_of groups row.group row.topic row.queue ≡ Some row.offset

-- ---- rows that can be kept

-- an offset that can be kept: of a topic with a legal name and of a group with one of 1 to 120 bytes of UTF-8
pub record IsOffset (row : OffsetRow) : Type 0 where
  pub topic : is_legal row.topic ≡ true
  pub group : IsName row.group
  pub text : IsUtf8 row.group
  pub queue : row.queue < 2 ^ 31
  pub offset : row.offset < 2 ^ 62
