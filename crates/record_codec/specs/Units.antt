-- The unit of a record: what the file of its queue says of it.
use Rattle.std.specs.Prelude.{ℕ, ◌+◌, List, [], ◌∷◌, codes, ℤ, pos, nat_lt, Option, Some, None, if◌then◌else◌}
use Rattle.std.specs.Str.{bytes_eq}
use Rattle.mq_bytes.specs.Hashes.{java_hash}
use Rattle.mq_bytes.specs.Delays.{level_delay}
use Rattle.record_codec.specs.declared.unit.Unit.{Unit}
use Rattle.record_codec.specs.Entry.{Entry}
use Rattle.record_codec.specs.Layout.{size}
use Rattle.record_codec.specs.Props.{value_of}

-- the hash of tags, 0 where there are none
abbrev pub hash_of : Option (List ℕ) → ℤ
hash_of None = pos 0
hash_of (Some []) = pos 0
hash_of (Some (b ∷ tags)) = java_hash (b ∷ tags)

-- the milliseconds that records of this queue wait: those of the level that has the next number, none where there is no such level
abbrev pub delay_of : ℕ → ℕ
delay_of queue = if nat_lt queue 18 then level_delay (queue + 1) else 0

-- the tag code of a topic, the property TAGS, a queue and a store time: the hash of the tags, and for a delayed record the time at which
-- it is due
unfoldable pub tag_code : List ℕ → Option (List ℕ) → ℕ → ℕ → ℤ
tag_code topic tags queue store = if bytes_eq topic (codes "SCHEDULE_TOPIC_XXXX") then pos (store + delay_of queue) else hash_of tags

-- where the record stands, its size and its tag code
abbrev pub unit_of : Entry → Unit
unit_of r = record { offset = r.offset; size = size r; tag = tag_code r.topic (value_of (codes "TAGS") r.props) r.queue r.store }
