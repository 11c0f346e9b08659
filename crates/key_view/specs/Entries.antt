-- What contracts see of the table of the keys, and what a query of it answers.
use Rattle.std.specs.Prelude.{◌≡◌, ◌<◌, ◌≤◌, ◌+◌, ℕ, slice_get, Some, ◌-◌, ◌==◌, ◌&&◌, nat_lt, List, [], ◌∷◌, ◌++◌}
use Rattle.std.specs.Prelude.{map, filter, reverse, take, length, slice_index, ℤ, pos, int_le, Bool, if◌then◌else◌}
use Rattle.std.specs.List.{dedup, flat_map}
use Rattle.record_codec.specs.Entry.{Entry}
use Rattle.log_model.specs.Bases.{Base}
use Rattle.log_model.specs.Keys.{index_keys, is_match, asked_number}
use Rattle.log_model.specs.Log.{end_from}
use Rattle.log_model.specs.Numbered.{Log}

-- a key of a record: its hash, and the record's place and store time
pub record KeyEntry : Type 0 where
  pub hash : ℕ
  pub place : ℕ
  pub store : ℕ

-- the keys in the order of the log, and for how many more there is room
pub record KeyTable : Type 0 where
  pub entries : List KeyEntry
  pub spare : ℕ

-- the key has this hash, and its record a store time within these and a place before the end
abbrev pub is_sought : ℕ → ℤ → ℤ → ℕ → KeyEntry → Bool
is_sought hash from to end e = (e.hash == hash) && int_le from (pos e.store) && int_le (pos e.store) to && nat_lt e.place end

-- the place of a key's record
abbrev pub place_of : KeyEntry → ℕ
place_of e = e.place

-- each place once, where equal ones stand side by side
abbrev pub once : List ℕ → List ℕ
once places = dedup (λ later earlier. later == earlier) places

-- the places of the newest records that are sought, at most as many as are asked for
abbrev pub newest_places : ℕ → ℤ → ℤ → ℤ → ℕ → List KeyEntry → List ℕ
newest_places hash from to most end entries =
    take (asked_number 64 most) (once (map place_of (filter (is_sought hash from to end) (reverse entries))))

-- keys with these hashes of a record that has this place and store time
abbrev pub entries_at : ℕ → ℕ → List ℕ → List KeyEntry
entries_at place store hashes = map (λ hash. record { hash = hash; place = place; store = store }) hashes

-- a record's keys
abbrev pub entries_in : Entry → List KeyEntry
entries_in r = entries_at r.offset r.store (index_keys r)

-- those of each record, in the order of the log
abbrev pub key_entries : List Entry → List KeyEntry
key_entries log = flat_map entries_in log

-- the newest records before this place that have a key of this hash and were stored within these times
abbrev pub newest_records : ℕ → ℤ → ℤ → ℤ → ℕ → List Entry → List Entry
newest_records hash from to most end log =
    take (asked_number 64 most) (reverse (filter (is_match hash from to) (filter (λ r. nat_lt r.offset end) log)))

-- the place is the last of these
abbrev pub is_last : ℕ → List ℕ → Bool
is_last place places = nat_lt 0 (length places) && (place == slice_index places (length places - 1))

-- with this place behind them, but for one that is the last
abbrev pub with_place : ℕ → List ℕ → List ℕ
with_place place places = if is_last place places then places else places ++ place ∷ []

-- with the place of what is sought behind them, and else as they are
abbrev pub with_sought : Bool → ℕ → List ℕ → List ℕ
with_sought sought place places = if sought then with_place place places else places

-- each record stands at a later place than those before it
abbrev pub AreRising : List Entry → Type 0
AreRising log = (i j : ℕ) (a b : Entry) → i < j → slice_get log i ≡ Some a → slice_get log j ≡ Some b → a.offset < b.offset

-- What a removal of the log's first n records leaves to keys: the later base counts these records, and its place lies between
-- them and the next one.
pub record CutsKeys (log : Log) (n : ℕ) (later : Base) : Type 0 where
  pub long : n ≤ length log.records
  pub records : later.records ≡ log.base.records + length (take n log.records)
  pub behind : end_from log.base.place (take n log.records) ≤ later.place
  pub before : (r : Entry) → slice_get log.records n ≡ Some r → later.place ≤ r.offset
