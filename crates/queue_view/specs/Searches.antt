-- What a search of a table answers.
use Rattle.std.specs.Prelude.{ℕ, ◌+◌, List, take, ℤ, pos, int_le}
use Rattle.std.specs.List.{position_or_len}
use Rattle.queue_view.specs.declared.stored.StoredUnit.{StoredUnit}
use Rattle.queue_view.specs.Tables.{Table}
use Rattle.queue_view.specs.Added.{Added, queue_in}

-- the store time of a unit's record
abbrev pub store_in : StoredUnit → ℕ
store_in stored = stored.store

-- the offset of the first unit that consumers see whose record was stored at this time or later, else the maximum
abbrev pub first_from : ℤ → Table → ℕ
first_from time t = t.low + position_or_len (λ stored. int_le time (pos (store_in stored))) (take t.seen t.units)

-- the same of a queue of these records, of which so many were removed before them
abbrev pub first_among : (List ℕ → ℕ → ℕ) → List Added → List ℕ → ℕ → ℤ → ℕ
first_among low added topic queue time =
    low topic queue + position_or_len (λ stored. int_le time (pos (store_in stored))) (queue_in added topic queue)
