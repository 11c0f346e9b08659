-- What a pull of a table answers.
use Rattle.std.specs.Prelude.{ℕ, ℤ, pos, ◌≡◌, ◌-◌, List, [], drop, map}
use Rattle.record_codec.specs.declared.unit.Unit.{Unit as QueueUnit}
use Rattle.log_model.specs.Keys.{asked_number}
use Rattle.log_model.specs.Pulls.{Pulled, pulled, after_looking, examined}
use Rattle.queue_view.specs.declared.pulled.Pulled.{Pulled as Answer}
use Rattle.queue_view.specs.declared.stored.StoredUnit.{StoredUnit}
use Rattle.queue_view.specs.declared.tags.Tags.{Tags}
use Rattle.queue_view.specs.Subscriptions.{tags_take}
use Rattle.queue_view.specs.Tables.{Table, unit_in, seen_units, max_of}

-- a unit is what is pulled
abbrev pub this : QueueUnit → QueueUnit
this unit = unit

-- a pull of what consumers see of a table
abbrev pub pulled_of : Table → ℤ → ℤ → Tags → Pulled QueueUnit
pulled_of t from most tags = pulled this t.low (seen_units t) from (asked_number 32 most) (tags_take tags)

-- a pull from an offset of a unit that they see
abbrev pub pulled_within : Table → ℕ → ℕ → Tags → Pulled QueueUnit
pulled_within t from most tags =
    after_looking this from t.low (max_of t) (tags_take tags) (examined this most (tags_take tags) [] (drop (from - t.low) (seen_units t)))

-- a pull of a queue of these units, before which so many were removed
abbrev pub pulled_among : ℕ → List StoredUnit → ℤ → ℤ → Tags → Pulled QueueUnit
pulled_among low units from most tags = pulled this low (map unit_in units) from (asked_number 32 most) (tags_take tags)

-- the answer has these numbers and units
pub record Answers (said : Pulled QueueUnit) (a : Answer) : Type 0 where
  pub code : a.code ≡ pos said.code
  pub next : a.next ≡ said.next
  pub min : a.min ≡ said.low
  pub max : a.max ≡ said.high
  pub units : a.units.items ≡ said.taken
