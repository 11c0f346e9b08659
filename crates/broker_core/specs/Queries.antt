-- Records that a query by key, or one by id, finds.
use Rattle.std.specs.Prelude.{◌≡◌, ℕ, List, map, filter, nat_lt, pos, slice_get, Some}
use Rattle.record_codec.specs.Entry.{Entry}
use Rattle.record_codec.specs.Layout.{size}
use Rattle.record_codec.specs.declared.unit.Unit.{Unit as QueueUnit}
use Rattle.broker_model.specs.State.{State, seen}

-- where a record stands, without its tag
abbrev pub bare_unit : Entry → QueueUnit
bare_unit r = record { offset = r.offset; size = size r; tag = pos 0 }

-- where these records stand
abbrev pub bare_units : List Entry → List QueueUnit
bare_units records = map bare_unit records

-- the places of these records
abbrev pub places_of : List Entry → List ℕ
places_of records = map (λ r. r.offset) records

-- the record is one of the log's
abbrev pub IsIn : State → Entry → Type 0
IsIn s r = (k : ℕ) × (slice_get s.log.records k ≡ Some r)

-- each of these records is one of the log's
abbrev pub AreIn : State → List Entry → Type 0
AreIn s records = (k : ℕ) (r : Entry) → slice_get records k ≡ Some r → IsIn s r

-- what stands before this place is what consumers see
abbrev pub IsSeenEnd : State → ℕ → Type 0
IsSeenEnd s place = filter (λ r. nat_lt r.offset place) s.log.records ≡ (seen s).records
