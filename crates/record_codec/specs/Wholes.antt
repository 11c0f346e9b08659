-- Which whole records stand among bytes of a log.
use Rattle.std.specs.Prelude.{ℕ, zero, suc, ◌+◌, ◌==◌, List, length, drop, Option, Some, None, if◌then◌else◌}
use Rattle.record_codec.specs.Entry.{Entry}
use Rattle.record_codec.specs.Layout.{size}
use Rattle.record_codec.specs.Parsed.{parsed}

-- the size of a record that has this physical offset
abbrev pub size_placed : Option Entry → ℕ → Option ℕ
size_placed None place = None
size_placed (Some r) place = if r.offset == place then Some (size r) else None

-- the size of the record whose layout stands in front, where its own physical offset is this place
unfoldable pub size_at : List ℕ → ℕ → Option ℕ
size_at bytes place = size_placed (parsed bytes) place

-- a record counts
abbrev pub counted : Option ℕ → ℕ
counted None = 0
counted (Some size) = 1

-- one goes on behind a record, else a byte further
abbrev pub stride : Option ℕ → ℕ
stride None = 1
stride (Some size) = size

-- how many records stand among the bytes, of which the first has this place, in so many steps
abbrev pub wholes_in : ℕ → List ℕ → ℕ → ℕ
wholes_in zero bytes place = 0
wholes_in (suc steps) bytes place = counted (size_at bytes place)
    + wholes_in steps (drop (stride (size_at bytes place)) bytes) (place + stride (size_at bytes place))

-- how many there are: no more steps than bytes are needed
unfoldable pub wholes : List ℕ → ℕ → ℕ
wholes bytes place = wholes_in (length bytes) bytes place
