-- How the table of the keys is kept.
use Rattle.std.specs.Prelude.{◌≢◌, ℕ, zero, suc, ◌+◌, ◌-◌, ◌≤◌, ◌^◌, ◌%◌, ◌==◌, min, List}
use Rattle.std.specs.Prelude.{[], ◌∷◌, map, reverse, length, slice_index, if◌then◌else◌}
use Rattle.chunks.specs.Lists.{Roomy}
use Rattle.key_view.specs.declared.row.KeyRow.{KeyRow}
use Rattle.key_view.specs.Entries.{KeyEntry, KeyTable}

-- a row without its link
abbrev pub entry_of : KeyRow → KeyEntry
entry_of row = record { hash = row.hash; place = row.place; store = row.store }

-- the number of the newest row in the slot of a hash, 0 where there is none
abbrev pub newest_in : List ℕ → ℕ → ℕ
newest_in slots hash = slice_index slots (hash % length slots)

-- There is room where there are slots, where the chunks have room, and where numbers and links stay small.
abbrev pub spare_of : Roomy KeyRow → ℕ → List ℕ → ℕ
spare_of rows gone slots =
    if length slots == 0 then 0 else min rows.spare (min (2 ^ 32 - 2 - length rows.items) (2 ^ 62 - (gone + length rows.items)))

-- the table of these parts
abbrev pub table_of : Roomy KeyRow → ℕ → List ℕ → KeyTable
table_of rows gone slots = record { entries = map entry_of rows.items; spare = spare_of rows gone slots }

-- Of these rows, the newest first, so many are passed over to the next row of the chain, and so on: none that is passed over
-- has the hash.
abbrev pub Covers : ℕ → List KeyRow → ℕ → Type 0
Covers hash [] passed = Unit {0}
Covers hash (row ∷ rows) zero = (1 ≤ row.back) × Covers hash rows (row.back - 1)
Covers hash (row ∷ rows) (suc passed) = (row.hash ≢ hash) × Covers hash rows passed

-- From the newest row in the slot of a hash the chain goes over all rows of that hash. So many rows are gone before the first.
pub record IsKept (rows : List KeyRow) (gone : ℕ) (slots : List ℕ) : Type 0 where
  pub few : length rows ≤ 2 ^ 32 - 2
  pub small : gone + length rows ≤ 2 ^ 62
  pub below : (hash : ℕ) → newest_in slots hash ≤ gone + length rows
  pub chains : (hash : ℕ) → Covers hash (reverse rows) (gone + length rows - newest_in slots hash)
