-- The files of the disk in memory: one buffer with name and bytes of each file, one behind the other.
use Rattle.std.specs.Prelude.{◌≡◌, ℕ, ◌+◌, ◌≤◌, List, [], ◌∷◌, length, take, drop, true, false}
use Rattle.mq_outside.specs.Named.{Named, names_of, AreAbove, AreBelow}
use Rattle.mq_outside.specs.declared.mem_files.Extent.{Extent}
use Rattle.mq_outside.specs.declared.mem_files.Place.{Place}

-- how many bytes these files take in the buffer
abbrev pub total : List Extent → ℕ
total [] = 0
total (extent ∷ extents) = extent.name + extent.size + total extents

-- the files of the buffer
abbrev pub files_in : List Extent → List ℕ → List Named
files_in [] buffer = []
files_in (extent ∷ extents) buffer =
    record { name = take extent.name buffer; bytes = take extent.size (drop extent.name buffer) }
    ∷ files_in extents (drop (extent.name + extent.size) buffer)

-- the first of these files has this name
abbrev pub IsFirst : List ℕ → List Named → Type 0
IsFirst name [] = ⊥
IsFirst name (file ∷ files) = file.name ≡ name

-- where a file of this name stands, or would stand: behind all whose names are before it
pub record IsPlace (extents : List Extent) (buffer name : List ℕ) (place : Place) : Type 0 where
  pub within : place.index ≤ length extents
  pub at : place.start ≡ total (take place.index extents)
  pub before : AreBelow (names_of (files_in (take place.index extents) (take place.start buffer))) name
  pub here : place.found ≡ true → IsFirst name (files_in (drop place.index extents) (drop place.start buffer))
  pub after : place.found ≡ false → AreAbove name (names_of (files_in (drop place.index extents) (drop place.start buffer)))
