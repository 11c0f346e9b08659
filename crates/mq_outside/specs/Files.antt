-- The files of a disk, and how one call may change them.
use Rattle.std.specs.Prelude.{◌≡◌, ◌≢◌, ◌⊎◌, ◌↔◌, ℕ, ◌+◌, ◌≤◌, min, max, List, [], ◌++◌}
use Rattle.std.specs.Prelude.{length, take, drop, Option, Some, None, IsSome, IsTrue}
use Rattle.std.specs.List.{AllPairs, Contains}
use Rattle.std.specs.Ordering.{nat_cmp, is_lt}
use Rattle.std.specs.Cmp.Lexicographic.{slice_cmp}

-- a disk's files: from a name to the bytes, and None where the file is absent
abbrev pub Files : Type 0
Files = List ℕ → Option (List ℕ)

-- the bytes, none where the file is absent
abbrev pub bytes_in : Option (List ℕ) → List ℕ
bytes_in None = []
bytes_in (Some bytes) = bytes

-- the bytes of the file of this name
abbrev pub bytes_of : Files → List ℕ → List ℕ
bytes_of files name = bytes_in (files name)

-- no file is there
abbrev pub HasNoFile : Files → Type 0
HasNoFile files = (name : List ℕ) → files name ≡ None

-- the list has the names of the files that are there, each once, in byte order
pub record Lists (files : Files) (names : List (List ℕ)) : Type 0 where
  pub each : (name : List ℕ) → Contains names name ↔ IsSome (files name)
  pub ordered : AllPairs (λ a b. IsTrue (is_lt (slice_cmp nat_cmp a b))) names

-- old with the piece at this offset
abbrev pub overwritten : ℕ → List ℕ → List ℕ → List ℕ
overwritten at piece old = take at old ++ piece ++ drop (at + length piece) old

-- one file changes so, and the others stay
pub record At (name : List ℕ) (change : Option (List ℕ) → Option (List ℕ) → Type 0) (old new : Files) : Type 0 where
  pub here : change (old name) (new name)
  pub others : (other : List ℕ) → other ≢ name → new other ≡ old other

-- A torn write of n bytes: any bytes in the range and past the old end, the same elsewhere. A file that is there stays.
pub record Torn (at n : ℕ) (old new : Option (List ℕ)) : Type 0 where
  pub there : IsSome old → IsSome new
  pub before : take at (bytes_in new) ≡ take at (bytes_in old)
  pub after : drop (at + n) (bytes_in new) ≡ drop (at + n) (bytes_in old)
  pub no_shorter : length (bytes_in old) ≤ length (bytes_in new)
  pub no_longer : length (bytes_in new) ≤ max (length (bytes_in old)) (at + n)

-- A cut that a crash interrupts: some length between. A file that is there stays, and none is made.
pub record Shortened (len : ℕ) (old new : Option (List ℕ)) : Type 0 where
  pub there : IsSome old ↔ IsSome new
  pub no_shorter : min len (length (bytes_in old)) ≤ length (bytes_in new)
  pub front : take (length (bytes_in new)) (bytes_in old) ≡ bytes_in new

-- a removal that a crash interrupts: done or not
abbrev pub Vanished : Option (List ℕ) → Option (List ℕ) → Type 0
Vanished old new = (new ≡ None) ⊎ (new ≡ old)

-- a replacement that a crash or a failure interrupts: the old bytes or the new
abbrev pub OldOrNew : List ℕ → Option (List ℕ) → Option (List ℕ) → Type 0
OldOrNew bytes old new = (new ≡ old) ⊎ (new ≡ Some bytes)

-- nothing changes
abbrev pub Same : Files → Files → Type 0
Same old new = new ≡ old
