-- The disk in memory.
use Rattle.std.specs.Prelude.{◌≡◌, ◌<◌, ◌≤◌, ◌+◌, ◌-◌, ℕ, List, length, map, Option, None, Some, String, Vec, string_bytes}
use Rattle.std.specs.declared.alloc.Global.{Global}
use Rattle.mq_outside.specs.Named.{Named}
use Rattle.mq_outside.specs.MemFiles.{files_in}
use Rattle.mq_outside.specs.MemCalls.{events_in}
use Rattle.mq_outside.specs.Calls.{Event}
use Rattle.mq_outside.specs.declared.mem_calls.MemCalls.{MemCalls}
use Rattle.mq_outside.specs.declared.mem_files.MemFiles.{MemFiles}

-- the files that are held
abbrev pub files_of : MemFiles → List Named
files_of files = files_in files.extents.items files.buffer.items

-- how many files a write makes: one where there was none
abbrev pub more_files : Option (List ℕ) → ℕ
more_files None = 1
more_files (Some old) = 0

-- how many bytes a write adds: name and piece of a file that it makes, and of one that is there what goes over the old end
abbrev pub more_bytes : List ℕ → ℕ → List ℕ → Option (List ℕ) → ℕ
more_bytes name at piece None = length name + length piece
more_bytes name at piece (Some old) = at + length piece - length old

-- there is room for so many files and so many bytes more
pub record HasRoomToAdd (files : MemFiles) (count size : ℕ) : Type 0 where
  pub files_fit : length files.extents.items + count ≤ files.most_files
  pub bytes_fit : length files.buffer.items + size ≤ files.most_bytes

-- there are no more than so many files and so many bytes more, and the room is the same
pub record Grows (old new : MemFiles) (count size : ℕ) : Type 0 where
  pub files : length new.extents.items ≤ length old.extents.items + count
  pub bytes : length new.buffer.items ≤ length old.buffer.items + size
  pub most_files : new.most_files ≡ old.most_files
  pub most_bytes : new.most_bytes ≡ old.most_bytes

-- the calls that were done, the newest last
abbrev pub events_of : MemCalls → List Event
events_of calls = events_in calls.calls.items calls.buffer.items

-- one call more with this name and piece can be noted
pub record HasRoomToNote (calls : MemCalls) (name piece : List ℕ) : Type 0 where
  pub calls_fit : length calls.calls.items < calls.most_calls
  pub bytes_fit : length calls.buffer.items + length name + length piece ≤ calls.most_bytes

-- one call with this name and piece was noted, and the room is the same
pub record IsNoted (old new : MemCalls) (name piece : List ℕ) : Type 0 where
  pub calls : length new.calls.items ≡ length old.calls.items + 1
  pub bytes : length new.buffer.items ≡ length old.buffer.items + length name + length piece
  pub most_calls : new.most_calls ≡ old.most_calls
  pub most_bytes : new.most_bytes ≡ old.most_bytes

-- the files that a disk is made with
abbrev pub given_files : List (String Global × Vec ℕ Global) → List Named
given_files = map (λ file. record { name = string_bytes file.0; bytes = file.1.items })
