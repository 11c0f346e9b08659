-- What the disk in memory tells, for how much it has room, and how much of that each call takes.
use Rattle.std.specs.Prelude.{◌≡◌, ℕ, ◌+◌, ◌≤◌, List, [], ◌∷◌, ◌++◌, length}
use Rattle.mq_outside.specs.Disk.{DiskState}
use Rattle.mq_outside.specs.Calls.{Event, state_after}
use Rattle.mq_outside.specs.Named.{Named, content, size_of}
use Rattle.mq_outside.specs.MemDisk.{events_of, given_files, more_files, more_bytes}
use Rattle.mq_outside.specs.declared.mem_disk.MemDisk.{MemDisk}
use Rattle.mq_outside.specs.declared.mem_disk.Room.{Room}

-- what it holds: the files that it was made with, and what its calls did to them
abbrev pub state_of : MemDisk → DiskState
state_of disk = state_after (content (given_files disk.base.items)) (events_of disk.calls)

-- no call was done: what it tells is the same, and so is its room
pub record IsUntouched (old new : MemDisk) : Type 0 where
  pub base : new.base ≡ old.base
  pub files : new.files ≡ old.files
  pub calls : new.calls ≡ old.calls

-- an amount of room: how many files, bytes of them with their names, calls, and bytes of the calls' names and pieces
pub record Amount : Type 0 where
  pub files : ℕ
  pub bytes : ℕ
  pub calls : ℕ
  pub call_bytes : ℕ

-- how much a disk may have
abbrev pub most_of : MemDisk → Amount
most_of disk = record {
  files = disk.files.most_files;
  bytes = disk.files.most_bytes;
  calls = disk.calls.most_calls;
  call_bytes = disk.calls.most_bytes;
}

-- how much it has
abbrev pub taken_of : MemDisk → Amount
taken_of disk = record {
  files = length disk.files.extents.items;
  bytes = length disk.files.buffer.items;
  calls = length disk.calls.calls.items;
  call_bytes = length disk.calls.buffer.items;
}

-- there is room for so much more
pub record Fits (disk : MemDisk) (more : Amount) : Type 0 where
  pub files : (taken_of disk).files + more.files ≤ (most_of disk).files
  pub bytes : (taken_of disk).bytes + more.bytes ≤ (most_of disk).bytes
  pub calls : (taken_of disk).calls + more.calls ≤ (most_of disk).calls
  pub call_bytes : (taken_of disk).call_bytes + more.call_bytes ≤ (most_of disk).call_bytes

-- no more than so much was taken, and the room is the same
pub record Takes (more : Amount) (old new : MemDisk) : Type 0 where
  pub most : most_of new ≡ most_of old
  pub files : (taken_of new).files ≤ (taken_of old).files + more.files
  pub bytes : (taken_of new).bytes ≤ (taken_of old).bytes + more.bytes
  pub calls : (taken_of new).calls ≤ (taken_of old).calls + more.calls
  pub call_bytes : (taken_of new).call_bytes ≤ (taken_of old).call_bytes + more.call_bytes

-- what a write takes: a file where it is absent, the bytes that it adds, and a call with its name and piece
abbrev pub write_amount : MemDisk → List ℕ → ℕ → List ℕ → Amount
write_amount disk name at piece = record {
  files = more_files ((state_of disk).reads name);
  bytes = more_bytes name at piece ((state_of disk).reads name);
  calls = 1;
  call_bytes = length name + length piece;
}

-- what a cut, a sync or a removal takes: a call with its name
abbrev pub call_amount : List ℕ → Amount
call_amount name = record { files = 0; bytes = 0; calls = 1; call_bytes = length name }

-- a sync of the file failed: what is read stays, and where there is room for it the failure is noted
pub record IsMissed (name : List ℕ) (old new : MemDisk) : Type 0 where
  pub base : new.base ≡ old.base
  pub files : new.files ≡ old.files
  pub noted : Fits old (call_amount name) → events_of new.calls ≡ events_of old.calls ++ Event.Missed name ∷ []
  pub full : ¬ Fits old (call_amount name) → new.calls ≡ old.calls

-- it has this room, of which these files are taken
pub record HasRoom (disk : MemDisk) (room : Room) (files : List Named) : Type 0 where
  pub most : most_of disk ≡ record { files = room.files; bytes = room.bytes; calls = room.calls; call_bytes = room.bytes }
  pub files_taken : (taken_of disk).files ≤ length files
  pub bytes_taken : (taken_of disk).bytes ≤ size_of files
  pub calls_taken : (taken_of disk).calls ≡ 0
  pub call_bytes_taken : (taken_of disk).call_bytes ≡ 0
