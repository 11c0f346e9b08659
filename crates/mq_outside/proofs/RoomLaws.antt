-- Room of a disk in memory over several calls: room for all of them at first is room for each when it comes.
use Rattle.std.proofs.Common.{◌≡◌, ◌≤◌, ◌+◌, List, length, ap, subst, sym, arith}
use Rattle.mq_outside.specs.Named.{Named, size_of}
use Rattle.mq_outside.specs.MemDiskState.{Amount, state_of, IsUntouched, Fits, Takes, HasRoom}
use Rattle.mq_outside.specs.declared.mem_calls.MemCalls.{MemCalls}
use Rattle.mq_outside.specs.declared.mem_files.MemFiles.{MemFiles}
use Rattle.mq_outside.specs.declared.mem_disk.MemDisk.{MemDisk}
use Rattle.mq_outside.specs.declared.mem_disk.Room.{Room}

-- one amount and another
abbrev pub both : Amount → Amount → Amount
both a b = record { files = a.files + b.files; bytes = a.bytes + b.bytes; calls = a.calls + b.calls; call_bytes = a.call_bytes + b.call_bytes }

-- what is left of the room that the files of a new disk don't take
pub fits_at_first : (disk : MemDisk) (room : Room) (files : List Named) (more : Amount) → HasRoom disk room files
    → length files + more.files ≤ room.files → size_of files + more.bytes ≤ room.bytes → more.calls ≤ room.calls → more.call_bytes ≤ room.bytes → Fits disk more
fits_at_first disk room files more has count bytes calls call_bytes = record {
  files = omega (arith, has.files_taken, count, ap (λ (a : Amount). a.files) has.most);
  bytes = omega (arith, has.bytes_taken, bytes, ap (λ (a : Amount). a.bytes) has.most);
  calls = omega (arith, has.calls_taken, calls, ap (λ (a : Amount). a.calls) has.most);
  call_bytes = omega (arith, has.call_bytes_taken, call_bytes, ap (λ (a : Amount). a.call_bytes) has.most);
}

-- room for a call and for the rest is room for the rest after it
pub fits_after : (old new : MemDisk) (more rest : Amount) → Fits old (both more rest) → Takes more old new → Fits new rest
fits_after old new more rest fits takes = record {
  files = omega (arith, fits.files, takes.files, ap (λ (a : Amount). a.files) takes.most);
  bytes = omega (arith, fits.bytes, takes.bytes, ap (λ (a : Amount). a.bytes) takes.most);
  calls = omega (arith, fits.calls, takes.calls, ap (λ (a : Amount). a.calls) takes.most);
  call_bytes = omega (arith, fits.call_bytes, takes.call_bytes, ap (λ (a : Amount). a.call_bytes) takes.most);
}

-- room for a call and for the rest is room for the call
pub fits_now : (disk : MemDisk) (more rest : Amount) → Fits disk (both more rest) → Fits disk more
fits_now disk more rest fits = record {
  files = omega (arith, fits.files);
  bytes = omega (arith, fits.bytes);
  calls = omega (arith, fits.calls);
  call_bytes = omega (arith, fits.call_bytes);
}

-- a call that did nothing leaves the room
pub fits_untouched : (old new : MemDisk) (more : Amount) → IsUntouched old new → Fits old more → Fits new more
fits_untouched old new more still fits = record {
  files = subst (λ (f : MemFiles). length f.extents.items + more.files ≤ f.most_files) (sym still.files) fits.files;
  bytes = subst (λ (f : MemFiles). length f.buffer.items + more.bytes ≤ f.most_bytes) (sym still.files) fits.bytes;
  calls = subst (λ (c : MemCalls). length c.calls.items + more.calls ≤ c.most_calls) (sym still.calls) fits.calls;
  call_bytes = subst (λ (c : MemCalls). length c.buffer.items + more.call_bytes ≤ c.most_bytes) (sym still.calls) fits.call_bytes;
}

-- a call that did nothing leaves what the disk tells
pub tells_untouched : (old new : MemDisk) → IsUntouched old new → state_of new ≡ state_of old
tells_untouched old new still = cc
