-- What is read and what a crash may leave, after a list of calls.
use Rattle.std.specs.Prelude.{◌≡◌, ◌≢◌, ◌⊎◌, ℕ, ◌+◌, ◌<◌, ◌≤◌, List, [], ◌∷◌, length, take, reverse, Option, Some, None, if◌then◌else◌}
use Rattle.std.proofs.Common.{inl, refl, subst, sym, arith}
use Rattle.std.proofs.lemmas.List.{take_all}
use Rattle.std.specs.Str.{bytes_eq}
use Rattle.std.specs.Option.{option_map}
use Rattle.mq_outside.specs.Files.{Files, bytes_of, overwritten, At, Torn, Shortened}
use Rattle.mq_outside.specs.Disk.{DiskState, IsCrashImage, AgreesOn}

-- A call that was done: a write of a piece at an offset, a cut to a length, a sync, a sync that failed, a sync of what was also
-- written again or had been synced before, a removal, each of a file's name.
pub data Event : Type 0 where
  Wrote : List ℕ → ℕ → List ℕ → Event
  Cut : List ℕ → ℕ → Event
  Synced : List ℕ → Event
  Missed : List ℕ → Event
  Renewed : List ℕ → Event
  Removed : List ℕ → Event

-- the files, where this name has these bytes
abbrev pub put_file : List ℕ → Option (List ℕ) → Files → Files
put_file name bytes files other = if bytes_eq name other then bytes else files other

-- what a read gives after the calls, the newest of which comes first
abbrev pub reads_after : Files → List Event → Files
reads_after base [] = base
reads_after base (Wrote name at piece ∷ earlier) = put_file name (Some (overwritten at piece (bytes_of (reads_after base earlier) name)))
    (reads_after base earlier)
reads_after base (Cut name len ∷ earlier) = put_file name (option_map (λ bytes. take len bytes) (reads_after base earlier name))
    (reads_after base earlier)
reads_after base (Synced name ∷ earlier) = reads_after base earlier
reads_after base (Missed name ∷ earlier) = reads_after base earlier
reads_after base (Renewed name ∷ earlier) = reads_after base earlier
reads_after base (Removed name ∷ earlier) = put_file name None (reads_after base earlier)

-- This byte of the file was written, and no sync of the file failed since. A cut and a removal count like a failed sync.
abbrev pub IsFresh : List Event → List ℕ → ℕ → Type 0
IsFresh [] name i = ⊥
IsFresh (Wrote other at piece ∷ earlier) name i = ((other ≡ name) × (at ≤ i) × (i < at + length piece)) ⊎ IsFresh earlier name i
IsFresh (Cut other len ∷ earlier) name i = (other ≢ name) × IsFresh earlier name i
IsFresh (Synced other ∷ earlier) name i = IsFresh earlier name i
IsFresh (Missed other ∷ earlier) name i = (other ≢ name) × IsFresh earlier name i
IsFresh (Renewed other ∷ earlier) name i = IsFresh earlier name i
IsFresh (Removed other ∷ earlier) name i = (other ≢ name) × IsFresh earlier name i

-- each byte of this range of the file is fresh
abbrev pub AreFresh : List Event → List ℕ → ℕ → ℕ → Type 0
AreFresh events name from n = (i : ℕ) → from ≤ i → i < from + n → IsFresh events name i

-- the files have each fresh range of the file as it is read
abbrev pub HasFresh : List Event → List ℕ → Files → Files → Type 0
HasFresh events name read files = (from n : ℕ) → AreFresh events name from n → AgreesOn name from n read files

-- What a crash makes of an image by a call, where these calls came before and this is read. A sync keeps the images that have
-- what is fresh of the file as it is read, and a sync of all of it those that have the whole file so. One that failed keeps all.
abbrev pub Does : Event → List Event → Files → Files → Files → Type 0
Does (Wrote name at piece) earlier read old new = At name (Torn at (length piece)) old new
Does (Cut name len) earlier read old new = At name (Shortened len) old new
Does (Synced name) earlier read old new = (new ≡ old) × HasFresh earlier name read new
Does (Missed name) earlier read old new = new ≡ old
Does (Renewed name) earlier read old new = (new ≡ old) × (new name ≡ read name)
Does (Removed name) earlier read old new = At name (λ _ bytes. bytes ≡ None) old new

-- what a crash may leave: all that was done, or an earlier image after the last call
abbrev pub image_after : Files → List Event → Files → Type 0
image_after base [] files = files ≡ base
image_after base (event ∷ earlier) files =
    (files ≡ reads_after base (event ∷ earlier)) ⊎ ((before : Files) × image_after base earlier before
    × Does event earlier (reads_after base earlier) before files)

-- a disk that had these files, all synced, and has done these calls since, the newest of which comes last
abbrev pub state_after : Files → List Event → DiskState
state_after base events = record {
  reads = reads_after base (reverse events);
  moment = length events;
  image_at = λ m files. image_after base (reverse (take m events)) files;
  fresh = AreFresh (reverse events);
}

reads_image : (base : Files) (events : List Event) → image_after base events (reads_after base events)
reads_image base [] = refl
reads_image base (event ∷ earlier) = inl refl

-- what is read is an image
pub state_reads_image : (base : Files) (events : List Event) → IsCrashImage (state_after base events) (state_after base events).reads
state_reads_image base events =
    subst (λ (l : List Event). image_after base (reverse l) (reads_after base (reverse events)))
    (sym (take_all (length events) events (omega arith))) (reads_image base (reverse events))
