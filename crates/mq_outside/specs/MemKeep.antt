-- The keep in memory: what it began with, and what was put into it since.
use Rattle.std.specs.Prelude.{◌≡◌, ℕ, List, length, take, reverse, find, Vec, string_bytes}
use Rattle.std.proofs.Common.{ap, sym, arith}
use Rattle.std.proofs.lemmas.List.{take_all}
use Rattle.std.specs.Option.{option_map, option_or}
use Rattle.std.specs.Str.{bytes_eq}
use Rattle.std.specs.declared.alloc.Global.{Global}
use Rattle.std.specs.declared.string.String.{String}
use Rattle.mq_outside.specs.Files.{Files}
use Rattle.mq_outside.specs.Disk.{DiskState, IsCrashImage}

-- a name and the bytes under it
abbrev pub Entry : Type 0
Entry = String Global × Vec ℕ Global

-- the bytes of the last entry of each name
abbrev pub last_of : List Entry → Files
last_of entries name = option_map (λ entry. entry.1.items) (find (λ entry. bytes_eq (string_bytes entry.0) name) (reverse entries))

-- what was last put under each name, and else what was there at first
abbrev pub texts_of : List Entry → List Entry → Files
texts_of first puts name = option_or (last_of puts name) (last_of first name)

-- Each put is a moment. A crash at a moment leaves what was put up to then.
abbrev pub keep_state : List Entry → List Entry → DiskState
keep_state first puts = record {
  reads = texts_of first puts;
  moment = length puts;
  image_at = λ m texts. texts ≡ texts_of first (take m puts);
  fresh = λ _ _ _. ⊥;
}

-- what is loaded is what a crash now leaves
pub texts_are_image : (first puts : List Entry) → IsCrashImage (keep_state first puts) (keep_state first puts).reads
texts_are_image first puts = ap (texts_of first) (sym (take_all (length puts) puts (omega arith)))
