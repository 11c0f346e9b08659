-- What is left of bytes to which memory didn't suffice to append.
use Rattle.std.specs.Prelude.{◌≡◌, ℕ, List, length, take}

-- the new bytes begin with the old
abbrev pub KeepsFront : List ℕ → List ℕ → Type 0
KeepsFront old new = take (length old) new ≡ old
