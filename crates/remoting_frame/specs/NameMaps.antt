-- How a contract sees a map from names to values.
use Rattle.std.specs.Prelude.{ℕ, List, map, String, string_bytes}
use Rattle.std.specs.declared.alloc.Global.{Global}

-- the names and values as bytes
abbrev pub pairs_view : List (String Global × String Global) → List (List ℕ × List ℕ)
pairs_view entries = map (λ e. (string_bytes e.0, string_bytes e.1)) entries
