-- Where a client stands among the others.
use Rattle.std.specs.Prelude.{ℕ, ◌+◌, List, [], ◌∷◌, Option, Some, None, option_map, if◌then◌else◌}
use Rattle.std.specs.Str.{bytes_eq}
use Rattle.client_tables.specs.declared.client.Client.{Client}

-- the place of the first client of this name
abbrev pub place_in : List ℕ → List Client → Option ℕ
place_in client [] = None
place_in client (c ∷ clients) = if bytes_eq c.client client then Some 0 else option_map (λ k. k + 1) (place_in client clients)
