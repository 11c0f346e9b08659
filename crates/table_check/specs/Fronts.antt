-- Lists of which one begins the other.
use Rattle.std.specs.Prelude.{◌≡◌, List, ◌++◌}

-- the list begins with these items
pub record BeginsWith {A : Type 0} (list front : List A) : Type 0 where
  pub rest : List A
  pub is : list ≡ front ++ rest
