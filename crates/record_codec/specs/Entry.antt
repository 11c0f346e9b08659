-- What a record says: the fields of its layout, but for those that follow from others (its size, the sums, the lengths).
use Rattle.std.specs.Prelude.{ℕ, List, ℤ}

-- Texts, hosts and the body are bytes. A property is its name and its value. Times are milliseconds.
pub record Entry : Type 0 where
  pub topic : List ℕ
  pub queue : ℕ
  pub flag : ℤ
  pub sysflag : ℕ
  pub born : ℕ
  pub born_host : List ℕ
  pub store_host : List ℕ
  pub reconsume : ℤ
  pub prepared : ℕ
  pub body : List ℕ
  pub props : List (List ℕ × List ℕ)
  pub queue_offset : ℕ
  pub offset : ℕ
  pub store : ℕ
