-- What clients say of themselves.
use Rattle.std.specs.Prelude.{ℕ, ◌<◌, ◌≤◌, List, length, All}
use Rattle.request_fields.specs.declared.clients.Consumer.{Consumer}

-- 1 to 120 bytes
abbrev pub IsName : List ℕ → Type 0
IsName name = (0 < length name) × (length name ≤ 120)

-- a client and the groups that it is in
pub record Beat : Type 0 where
  pub client : List ℕ
  pub producers : List (List ℕ)
  pub consumers : List Consumer

-- each name has 1 to 120 bytes
pub record IsBeat (b : Beat) : Type 0 where
  pub client : IsName b.client
  pub producers : All IsName b.producers
  pub consumers : All (λ c. IsName c.group) b.consumers
