-- What a status names, by the table of statuses.
use Rattle.std.specs.Prelude.{◌≡◌, ◌≢◌, []}
use Rattle.store_open.specs.declared.status.Status.{Status}

-- the status has a place only with the codes 1, 2 and 8, and a name only with 6, 8 and 10
pub record FitsTable (status : Status) : Type 0 where
  pub no_place : status.code ≢ 1 → status.code ≢ 2 → status.code ≢ 8 → status.place ≡ 0
  pub no_name : status.code ≢ 6 → status.code ≢ 8 → status.code ≢ 10 → status.name ≡ []
