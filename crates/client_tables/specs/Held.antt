-- The clients that are kept, and the table that they equal.
use Rattle.std.specs.Prelude.{◌≡◌, map}
use Rattle.broker_model.specs.Clients.{ClientTable}
use Rattle.client_tables.specs.Table.{client_of, IsHeard}
use Rattle.client_tables.specs.declared.clients.Clients.{Clients}

-- the table has the same clients in the same order, and the same subscriptions of each group and topic, in their order
pub record HasClients (kept : Clients) (table : ClientTable) : Type 0 where
  pub clients : map client_of kept.clients.items ≡ table.clients
  pub heard : IsHeard kept.heard kept.beats table.heard
