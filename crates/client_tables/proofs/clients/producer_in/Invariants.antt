use Rattle.std.proofs.Common.{◌≡◌, find, map, take, None}
use Rattle.broker_model.specs.Clients.{is_among}
use Rattle.client_tables.specs.Table.{client_of}
use Rattle.client_tables.proofs.clients.producer_in.Given as goal

abbrev pub invariant-loop-row : goal.invariant-loop-row
invariant-loop-row l = find (λ row. is_among row.producers l.group) (map client_of (take l.row-index l.clients)) ≡ None
