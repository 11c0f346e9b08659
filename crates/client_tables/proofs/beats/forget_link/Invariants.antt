use Rattle.std.proofs.Common.{List, map, take, filter, not}
use Rattle.broker_model.specs.Clients.{HeardRow, is_heard_on}
use Rattle.client_tables.specs.Table.{IsHeard, client_of}
use Rattle.client_tables.proofs.beats.forget_link.Given as goal

abbrev pub invariant-loop-client : goal.invariant-loop-client
invariant-loop-client l = (heard : List HeardRow) → IsHeard l.initial.groups l.last heard
    → IsHeard l.groups l.last (filter (λ row. not (is_heard_on l.link (map client_of (take l.client-index l.clients)) row.client)) heard)
