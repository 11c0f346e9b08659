use Rattle.std.proofs.Common.{◌≡◌, take, false}
use Rattle.broker_model.specs.Clients.{is_among}
use Rattle.client_tables.proofs.names.is_among.Given as goal

abbrev pub invariant-loop-other : goal.invariant-loop-other
invariant-loop-other l = is_among (take l.other-index l.names) l.name ≡ false
