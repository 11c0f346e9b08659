use Rattle.std.proofs.Common.{◌≡◌, take, map}
use Rattle.client_tables.proofs.names.groups_of.Given as goal

abbrev pub invariant-loop-consumer : goal.invariant-loop-consumer
invariant-loop-consumer l = l.groups.items ≡ map (λ c. c.group) (take l.consumer-index l.consumers)
