use Rattle.std.proofs.Common.{◌≡◌, ◌+◌, drop, option_map}
use Rattle.client_tables.specs.Places.{place_in}
use Rattle.client_tables.proofs.clients.place_of.Given as goal

abbrev pub invariant-loop-at : goal.invariant-loop-at
invariant-loop-at l = option_map (λ k. l.at + k) (place_in l.client (drop l.at l.clients)) ≡ place_in l.client l.clients
