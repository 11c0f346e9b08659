use Rattle.std.proofs.Common.{◌≡◌, ◌&&◌, ℕ, List, map, take, filter, not}
use Rattle.broker_model.specs.Clients.{is_among}
use Rattle.client_tables.specs.Kept.{goes, in_groups}
use Rattle.client_tables.proofs.beats.forget_all.Given as goal

abbrev pub invariant-loop-consumer : goal.invariant-loop-consumer
invariant-loop-consumer l = (g t : List ℕ) → in_groups l.groups g t
    ≡ filter (λ said. not (is_among (map (λ c. c.group) (take l.consumer-index l.consumers)) g && goes l.client 0 l.last said)) (in_groups l.initial.groups g t)
