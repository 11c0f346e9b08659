use Rattle.std.proofs.Common.{◌≡◌, ◌++◌, ℕ, List, take, filter, not}
use Rattle.std.specs.List.{flat_map}
use Rattle.client_tables.specs.Kept.{goes, in_groups}
use Rattle.client_tables.specs.Rows.{rows_of, said_by}
use Rattle.client_tables.proofs.beats.put_all.Given as goal

abbrev pub invariant-loop-consumer : goal.invariant-loop-consumer
invariant-loop-consumer l = record {
  put : (g t : List ℕ) → in_groups l.groups g t
      ≡ in_groups l.initial.groups g t ++ said_by l.beat g t (flat_map (rows_of l.client) (take l.consumer-index l.consumers));
  rest : (g t : List ℕ) → filter (λ said. not (goes l.client l.beat l.beat said)) (in_groups l.groups g t)
      ≡ filter (λ said. not (goes l.client l.beat l.beat said)) (in_groups l.initial.groups g t);
}
