use Rattle.std.proofs.Common.{◌≡◌, ◌++◌, ℕ, List, map, take, filter, not}
use Rattle.client_tables.specs.Kept.{goes, in_groups}
use Rattle.client_tables.specs.Rows.{said_by}
use Rattle.client_tables.proofs.BeatLemmas.{row_said}
use Rattle.client_tables.proofs.beats.put_group.Given as goal

abbrev pub invariant-loop-subscription : goal.invariant-loop-subscription
invariant-loop-subscription l = record {
  put : (g t : List ℕ) → in_groups l.groups g t
      ≡ in_groups l.initial.groups g t ++ said_by l.beat g t (map (row_said l.client l.consumer.group) (take l.subscription-index l.consumer.subscriptions));
  rest : (g t : List ℕ) → filter (λ said. not (goes l.client l.beat l.beat said)) (in_groups l.groups g t)
      ≡ filter (λ said. not (goes l.client l.beat l.beat said)) (in_groups l.initial.groups g t);
}
