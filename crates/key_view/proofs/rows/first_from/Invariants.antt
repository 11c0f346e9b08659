use Rattle.std.proofs.Common.{◌≡◌, ◌+◌, drop}
use Rattle.std.specs.Prelude.{nat_le}
use Rattle.std.specs.List.{position_or_len}
use Rattle.key_view.specs.declared.row.KeyRow.{KeyRow}
use Rattle.key_view.proofs.rows.first_from.Given as goal

abbrev pub invariant-loop-k : goal.invariant-loop-k
invariant-loop-k l = l.k + position_or_len (λ (row : KeyRow). nat_le l.place row.place) (drop l.k l.rows) ≡ position_or_len (λ (row : KeyRow). nat_le l.place row.place) l.rows
