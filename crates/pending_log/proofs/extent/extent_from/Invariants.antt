use Rattle.std.proofs.Common.{◌≡◌, ◌/◌, ◌-◌, ◌≤◌, ◌==◌, sum_by, take, drop}
use Rattle.std.specs.List.{prefix_len}
use Rattle.pending_log.specs.declared.rows.Row.{Row}
use Rattle.pending_log.proofs.extent.extent_from.Given as goal

-- the rows so far lie in the segment, and their bytes are counted
abbrev pub invariant-loop-i : goal.invariant-loop-i
invariant-loop-i l =
    (l.i - l.from ≤ prefix_len (λ (r : Row). r.place / l.segment == l.first) (drop l.from l.rows.items))
    × (l.bytes ≡ sum_by (λ (r : Row). r.size) (take (l.i - l.from) (drop l.from l.rows.items)))
