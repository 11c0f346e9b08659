use Rattle.std.proofs.Common.{◌≡◌, [], ℕ, length, slice_get, Some}
use Rattle.level_records.specs.Lines.{Line}
use Rattle.level_records.proofs.lines.empty_lines.Given as goal

-- so many lines, without messages
abbrev pub invariant-loop : goal.invariant-loop
invariant-loop l = (length l.lines.items ≡ l.counter) × ((k : ℕ) (line : Line) → slice_get l.lines.items k ≡ Some line → line.messages ≡ [])
