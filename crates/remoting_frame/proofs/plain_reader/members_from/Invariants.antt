use Rattle.std.proofs.Common.{◌≡◌, ℕ, ◌≤◌, length}
use Rattle.serde_json.specs.Data.{Members, no_members}
use Rattle.remoting_frame.specs.Plain.{members_behind, Says}
use Rattle.remoting_frame.proofs.plain_reader.members_from.Given as goal

abbrev pub invariant-members : goal.invariant-members
invariant-members l =
    (n : ℕ) × (length l.scanner ≤ n) × (ms : Members) × Says l.found ms
    × (members_behind no_members 126 (length l.initial.scanner) l.initial.scanner ≡ members_behind ms 126 n l.scanner)

abbrev pub decreases-members : goal.decreases-members
decreases-members l = length l.scanner
