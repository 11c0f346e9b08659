use Rattle.std.proofs.Common.{◌≡◌, ℕ, ◌≤◌, length}
use Rattle.serde_json.specs.Data.{no_members}
use Rattle.remoting_frame.specs.Head.{IsInOrder}
use Rattle.remoting_frame.specs.Written.{texts}
use Rattle.remoting_frame.specs.Plain.{members_behind}
use Rattle.remoting_frame.proofs.plain_reader.pairs_behind.Given as goal

abbrev pub invariant-members : goal.invariant-members
invariant-members l =
    (n : ℕ) × (length l.scanner ≤ n) × IsInOrder l.ext
    × (members_behind no_members 125 (length l.initial.scanner) l.initial.scanner ≡ members_behind (texts l.ext) 125 n l.scanner)

abbrev pub decreases-members : goal.decreases-members
decreases-members l = length l.scanner
