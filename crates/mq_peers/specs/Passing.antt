-- What passes at a read and at a write of a link, and at a door.
use Rattle.std.specs.Prelude.{ℕ, List, [], take, Result, Ok, Err, Option, Some, None}
use Rattle.mq_peers.specs.declared.incoming.Incoming.{Incoming}
use Rattle.mq_peers.specs.declared.incoming.Incoming.TheVariants.{NotNow, Bytes, End}

-- the fact for the number of bytes, where bytes came
abbrev pub IfBytes : {E : Type 0} → Result Incoming E → (ℕ → Type 0) → Type 0
IfBytes (Ok NotNow) P = Unit
IfBytes (Ok (Bytes n)) P = P n
IfBytes (Ok End) P = Unit
IfBytes (Err _) P = Unit

-- the bytes that a read brought into `out`
abbrev pub bytes_read : {E : Type 0} → Result Incoming E → List ℕ → List ℕ
bytes_read (Ok NotNow) out = []
bytes_read (Ok (Bytes n)) out = take n out
bytes_read (Ok End) out = []
bytes_read (Err _) out = []

-- the bytes that a write took of the piece
abbrev pub bytes_taken : {E : Type 0} → Result (Option ℕ) E → List ℕ → List ℕ
bytes_taken (Ok None) piece = []
bytes_taken (Ok (Some n)) piece = take n piece
bytes_taken (Err _) piece = []

-- how many links came in
abbrev pub links_in : {L E : Type 0} → Result (Option L) E → ℕ
links_in (Ok None) = 0
links_in (Ok (Some link)) = 1
links_in (Err _) = 0
