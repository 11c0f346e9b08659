-- What a ledger in memory has of links that have ended.
use Rattle.std.specs.Prelude.{ℕ, List, map}
use Rattle.mq_peers.specs.Ended.{LinkEnd, end_of}
use Rattle.mq_peers.specs.declared.mem_ends.EndedLink.{EndedLink}

-- the entries of these links, each with its number
abbrev pub ends_of : {L : Type 0} → (L → List ℕ) → (L → List ℕ) → (L → List ℕ) → List (EndedLink L) → List LinkEnd
ends_of peer given taken = map (λ it. end_of peer given taken it.number it.link)
