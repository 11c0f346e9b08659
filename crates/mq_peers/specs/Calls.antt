-- Which calls of a device in memory are marked.
use Rattle.std.specs.Prelude.{◌≡◌, ◌≤◌, ◌+◌, ◌-◌, ◌^◌, ◌%◌, ℕ, min}
use Rattle.std.specs.List.{Contains}
use Rattle.mq_peers.specs.declared.calls.Calls.{Calls}
use Rattle.mq_peers.specs.declared.calls.Calls.TheVariants.{Never, Always, EveryOther, From, At}
use Rattle.mq_peers.specs.declared.calls.Marked.{Marked}

-- the call with this number is one of these
abbrev pub IsOneOf : Calls → ℕ → Type 0
IsOneOf Never number = ⊥
IsOneOf Always number = Unit
IsOneOf EveryOther number = number % 2 ≡ 1
IsOneOf (From first) number = first ≤ number
IsOneOf (At numbers) number = Contains numbers.items number

-- the number of the next call, which stays at the greatest u64
abbrev pub next_number : Marked → ℕ
next_number marked = min (marked.asked + 1) (2 ^ 64 - 1)

-- the next call is a marked one
abbrev pub IsMarked : Marked → Type 0
IsMarked marked = IsOneOf marked.calls (next_number marked)

-- one call later
abbrev pub after_call : Marked → Marked
after_call marked = record { calls = marked.calls; asked = next_number marked }
