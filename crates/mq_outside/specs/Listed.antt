-- Which call of a device in memory is to fail.
use Rattle.std.specs.Prelude.{ℕ, ◌+◌, ◌-◌, ◌^◌, min}
use Rattle.std.specs.List.{Contains}
use Rattle.mq_outside.specs.declared.fails.Fails.{Fails}

-- the number of the next call, which stays at the greatest u64
abbrev pub next_call : Fails → ℕ
next_call fails = min (fails.asked + 1) (2 ^ 64 - 1)

-- the next call is one that is to fail
abbrev pub IsListed : Fails → Type 0
IsListed fails = Contains fails.calls.items (next_call fails)

-- one call later
abbrev pub after_call : Fails → Fails
after_call fails = record { calls = fails.calls; asked = next_call fails }
