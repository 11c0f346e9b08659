-- The sink in memory: the room that it has.
use Rattle.std.specs.Prelude.{◌<◌, ◌⊎◌, ℕ, ◌+◌, List, length}
use Rattle.mq_outside.specs.declared.fails.Fails.{Fails}
use Rattle.mq_outside.specs.declared.mem_sink.Limits.{Limits}
use Rattle.mq_outside.specs.Listed.{next_call}

-- one call more, or so many bytes more than these, are past the room
abbrev pub IsPastRoom : Limits → Fails → List ℕ → ℕ → Type 0
IsPastRoom limits fails taken more = (limits.calls < next_call fails) ⊎ (limits.bytes < length taken + more)
