-- Delayed messages: how far each level was delivered, and which is due.
use Rattle.std.specs.Prelude.{ℕ, ◌+◌, ◌-◌, nat_le, List, [], ◌∷◌, count_by, Bool, false, Option, Some, None, if◌then◌else◌}
use Rattle.mq_bytes.specs.Delays.{level_delay}
use Rattle.record_codec.specs.Entry.{Entry}
use Rattle.log_model.specs.Admissible.{level_topic}
use Rattle.log_model.specs.Kinds.{is_delivery}
use Rattle.log_model.specs.Numbered.{Log, below, item_at}

-- how many messages of the level were delivered
abbrev pub progress : Log → ℕ → ℕ
progress log level = log.base.levels level + count_by (is_delivery level) log.records

-- the next message of the level among the first d records
abbrev pub next_delayed : Log → ℕ → ℕ → Option Entry
next_delayed log d level = item_at (below log d) level_topic (level - 1) (progress log level)

-- it is there, and its time has come
abbrev pub is_ripe : ℕ → ℕ → Option Entry → Bool
is_ripe now level None = false
is_ripe now level (Some r) = nat_le (r.store + level_delay level) now

abbrev pub is_due : Log → ℕ → ℕ → ℕ → Bool
is_due log d now level = is_ripe now level (next_delayed log d level)

abbrev pub levels : List ℕ
levels = 1 ∷ 2 ∷ 3 ∷ 4 ∷ 5 ∷ 6 ∷ 7 ∷ 8 ∷ 9 ∷ 10 ∷ 11 ∷ 12 ∷ 13 ∷ 14 ∷ 15 ∷ 16 ∷ 17 ∷ 18 ∷ []

-- this level where its message's time has come, else the answer of the others
abbrev pub due_here : ℕ → ℕ → Option Entry → Option (ℕ × Entry) → Option (ℕ × Entry)
due_here now level None more = more
due_here now level (Some r) more = if nat_le (r.store + level_delay level) now then Some (level, r) else more

-- the lowest of these levels that is due, with its next message
abbrev pub due_among : Log → ℕ → ℕ → List ℕ → Option (ℕ × Entry)
due_among log d now [] = None
due_among log d now (level ∷ more) = due_here now level (next_delayed log d level) (due_among log d now more)

abbrev pub due_delayed : Log → ℕ → ℕ → Option (ℕ × Entry)
due_delayed log d now = due_among log d now levels
