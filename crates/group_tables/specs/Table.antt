-- What is kept for a queue of a group, as it is looked up.
use Rattle.std.specs.Prelude.{ℕ, nat_eq, List, String, Option, option_and_then}
use Rattle.std.specs.HashMap.{HashMap, get, get_by_text}

-- the value of this queue, of those of a topic
abbrev pub in_queues : {V S : Type 0} → HashMap ℕ V S → ℕ → Option V
in_queues queues queue = get nat_eq queues queue

-- the value of this queue, of those of a group
abbrev pub in_topics : {A V S T : Type 0} → HashMap (String A) (HashMap ℕ V S) T → List ℕ → ℕ → Option V
in_topics topics topic queue = option_and_then (λ queues. in_queues queues queue) (get_by_text topics topic)

-- the value of this queue of the group
abbrev pub in_groups : {A V S T U : Type 0} → HashMap (String A) (HashMap (String A) (HashMap ℕ V S) T) U → List ℕ → List ℕ → ℕ → Option V
in_groups groups group topic queue = option_and_then (λ topics. in_topics topics topic queue) (get_by_text groups group)
