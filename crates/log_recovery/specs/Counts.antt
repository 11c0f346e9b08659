-- How many records each queue has: by topic, and in a topic by the queue's number.
use Rattle.std.specs.Prelude.{ℕ, List, [], String, slice_index}
use Rattle.std.specs.Option.{unwrap_or}
use Rattle.std.specs.BTreeMap.{BTreeMap, get_by_text}

-- the count of this queue of the topic, 0 where there is none
abbrev pub count_in : {A : Type 0} → BTreeMap (String A) (List ℕ) → List ℕ → ℕ → ℕ
count_in counts topic queue = slice_index (unwrap_or (get_by_text counts topic) []) queue
