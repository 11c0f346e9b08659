-- Which table a queue of a topic has, as it is looked up.
use Rattle.std.specs.Prelude.{◌≡◌, ℕ, zero, suc, List, [], String, slice_index, Option, Some, None}
use Rattle.std.specs.Option.{unwrap_or}
use Rattle.std.specs.HashMap.{HashMap, get_by_text}
use Rattle.queue_view.specs.Tables.{Table, number_of}

-- what is kept for a queue: one more than the number of its table, and 0 where it has none
abbrev pub kept_for : {A S : Type 0} → HashMap (String A) (List ℕ) S → List ℕ → ℕ → ℕ
kept_for numbers topic queue = slice_index (unwrap_or (get_by_text numbers topic) []) queue

-- the number that is kept
abbrev pub number_kept : ℕ → Option ℕ
number_kept zero = None
number_kept (suc number) = Some number

-- each queue is looked up as the table that it has
abbrev pub AreNumbered : {A S : Type 0} → List Table → HashMap (String A) (List ℕ) S → Type 0
AreNumbered tables numbers = (topic : List ℕ) (queue : ℕ) → number_kept (kept_for numbers topic queue) ≡ number_of tables topic queue
