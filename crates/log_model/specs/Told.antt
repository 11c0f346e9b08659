-- What a base says.
use Rattle.std.specs.Prelude.{ℕ, ◌-◌, map, ◌==◌, ◌&&◌, List, [], ◌∷◌, String, string_bytes, slice_index, if◌then◌else◌}
use Rattle.std.specs.Str.{bytes_eq}
use Rattle.log_model.specs.declared.base.Base.{Base as Told}
use Rattle.log_model.specs.Bases.{Base}

-- with this count for this queue of the topic
abbrev pub with_count : {A : Type 0} → String A × ℕ × ℕ → (List ℕ → ℕ → ℕ) → List ℕ → ℕ → ℕ
with_count entry counts topic queue = if bytes_eq (string_bytes entry.0) topic && (entry.1 == queue) then entry.2 else counts topic queue

-- with these counts, one after another
abbrev pub with_counts : {A : Type 0} → List (String A × ℕ × ℕ) → (List ℕ → ℕ → ℕ) → List ℕ → ℕ → ℕ
with_counts [] counts = counts
with_counts (entry ∷ entries) counts = with_counts entries (with_count entry counts)

-- the counts of these entries, 0 where there is none
abbrev pub counts_in : {A : Type 0} → List (String A × ℕ × ℕ) → List ℕ → ℕ → ℕ
counts_in entries = with_counts entries (λ topic queue. 0)

-- the queue of an entry
abbrev pub queue_in : {A : Type 0} → String A × ℕ × ℕ → List ℕ × ℕ
queue_in entry = (string_bytes entry.0, entry.1)

-- the base of a log by what was told of it
abbrev pub base_of : Told → Base
base_of told = record {
  place = told.place;
  records = told.records;
  queues = counts_in told.queues.items;
  levels = λ level. slice_index told.levels (level - 1);
  named = map queue_in told.queues.items;
}
