-- What a subscription takes, as the code keeps it.
use Rattle.std.specs.Prelude.{ℕ, ◌||◌, Bool, List, [], ◌∷◌, filter, length, nat_lt}
use Rattle.std.specs.List.{list_any}
use Rattle.std.specs.Ordering.{int_eq}
use Rattle.record_codec.specs.declared.unit.Unit.{Unit as QueueUnit}
use Rattle.log_model.specs.Pulls.{trimmed}
use Rattle.queue_view.specs.declared.tags.Tags.{Tags}

-- the unit is taken: all are, or its tag code is among the hashes
abbrev pub tags_take : Tags → QueueUnit → Bool
tags_take tags unit = tags.all || list_any (λ code. int_eq code unit.tag) tags.codes.items

-- the word between two bars, none where there are only spaces
abbrev pub word_in : List ℕ → List (List ℕ)
word_in piece = filter (λ word. nat_lt 0 (length word)) (trimmed piece ∷ [])
