use Rattle.std.proofs.Common.{◌∙◌, [], ◌∷◌, ◌++◌, ℕ, List, ap, append-nil}
use Rattle.std.proofs.lemmas.List.Concat.{flat_map-append}
use Rattle.std.proofs.lemmas.List.Elements.{filter-append}
use Rattle.log_model.specs.Keys.{is_match}
use Rattle.log_replay.specs.Replays.{entries_in, key_entries}
use Rattle.log_replay.proofs.laws.a_record_adds_its_keys.Goals as goal

pub returns : goal.returns
returns c = record {
  entries = λ log r. flat_map-append entries_in log (r ∷ []) ∙ ap (λ (l : List (ℕ × ℕ × ℕ)). key_entries log ++ l) (append-nil (entries_in r));
  matches = λ log r hash from to. filter-append (is_match hash from to) log (r ∷ []);
}
