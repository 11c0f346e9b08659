use Rattle.std.proofs.Common.{[], ◌∷◌, ◌&&◌, ◌||◌}
use Rattle.std.specs.Prelude.{is_none}
use Rattle.std.proofs.lemmas.List.Elements.{filter-append}
use Rattle.record_codec.specs.Entry.{Entry}
use Rattle.log_model.specs.Kinds.{is_half, origin_text}
use Rattle.log_model.specs.Transactions.{is_origin, is_renewal}
use Rattle.log_replay.proofs.laws.a_half_joins_its_family.Goals as goal

pub returns : goal.returns
returns c = record {
  family = λ log r h. filter-append (λ (x : Entry). is_origin h x || is_renewal h x) log (r ∷ []);
  origins = λ log r. filter-append (λ (x : Entry). is_half x && is_none (origin_text x)) log (r ∷ []);
}
