use Rattle.std.proofs.Common.{rules, ℕ, List, not}
use Rattle.std.specs.Str.{bytes_eq}
use Rattle.std.proofs.lemmas.Fn.{filter_same}
use Rattle.client_tables.proofs.names.drop_name.Goals as goal

pub returns : goal.returns
returns c = filter_same _ (λ (other : List ℕ). not (bytes_eq other c.args.name.now)) _ (λ x b f' k. search rules) _ _ c.retain.ensures.filtered
