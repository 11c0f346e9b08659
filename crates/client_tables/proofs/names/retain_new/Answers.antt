use Rattle.std.proofs.Common.{rules, ℕ, List, not}
use Rattle.std.proofs.lemmas.Fn.{filter_same}
use Rattle.broker_model.specs.Clients.{is_among}
use Rattle.client_tables.proofs.names.retain_new.Goals as goal

pub returns : goal.returns
returns c = filter_same _ (λ (name : List ℕ). not (is_among c.args.names.now name)) _ (λ x b f' k. search rules) _ _ c.retain.ensures.filtered
