use Rattle.std.proofs.Common.{rules, not}
use Rattle.std.proofs.lemmas.Fn.{filter_same}
use Rattle.client_tables.specs.Kept.{goes}
use Rattle.client_tables.specs.declared.heard.Said.{Said}
use Rattle.client_tables.proofs.heard.Heard.forget.Goals as goal

pub returns : goal.returns
returns c = filter_same _ (λ (said : Said). not (goes c.args.client.now c.args.first c.args.last said)) _ (λ x b f' k. search rules) _ _ c.retain.ensures.filtered
