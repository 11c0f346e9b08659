use Rattle.std.proofs.Common.{rules, ◌∙◌, ap, map, refl, ◌==◌, not}
use Rattle.std.proofs.lemmas.Fn.{filter_same}
use Rattle.client_tables.specs.Table.{client_of}
use Rattle.client_tables.specs.declared.client.Client.{Client}
use Rattle.client_tables.proofs.ListLemmas.{map_filter}
use Rattle.client_tables.proofs.clients.drop_clients.Goals as goal

pub returns : goal.returns
returns c =
    ap (map client_of) (filter_same _ (λ (row : Client). not (row.link == c.args.link)) _ (λ x b f' k. search rules) _ _ c.retain.ensures.filtered)
    ∙ map_filter client_of (λ row. not (row.link == c.args.link)) (λ row. not (row.link == c.args.link)) (λ x. refl) c.args.clients.now.items
