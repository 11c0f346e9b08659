use Rattle.std.proofs.Common.{◌∙◌, ap, List, map, find}
use Rattle.std.specs.Option.{option_map}
use Rattle.broker_model.specs.Clients.{ClientRow, is_among}
use Rattle.client_tables.specs.Table.{client_of}
use Rattle.client_tables.proofs.clients.Clients.producer.Goals as goal

pub returns : goal.returns
returns c = λ t has.
    c.producer_in.ensures
    ∙ ap (λ (l : List ClientRow). option_map (λ row. row.link) (find (λ row. is_among row.producers c.args.group.now) l)) (ap (map client_of) c.as_slice.ensures.value ∙ has.clients)
