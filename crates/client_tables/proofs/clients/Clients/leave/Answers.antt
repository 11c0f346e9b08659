use Rattle.std.proofs.Common.{◌∙◌, ◌==◌, ap, subst, List, not, filter, map}
use Rattle.broker_model.specs.Clients.{ClientRow, is_heard_on}
use Rattle.client_tables.specs.Table.{IsHeard, client_of}
use Rattle.client_tables.proofs.clients.Clients.leave.Goals as goal

pub returns : goal.returns
returns c = λ t has.
    let link = c.args.link in
    record {
      clients = c.drop_clients.ensures ∙ ap (λ (l : List ClientRow). filter (λ row. not (row.link == link)) l) has.clients;
      heard = subst (λ (l : List ClientRow). IsHeard c.forget_link.new.groups c.args.self.now.beats (filter (λ row. not (is_heard_on link l row.client)) t.heard))
          (ap (map client_of) c.as_slice.ensures.value ∙ has.clients) (c.forget_link.ensures t.heard has.heard);
    }
