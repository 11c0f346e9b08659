use Rattle.std.proofs.Common.{◌∙◌, ◌&&◌, ◌||◌, false, ap, sym, subst, List, Bool, not}
use Rattle.std.specs.Str.{bytes_eq}
use Rattle.std.proofs.lemmas.List.Elements.{filter_agree}
use Rattle.broker_model.specs.Clients.{ClientRow, HeardRow, clients_after}
use Rattle.client_tables.specs.Table.{IsHeard}
use Rattle.client_tables.proofs.ListLemmas.{or_false}
use Rattle.client_tables.proofs.HeardLemmas.{forgotten}
use Rattle.client_tables.proofs.clients.Clients.unregister.Goals as goal

pub returns : goal.returns
returns c = λ t has.
    let client = c.args.client.now in
    let consumer = c.args.consumer.now in
    let last = c.args.self.now.beats in
    record {
      clients = c.leave_groups.ensures ∙ ap (λ (l : List ClientRow). clients_after client c.args.producer.now consumer l) has.clients;
      heard = subst (λ (h : List HeardRow). IsHeard c.forget_in.new.groups last h)
          (filter_agree (λ row. not (bytes_eq row.client client && bytes_eq consumer row.group)) (λ row. not (bytes_eq row.client client && (bytes_eq consumer row.group || false)))
          (λ row. ap (λ (b : Bool). not (bytes_eq row.client client && b)) (sym (or_false (bytes_eq consumer row.group)))) t.heard)
          (forgotten c.args.self.now.heard c.forget_in.new.groups client last (λ g. bytes_eq consumer g) c.forget_in.ensures t.heard has.heard);
    }
