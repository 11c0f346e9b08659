use Rattle.std.proofs.Common.{◌==◌, sym, subst, List, not, filter, map, take}
use Rattle.std.proofs.lemmas.List.{take_all}
use Rattle.broker_model.specs.Clients.{HeardRow, is_heard_on}
use Rattle.client_tables.specs.Table.{IsHeard, client_of}
use Rattle.client_tables.specs.declared.client.Client.{Client}
use Rattle.client_tables.proofs.HeardLemmas.{forgotten, off_link}
use Rattle.client_tables.proofs.ListLemmas.{filter_all}
use Rattle.client_tables.proofs.beats.forget_link.Goals as goal

pub loop-client-init : goal.loop-client-init
loop-client-init c = λ heard is. subst (λ (h : List HeardRow). IsHeard c.args.groups.now c.args.last h) (sym (filter_all heard)) is

pub loop-client-preserved : goal.loop-client-preserved
loop-client-preserved c = λ heard is.
    let i = c.loop-client.client-index in
    let clients = c.args.clients.now in
    let item = c.client-item.result in
    let link = c.args.link in
    let last = c.args.last in
    let so_far = filter (λ row. not (is_heard_on link (map client_of (take i clients)) row.client)) heard in
    subst (λ (h : List HeardRow). IsHeard c.forget_if.new.groups last h) (off_link link clients i item heard c.loop-client-test.true c.client-item.is)
    (forgotten c.loop-client.groups c.forget_if.new.groups item.client last (λ g. item.link == link) c.forget_if.ensures so_far (c.loop-client.invariant heard is))

pub returns : goal.returns
returns c = λ heard is.
    subst (λ (l : List Client). IsHeard c.loop-client.groups c.args.last (filter (λ row. not (is_heard_on c.args.link (map client_of l) row.client)) heard))
    (take_all c.loop-client.client-index c.args.clients.now c.loop-client-test.false) (c.loop-client.invariant heard is)
