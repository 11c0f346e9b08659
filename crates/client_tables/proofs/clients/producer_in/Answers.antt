use Rattle.std.proofs.Common.{◌∙◌, ap, sym, ℕ, List, Option}
use Rattle.std.specs.Option.{option_map}
use Rattle.broker_model.specs.Clients.{ClientRow, is_among}
use Rattle.client_tables.proofs.ClientLemmas.{first_at, none_more}
use Rattle.client_tables.proofs.clients.producer_in.Goals as goal

pub returns-then-is_among : goal.returns-then-is_among
returns-then-is_among c =
    let group = c.args.group.now in
    let row = c.row-item.result in
    let is = c.is_among.ensures ∙ ap (λ (l : List (List ℕ)). is_among l group) c.as_slice.ensures.value in
    sym (ap (λ (o : Option ClientRow). option_map (λ r. r.link) o)
    (first_at (λ r. is_among r.producers group) c.args.clients.now c.loop-row.row-index row c.loop-row-test.true c.row-item.is c.loop-row.invariant (sym is ∙ c.if-is_among.true)))

pub loop-row-preserved : goal.loop-row-preserved
loop-row-preserved c =
    let group = c.args.group.now in
    let row = c.row-item.result in
    let is = c.is_among.ensures ∙ ap (λ (l : List (List ℕ)). is_among l group) c.as_slice.ensures.value in
    none_more (λ r. is_among r.producers group) c.args.clients.now c.loop-row.row-index row c.loop-row-test.true c.row-item.is c.loop-row.invariant (sym is ∙ c.if-is_among.false)
