use Rattle.std.proofs.Common.{◌≡◌, ◌∙◌, ap, Some}
use Rattle.std.specs.List.{slice_get}
use Rattle.std.proofs.lemmas.Result.{IfOk-weaker}
use Rattle.broker_model.specs.Clients.{heard_again}
use Rattle.client_tables.specs.Table.{client_of}
use Rattle.client_tables.specs.declared.client.Client.{Client}
use Rattle.client_tables.proofs.ListLemmas.{at_index}
use Rattle.client_tables.proofs.clients.again_at.Goals as goal

pub returns : goal.returns
returns c =
    let x = c.index-clients-at.result in
    IfOk-weaker c.again.result (λ again. client_of again ≡ heard_again c.args.link c.args.beat.now (client_of x))
    (λ again. (o : Client) → slice_get c.args.clients.now c.args.at ≡ Some o → client_of again ≡ heard_again c.args.link c.args.beat.now (client_of o))
    (λ again is o at. is ∙ ap (λ (y : Client). heard_again c.args.link c.args.beat.now (client_of y)) (at_index c.args.clients.now c.args.at x o c.requires c.index-clients-at.is at)) c.again.ensures
