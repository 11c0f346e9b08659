use Rattle.std.proofs.Common.{sym, subst}
use Rattle.record_codec.specs.declared.draft.Draft.{Draft}
use Rattle.reply_fields.specs.Asks.{IsAsked}
use Rattle.broker_core.proofs.CheckBackLemmas.{asked}
use Rattle.broker_core.proofs.check_back.ask_to.Goals as goal

pub invariant_of-result : goal.invariant_of-result
invariant_of-result c =
    let it = c.requires in
    subst (λ (d : Draft). IsAsked (record { draft = d; place = c.args.place.now; size = c.args.size })) (sym c.in_ok-copy_of.ensures)
    (asked it.0 c.args.draft.now c.args.place.now c.args.size it.1)
