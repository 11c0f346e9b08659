use Rattle.std.proofs.Common.{◌≡◌, ◌∙◌, ◌++◌, ap, rules, w32, to_z, of_z}
use Rattle.reply_fields.specs.Asks.{ask_head, ask_bytes}
use Rattle.reply_fields.specs.Parts.{AskParts}
use Rattle.reply_fields.proofs.AskLemmas.{appends-ask}
use Rattle.reply_fields.proofs.ask.Ask.write.Goals as goal

pub returns-in-Ok-clause-written : goal.returns-in-Ok-clause-written
returns-in-Ok-clause-written c =
    let same : to_z w32 (of_z w32 c.args.opaque) ≡ c.args.opaque = search rules in
    let head = c.in_ok-header.ensures.header ∙ ap (ask_head c.self.inside.view) same in
    appends-ask c.self.inside.view c.args.opaque _ _ _ _ _ _ head c.in_ok-message.ensures c.size_of.ensures.size c.in_ok-write_front.ensures.front c.in-Ok.ensures.ok
    ∙ ap (λ (a : AskParts). c.args.out.now.items ++ ask_bytes c.args.opaque a.view) c.self.view_is
