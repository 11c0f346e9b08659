use Rattle.std.proofs.Common.{◌∙◌, ap, sym}
use Rattle.reply_fields.specs.Parts.{ReplyParts}
use Rattle.gen_run.proofs.SettlingLemmas.{names_half}
use Rattle.gen_run.proofs.settling.half_in.Goals as goal

pub returns-clause-names : goal.returns-clause-names
returns-clause-names c =
    let sent = c.in_ok-sent.sent in
    let place = c.in_ok-place.ensures in
    let offset = c.in_ok-queue_offset.ensures in
    names_half c.args.reply.now sent.host sent.place sent.queue sent.queue_offset c.in_ok-place.place c.in_ok-queue_offset.queue_offset
    (sym (ap (λ (r : ReplyParts). r.ext) c.reply.view_is) ∙ c.in_ok-sent.ensures) place.0 offset.0 offset.1
