use Rattle.std.proofs.Common.{◌≡◌, ap, ◌∙◌}
use Rattle.mq_bytes.specs.Ids.{hex_of, message_id_of}
use Rattle.mq_bytes.proofs.ids.message_id.Goals as goal

pub returns : goal.returns
unfolding message_id_of
returns c =
    let spelled : c.text_of.result.now ≡ message_id_of c.args.host c.args.place = c.text_of.ensures ∙ c.digits_of.ensures.value ∙ ap hex_of c.bytes_of.ensures in
    rw spelled at c.from_str.ensures.ok
