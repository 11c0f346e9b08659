use Rattle.std.proofs.Common.{◌+◌, sym, ap, ◌∙◌, eq-eqb}
use Rattle.std.proofs.lemmas.Bool.{ne_eqb}
use Rattle.record_codec.specs.Layout.{is_legal, are_hosts_short}
use Rattle.record_codec.proofs.InPlaceLemmas.{part_of, fields_without_topic, fields_without_hosts, fields_by_numbers}
use Rattle.record_codec.proofs.reading.has_fields.Goals as goal

pub returns-then-not-is_legal : goal.returns-then-not-is_legal
returns-then-not-is_legal c =
    let topic = ap is_legal (part_of c.args.bytes.now (89 + c.args.lengths.now.body) c.args.lengths.now.topic) in
    fields_without_topic c.args.bytes.now _ (sym topic ∙ sym c.is_legal.ensures ∙ c.if-not-is_legal.true)

pub returns-then-u32_at-ne0 : goal.returns-then-u32_at-ne0
returns-then-u32_at-ne0 c = fields_without_hosts c.args.bytes.now _ (sym (ap are_hosts_short c.u32_at.ensures) ∙ ne_eqb _ _ c.if-u32_at-ne0.true)

pub returns : goal.returns
returns c =
    let topic = ap is_legal (part_of c.args.bytes.now (89 + c.args.lengths.now.body) c.args.lengths.now.topic) in
    c.are_low.ensures ∙ rw (c.u64_at.ensures, c.u64_at-2.ensures, c.u64_at-3.ensures, c.u64_at-4.ensures, c.u64_at-5.ensures)
    (fields_by_numbers c.args.bytes.now _ (sym topic ∙ sym c.is_legal.ensures ∙ c.if-not-is_legal.false) (sym (ap are_hosts_short c.u32_at.ensures) ∙ eq-eqb _ _ c.if-u32_at-ne0.false))
