use Rattle.std.proofs.Common.{rules, ◌≡◌, ◌∙◌, ap, sym, pos, Some, codes}
use Rattle.std.specs.Str.Parse.{digits_value}
use Rattle.mq_bytes.specs.Decimal.{decimal_value}
use Rattle.log_model.specs.Drafts.{text_in}
use Rattle.record_copies.proofs.NumberLemmas.{number_read, below_read}
use Rattle.record_copies.proofs.made.real_queue.Goals as goal

pub returns : goal.returns
returns c =
    let text = text_in (codes "REAL_QID") c.args.props.now in
    let low = below_read text 1024 c.requires in
    let same : decimal_value c.text_in.result.now ≡ decimal_value text = ap decimal_value c.text_in.ensures in
    let is : Some c.in-Some.queue ≡ Some (pos (digits_value 10 text)) = sym c.in-Some.is ∙ c.read_decimal.ensures ∙ same ∙ number_read text c.requires.1 low in
    let value : c.in-Some.queue ≡ pos (digits_value 10 text) = cc is in
    search rules
