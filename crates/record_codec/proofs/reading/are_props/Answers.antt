use Rattle.std.proofs.Common.{sym, ◌∙◌}
use Rattle.record_codec.proofs.InPlaceLemmas.{is_ok-is_utf8, props_by_utf8}
use Rattle.record_codec.proofs.reading.are_props.Goals as goal

pub returns : goal.returns
returns c = props_by_utf8 c.args.text.now _ (sym c.are_written.ensures ∙ c.if-not-are_written.false)
    (λ ps e. sym (c.are_distinct.ensures ps e) ∙ c.if-not-are_distinct.false) (λ ps e. sym (c.has_name.ensures ps e) ∙ c.if-has_name.false)
    (c.is_ok.ensures.value ∙ is_ok-is_utf8 _ _ _ _ c.from_utf8.ensures.cases)
