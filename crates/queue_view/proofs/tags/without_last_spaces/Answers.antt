use Rattle.std.proofs.Common.{◌∙◌, ap, reverse, lit<, None}
use Rattle.std.proofs.lemmas.Str.Pattern.{strip_suffix_char}
use Rattle.queue_view.proofs.TagLemmas.{past_none_last}
use Rattle.queue_view.proofs.tags.without_last_spaces.Goals as goal

pub returns : goal.returns
returns c =
    let none = strip_suffix_char 32 c.loop-shorter.rest.now None c.in_default.ensures.cases (lit< tt) in
    past_none_last c.loop-shorter.rest.now none ∙ ap reverse c.loop-shorter.invariant.1
