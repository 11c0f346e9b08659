use Rattle.std.proofs.Common.{◌∙◌, sym, lit<, None}
use Rattle.std.proofs.lemmas.Str.Pattern.{strip_prefix_char}
use Rattle.queue_view.proofs.TagLemmas.{past_none}
use Rattle.queue_view.proofs.tags.without_first_spaces.Goals as goal

pub returns : goal.returns
returns c =
    let none = strip_prefix_char 32 c.loop-shorter.rest.now None c.in_default.ensures.cases (lit< tt) in
    sym (past_none c.loop-shorter.rest.now none) ∙ c.loop-shorter.invariant.1
