use Rattle.std.proofs.Common.{◌∙◌, sym}
use Rattle.std.proofs.lemmas.Slice.Eq.{bytes_eq-Decides}
use Rattle.program_run.proofs.Picking.{first_asks}
use Rattle.program_run.proofs.call.asks_links.Goals as goal

pub returns-in-Some-clause-yes : goal.returns-in-Some-clause-yes
returns-in-Some-clause-yes c = λ yes.
    first_asks c.args.words.now c.in-Some.word.now c.in-Some.ensures.value ((bytes_eq-Decides _ _).0 (sym c.eq.ensures ∙ yes))
