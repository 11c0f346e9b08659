use Rattle.delay_view.proofs.CutLemmas.{cut_levels}
use Rattle.delay_view.proofs.laws.levels_that_are_cut_are_those_of_the_rest.Goals as goal

pub returns : goal.returns
returns c log d n later levels left are cut seen size is = cut_levels log d n later levels left are cut seen size is
