use Rattle.log_model.proofs.FirstFits.{place_behind, place_starts, place_fits, place_first}
use Rattle.log_model.proofs.laws.a_place_is_the_first_that_fits.Goals as goal

pub returns-clause-behind : goal.returns-clause-behind
returns-clause-behind c = place_behind

pub returns-clause-either : goal.returns-clause-either
returns-clause-either c = place_starts

pub returns-clause-fits : goal.returns-clause-fits
returns-clause-fits c = place_fits

pub returns-clause-first : goal.returns-clause-first
returns-clause-first c = place_first
