use Rattle.core_laws.proofs.Examples.{is_opening, hi_is_acknowledged, run_to_dispatch, pulls_it, record_is_pulled, run_from_pull, run_to_saving, crashes, record_is_kept, offset_is_kept, cut_is_opening, saved_offset_is_cut}
use Rattle.core_laws.proofs.laws.a_run_happens.Goals as goal

pub returns-clause-opening : goal.returns-clause-opening
returns-clause-opening c = is_opening

pub returns-clause-acknowledged : goal.returns-clause-acknowledged
returns-clause-acknowledged c = hi_is_acknowledged

pub returns-clause-dispatched : goal.returns-clause-dispatched
returns-clause-dispatched c = run_to_dispatch

pub returns-clause-pulled : goal.returns-clause-pulled
returns-clause-pulled c = pulls_it

pub returns-clause-found : goal.returns-clause-found
returns-clause-found c = record_is_pulled

pub returns-clause-later : goal.returns-clause-later
returns-clause-later c = run_from_pull

pub returns-clause-saved : goal.returns-clause-saved
returns-clause-saved c = run_to_saving

pub returns-clause-crash : goal.returns-clause-crash
returns-clause-crash c = crashes

pub returns-clause-kept : goal.returns-clause-kept
returns-clause-kept c = record_is_kept

pub returns-clause-offset : goal.returns-clause-offset
returns-clause-offset c = offset_is_kept

pub returns-clause-cut : goal.returns-clause-cut
returns-clause-cut c = (cut_is_opening, saved_offset_is_cut)
