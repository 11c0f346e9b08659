use Rattle.core_laws.proofs.RemovalExamples.{is_opening, run_to_saved, half_is_counted, renewal_is_counted, delayed_is_counted, removes_it, base_after_removal, left_after_removal, crashes, left_after_crash}
use Rattle.core_laws.proofs.laws.a_removal_happens.Goals as goal

pub returns-clause-opening : goal.returns-clause-opening
returns-clause-opening c = (is_opening, λ i level number r at low high small is. absurd (cc))

pub returns-clause-saved : goal.returns-clause-saved
returns-clause-saved c = run_to_saved

pub returns-clause-half : goal.returns-clause-half
returns-clause-half c = half_is_counted

pub returns-clause-renewal : goal.returns-clause-renewal
returns-clause-renewal c = renewal_is_counted

pub returns-clause-delayed : goal.returns-clause-delayed
returns-clause-delayed c = delayed_is_counted

pub returns-clause-removed : goal.returns-clause-removed
returns-clause-removed c = (removes_it, base_after_removal, left_after_removal)

pub returns-clause-crash : goal.returns-clause-crash
returns-clause-crash c = (crashes, left_after_crash)
