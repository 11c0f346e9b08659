use Rattle.delay_view.proofs.GrowthLemmas.{other_appended, other_dispatched}
use Rattle.delay_view.proofs.laws.another_record_changes_no_level.Goals as goal

pub returns-clause-appended : goal.returns-clause-appended
returns-clause-appended c log d r levels are few other = other_appended log d r levels are few other

pub returns-clause-dispatched : goal.returns-clause-dispatched
returns-clause-dispatched c log d r levels are at plain = other_dispatched log d r levels are at plain
