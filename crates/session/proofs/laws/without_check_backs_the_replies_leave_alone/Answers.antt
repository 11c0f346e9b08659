use Rattle.std.proofs.Common.{◌∙◌}
use Rattle.session.specs.Readers.{reads_of}
use Rattle.session.specs.Sessions.{read_replies_of}
use Rattle.session.proofs.SessionParts.{replies_alone}
use Rattle.session.proofs.laws.without_check_backs_the_replies_leave_alone.Goals as goal

pub returns : goal.returns
returns g c = λ old calls new none is. replies_alone (reads_of g.R.Reader.gives g.R.Reader.faults) 0 is.pieces _ (read_replies_of calls) _ (is.asked ∙ none) is.replies
