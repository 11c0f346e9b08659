use Rattle.session.specs.Readers.{reads_of}
use Rattle.session.proofs.SessionLaws.{replies_in_order}
use Rattle.session.proofs.laws.replies_leave_in_the_order_of_the_requests.Goals as goal

pub returns : goal.returns
returns g c = λ old calls new is h. replies_in_order (reads_of g.R.Reader.gives g.R.Reader.faults) old calls new is h
