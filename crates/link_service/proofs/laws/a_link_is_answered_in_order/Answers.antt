use Rattle.session.proofs.SessionLaws.{replies_in_order}
use Rattle.link_service.specs.Transcripts.{counted_to}
use Rattle.link_service.proofs.Transcribing.{transcribed}
use Rattle.link_service.proofs.laws.a_link_is_answered_in_order.Goals as goal

pub returns : goal.returns
returns g c failures number host first made asks reads now fresh went =
    let reader = counted_to g.R.Reader.gives failures in
    transcribed g.L.Link.tells reader number host first made asks reads now (replies_in_order reader) fresh went
