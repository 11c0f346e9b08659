use Rattle.std.proofs.Common.{[]}
use Rattle.session.proofs.TalkLaws.{calls_hear}
use Rattle.session.proofs.laws.a_talk_hears_the_requests_of_its_stream.Goals as goal

pub returns : goal.returns
returns c = λ calls held h. calls_hear calls (record { at = 0; bytes = [] }) held h
