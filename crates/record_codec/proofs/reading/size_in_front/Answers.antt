use Rattle.record_codec.proofs.FrontLemmas.{said_by}
use Rattle.record_codec.proofs.reading.size_in_front.Goals as goal

pub returns-clause-enough : goal.returns-clause-enough
returns-clause-enough c = said_by c.args.bytes.now _ c.size_at_front.ensures
