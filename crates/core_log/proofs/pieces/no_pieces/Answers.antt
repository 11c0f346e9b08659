use Rattle.core_log.proofs.PieceLemmas.{none_covered}
use Rattle.core_log.proofs.pieces.no_pieces.Goals as goal

pub returns-clause-covered : goal.returns-clause-covered
returns-clause-covered c records = none_covered c.new.result records c.new.ensures.end
