use Rattle.std.proofs.Common.{[], take}
use Rattle.core_log.specs.Loads.{IsLoadedFrom}
use Rattle.log_opening.proofs.loading.add_topics.Given as goal

abbrev pub invariant-loop-row : goal.invariant-loop-row
invariant-loop-row l = IsLoadedFrom [] [] l.initial.loaded → IsLoadedFrom (take l.row-index l.topics) [] l.loaded
