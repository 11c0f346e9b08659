-- So many fit, and so many bytes are left for the others.
use Rattle.std.proofs.Common.{◌≡◌, List}
use Rattle.record_codec.specs.Entry.{Entry}
use Rattle.broker_core.specs.Queries.{bare_units}
use Rattle.broker_core.proofs.QueryLemmas.{IsCounted}
use Rattle.broker_core.proofs.query.count_within.Given as goal

abbrev pub invariant-loop-k : goal.invariant-loop-k
invariant-loop-k l = (records : List Entry) → l.units ≡ bare_units records → IsCounted l.room records l.k l.left
