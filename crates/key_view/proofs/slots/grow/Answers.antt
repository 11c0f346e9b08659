use Rattle.std.proofs.Common.{◌<◌, length, rules}
use Rattle.key_view.proofs.ChainLemmas.{newest_in_either}
use Rattle.key_view.proofs.slots.grow.Goals as goal

pub returns-then-rows-len-clause-same : goal.returns-then-rows-len-clause-same
returns-then-rows-len-clause-same c hash =
    let some : 0 < length c.args.slots.now.items = search rules in
    newest_in_either c.double.result c.args.slots.now.items c.double.new.slots.items hash some c.double.ensures.twice c.double.ensures.same
