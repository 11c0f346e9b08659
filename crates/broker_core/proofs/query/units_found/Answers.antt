use Rattle.std.proofs.Common.{◌∙◌}
use Rattle.log_model.specs.Keys.{newest_with_key}
use Rattle.broker_model.specs.State.{seen}
use Rattle.broker_core.proofs.QueryLemmas.{newest_found, found_in, units_taken}
use Rattle.broker_core.proofs.query.units_found.Goals as goal

pub units_at-requires : goal.units_at-requires
units_at-requires c =
    let core = c.args.parts.now in
    let q = c.args.asked.now in
    let s = c.requires.0 in
    let are = c.requires.1 in
    let newest = newest_with_key (seen s).records q.topic q.key q.from q.to q.most in
    (s, newest, are, found_in core s newest (newest_found core s q.topic q.key q.from q.to q.most are), c.as_slice.ensures.value ∙ c.in_ok-places.ensures s are)

pub returns : goal.returns
returns c s are =
    let core = c.args.parts.now in
    let q = c.args.asked.now in
    let newest = newest_with_key (seen s).records q.topic q.key q.from q.to q.most in
    let all = found_in core s newest (newest_found core s q.topic q.key q.from q.to q.most are) in
    let first = c.in_ok-units.ensures s newest are all (c.as_slice.ensures.value ∙ c.in_ok-places.ensures s are) in
    c.reverse.ensures.items ∙ units_taken _ _ _ newest first c.truncate.ensures.items (c.count_taken-count.ensures newest (c.as_slice-2.ensures.value ∙ first))
