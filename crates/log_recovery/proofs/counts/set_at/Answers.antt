use Rattle.std.proofs.Common.{◌≡◌, ◌∙◌, slice_index, length, arith, ap}
use Rattle.log_recovery.proofs.CountLemmas.{index_push}
use Rattle.log_recovery.proofs.counts.set_at.Goals as goal

pub returns-clause-set : goal.returns-clause-set
returns-clause-set c = λ other.
    let long : length c.loop.counts.items ≡ c.args.at = omega (arith, c.loop.counts.ok.0) in
    ap (λ (l : _). slice_index l other) c.in_ok-push-2.ensures.items ∙ index_push c.loop.counts.items c.args.count c.args.at other long _ (c.loop.invariant.0 other)
