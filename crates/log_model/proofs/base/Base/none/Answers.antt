use Rattle.std.proofs.Common.{◌≡◌, ℕ, zero, suc, replicate, refl}
use Rattle.std.specs.Prelude.{slice_index, map, ◌-◌}
use Rattle.log_model.specs.Told.{with_counts, queue_in}
use Rattle.log_model.proofs.base.Base.none.Goals as goal

zeros : (n v : ℕ) → slice_index (replicate n 0) v ≡ 0
zeros zero v = refl
zeros (suc n) zero = refl
zeros (suc n) (suc v) = zeros n v

pub returns : goal.returns
returns c = λ i. record {
  place = 0;
  records = 0;
  queues = λ topic queue. with_counts (c.new.ensures.items i) (λ t q. 0) topic queue;
  levels = λ level. zeros 18 (level - 1) i;
  named = map queue_in (c.new.ensures.items i);
}
