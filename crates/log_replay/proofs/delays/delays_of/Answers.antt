use Rattle.std.proofs.Common.{◌≡◌, ◌+◌, ◌-◌, ◌^◌, ◌<◌, ◌≤◌, ◌≢◌, ℕ, get_or, subst, List, length, arith, ap, length-set, ◌∙◌, get_or-set_other, get_or-set_same, below_more}
use Rattle.std.specs.Prelude.{count_by}
use Rattle.record_codec.specs.Entry.{Entry}
use Rattle.log_model.specs.Kinds.{is_text, delay_level}
use Rattle.log_model.specs.Queues.{entries_of}
use Rattle.log_replay.proofs.Delivered.{progressed}
use Rattle.log_replay.proofs.delays.delays_of.Goals as goal

level_low : (levels : List ℕ) (i : ℕ) → ((level : ℕ) → get_or levels (level - 1) 0 ≤ 2 ^ 62) → get_or levels i 0 ≤ 2 ^ 62
level_low levels i low = let same : i + 1 - 1 ≡ i = omega arith in subst (λ (k : ℕ). get_or levels k 0 ≤ 2 ^ 62) same (low (i + 1))

pub overflow_add-delays : goal.overflow_add-delays
overflow_add-delays c = let low = level_low c.args.base.now.levels c.loop-i.i c.requires.levels in omega (arith, low, c.deliveries.ensures.low, c.requires.few)

pub loop-i-preserved : goal.loop-i-preserved
loop-i-preserved c =
    let log = c.args.log.now in
    let here = progressed c.args.base.now log c.loop-i.i c.deliveries.result c.in_ok-digits.digits.items c.in_ok-digits.ensures
    (c.deliveries.ensures.value ∙ ap (λ (ds : List ℕ). count_by (λ (r : Entry). is_text ds (delay_level r)) (entries_of log)) c.deref.ensures.value) in
    let lt : c.loop-i.i < length c.loop-i.delays = omega (arith, c.loop-i.invariant.wide, c.loop-i-test.true) in
    record {
      all = below_more _ _
          (λ k h. let ne : k ≢ c.loop-i.i = omega arith in rw get_or-set_other (c.loop-i.invariant.all k h))
          (rw get_or-set_same here);
      wide = length-set {A = ℕ} c.loop-i.delays c.loop-i.i _ ∙ c.loop-i.invariant.wide;
    }
