use Rattle.std.proofs.Common.{◌≡◌, ◌∙◌, ⊎_elim, refl, sym, ap, arith, true, false, ℕ, suc, ◌+◌, ◌-◌, ◌<◌, ◌≤◌, leb, slice_get, Some}
use Rattle.std.proofs.lemmas.Bool.Decides.{leb_tells}
use Rattle.std.proofs.lemmas.Option.{slice_get_within, get_or_from_slice_get}
use Rattle.log_model.specs.Delays.{progress}
use Rattle.delay_view.proofs.GrowthLemmas.{get_there}
use Rattle.table_check.proofs.levels.have_delivered.Goals as goal

pub returns-then-progress-delivered : goal.returns-then-progress-delivered
returns-then-progress-delivered c log are = (
  λ f. cc f,
  λ have.
      let below = c.loop-k-test.true in
      let all = c.progress.ensures.all in
      let l = get_there c.args.levels.now c.loop-k.k (omega (arith, below, all)) in
      let index : (c.loop-k.k + 1) - 1 ≡ c.loop-k.k = omega arith in
      let here : slice_get c.args.levels.now ((c.loop-k.k + 1) - 1) ≡ Some l.0 = ap (slice_get c.args.levels.now) index ∙ l.1 in
      let is = c.progress.ensures.level l.0 here in
      let read = get_or_from_slice_get c.args.delivered.now c.loop-k.k _ 0 (are c.loop-k.k below) in
      absurd (c.if-progress-delivered.true (is ∙ have.each c.loop-k.k l.0 l.1 ∙ sym read)),
)

pub loop-k-preserved : goal.loop-k-preserved
loop-k-preserved c = record {
  all = λ some. c.progress.ensures.all;
  each = λ log are k level within at. ⊎_elim
      (λ (before : (leb (suc k) c.loop-k.k ≡ true) × (suc k ≤ c.loop-k.k)). c.loop-k.invariant.each log are k level before.1 at)
      (λ (last : (leb (suc k) c.loop-k.k ≡ false) × (c.loop-k.k < suc k)).
      let high = last.1 in
      let same : k ≡ c.loop-k.k = omega (arith, high, within) in
      let index : (c.loop-k.k + 1) - 1 ≡ k = omega (arith, same) in
      let here : slice_get c.args.levels.now ((c.loop-k.k + 1) - 1) ≡ Some level = ap (slice_get c.args.levels.now) index ∙ at in
      let is = c.progress.ensures.level level here in
      let read = get_or_from_slice_get c.args.delivered.now c.loop-k.k _ 0 (are c.loop-k.k c.loop-k-test.true) in
      sym is ∙ c.if-progress-delivered.false ∙ read ∙ ap (λ (n : ℕ). progress log (n + 1)) (sym same))
      (leb_tells (suc k) c.loop-k.k);
}

pub returns : goal.returns
returns c log are =
    let ends = c.loop-k-test.false in
    let all = c.loop-k.invariant.all (omega (arith, ends)) in (
      λ yes. record {
        all = all;
        each = λ k l at.
            let within = slice_get_within c.args.levels.now k l at in
            c.loop-k.invariant.each log are k l (omega (arith, within, all, ends)) at;
      },
      λ have. refl,
    )
