use Rattle.std.proofs.Common.{arith, ◌≡◌, ◌+◌, ◌-◌, sym, subst, take, length, ℕ}
use Rattle.std.proofs.lemmas.Grind.{common_steps}
use Rattle.std.proofs.lemmas.Slice.{take-put_mid}
use Rattle.reply_fields.specs.Ranges.{RisesAtMost, AreAsked}
use Rattle.reply_fields.specs.Slices.{IsBody}
use Rattle.reply_fields.proofs.BodyLemmas.{body_len-add, body_len-within, kept_count-add, kept_count-within, rises-more, asked-more, rises-most, body-more, length-body}
use Rattle.reply_fields.proofs.body.fill.Goals as goal

pub overflow_add-at : goal.overflow_add-at
overflow_add-at g c = omega (arith, body_len-within c.loop-done.done c.stretch_of-count.result.0 c.args.slices.now c.split_at.result.1.now c.split_at.ensures.back)

pub returns-in_err-fill_stretch-clause-reads : goal.returns-in_err-fill_stretch-clause-reads
returns-in_err-fill_stretch-clause-reads g c =
    rises-most _ _ _ _ (kept_count-within c.loop-done.done c.stretch_of-count.result.0 c.args.slices.now c.split_at.result.1.now c.split_at.ensures.back)
    (rises-more _ _ _ _ _ c.loop-done.invariant.reads c.fill_stretch.ensures.reads)

pub loop-done-preserved : goal.loop-done-preserved
loop-done-preserved g c =
    let done = c.loop-done.done in
    let count = c.stretch_of-count.result.0 in
    let rest = c.split_at.result.1.now in
    let within = body_len-within done count c.args.slices.now rest c.split_at.ensures.back in
    let len = c.stretch_of-count.result.1 in
    let filled : c.loop-done.at + len ≡ c.loop-done.at + length c.fill_stretch.new.out = omega (arith, length-body g.R.Reader.gives (take count rest) c.fill_stretch.new.out c.in_ok-fill_stretch.ensures.body) in
    record {
      within = grind (arith, common_steps);
      at = omega (arith, body_len-add done count c.args.slices.now rest c.split_at.ensures.back);
      body = subst (IsBody g.R.Reader.gives (take (done + count) c.args.slices.now)) (sym (take-put_mid c.loop-done.at (c.loop-done.at + len - c.loop-done.at) c.loop-done.out c.fill_stretch.new.out (c.loop-done.at + len) filled (omega (arith, within))))
          (body-more g.R.Reader.gives done count c.args.slices.now rest (take c.loop-done.at c.loop-done.out) c.fill_stretch.new.out c.split_at.ensures.back c.loop-done.invariant.body c.in_ok-fill_stretch.ensures.body);
      same = grind (arith, common_steps);
      reads = subst (λ (n : ℕ). RisesAtMost n (g.R.Reader.reads c.args.reader.now) (g.R.Reader.reads c.fill_stretch.new.reader)) (sym (kept_count-add done count c.args.slices.now rest c.split_at.ensures.back))
          (rises-more _ _ _ _ _ c.loop-done.invariant.reads c.fill_stretch.ensures.reads);
      asked = subst (λ (n : ℕ). AreAsked n (g.R.Reader.reads c.args.reader.now) (g.R.Reader.reads c.fill_stretch.new.reader)) (sym (kept_count-add done count c.args.slices.now rest c.split_at.ensures.back))
          (asked-more _ _ _ _ _ c.loop-done.invariant.reads c.loop-done.invariant.asked c.fill_stretch.ensures.reads c.in_ok-fill_stretch.ensures.asked);
    }
