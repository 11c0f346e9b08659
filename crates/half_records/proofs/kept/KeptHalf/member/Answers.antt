use Rattle.std.proofs.Common.{◌≡◌, ◌∙◌, inl, inr, ◌<◌, ℕ, List, length, slice_get, Some, true, sym, ap, subst, arith}
use Rattle.std.specs.Prelude.{nat_eq}
use Rattle.std.proofs.lemmas.Bool.{cases_lt, eq-eqb, ne_eqb}
use Rattle.std.proofs.lemmas.Option.{same_Some}
use Rattle.record_codec.specs.Entry.{Entry}
use Rattle.half_view.proofs.ListLemmas.{find_here, find_none, get_read, get_within}
use Rattle.half_records.specs.Kept.{KeptRow}
use Rattle.half_records.proofs.kept.KeptHalf.member.Goals as goal

pub returns-then-queue_offset-half : goal.returns-then-queue_offset-half
returns-then-queue_offset-half c =
    let family = c.args.self.now.family in
    let x : Entry = c.whole-item.result in
    let items : c.deref-whole-items.result.now ≡ family = c.deref-whole-items.ensures.value ∙ ap (λ (r : KeptRow). r.family) c.self.view_is in
    let at : slice_get family c.loop-whole.whole-index ≡ Some x =
    subst (λ (l : List Entry). slice_get l c.loop-whole.whole-index ≡ Some x) items (get_read c.deref-whole-items.result.now c.loop-whole.whole-index x c.loop-whole-test.true c.whole-item.is) in
    let has : nat_eq x.queue_offset c.args.half ≡ true = eq-eqb x.queue_offset c.args.half (sym c.queue_offset.ensures ∙ c.if-queue_offset-half.true) in
    sym (find_here (λ (r : Entry). nat_eq r.queue_offset c.args.half) family c.loop-whole.whole-index x at has (λ j r less there. c.loop-whole.invariant j r less there))

pub loop-whole-preserved : goal.loop-whole-preserved
loop-whole-preserved c = λ j r less there.
    let family = c.args.self.now.family in
    let k = c.loop-whole.whole-index in
    let x : Entry = c.whole-item.result in
    let items : c.deref-whole-items.result.now ≡ family = c.deref-whole-items.ensures.value ∙ ap (λ (r : KeptRow). r.family) c.self.view_is in
    let at : slice_get family k ≡ Some x = subst (λ (l : List Entry). slice_get l k ≡ Some x) items (get_read c.deref-whole-items.result.now k x c.loop-whole-test.true c.whole-item.is) in
    elim (cases_lt j k) [
      | inl before ↦ c.loop-whole.invariant j r before there
      | inr more ↦
          (let here : j ≡ k = omega (arith, less, more) in
          let one : x ≡ r = same_Some x r (sym at ∙ ap (λ (n : ℕ). slice_get family n) (sym here) ∙ there) in
          ne_eqb r.queue_offset c.args.half (λ same. c.if-queue_offset-half.false (c.queue_offset.ensures ∙ ap (λ (e : Entry). e.queue_offset) one ∙ same)))
    ]

pub returns : goal.returns
returns c =
    let family = c.args.self.now.family in
    let items : c.deref-whole-items.result.now ≡ family = c.deref-whole-items.ensures.value ∙ ap (λ (r : KeptRow). r.family) c.self.view_is in
    sym (find_none (λ (r : Entry). nat_eq r.queue_offset c.args.half) family
    (λ j r there.
    let within : j < length c.deref-whole-items.result.now = subst (λ (l : List Entry). j < length l) (sym items) (get_within family j r there) in
    let past = c.loop-whole-test.false in
    c.loop-whole.invariant j r (omega (arith, within, past)) there))
