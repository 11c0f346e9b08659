use Rattle.std.proofs.Common.{◌≡◌, ◌∙◌, refl, sym, ap, subst, arith, ℕ, suc, ◌+◌, ◌-◌, ◌/◌, ◌≤◌, ◌==◌, Bool, true, false, take, drop, sum_by, slice_get, Some}
use Rattle.std.proofs.lemmas.Bool.{eq-eqb}
use Rattle.std.proofs.lemmas.List.{length-drop}
use Rattle.std.specs.List.{prefix_len}
use Rattle.pending_log.specs.declared.rows.Row.{Row}
use Rattle.pending_log.proofs.Lists.{drop_get}
use Rattle.pending_log.proofs.ExtentLemmas.{counted, prefix_ends, prefix_within, is_extent, not_in}
use Rattle.pending_log.proofs.extent.extent_from.Goals as goal

pub loop-i-preserved : goal.loop-i-preserved
loop-i-preserved c =
    let rows = c.args.rows.now.items in
    let n = c.loop-i.i - c.args.from in
    let p : Row → Bool = λ r. r.place / c.args.segment == c.at.result.place / c.from.result in
    let at : slice_get (drop c.args.from rows) n ≡ Some c.at-row.result =
    drop_get rows c.args.from n c.at-row.result (subst (λ k. slice_get rows k ≡ Some c.at-row.result) (let low = c.loop-i.auto.i in let e : c.loop-i.i ≡ c.args.from + (c.loop-i.i - c.args.from) = omega (arith, low) in e) c.at-row.ensures) in
    let passes : p c.at-row.result ≡ true = eq-eqb (c.at-row.result.place / c.args.segment) (c.at.result.place / c.from.result) (ap (λ m. c.at-row.result.place / m) (sym c.from-in-loop-i.ensures) ∙ c.if-row-from.false) in
    let next = counted p (drop c.args.from rows) n c.at-row.result c.loop-i.bytes c.loop-i.invariant at passes in
    let P : ℕ → Type 0 = λ m. (m ≤ prefix_len p (drop c.args.from rows)) × (c.loop-i.bytes + c.at-row.result.size ≡ sum_by (λ (r : Row). r.size) (take m (drop c.args.from rows))) in
    subst P (let low = c.loop-i.auto.i in let e : suc (c.loop-i.i - c.args.from) ≡ (c.loop-i.i + 1) - c.args.from = omega (arith, low) in e) next

pub returns-then-row-from : goal.returns-then-row-from
returns-then-row-from c =
    let rows = c.args.rows.now.items in
    let n = c.loop-i.i - c.args.from in
    let p : Row → Bool = λ r. r.place / c.args.segment == c.at.result.place / c.from.result in
    let at : slice_get (drop c.args.from rows) n ≡ Some c.at-row.result =
    drop_get rows c.args.from n c.at-row.result (subst (λ k. slice_get rows k ≡ Some c.at-row.result) (let low = c.loop-i.auto.i in let e : c.loop-i.i ≡ c.args.from + (c.loop-i.i - c.args.from) = omega (arith, low) in e) c.at-row.ensures) in
    let fails : p c.at-row.result ≡ false = not_in (c.at-row.result.place / c.args.segment) (c.at.result.place / c.from.result) (λ e. c.if-row-from.true (ap (λ m. c.at-row.result.place / m) c.from-in-loop-i.ensures ∙ e)) in
    let first = drop_get rows c.args.from 0 c.at.result (subst (λ k. slice_get rows k ≡ Some c.at.result) (let e : c.args.from ≡ c.args.from + 0 = omega arith in e) c.at.ensures) in
    is_extent c.args.segment rows c.args.from c.at.result c.from.result c.from.ensures n c.loop-i.bytes _ first (prefix_ends p (drop c.args.from rows) n c.at-row.result c.loop-i.invariant.0 at fails) c.loop-i.invariant.1 refl refl

pub returns : goal.returns
returns c =
    let rows = c.args.rows.now.items in
    let n = c.loop-i.i - c.args.from in
    let p : Row → Bool = λ r. r.place / c.args.segment == c.at.result.place / c.from.result in
    let first = drop_get rows c.args.from 0 c.at.result (subst (λ k. slice_get rows k ≡ Some c.at.result) (let e : c.args.from ≡ c.args.from + 0 = omega arith in e) c.at.ensures) in
    let few = prefix_within p (drop c.args.from rows) in
    let long = length-drop c.args.from rows in
    let at_end = c.loop-i-test.false in
    let low = c.loop-i.invariant.0 in
    let within = c.requires.within in
    let all : prefix_len p (drop c.args.from rows) ≡ n = omega (arith, few, long, at_end, low, c.len-i-end.ensures) in
    let count : c.len.result - c.args.from ≡ n = omega (arith, few, long, at_end, low, c.len.ensures, c.len-i-end.ensures) in
    is_extent c.args.segment rows c.args.from c.at.result c.from.result c.from.ensures n c.loop-i.bytes _ first all c.loop-i.invariant.1 count refl
