use Rattle.std.proofs.Common.{◌≡◌, ◌∙◌, sym, ap, subst, arith, suc, ◌+◌, ◌-◌, [], ◌∷◌, ◌++◌, List, take, drop, map}
use Rattle.record_codec.specs.declared.unit.Unit.{Unit as QueueUnit}
use Rattle.queue_view.specs.Subscriptions.{tags_take}
use Rattle.queue_view.specs.Tables.{unit_in}
use Rattle.queue_view.proofs.Lists.{examined_at}
use Rattle.queue_view.proofs.PullLemmas.{SoFar, taken_more, passed_over, in_numbers, stopped, adds}
use Rattle.queue_view.proofs.examine.examine.Goals as goal
use Rattle.queue_view.proofs.examine.examine.Goals.{then-takes+in_ok-push, else-takes}

pub returns-then-not-goes_on-clause-count : goal.returns-then-not-goes_on-clause-count
returns-then-not-goes_on-clause-count c =
    let test = tags_take c.args.tags.now in
    let queue = drop c.args.from (map unit_in (take c.args.seen c.args.all.now.items)) in
    let n = c.loop-i.i - c.args.from in
    let at = examined_at unit_in c.args.all.now.items c.args.from c.args.seen c.loop-i.i c.at.result c.loop-i.auto.i c.loop-i-test.true c.at.ensures in
    let goes = in_numbers c.args.most test queue n c.loop-i.units.items c.loop-i.size c.at.result.unit c.len.result c.takes-takes.result c.goes_on.result c.loop-i.invariant at (c.len.ensures ∙ c.loop-i.units.ok.0) c.takes-takes.ensures c.goes_on.ensures in
    (stopped c.args.most test queue n c.loop-i.units.items c.loop-i.size c.at.result.unit c.loop-i.invariant at (sym goes ∙ c.if-not-goes_on.true)).0

pub returns-then-not-goes_on-clause-units : goal.returns-then-not-goes_on-clause-units
returns-then-not-goes_on-clause-units c =
    let test = tags_take c.args.tags.now in
    let queue = drop c.args.from (map unit_in (take c.args.seen c.args.all.now.items)) in
    let n = c.loop-i.i - c.args.from in
    let at = examined_at unit_in c.args.all.now.items c.args.from c.args.seen c.loop-i.i c.at.result c.loop-i.auto.i c.loop-i-test.true c.at.ensures in
    let goes = in_numbers c.args.most test queue n c.loop-i.units.items c.loop-i.size c.at.result.unit c.len.result c.takes-takes.result c.goes_on.result c.loop-i.invariant at (c.len.ensures ∙ c.loop-i.units.ok.0) c.takes-takes.ensures c.goes_on.ensures in
    (stopped c.args.most test queue n c.loop-i.units.items c.loop-i.size c.at.result.unit c.loop-i.invariant at (sym goes ∙ c.if-not-goes_on.true)).1

pub loop-i-preserved : goal.loop-i-preserved
loop-i-preserved c =
    let test = tags_take c.args.tags.now in
    let queue = drop c.args.from (map unit_in (take c.args.seen c.args.all.now.items)) in
    let n = c.loop-i.i - c.args.from in
    let at = examined_at unit_in c.args.all.now.items c.args.from c.args.seen c.loop-i.i c.at.result c.loop-i.auto.i c.loop-i-test.true c.at.ensures in
    let len = c.len.ensures ∙ c.loop-i.units.ok.0 in
    let goes = in_numbers c.args.most test queue n c.loop-i.units.items c.loop-i.size c.at.result.unit c.len.result c.takes-takes.result c.goes_on.result c.loop-i.invariant at len c.takes-takes.ensures c.goes_on.ensures in
    let on = sym goes ∙ c.if-not-goes_on.false in
    let next : suc (c.loop-i.i - c.args.from) ≡ (c.loop-i.i + 1) - c.args.from = (let low = c.loop-i.auto.i in let e : suc (c.loop-i.i - c.args.from) ≡ (c.loop-i.i + 1) - c.args.from = omega (arith, low) in e) in
    subst (λ m. SoFar c.args.most test queue m c.if-takes.units.items c.if-takes.size) next
    (elim c.if-takes.branch [
      | then-takes+in_ok-push w ↦
          let more = taken_more c.args.most test queue n c.loop-i.units.items c.loop-i.size c.at.result.unit c.loop-i.invariant at on (sym c.takes-takes.ensures ∙ w.if-takes.true) in
          let low = adds c.args.most test queue n c.loop-i.units.items c.loop-i.size c.at.result.unit.size c.takes-takes.result c.goes_on.result c.len.result c.loop-i.invariant (let fits = w.from.type_inv in omega (arith, fits, w.from.ensures)) w.if-takes.true len c.goes_on.ensures c.if-not-goes_on.false in
          let size : c.loop-i.size + c.at.result.unit.size ≡ c.if-takes.size = omega (arith, low, w.size-is, w.saturating_add-size.ensures, w.from.ensures) in
          let units : c.loop-i.units.items ++ c.at.result.unit ∷ [] ≡ c.if-takes.units.items = sym (ap (λ v. v.items) w.units-is ∙ w.in_ok-push.ensures.items) in
          subst (λ b. SoFar c.args.most test queue (suc n) c.if-takes.units.items b) size (subst (λ (us : List QueueUnit). SoFar c.args.most test queue (suc n) us (c.loop-i.size + c.at.result.unit.size)) units more)
      | else-takes w ↦
          let same = passed_over c.args.most test queue n c.loop-i.units.items c.loop-i.size c.at.result.unit c.loop-i.invariant at on (sym c.takes-takes.ensures ∙ w.if-takes.false) in
          subst (λ b. SoFar c.args.most test queue (suc n) c.if-takes.units.items b) (sym w.size-is) (subst (λ (us : List QueueUnit). SoFar c.args.most test queue (suc n) us c.loop-i.size) (sym (ap (λ v. v.items) w.units-is)) same)
    ])
