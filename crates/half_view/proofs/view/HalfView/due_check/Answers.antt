use Rattle.std.proofs.Common.{◌≡◌, ◌∙◌, ◌+◌, ◌-◌, ◌^◌, min, Some, sym, ap, arith}
use Rattle.std.proofs.lemmas.Option.{same_Some}
use Rattle.half_view.specs.declared.check.Check.{Check}
use Rattle.half_view.specs.declared.row.HalfRow.{HalfRow}
use Rattle.half_view.specs.Halves.{HalfTable, due_of, check_row}
use Rattle.half_view.proofs.ListLemmas.{get_read, get_within}
use Rattle.half_view.proofs.TableLemmas.{due_here, due_absent}
use Rattle.half_view.proofs.TimedLemmas.{none_due, found_due}
use Rattle.half_view.proofs.view.HalfView.due_check.Goals as goal

pub returns-in_err-k : goal.returns-in_err-k
returns-in_err-k c =
    let limit : c.min.result ≡ min c.args.now (2 ^ 64 - 2) = (let e = c.min.ensures in omega (arith, e)) in
    c.from_residual.ensures
    ∙ sym (due_absent c.args.now c.self.inside.low c.self.inside.halves.items
    (none_due c.args.now c.min.result c.self.inside.low c.self.inside.halves.items c.self.inside.times c.self.invariant limit c.in_err-k.ensures.none))
    ∙ ap (λ (t : HalfTable). due_of c.args.now t) c.self.view_is

pub index-requires : goal.index-requires
index-requires c =
    let limit : c.min.result ≡ min c.args.now (2 ^ 64 - 2) = (let e = c.min.ensures in omega (arith, e)) in
    let rows = c.self.inside.halves.items in
    let come = c.in_ok-k.ensures.come in
    let found = found_due c.args.now c.min.result c.self.inside.low rows c.self.inside.times c.in_ok-k.k come.0 c.self.invariant limit come.1 come.2 c.in_ok-k.ensures.first in
    let within = get_within rows c.in_ok-k.k found.0 found.1 in
    omega (arith, within, c.self.inside.halves.ok.0)

pub returns : goal.returns
returns c =
    let limit : c.min.result ≡ min c.args.now (2 ^ 64 - 2) = (let e = c.min.ensures in omega (arith, e)) in
    let rows = c.self.inside.halves.items in
    let low = c.self.inside.low in
    let k = c.in_ok-k.k in
    let come = c.in_ok-k.ensures.come in
    let found = found_due c.args.now c.min.result low rows c.self.inside.times k come.0 c.self.invariant limit come.1 come.2 c.in_ok-k.ensures.first in
    let within = get_within rows k found.0 found.1 in
    let one = same_Some c.index.result.now found.0 (sym (get_read rows k c.index.result.now within c.index.ensures) ∙ found.1) in
    ap (λ (x : Check). Some x) c.check_of.ensures ∙ ap (λ (x : HalfRow). Some (check_row (low + k) x)) one
    ∙ sym (due_here c.args.now low rows k found.0 found.1 found.2 found.3)
    ∙ ap (λ (t : HalfTable). due_of c.args.now t) c.self.view_is
