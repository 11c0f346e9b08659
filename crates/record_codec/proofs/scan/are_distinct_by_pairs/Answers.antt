use Rattle.std.proofs.Common.{◌≡◌, ◌∷◌, true, false, refl, sym, ap, ◌∙◌, arith}
use Rattle.record_codec.specs.Props.{has_name, are_distinct}
use Rattle.record_codec.proofs.ScanLemmas.{nothing_some}
use Rattle.record_codec.proofs.WrittenLemmas.{written_smaller, written_goes, written_stuck}
use Rattle.record_codec.proofs.scan.are_distinct_by_pairs.Goals as goal

pub loop-rest-smaller : goal.loop-rest-smaller
loop-rest-smaller c = written_smaller c.loop-rest.rest.now _ (sym c.in-Some.ensures)

pub returns-in-None : goal.returns-in-None
returns-in-None c = λ ps h. let q = c.loop-rest.invariant ps h in absurd (written_stuck c.loop-rest.rest.now q.0 (omega (arith, c.loop-rest-test.true)) (sym c.in-None.ensures) q.1)

pub returns : goal.returns
returns c = λ ps h. let q = c.loop-rest.invariant ps h in
    let none = nothing_some c.loop-rest.rest.now q.0 (omega (arith, c.loop-rest-test.false)) q.1 in
    ap are_distinct (sym none) ∙ q.2

pub returns-then-has_name : goal.returns-then-has_name
returns-then-has_name c = λ ps h.
    let q = c.loop-rest.invariant ps h in
    let s = written_goes c.loop-rest.rest.now (c.in-Some.name.now, c.in-Some.field-0-1.now, c.in-Some.after.now) q.0 (omega (arith, c.loop-rest-test.true)) (sym c.in-Some.ensures) q.1 in
    let twice : has_name c.in-Some.name.now s.0 ≡ true = sym (c.has_name.ensures s.0 s.1) ∙ c.if-has_name.true in
    let one : are_distinct ((c.in-Some.name.now, c.in-Some.field-0-1.now) ∷ s.0) ≡ false = rw twice refl in
    sym (sym q.2 ∙ ap are_distinct s.2 ∙ one)

pub loop-rest-preserved : goal.loop-rest-preserved
loop-rest-preserved c = λ ps h.
    let q = c.loop-rest.invariant ps h in
    let s = written_goes c.loop-rest.rest.now (c.in-Some.name.now, c.in-Some.field-0-1.now, c.in-Some.after.now) q.0 (omega (arith, c.loop-rest-test.true)) (sym c.in-Some.ensures) q.1 in
    let once : has_name c.in-Some.name.now s.0 ≡ false = sym (c.has_name.ensures s.0 s.1) ∙ c.if-has_name.false in
    let one : are_distinct ((c.in-Some.name.now, c.in-Some.field-0-1.now) ∷ s.0) ≡ are_distinct s.0 = rw once refl in
    (s.0, s.1, sym (sym q.2 ∙ ap are_distinct s.2 ∙ one))
