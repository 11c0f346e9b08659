use Rattle.std.specs.Str.{bytes_eq}
use Rattle.std.proofs.Common.{◌≡◌, ◌∷◌, true, false, refl, sym, ap, ◌∙◌, arith}
use Rattle.record_codec.specs.Props.{has_name}
use Rattle.record_codec.proofs.ScanLemmas.{nothing_some}
use Rattle.record_codec.proofs.WrittenLemmas.{written_smaller, written_goes, written_stuck}
use Rattle.record_codec.proofs.scan.has_name.Goals as goal

pub loop-rest-smaller : goal.loop-rest-smaller
loop-rest-smaller c = written_smaller c.loop-rest.rest.now _ (sym c.in-Some.ensures)

pub returns-in-None : goal.returns-in-None
returns-in-None c = λ ps h. let q = c.loop-rest.invariant ps h in absurd (written_stuck c.loop-rest.rest.now q.0 (omega (arith, c.loop-rest-test.true)) (sym c.in-None.ensures) q.1)

pub returns : goal.returns
returns c = λ ps h. let q = c.loop-rest.invariant ps h in
    let none = nothing_some c.loop-rest.rest.now q.0 (omega (arith, c.loop-rest-test.false)) q.1 in
    ap (has_name c.args.name.now) (sym none) ∙ q.2

pub returns-then-eq : goal.returns-then-eq
returns-then-eq c = λ ps h.
    let q = c.loop-rest.invariant ps h in
    let s = written_goes c.loop-rest.rest.now (c.in-Some.other.now, c.in-Some.field-0-1.now, c.in-Some.after.now) q.0 (omega (arith, c.loop-rest-test.true)) (sym c.in-Some.ensures) q.1 in
    let same : bytes_eq c.args.name.now c.in-Some.other.now ≡ true = sym c.eq.ensures ∙ c.if-eq.true in
    let one : has_name c.args.name.now ((c.in-Some.other.now, c.in-Some.field-0-1.now) ∷ s.0) ≡ true = rw same refl in
    sym (sym q.2 ∙ ap (has_name c.args.name.now) s.2 ∙ one)

pub loop-rest-preserved : goal.loop-rest-preserved
loop-rest-preserved c = λ ps h.
    let q = c.loop-rest.invariant ps h in
    let s = written_goes c.loop-rest.rest.now (c.in-Some.other.now, c.in-Some.field-0-1.now, c.in-Some.after.now) q.0 (omega (arith, c.loop-rest-test.true)) (sym c.in-Some.ensures) q.1 in
    let other : bytes_eq c.args.name.now c.in-Some.other.now ≡ false = sym c.eq.ensures ∙ c.if-eq.false in
    let one : has_name c.args.name.now ((c.in-Some.other.now, c.in-Some.field-0-1.now) ∷ s.0) ≡ has_name c.args.name.now s.0 = rw other refl in
    (s.0, s.1, sym (sym q.2 ∙ ap (has_name c.args.name.now) s.2 ∙ one))
