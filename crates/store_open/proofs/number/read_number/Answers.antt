use Rattle.std.proofs.Common.{◌≡◌, ◌∙◌, true, false, ap, sym, arith}
use Rattle.std.specs.Prelude.{not}
use Rattle.std.proofs.lemmas.Slice.Eq.{bytes_eq-Decides}
use Rattle.mq_bytes.specs.Decimal.{digits_of}
use Rattle.std.proofs.lemmas.Fmt.{parse-decimal}
use Rattle.store_open.proofs.number.read_number.Goals.{then-n-low-via-then-n-low, then-n-low-via-else-n-low+then-n-high, then-n-low-via-else-n-low+else-n-high+then-ne}
use Rattle.store_open.proofs.number.read_number.Goals as goal

pub returns-in_default-clause-exact : goal.returns-in_default-clause-exact
returns-in_default-clause-exact c = λ n is least most.
    let read = parse-decimal 32 n c.args.text.now c.parse.result (omega (arith, most)) (omega (arith, most)) is c.parse.ensures.value.0 in
    let failed = c.in_default.is in cc

pub returns-then-n-low-clause-exact : goal.returns-then-n-low-clause-exact
returns-then-n-low-clause-exact c = λ n is least most.
    let read = parse-decimal 32 n c.args.text.now c.parse.result (omega (arith, most)) (omega (arith, most)) is c.parse.ensures.value.0 in
    let there = c.in-Ok.is in
    let same : c.in-Ok.n ≡ n = cc in
    elim c.then-n-low.branch [
      | then-n-low-via-then-n-low w ↦ absurd (omega (arith, w.if-n-low.true, same, least))
      | then-n-low-via-else-n-low+then-n-high w ↦ absurd (omega (arith, w.if-n-high.true, same, most))
      | then-n-low-via-else-n-low+else-n-high+then-ne w ↦
          let equal = (bytes_eq-Decides w.format.result.now c.args.text.now).1 (w.format.ensures.text ∙ ap digits_of same ∙ sym is) in
          let apart : true ≡ false = sym w.if-ne.true ∙ w.ne.ensures ∙ ap not equal in
          cc
    ]

pub returns-clause-exact : goal.returns-clause-exact
returns-clause-exact c = λ n is least most.
    let read = parse-decimal 32 n c.args.text.now c.parse.result (omega (arith, most)) (omega (arith, most)) is c.parse.ensures.value.0 in
    let there = c.in-Ok.is in
    let same : c.in-Ok.n ≡ n = cc in
    cc
