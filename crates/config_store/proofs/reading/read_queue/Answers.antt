use Rattle.std.proofs.Common.{◌≡◌, ◌∙◌, true, false, ap, sym, arith}
use Rattle.std.specs.Prelude.{not}
use Rattle.std.proofs.lemmas.Slice.Eq.{bytes_eq-Decides}
use Rattle.mq_bytes.specs.Decimal.{digits_of}
use Rattle.std.proofs.lemmas.Fmt.{parse-decimal}
use Rattle.config_store.proofs.reading.read_queue.Goals.{then-n-ge-QUEUE_END-via-then-n-ge-QUEUE_END, then-n-ge-QUEUE_END-via-else-n-ge-QUEUE_END+then-ne}
use Rattle.config_store.proofs.reading.read_queue.Goals as goal

pub returns-in_default-clause-exact : goal.returns-in_default-clause-exact
returns-in_default-clause-exact c = λ n is small.
    let read = parse-decimal 32 n c.args.text.now c.parse.result (omega (arith, small)) (omega (arith, small)) is c.parse.ensures.value.0 in
    let failed = c.in_default.is in cc

pub returns-then-n-ge-QUEUE_END-clause-exact : goal.returns-then-n-ge-QUEUE_END-clause-exact
returns-then-n-ge-QUEUE_END-clause-exact c = λ n is small.
    let read = parse-decimal 32 n c.args.text.now c.parse.result (omega (arith, small)) (omega (arith, small)) is c.parse.ensures.value.0 in
    let there = c.in-Ok.is in
    let same : c.in-Ok.n ≡ n = cc in
    elim c.then-n-ge-QUEUE_END.branch [
      | then-n-ge-QUEUE_END-via-then-n-ge-QUEUE_END w ↦ absurd (omega (arith, w.if-n-ge-QUEUE_END.true, same, small))
      | then-n-ge-QUEUE_END-via-else-n-ge-QUEUE_END+then-ne w ↦
          let equal = (bytes_eq-Decides w.format.result.now c.args.text.now).1 (w.format.ensures.text ∙ ap digits_of same ∙ sym is) in
          let apart : true ≡ false = sym w.if-ne.true ∙ w.ne.ensures ∙ ap not equal in
          cc
    ]

pub returns-clause-exact : goal.returns-clause-exact
returns-clause-exact c = λ n is small.
    let read = parse-decimal 32 n c.args.text.now c.parse.result (omega (arith, small)) (omega (arith, small)) is c.parse.ensures.value.0 in
    let there = c.in-Ok.is in
    let same : c.in-Ok.n ≡ n = cc in
    cc
