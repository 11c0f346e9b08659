use Rattle.std.proofs.Common.{ℕ, List, get_or, ap, sym, ◌∙◌}
use Rattle.remoting_frame.proofs.ScannerSteps.{named_at}
use Rattle.remoting_frame.proofs.scanner.name_at.Goals as goal

pub returns-clause-key : goal.returns-clause-key
returns-clause-key c =
    let quote = ap (λ (text : List ℕ). get_or text c.args.from 0) (sym c.as_bytes.ensures.value) ∙ sym c.byte_at.ensures ∙ c.if-byte_at-ne34.false in
    let found = c.in_ok-name.ensures in
    named_at c.args.text.now c.in_ok-name.name.now c.args.from c.in_ok-name.end c.in_ok-value.value quote found.value found.rest c.in_ok-value.ensures.rest
