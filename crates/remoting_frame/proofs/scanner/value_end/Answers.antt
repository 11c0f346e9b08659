use Rattle.std.proofs.Common.{ℕ, List, get_or, ap, sym, ◌∙◌}
use Rattle.remoting_frame.proofs.ScannerSteps.{no_colon_closing, no_colon_comma}
use Rattle.remoting_frame.proofs.scanner.value_end.Goals as goal
use Rattle.remoting_frame.proofs.scanner.value_end.Goals.{else-byte-ne44-via-then-byte-ne44+else-byte-ne125, else-byte-ne44-via-else-byte-ne44}

pub returns-clause-colon : goal.returns-clause-colon
returns-clause-colon c =
    let at = c.past_spaces-at.result in
    let byte = ap (λ (text : List ℕ). get_or text at 0) (sym c.as_bytes-bytes.ensures.value) ∙ sym c.byte_at-byte.ensures in
    elim c.else-byte-ne44.branch [
      | else-byte-ne44-via-then-byte-ne44+else-byte-ne125 w ↦ no_colon_closing c.args.text.now at (byte ∙ w.if-byte-ne125.false)
      | else-byte-ne44-via-else-byte-ne44 w ↦ no_colon_comma c.args.text.now at (byte ∙ w.if-byte-ne44.false)
    ]
