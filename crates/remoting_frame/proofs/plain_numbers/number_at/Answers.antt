use Rattle.std.proofs.Common.{◌≡◌, ◌≤◌, ◌-◌, ◌∷◌, [], length, take, drop, get_or, true, FitsSigned, arith}
use Rattle.std.specs.Int.{w32}
use Rattle.std.proofs.lemmas.Grind.{common_steps}
use Rattle.json.specs.Word.{ends_word}
use Rattle.mq_bytes.specs.Decimal.{decimal}
use Rattle.remoting_frame.proofs.NumberSteps.{number_stands}
use Rattle.remoting_frame.proofs.plain_numbers.number_at.Goals as goal
use Rattle.remoting_frame.proofs.plain_numbers.number_at.Goals.{then-byte_at-eq45, else-byte_at-eq45}

pub returns-clause-value : goal.returns-clause-value
returns-clause-value c =
    let text = c.args.text.now in
    let from = c.args.from in
    let end = c.digits_end-end.result in
    let same : c.as_bytes-bytes.result.now ≡ text = c.as_bytes-bytes.ensures.value in
    let order : from ≤ end = elim c.if-byte_at-eq45.branch [ then-byte_at-eq45 w ↦ omega (arith, c.digits_end-end.ensures) | else-byte_at-eq45 w ↦ omega (arith, c.digits_end-end.ensures) ] in
    let within : end ≤ length text = rw same at c.digits_end-end.ensures.1 in
    let ends : ends_word (get_or text end 0 ∷ []) ≡ true = grind (arith, common_steps, c.ends_number.ensures, c.byte_at-2.ensures) in
    let z = c.in_ok-short_number.field-0 in
    let cut : c.in_ok-piece.field-0.now ≡ take (end - from) (drop from text) = c.in_ok-piece.ensures in
    let is : c.in_ok-piece.field-0.now ≡ decimal z = c.in_ok-short_number.ensures.text in
    let fits : FitsSigned w32 z = c.in_ok-short_number.ensures.fits in
    let read = number_stands text c.in_ok-piece.field-0.now z from end order within fits cut is ends in
    grind (arith, common_steps, read)
