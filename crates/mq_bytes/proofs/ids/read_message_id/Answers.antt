use Rattle.std.proofs.Common.{◌≡◌, ap, sym, ◌∙◌, length, refl, arith}
use Rattle.std.specs.Int.{w64, from_be_bytes}
use Rattle.std.proofs.lemmas.List.Elements.{All-same}
use Rattle.mq_bytes.specs.Hex.{IsHexDigit}
use Rattle.mq_bytes.proofs.IdLaws.{id_of_halves, halves_of_id, message_id_of_is_id}
use Rattle.mq_bytes.proofs.ids.read_message_id.Goals as goal

pub returns-then-digits-ne32-clause-again : goal.returns-then-digits-ne32-clause-again
returns-then-digits-ne32-clause-again c = λ host place len fits small id.
    absurd (c.if-digits-ne32.true (ap length (c.as_bytes-digits.ensures.value ∙ id) ∙ (message_id_of_is_id host place len fits).0))

pub returns-in_err-bytes-clause-again : goal.returns-in_err-bytes-clause-again
returns-in_err-bytes-clause-again c = λ host place len fits small id.
    absurd (c.in_err-bytes.ensures.none (All-same IsHexDigit _ _ (c.as_bytes-digits.ensures.value ∙ id) (message_id_of_is_id host place len fits).1))

pub returns-clause-found : goal.returns-clause-found
returns-clause-found c =
    sym c.as_bytes-digits.ensures.value ∙
    id_of_halves c.as_bytes-digits.result.now c.in_ok-bytes.bytes c.copy_from_slice.new.self c.copy_from_slice-2.new.self c.from_be_bytes.result
    (omega arith) c.in_ok-bytes.ensures.some c.in_ok-bytes.ensures.digits c.copy_from_slice.ensures.after c.copy_from_slice-2.ensures.after c.from_be_bytes.ensures

pub returns-clause-again : goal.returns-clause-again
returns-clause-again c = λ host place len fits small id.
    let halves = halves_of_id c.as_bytes-digits.result.now c.in_ok-bytes.bytes host place len small c.in_ok-bytes.ensures.some (c.as_bytes-digits.ensures.value ∙ id) in
    let first : c.copy_from_slice.new.self ≡ host = c.copy_from_slice.ensures.after ∙ halves.0 in
    let second : c.from_be_bytes.result ≡ place = c.from_be_bytes.ensures ∙ ap (from_be_bytes w64) c.copy_from_slice-2.ensures.after ∙ halves.1 in
    rw (first, second) refl
