-- The fields of the reply to a send are in order, and short.
use Rattle.std.proofs.Common.{◌≡◌, ◌∙◌, ℕ, ◌^◌, ◌<◌, ◌≤◌, nat_le, true, List, length, refl, ap, sym, subst, arith}
use Rattle.std.proofs.lemmas.Bool.{le-leb}
use Rattle.std.proofs.lemmas.Fmt.{length-decimal-le}
use Rattle.std.specs.List.Sorted.{IsStrictlySortedBy}
use Rattle.mq_bytes.specs.Decimal.{digits_of}
use Rattle.remoting_frame.specs.Head.{IsInOrder, pairs_size}
use Rattle.reply_fields.specs.Sent.{fields_of_sent, fields_kept, IsShortKept}
use Rattle.reply_fields.specs.declared.ext.Sent.{Sent}
use Rattle.reply_fields.specs.declared.ext.Kept.{Kept}
use Rattle.reply_fields.specs.declared.ext.Kept.TheVariants.{Numbers}
use Rattle.reply_fields.proofs.AskLemmas.{length-id}

length-number : (n : ℕ) → n < 2 ^ 64 → length (digits_of n) ≤ 20
length-number n small = length-decimal-le 20 n (omega arith) (omega (arith, small)) small

pub sent_in_order : (sent : Sent) → IsInOrder (fields_of_sent sent)
unfolding IsStrictlySortedBy
sent_in_order sent = ((refl, (refl, tt)), ((refl, tt), (tt, tt)))

pub sent_is_short : (sent : Sent) → length sent.host ≡ 8 → sent.queue < 2 ^ 64 → sent.queue_offset < 2 ^ 64 → pairs_size (fields_of_sent sent) ≤ 200
sent_is_short sent eight few small =
    omega (arith, length-id sent.host sent.place eight, length-number sent.queue few, length-number sent.queue_offset small)

-- short fields that are kept as numbers fit where there is room for them
pub sent_fits : (kept : Kept) (sent : Sent) (fields : List (List ℕ × List ℕ)) (most : ℕ) → kept ≡ Numbers sent → fields_kept kept ≡ fields → IsShortKept kept → 200 ≤ most
    → true ≡ nat_le (pairs_size fields) most
sent_fits kept sent fields most is view short room =
    let here : fields ≡ fields_of_sent sent = sym view ∙ ap fields_kept is in
    let small : pairs_size (fields_of_sent sent) ≤ 200 = subst (λ (k : Kept). IsShortKept k) is short in
    sym (le-leb (pairs_size fields) most (omega (arith, ap pairs_size here, small, room)))
