-- The fields of replies to requests that read are in order, and short.
use Rattle.std.proofs.Common.{ℕ, ◌^◌, ◌<◌, ◌≤◌, length, refl, arith}
use Rattle.std.proofs.lemmas.Fmt.{length-decimal-le}
use Rattle.std.specs.List.Sorted.{IsStrictlySortedBy}
use Rattle.mq_bytes.specs.Decimal.{digits_of}
use Rattle.remoting_frame.specs.Head.{IsInOrder, pairs_size}
use Rattle.broker_model.specs.Answers.{query_ext}
use Rattle.broker_core.specs.Reads.{offset_ext, pull_ext}

pub offset_in_order : (n : ℕ) → IsInOrder (offset_ext n)
unfolding IsStrictlySortedBy
offset_in_order n = (tt, tt)

pub pull_in_order : (high low next : ℕ) → IsInOrder (pull_ext high low next)
unfolding IsStrictlySortedBy
pull_in_order high low next = ((refl, (refl, (refl, tt))), ((refl, (refl, tt)), ((refl, tt), (tt, tt))))

pub query_in_order : IsInOrder query_ext
unfolding IsStrictlySortedBy
query_in_order = ((refl, tt), (tt, tt))

pub query_is_short : pairs_size query_ext ≤ 200
query_is_short = omega arith

pub length-digits_of : (n : ℕ) → n < 2 ^ 64 → length (digits_of n) ≤ 20
length-digits_of n small = length-decimal-le 20 n (omega arith) (omega (arith, small)) small

pub offset_is_short : (n : ℕ) → n < 2 ^ 64 → pairs_size (offset_ext n) ≤ 200
offset_is_short n small = omega (arith, length-digits_of n small)

pub pull_is_short : (high low next : ℕ) → high < 2 ^ 64 → low < 2 ^ 64 → next < 2 ^ 64 → pairs_size (pull_ext high low next) ≤ 200
pull_is_short high low next a b c = omega (arith, length-digits_of high a, length-digits_of low b, length-digits_of next c)
