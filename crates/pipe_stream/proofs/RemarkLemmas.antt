-- Remarks that tell a count are short.
use Rattle.std.proofs.Common.{ℕ, ◌^◌, ◌<◌, ◌≤◌, ◌++◌, codes, length, arith, length-append}
use Rattle.std.proofs.lemmas.Fmt.{length-decimal-le}
use Rattle.mq_bytes.specs.Decimal.{digits_of}

length-digits_of : (n : ℕ) → n < 2 ^ 64 → length (digits_of n) ≤ 20
length-digits_of n small = length-decimal-le 20 n (omega arith) (omega (arith, small)) small

pub length_flush_remark : (count : ℕ) → count < 2 ^ 64 → length (codes "flush " ++ digits_of count) ≤ 100
length_flush_remark count few = omega (arith, length-digits_of count few, length-append (codes "flush ") (digits_of count))

pub length_read_remark : (count : ℕ) → count < 2 ^ 64 → length (codes "read " ++ digits_of count) ≤ 100
length_read_remark count few = omega (arith, length-digits_of count few, length-append (codes "read ") (digits_of count))

pub length_disk_remark : (count : ℕ) → count < 2 ^ 64 → length (codes "disk " ++ digits_of count) ≤ 100
length_disk_remark count few = omega (arith, length-digits_of count few, length-append (codes "disk ") (digits_of count))
