-- How long a record's layout is.
use Rattle.std.proofs.Common.{◌≡◌, ℕ, ◌+◌, ◌++◌, List, [], ◌∷◌, length, refl, arith, length-append}
use Rattle.std.specs.Int.{w16, to_be_bytes}
use Rattle.mq_bytes.specs.Crc.{crc_of}
use Rattle.record_codec.specs.Entry.{Entry}
use Rattle.record_codec.specs.Props.{written}
use Rattle.record_codec.specs.Layout.{fixed, numbers, numbers_text, digits, seal_name, unsealed, size, front, sealed, layout}

-- the digits of a sum
pub length-digits : (n : ℕ) → length (digits n) ≡ 8
unfolding digits
length-digits n = refl

-- the seal's digits and its byte 2 come behind the rest
length-sealed : (before : List ℕ) → length (sealed before) ≡ length before + 9
unfolding sealed
length-sealed before =
    let sum = crc_of (before ++ unsealed) in
    omega (arith, length-append before (digits sum ++ 2 ∷ []), length-append (digits sum) (2 ∷ []), length-digits sum)

-- 88 bytes of numbers, the lengths of the topic and of the properties, and the seal's name
length-front : (r : Entry) → length (front r) ≡ 96 + length r.body + length r.topic + length (written r.props)
unfolding front
length-front r =
    let fixed_text = numbers_text fixed (numbers r) in
    let long = to_be_bytes w16 (length (written r.props) + 14) in
    let end = written r.props ++ seal_name in
    let named = length r.topic ∷ (r.topic ++ (long ++ end)) in
    omega (arith, length-append fixed_text (r.body ++ named), length-append r.body named, length-append r.topic (long ++ end), length-append long end, length-append (written r.props) seal_name)

-- a layout has the record's size
pub length-layout : (r : Entry) → length (layout r) ≡ size r
length-layout r = omega (arith, length-sealed (front r), length-front r)
