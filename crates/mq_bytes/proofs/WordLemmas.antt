-- Four bytes as one number, and four registers that go on apart until a last block joins them.
use Rattle.std.proofs.Common.{◌≡◌, ℕ, zero, suc, ◌+◌, ◌*◌, ◌/◌, ◌%◌, ◌^◌, ◌<◌, ◌≤◌, List, [], ◌∷◌, length, get_or, take, drop, refl, sym, subst, ap, ◌∙◌, arith, length-drop}
use Rattle.std.specs.Prelude.{bit_xor}
use Rattle.std.specs.Int.{w32, from_le_bytes}
use Rattle.std.specs.Int.Bits.{xor_assoc, xor_zero_r}
use Rattle.std.proofs.Math.Seq.{take-add, get_or-drop, length-take-le, take_all}
use Rattle.mq_bytes.specs.Crc.{bits, crc_from}
use Rattle.mq_bytes.specs.Tables.{after}
use Rattle.mq_bytes.proofs.CrcLemmas.{cross, bits-xor, bits-shift, joined, by_byte, crc_from-append}

-- A sum of registers goes on part by part.
after-xor : (k a b : ℕ) → after k (bit_xor a b) ≡ bit_xor (after k a) (after k b)
after-xor zero a b = refl
after-xor (suc k) a b = ap (bits 8) (after-xor k a b) ∙ bits-xor 8 (after k a) (after k b)

-- The byte that goes first may also go last.
after-bits : (k r : ℕ) → after k (bits 8 r) ≡ after (suc k) r
after-bits zero r = refl
after-bits (suc k) r = ap (bits 8) (after-bits k r)

-- the lowest byte alone, and the others one byte on
low_apart : (k r : ℕ) → after (suc k) r ≡ bit_xor (after (suc k) (r % 256)) (after k (r / 256))
low_apart zero r =
    ap (bits 8) (sym (xor_zero_r r)) ∙ by_byte r 0 ∙ ap (λ (w : ℕ). bit_xor (bits 8 w) (r / 256)) (xor_zero_r (r % 256))
low_apart (suc k) r = ap (bits 8) (low_apart k r) ∙ bits-xor 8 (after (suc k) (r % 256)) (after k (r / 256))

-- the four bytes of a register, each by its table
pub by_bytes : (k r : ℕ) → bit_xor
    (bit_xor (after (suc (suc (suc (suc k)))) (r % 256)) (after (suc (suc (suc k))) (r / 256 % 256)))
    (bit_xor (after (suc (suc k)) (r / 65536 % 256)) (after (suc k) (r / 16777216))) ≡ after (suc (suc (suc (suc k)))) r
by_bytes k r =
    let q2 : r / 256 / 256 ≡ r / 65536 = omega arith in
    let q3 : r / 65536 / 256 ≡ r / 16777216 = omega arith in
    let third = low_apart (suc k) (r / 65536) ∙ ap (λ (w : ℕ). bit_xor (after (suc (suc k)) (r / 65536 % 256)) (after (suc k) w)) q3 in
    let second = low_apart (suc (suc k)) (r / 256) ∙ ap (λ (w : ℕ). bit_xor (after (suc (suc (suc k))) (r / 256 % 256)) (after (suc (suc k)) w)) q2 in
    let first = low_apart (suc (suc (suc k))) r in
    let grouped = xor_assoc (after (suc (suc (suc (suc k)))) (r % 256)) (after (suc (suc (suc k))) (r / 256 % 256)) (bit_xor (after (suc (suc k)) (r / 65536 % 256)) (after (suc k) (r / 16777216))) in
    grouped ∙ sym (first ∙ ap (bit_xor (after (suc (suc (suc (suc k)))) (r % 256))) (second ∙ ap (bit_xor (after (suc (suc (suc k))) (r / 256 % 256))) third))

-- the number that bytes write, the low byte first
abbrev number : List ℕ → ℕ
number [] = 0
number (b ∷ bytes) = number bytes * 256 + b

-- Bytes that go in one by one go in at once.
by_number : (r : ℕ) (bytes : List ℕ) → ((i : ℕ) → get_or bytes i 0 < 256) → crc_from r bytes ≡ after (length bytes) (bit_xor r (number bytes))
by_number r [] fits = sym (xor_zero_r r)
by_number r (b ∷ bytes) fits =
    let above = number bytes * 256 in
    let low : b < 2 ^ 8 = fits 0 in
    let later = by_number (bits 8 (bit_xor r b)) bytes (λ i. fits (suc i)) in
    let shifted : bit_xor (bits 8 (bit_xor r b)) (number bytes) ≡ bits 8 (bit_xor (bit_xor r b) above) =
    ap (bit_xor (bits 8 (bit_xor r b))) (sym (bits-shift (number bytes))) ∙ sym (bits-xor 8 (bit_xor r b) above) in
    let whole : bit_xor (bit_xor r b) above ≡ bit_xor r (number (b ∷ bytes)) = xor_assoc r b above ∙ ap (bit_xor r) (joined (number bytes) b low) in
    later ∙ ap (after (length bytes)) (shifted ∙ ap (bits 8) whole) ∙ after-bits (length bytes) (bit_xor r (number (b ∷ bytes)))

-- as the library reads it
number_of_four : (bytes : List ℕ) → length bytes ≡ 4 → number bytes ≡ from_le_bytes w32 bytes
number_of_four [] e = absurd (omega arith)
number_of_four (a ∷ []) e = absurd (omega arith)
number_of_four (a ∷ b ∷ []) e = absurd (omega arith)
number_of_four (a ∷ b ∷ c ∷ []) e = absurd (omega arith)
number_of_four (a ∷ b ∷ c ∷ d ∷ []) e = omega arith
number_of_four (a ∷ b ∷ c ∷ d ∷ f ∷ bytes) e = absurd (omega arith)

-- Bytes stay bytes.
fits_taken : (n : ℕ) (bytes : List ℕ) → ((i : ℕ) → get_or bytes i 0 < 256) → (i : ℕ) → get_or (take n bytes) i 0 < 256
fits_taken zero bytes fits i = omega arith
fits_taken (suc n) [] fits i = omega arith
fits_taken (suc n) (b ∷ bytes) fits zero = fits 0
fits_taken (suc n) (b ∷ bytes) fits (suc i) = fits_taken n bytes (λ k. fits (suc k)) i

-- the word at a place
abbrev pub word_at : List ℕ → ℕ → ℕ
word_at bytes at = from_le_bytes w32 (take 4 (drop at bytes))

-- the register four bytes on
pub word_on : (r : ℕ) (bytes : List ℕ) (at : ℕ) → at + 4 ≤ length bytes → ((i : ℕ) → get_or bytes i 0 < 256) →
    crc_from r (take (at + 4) bytes) ≡ after 4 (bit_xor (crc_from r (take at bytes)) (word_at bytes at))
word_on r bytes at le fits =
    let part = take 4 (drop at bytes) in
    let before = crc_from r (take at bytes) in
    let size : length part ≡ 4 = length-take-le 4 (drop at bytes) (omega (arith, length-drop at bytes)) in
    let fit : (i : ℕ) → get_or part i 0 < 256 = fits_taken 4 (drop at bytes) (λ i. subst (λ (b : ℕ). b < 256) (sym (get_or-drop at bytes i 0)) (fits (at + i))) in
    ap (crc_from r) (take-add at 4 bytes) ∙ crc_from-append r (take at bytes) part ∙ by_number before part fit
    ∙ ap (λ (n : ℕ). after n (bit_xor before (number part))) size ∙ ap (λ (w : ℕ). after 4 (bit_xor before w)) (number_of_four part size)

-- what four registers say together, each due four bytes after the one before
abbrev pub braided : ℕ → ℕ → ℕ → ℕ → ℕ
braided a b c d = bit_xor (bit_xor (after 16 a) (after 12 b)) (bit_xor (after 8 c) (after 4 d))

-- words that meet the four registers
braided-xor : (a b c d e f g h : ℕ) → braided (bit_xor a e) (bit_xor b f) (bit_xor c g) (bit_xor d h) ≡ bit_xor (braided a b c d) (braided e f g h)
braided-xor a b c d e f g h =
    let first = after-xor 16 a e in
    let second = after-xor 12 b f in
    let third = after-xor 8 c g in
    let fourth = after-xor 4 d h in
    let low = cross (after 16 a) (after 16 e) (after 12 b) (after 12 f) in
    let high = cross (after 8 c) (after 8 g) (after 4 d) (after 4 h) in
    let both = cross (bit_xor (after 16 a) (after 12 b)) (bit_xor (after 16 e) (after 12 f)) (bit_xor (after 8 c) (after 4 d)) (bit_xor (after 8 g) (after 4 h)) in
    cc

-- each register 16 bytes on
pub braided-on : (a b c d : ℕ) → after 16 (braided a b c d) ≡ braided (after 16 a) (after 16 b) (after 16 c) (after 16 d)
braided-on a b c d = simp bits-xor

-- before the first block the register is the first of four, and the others are 0
pub braided-first : (r : ℕ) → after 16 r ≡ braided r 0 0 0
unfolding bits
braided-first r = sym (xor_zero_r _ ∙ xor_zero_r _)

-- The last block, eight bytes at a step, joins them.
pub braided-joined : (a b c d w : ℕ) → bit_xor (after 8 (bit_xor (bit_xor (bit_xor (after 8 a) (after 4 b)) c) w)) (after 4 d) ≡ braided a b (bit_xor c w) d
braided-joined a b c d w = simp (bits-xor, xor_assoc)

-- four words one after another
four_words : (r a b c d : ℕ) → after 4 (bit_xor (after 4 (bit_xor (after 4 (bit_xor (after 4 (bit_xor r a)) b)) c)) d) ≡ bit_xor (after 16 r) (braided a b c d)
four_words r a b c d = simp (bits-xor, xor_assoc)

-- eight bytes
pub by_words : (r : ℕ) (bytes : List ℕ) → length bytes ≡ 8 → ((i : ℕ) → get_or bytes i 0 < 256) →
    bit_xor (after 8 (bit_xor r (word_at bytes 0))) (after 4 (word_at bytes 4)) ≡ crc_from r bytes
by_words r bytes size fits =
    let all : take 8 bytes ≡ bytes = take_all 8 bytes (omega arith) in
    let first = word_on r bytes 0 (omega arith) fits in
    let second = word_on r bytes 4 (omega arith) fits in
    sym (ap (crc_from r) (sym all) ∙ second ∙ ap (λ (q : ℕ). after 4 (bit_xor q (word_at bytes 4))) first ∙ after-xor 4 (after 4 (bit_xor r (word_at bytes 0))) (word_at bytes 4))

-- a block of 16 bytes
pub block_on : (r a b c d : ℕ) (bytes : List ℕ) (at : ℕ) → at + 16 ≤ length bytes → ((i : ℕ) → get_or bytes i 0 < 256) →
    after 16 (crc_from r (take at bytes)) ≡ braided a b c d →
    crc_from r (take (at + 16) bytes) ≡ braided (bit_xor a (word_at bytes at)) (bit_xor b (word_at bytes (at + 4))) (bit_xor c (word_at bytes (at + 8))) (bit_xor d (word_at bytes (at + 12)))
block_on r a b c d bytes at le fits before =
    let e2 : at + 8 ≡ at + 4 + 4 = omega arith in
    let e3 : at + 12 ≡ at + 8 + 4 = omega arith in
    let e4 : at + 16 ≡ at + 12 + 4 = omega arith in
    let taken = λ (n : ℕ). crc_from r (take n bytes) in
    let first = word_on r bytes at (omega arith) fits in
    let second : taken (at + 8) ≡ after 4 (bit_xor (taken (at + 4)) (word_at bytes (at + 4))) = ap taken e2 ∙ word_on r bytes (at + 4) (omega arith) fits in
    let third : taken (at + 12) ≡ after 4 (bit_xor (taken (at + 8)) (word_at bytes (at + 8))) = ap taken e3 ∙ word_on r bytes (at + 8) (omega arith) fits in
    let fourth : taken (at + 16) ≡ after 4 (bit_xor (taken (at + 12)) (word_at bytes (at + 12))) = ap taken e4 ∙ word_on r bytes (at + 12) (omega arith) fits in
    let words = four_words (taken at) (word_at bytes at) (word_at bytes (at + 4)) (word_at bytes (at + 8)) (word_at bytes (at + 12)) in
    let whole = braided-xor a b c d (word_at bytes at) (word_at bytes (at + 4)) (word_at bytes (at + 8)) (word_at bytes (at + 12)) in
    cc
