-- Checksums are polynomials: a shift multiplies them.
use Rattle.std.proofs.Common.{◌≡◌, lit<, ℕ, zero, suc, ◌+◌, ◌*◌, ◌/◌, ◌%◌, ◌^◌, ◌<◌, ◌≤◌, ◌-◌, cond, eqb, Bool, true, false, List, [], ◌∷◌, ◌++◌, length, get_or, refl, sym, subst, ap, ◌∙◌, arith}
use Rattle.std.specs.Prelude.{bit_xor, bit_and}
use Rattle.std.specs.Int.Bits.{xor_assoc, xor_zero_l, xor_zero_r, xor_add_and}
use Rattle.std.proofs.lemmas.Nat.{xor_comm, xor_lt, xor_block, and_mask, mod_below, mod-pow-add, pow-add, pow_pos}
use Rattle.std.proofs.Math.Nat.{pow-suc, mul-le-mul_right}
use Rattle.mq_bytes.specs.Bytes.{AreBytes}
use Rattle.mq_bytes.specs.Crc.{bit_out, bits, crc_from, turned, crc_of}
use Rattle.mq_bytes.specs.Tables.{after}
use Rattle.mq_bytes.proofs.CrcLemmas.{bits-xor, crc_from-append}
use Rattle.mq_bytes.proofs.CrcLaws.{crc_from-below}
use Rattle.record_codec.specs.Join.{shift_of}

-- ---- a register that goes on

after-xor : (n a b : ℕ) → after n (bit_xor a b) ≡ bit_xor (after n a) (after n b)
after-xor zero a b = refl
after-xor (suc n) a b = ap (bits 8) (after-xor n a b) ∙ bits-xor 8 (after n a) (after n b)

after-bits : (n r : ℕ) → after n (bits 8 r) ≡ after (suc n) r
after-bits zero r = refl
after-bits (suc n) r = ap (bits 8) (after-bits n r)

after-zero : (n : ℕ) → after n 0 ≡ 0
unfolding bits
after-zero zero = refl
after-zero (suc n) = ap (bits 8) (after-zero n)

after-add : (m n r : ℕ) → after (m + n) r ≡ after m (after n r)
after-add zero n r =
    let e : zero + n ≡ n = omega arith in
    ap (λ (k : ℕ). after k r) e
after-add (suc m) n r =
    let e : suc m + n ≡ suc (m + n) = omega arith in
    ap (λ (k : ℕ). after k r) e ∙ ap (bits 8) (after-add m n r)

-- the shift of two lengths together
pub shift_of-add : (m n : ℕ) → shift_of (m + n) ≡ after n (shift_of m)
shift_of-add m n =
    let e : m + n ≡ n + m = omega arith in
    ap shift_of e ∙ after-add n m 0x8000_0000

bits-out : (k r : ℕ) → bits k (bit_out r) ≡ bit_out (bits k r)
unfolding bits
bits-out zero r = refl
bits-out (suc k) r = bits-out k (bit_out r)

after-out : (n r : ℕ) → bit_out (after n r) ≡ after n (bit_out r)
after-out zero r = refl
after-out (suc n) r = sym (bits-out 8 (after n r)) ∙ ap (bits 8) (after-out n r)

-- ---- the product of two registers

-- the term of the product that bit k of r adds
abbrev pub term : ℕ → ℕ → ℕ → ℕ
term k r q = cond (eqb (r / 2 ^ k % 2) 0) 0 q

-- the lowest k bits of r, as the highest of a register, times q
unfoldable pub product : ℕ → ℕ → ℕ → ℕ
product zero r q = 0
product (suc k) r q = bit_xor (bit_out (product k r q)) (term k r q)

product-none : (r q : ℕ) → product 0 r q ≡ 0
unfolding product
product-none r q = refl

bits-zero : (k : ℕ) → bits k 0 ≡ 0
unfolding bits
bits-zero zero = refl
bits-zero (suc k) = bits-zero k

-- ---- the same product from the highest bit of r on

-- a sum of terms, beside what the lowest n bits of r are still to add
abbrev pub with_rest : ℕ → ℕ → ℕ → ℕ → ℕ → ℕ
with_rest sum k n r q = bit_xor sum (bits k (product n r q))

pub with_rest-first : (n r q : ℕ) → with_rest 0 0 n r q ≡ product n r q
unfolding bits
with_rest-first n r q = xor_zero_l (product n r q)

pub with_rest-last : (sum k r q : ℕ) → with_rest sum k 0 r q ≡ sum
with_rest-last sum k r q = ap (λ (x : ℕ). bit_xor sum (bits k x)) (product-none r q) ∙ ap (bit_xor sum) (bits-zero k) ∙ xor_zero_r sum

bits-product : (k n r q : ℕ) → bits k (product (suc n) r q) ≡ bit_xor (bits k (term n r q)) (bits (suc k) (product n r q))
unfolding product bits
bits-product k n r q = bits-xor k (bit_out (product n r q)) (term n r q) ∙ xor_comm (bits k (bit_out (product n r q))) (bits k (term n r q))

with_rest-suc : (sum k n r q : ℕ) → with_rest sum k (suc n) r q ≡ with_rest (bit_xor sum (bits k (term n r q))) (suc k) n r q
with_rest-suc sum k n r q =
    ap (bit_xor sum) (bits-product k n r q) ∙ sym (xor_assoc sum (bits k (term n r q)) (bits (suc k) (product n r q)))

-- the next term goes in
pub with_rest-on : (sum k n r q : ℕ) → k < n → with_rest sum k (n - k) r q ≡ with_rest (bit_xor sum (bits k (term (n - 1 - k) r q))) (k + 1) (n - (k + 1)) r q
with_rest-on sum k n r q lt =
    let here : n - k ≡ suc (n - 1 - k) = omega (arith, lt) in
    let after_it : k + 1 ≡ suc k = omega arith in
    let left : n - (k + 1) ≡ n - 1 - k = omega (arith, lt) in
    let went = bit_xor sum (bits k (term (n - 1 - k) r q)) in
    ap (λ (m : ℕ). with_rest sum k m r q) here ∙ with_rest-suc sum k (n - 1 - k) r q
    ∙ sym (ap (λ (j : ℕ). with_rest went j (n - (k + 1)) r q) after_it ∙ ap (λ (m : ℕ). with_rest went (suc k) m r q) left)

pub bits-on : (k q : ℕ) → bits (k + 1) q ≡ bit_out (bits k q)
unfolding bits
bits-on k q =
    let e : k + 1 ≡ suc k = omega arith in
    ap (λ (j : ℕ). bits j q) e ∙ bits-out k q

pub term-even : (j k r q : ℕ) → r / 2 ^ k % 2 ≡ 0 → bits j (term k r q) ≡ 0
term-even j k r q even = ap (λ (b : ℕ). bits j (cond (eqb b 0) 0 q)) even ∙ bits-zero j

pub term-odd : (j k r q : ℕ) → (r / 2 ^ k % 2 ≡ 0 → ⊥) → bits j (term k r q) ≡ bits j q
term-odd j k r q odd =
    let one : r / 2 ^ k % 2 ≡ 1 = omega (arith, odd) in
    ap (λ (b : ℕ). bits j (cond (eqb b 0) 0 q)) one

after-term : (n : ℕ) (b : Bool) (q : ℕ) → cond b 0 (after n q) ≡ after n (cond b 0 q)
after-term n true q = sym (after-zero n)
after-term n false q = refl

product-after : (k r n q : ℕ) → product k r (after n q) ≡ after n (product k r q)
unfolding product
product-after zero r n q = sym (after-zero n)
product-after (suc k) r n q =
    let before = ap bit_out (product-after k r n q) ∙ after-out n (product k r q) in
    let here = after-term n (eqb (r / 2 ^ k % 2) 0) q in
    ap (λ (x : ℕ). bit_xor x (term k r (after n q))) before ∙ ap (bit_xor (after n (bit_out (product k r q)))) here
    ∙ sym (after-xor n (bit_out (product k r q)) (term k r q))

bit_out-even : (a : ℕ) → bit_out (a * 2) ≡ a
bit_out-even a =
    let low : (a * 2) % 2 ≡ 0 = omega arith in
    let high : (a * 2) / 2 ≡ a = omega arith in
    rw (low, high) refl

-- the highest bit beside the others
add_top : (x b : ℕ) → b < 2 → x < 2 ^ 31 → bit_xor x (cond (eqb b 0) 0 0x8000_0000) ≡ b * 2 ^ 31 + x
add_top x zero lb lx =
    let e : x ≡ zero * 2 ^ 31 + x = omega arith in
    xor_zero_r x ∙ e
add_top x (suc zero) lb lx =
    let low : x ≡ 0 * 2 ^ 31 + x = omega arith in
    let whole : bit_xor 0 1 * 2 ^ 31 + bit_xor x 0 ≡ suc zero * 2 ^ 31 + x = omega (arith, xor_zero_r x) in
    ap (λ (y : ℕ). bit_xor y 0x8000_0000) low ∙ xor_block 31 0 1 x 0 lx (lit< tt) ∙ whole
add_top x (suc (suc b)) lb lx = absurd (omega arith)

-- the next bit, where p is the weight of the lowest bit that is left and q of those that are done
add_bit : (a b p q : ℕ) → b < 2 → a < p → 0 < q → p * q ≡ 2 ^ 31 → bit_xor (a * q) (cond (eqb b 0) 0 0x8000_0000) ≡ (b * p + a) * q
add_bit a b p q lb la lq e =
    let within : (a + 1) * q ≤ p * q = mul-le-mul_right q (omega (arith, la)) in
    let spread : (a + 1) * q ≡ a * q + q = omega arith in
    let low : a * q < 2 ^ 31 = omega (arith, within, spread, e, lq) in
    let both : b * (p * q) + a * q ≡ (b * p + a) * q = omega arith in
    add_top (a * q) b lb low ∙ ap (λ (w : ℕ). b * w + a * q) (sym e) ∙ both

-- the lowest k bits of r as the highest of a register
product-one : (k j r : ℕ) → k + j ≡ 32 → product k r 0x8000_0000 ≡ r % 2 ^ k * 2 ^ j
unfolding product
product-one zero j r e =
    let none : 0 ≡ r % 2 ^ zero = omega arith in
    let nothing : 0 ≡ 0 * 2 ^ j = omega arith in
    nothing ∙ ap (λ (w : ℕ). w * 2 ^ j) none
product-one (suc k) j r e =
    let a = r % 2 ^ k in
    let b = r / 2 ^ k % 2 in
    let left : k + suc j ≡ 32 = omega (arith, e) in
    let before : product k r 0x8000_0000 ≡ a * 2 ^ suc j = product-one k (suc j) r left in
    let bit : b < 2 = omega arith in
    let grouped : a * (2 ^ j * 2) ≡ a * 2 ^ j * 2 = omega arith in
    let shifted : a * 2 ^ suc j ≡ a * 2 ^ j * 2 = ap (λ (w : ℕ). a * w) (pow-suc 2 j) ∙ grouped in
    let halved : bit_out (product k r 0x8000_0000) ≡ a * 2 ^ j = ap bit_out (before ∙ shifted) ∙ bit_out-even (a * 2 ^ j) in
    let total : k + j ≡ 31 = omega (arith, e) in
    let weights : 2 ^ k * 2 ^ j ≡ 2 ^ 31 = sym (pow-add 2 k j) ∙ ap (λ (n : ℕ). 2 ^ n) total in
    let same : 1 + k ≡ suc k = omega arith in
    let parts : b * 2 ^ k + a ≡ r % 2 ^ suc k = sym (mod-pow-add r 1 k) ∙ ap (λ (n : ℕ). r % 2 ^ n) same in
    ap (λ (x : ℕ). bit_xor x (term k r 0x8000_0000)) halved
    ∙ add_bit a b (2 ^ k) (2 ^ j) bit (mod_below r (2 ^ k) (pow_pos k)) (pow_pos j) weights
    ∙ ap (λ (w : ℕ). w * 2 ^ j) parts

product-whole : (r : ℕ) → r < 2 ^ 32 → product 32 r 0x8000_0000 ≡ r
product-whole r lt =
    let all : r % 2 ^ 32 * 2 ^ 0 ≡ r = omega (arith, lt) in
    product-one 32 0 r refl ∙ all

-- to multiply by a shift is to go on
pub product-shift : (n r : ℕ) → r < 2 ^ 32 → product 32 r (shift_of n) ≡ after n r
product-shift n r lt = product-after 32 r n 0x8000_0000 ∙ ap (after n) (product-whole r lt)

-- ---- registers have 32 bits

one_byte : (i : ℕ) → get_or (0 ∷ []) i 0 < 256
one_byte zero = lit< tt
one_byte (suc i) = lit< tt

after-below : (n r : ℕ) → r < 2 ^ 32 → after n r < 2 ^ 32
after-below zero r lt = lt
after-below (suc n) r lt =
    let before = after n r in
    subst (λ (w : ℕ). bits 8 w < 2 ^ 32) (xor_zero_r before) (crc_from-below before (0 ∷ []) (after-below n r lt) one_byte)

pub product-shifts : (m n : ℕ) → product 32 (shift_of m) (shift_of n) ≡ shift_of (m + n)
product-shifts m n = product-shift n (shift_of m) (after-below m 0x8000_0000 (lit< tt)) ∙ sym (shift_of-add m n)

-- ---- sums of bytes that follow others

crc_from-xor : (r x : ℕ) (bytes : List ℕ) → crc_from (bit_xor r x) bytes ≡ bit_xor (crc_from r bytes) (after (length bytes) x)
crc_from-xor r x [] = refl
crc_from-xor r x (b ∷ bytes) =
    let met : bit_xor (bit_xor r x) b ≡ bit_xor (bit_xor r b) x = xor_assoc r x b ∙ ap (bit_xor r) (xor_comm x b) ∙ sym (xor_assoc r b x) in
    let apart = ap (bits 8) met ∙ bits-xor 8 (bit_xor r b) x in
    ap (λ (w : ℕ). crc_from w bytes) apart ∙ crc_from-xor (bits 8 (bit_xor r b)) (bits 8 x) bytes
    ∙ ap (bit_xor (crc_from (bits 8 (bit_xor r b)) bytes)) (after-bits (length bytes) x)

turned-xor : (r : ℕ) → r < 2 ^ 32 → turned r ≡ bit_xor r (turned 0)
turned-xor r lt =
    let shared : bit_and r (2 ^ 32 - 1) ≡ r = and_mask r 32 ∙ omega (arith, lt) in
    let total = xor_add_and r (2 ^ 32 - 1) in
    omega (arith, shared, total, lt)

pub crc_of-joined : (first second : List ℕ) → AreBytes first → AreBytes second → bit_xor (after (length second) (crc_of first)) (crc_of second) ≡ crc_of (first ++ second)
crc_of-joined first second are_first are_second =
    let ones = turned 0 in
    let r = crc_from ones first in
    let s = crc_from ones second in
    let moved = after (length second) (turned r) in
    let r_below : r < 2 ^ 32 = crc_from-below ones first (lit< tt) are_first in
    let s_below : s < 2 ^ 32 = crc_from-below ones second (lit< tt) are_second in
    let back_below : turned r < 2 ^ 32 = omega (arith, r_below) in
    let back : r ≡ turned (turned r) = omega (arith, r_below) in
    let met : r ≡ bit_xor ones (turned r) = back ∙ turned-xor (turned r) back_below ∙ xor_comm (turned r) ones in
    let gone_on : crc_from ones (first ++ second) ≡ bit_xor s moved =
    crc_from-append ones first second ∙ ap (λ (w : ℕ). crc_from w second) met ∙ crc_from-xor ones (turned r) second in
    let below : bit_xor s moved < 2 ^ 32 = xor_lt 32 s moved s_below (after-below (length second) (turned r) back_below) in
    let around : bit_xor (bit_xor s moved) ones ≡ bit_xor moved (bit_xor s ones) =
    ap (λ (w : ℕ). bit_xor w ones) (xor_comm s moved) ∙ xor_assoc moved s ones in
    sym (ap turned gone_on ∙ turned-xor (bit_xor s moved) below ∙ around ∙ ap (bit_xor moved) (sym (turned-xor s s_below)))
