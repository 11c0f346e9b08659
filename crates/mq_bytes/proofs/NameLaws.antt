-- Names of 20 digits: ASCII, and apart for numbers that are apart.
use Rattle.std.proofs.Common.{◌≡◌, ℕ, zero, suc, ◌+◌, ◌*◌, ◌/◌, ◌<◌, ◌^◌, List, [], ◌∷◌, map, length, get_or, lit<, refl, sym, ◌∙◌, ap, arith}
use Rattle.std.proofs.Math.Nat.{div-div-eq-div-mul, div-add-mod}
use Rattle.std.specs.Str.{IsAscii}
use Rattle.std.specs.List.{AllByRecursion}
use Rattle.std.specs.Prelude.{codes}
use Rattle.std.specs.Char.{digit_value}
use Rattle.std.specs.Str.Parse.{digits_value_after, digits_value}
use Rattle.std.proofs.lemmas.Str.{digit_value_digit}
use Rattle.std.proofs.lemmas.Str.{IsAscii-append}
use Rattle.std.proofs.lemmas.List.{append_cancel_left}
use Rattle.mq_bytes.specs.Names.{digit_at, twenty_digits, log_file}

-- equal above the digit worth p and equal there: equal from there on
step : (a b p q : ℕ) → p * 10 ≡ q → a / q ≡ b / q → digit_at a p ≡ digit_at b p → a / p ≡ b / p
step a b p q is above here =
    let tens : a / p / 10 ≡ b / p / 10 = div-div-eq-div-mul a p 10 ∙ ap (λ (m : ℕ). a / m) is ∙ above ∙ sym (ap (λ (m : ℕ). b / m) is) ∙ sym (div-div-eq-div-mul b p 10) in
    omega (arith, div-add-mod (a / p) 10, div-add-mod (b / p) 10, tens, here)

pub twenty_digits-injective : (a b : ℕ) → a < 2 ^ 64 → b < 2 ^ 64 → twenty_digits a ≡ twenty_digits b → a ≡ b
unfolding twenty_digits
twenty_digits-injective a b small_a small_b same =
    let at : (i : ℕ) → get_or (twenty_digits a) i 0 ≡ get_or (twenty_digits b) i 0 = λ i. ap (λ (l : List ℕ). get_or l i 0) same in
    let d19 : a / 10000000000000000000 ≡ b / 10000000000000000000 = omega (arith, at 0, small_a, small_b) in
    let d18 : a / 1000000000000000000 ≡ b / 1000000000000000000 = step a b 1000000000000000000 10000000000000000000 refl d19 (at 1) in
    let d17 : a / 100000000000000000 ≡ b / 100000000000000000 = step a b 100000000000000000 1000000000000000000 refl d18 (at 2) in
    let d16 : a / 10000000000000000 ≡ b / 10000000000000000 = step a b 10000000000000000 100000000000000000 refl d17 (at 3) in
    let d15 : a / 1000000000000000 ≡ b / 1000000000000000 = step a b 1000000000000000 10000000000000000 refl d16 (at 4) in
    let d14 : a / 100000000000000 ≡ b / 100000000000000 = step a b 100000000000000 1000000000000000 refl d15 (at 5) in
    let d13 : a / 10000000000000 ≡ b / 10000000000000 = step a b 10000000000000 100000000000000 refl d14 (at 6) in
    let d12 : a / 1000000000000 ≡ b / 1000000000000 = step a b 1000000000000 10000000000000 refl d13 (at 7) in
    let d11 : a / 100000000000 ≡ b / 100000000000 = step a b 100000000000 1000000000000 refl d12 (at 8) in
    let d10 : a / 10000000000 ≡ b / 10000000000 = step a b 10000000000 100000000000 refl d11 (at 9) in
    let d9 : a / 1000000000 ≡ b / 1000000000 = step a b 1000000000 10000000000 refl d10 (at 10) in
    let d8 : a / 100000000 ≡ b / 100000000 = step a b 100000000 1000000000 refl d9 (at 11) in
    let d7 : a / 10000000 ≡ b / 10000000 = step a b 10000000 100000000 refl d8 (at 12) in
    let d6 : a / 1000000 ≡ b / 1000000 = step a b 1000000 10000000 refl d7 (at 13) in
    let d5 : a / 100000 ≡ b / 100000 = step a b 100000 1000000 refl d6 (at 14) in
    let d4 : a / 10000 ≡ b / 10000 = step a b 10000 100000 refl d5 (at 15) in
    let d3 : a / 1000 ≡ b / 1000 = step a b 1000 10000 refl d4 (at 16) in
    let d2 : a / 100 ≡ b / 100 = step a b 100 1000 refl d3 (at 17) in
    let d1 : a / 10 ≡ b / 10 = step a b 10 100 refl d2 (at 18) in
    let d0 : a / 1 ≡ b / 1 = step a b 1 10 refl d1 (at 19) in
    omega (arith, d0)

pub log_file-injective : (a b : ℕ) → a < 2 ^ 64 → b < 2 ^ 64 → log_file a ≡ log_file b → a ≡ b
unfolding log_file
log_file-injective a b small_a small_b same = twenty_digits-injective a b small_a small_b (append_cancel_left (codes "commitlog/") (twenty_digits a) (twenty_digits b) same)

pub length-twenty_digits : (n : ℕ) → length (twenty_digits n) ≡ 20
unfolding twenty_digits
length-twenty_digits n = refl

pub length-log_file : (base : ℕ) → length (log_file base) ≡ 30
unfolding log_file twenty_digits
length-log_file base = refl

-- the powers of ten from this one down to 1
abbrev tens : ℕ → List ℕ
tens zero = 1 ∷ []
tens (suc k) = 10 ^ suc k ∷ tens k

-- what stands above the digit worth p, and that digit, is what stands from it on
digit_joins : (n p q : ℕ) → p * 10 ≡ q → n / q * 10 + digit_value (digit_at n p) ≡ n / p
digit_joins n p q is =
    let above : n / p / 10 ≡ n / q = div-div-eq-div-mul n p 10 ∙ ap (λ (m : ℕ). n / m) is in
    let digit : digit_value (digit_at n p) + 48 ≡ digit_at n p = digit_value_digit (digit_at n p) (omega arith, omega arith) in
    omega (arith, div-add-mod (n / p) 10, above, digit)

tens_value : (k n : ℕ) → digits_value_after 10 (n / 10 ^ suc k) (map (digit_at n) (tens k)) ≡ n
tens_value zero n = digit_joins n 1 10 refl ∙ omega arith
tens_value (suc k) n =
    ap (λ (m : ℕ). digits_value_after 10 m (map (digit_at n) (tens k))) (digit_joins n (10 ^ suc k) (10 ^ suc (suc k)) (omega arith)) ∙ tens_value k n

-- the digits write the number
pub twenty_digits-value : (n : ℕ) → n < 2 ^ 64 → digits_value 10 (twenty_digits n) ≡ n
unfolding twenty_digits
twenty_digits-value n small =
    let none : 0 ≡ n / 10 ^ 20 = omega (arith, small) in
    ap (λ (m : ℕ). digits_value_after 10 m (map (digit_at n) (tens 19))) none ∙ tens_value 19 n

digit_small : (n p : ℕ) → digit_at n p < 128
digit_small n p = omega arith

ascii_all : (bytes : List ℕ) → AllByRecursion (λ b. b < 128) bytes → IsAscii bytes
ascii_all [] are i = lit< tt
ascii_all (b ∷ bytes) are zero = are.0
ascii_all (b ∷ bytes) are (suc i) = ascii_all bytes are.1 i

pub twenty_digits_are_ascii : (n : ℕ) → IsAscii (twenty_digits n)
unfolding twenty_digits
twenty_digits_are_ascii n = ascii_all (twenty_digits n) (digit_small n 10000000000000000000, (digit_small n 1000000000000000000, (digit_small n 100000000000000000, (digit_small n 10000000000000000, (digit_small n 1000000000000000, (digit_small n 100000000000000, (digit_small n 10000000000000, (digit_small n 1000000000000, (digit_small n 100000000000, (digit_small n 10000000000, (digit_small n 1000000000, (digit_small n 100000000, (digit_small n 10000000, (digit_small n 1000000, (digit_small n 100000, (digit_small n 10000, (digit_small n 1000, (digit_small n 100, (digit_small n 10, (digit_small n 1, tt))))))))))))))))))))

folder_is_ascii : IsAscii (codes "commitlog/")
folder_is_ascii = ascii_all (codes "commitlog/") (lit< tt, (lit< tt, (lit< tt, (lit< tt, (lit< tt, (lit< tt, (lit< tt, (lit< tt, (lit< tt, (lit< tt, tt))))))))))

pub log_file_is_ascii : (base : ℕ) → IsAscii (log_file base)
unfolding log_file
log_file_is_ascii base = IsAscii-append (codes "commitlog/") (twenty_digits base) folder_is_ascii (twenty_digits_are_ascii base)
