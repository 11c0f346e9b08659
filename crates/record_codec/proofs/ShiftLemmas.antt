-- The table of shifts holds what it says.
use Rattle.std.proofs.Common.{◌≡◌, lit<, ℕ, zero, suc, ◌+◌, ◌*◌, ◌/◌, ◌%◌, ◌^◌, ◌<◌, Bool, true, ◌&&◌, eqb, get_or, refl, ap, ◌∙◌, arith, inl, inr}
use Rattle.std.proofs.lemmas.Bool.{and_parts, cases_lt, eqb-true}
use Rattle.std.proofs.Math.Nat.{pow-suc}
use Rattle.mq_bytes.specs.Crc.{bits}
use Rattle.record_codec.specs.Join.{shift_of}
use Rattle.record_codec.specs.declared.join.TheConstants.{SHIFTS}
use Rattle.record_codec.proofs.JoinLemmas.{product, product-shifts}

abbrev all_below : (ℕ → Bool) → ℕ → Bool
all_below p zero = true
all_below p (suc n) = p n && all_below p n

all_below_at : (p : ℕ → Bool) (n k : ℕ) → all_below p n ≡ true → k < n → p k ≡ true
all_below_at p zero k h lt = absurd (omega arith)
all_below_at p (suc n) k h lt =
    let parts = and_parts (p n) (all_below p n) h in
    elim (cases_lt k n) [
      | inl below ↦ all_below_at p n k parts.1 below
      | inr top ↦
          let e : k ≡ n = omega arith in
          rw e parts.0
    ]

abbrev entry : ℕ → ℕ → ℕ
entry j d = get_or SHIFTS (j * 16 + d) 0

-- ---- by computation

row_begins : (j : ℕ) → j < 8 → entry j 0 ≡ 0x8000_0000
row_begins j lt = eqb-true _ _ (all_below_at (λ j. eqb (entry j 0) 0x8000_0000) 8 j refl lt)

row_goes_on : (j d : ℕ) → j < 8 → d < 14 → entry j (d + 2) ≡ product 32 (entry j (d + 1)) (entry j 1)
unfolding product
row_goes_on j d lj ld =
    eqb-true _ _ (all_below_at (λ d. eqb (entry j (d + 2)) (product 32 (entry j (d + 1)) (entry j 1))) 14 d
    (all_below_at (λ j. all_below (λ d. eqb (entry j (d + 2)) (product 32 (entry j (d + 1)) (entry j 1))) 14) 8 j refl lj) ld)

-- the row past the last is the first
next_row : (j : ℕ) → j < 8 → entry ((j + 1) % 8) 1 ≡ product 32 (entry j 15) (entry j 1)
unfolding product
next_row j lt = eqb-true _ _ (all_below_at (λ j. eqb (entry ((j + 1) % 8) 1) (product 32 (entry j 15) (entry j 1))) 8 j refl lt)

first_entry : entry 0 1 ≡ shift_of 1
unfolding bits
first_entry = refl

-- ---- by multiplication

-- one more of the weight of a row
one_more : (m w : ℕ) {a b c : ℕ} → c ≡ product 32 a b → a ≡ shift_of m → b ≡ shift_of w → c ≡ shift_of (m + w)
one_more m w {b = b} e ea eb = e ∙ ap (λ (x : ℕ). product 32 x b) ea ∙ ap (product 32 (shift_of m)) eb ∙ product-shifts m w

in_row : (j w d : ℕ) → j < 8 → entry j 1 ≡ shift_of w → d < 16 → entry j d ≡ shift_of (d * w)
in_row j w zero lj e ld =
    let none : 0 ≡ zero * w = omega arith in
    row_begins j lj ∙ ap shift_of none
in_row j w (suc zero) lj e ld =
    let one : w ≡ suc zero * w = omega arith in
    e ∙ ap shift_of one
in_row j w (suc (suc d)) lj e ld =
    let at : suc (suc d) ≡ d + 2 = omega arith in
    let before_at : d + 1 ≡ suc d = omega arith in
    let before : entry j (d + 1) ≡ shift_of (suc d * w) = ap (entry j) before_at ∙ in_row j w (suc d) lj e (omega (arith, ld)) in
    let sum : suc d * w + w ≡ suc (suc d) * w = omega arith in
    ap (entry j) at ∙ one_more (suc d * w) w (row_goes_on j d lj (omega (arith, ld))) before e ∙ ap shift_of sum

row_leads : (j : ℕ) → entry (j % 8) 1 ≡ shift_of (16 ^ j)
row_leads zero = first_entry
row_leads (suc j) =
    let w = 16 ^ j in
    let lt : j % 8 < 8 = omega arith in
    let at : suc j % 8 ≡ (j % 8 + 1) % 8 = omega arith in
    let sum : 15 * w + w ≡ 16 ^ suc j = omega (arith, pow-suc 16 j) in
    ap (λ (k : ℕ). entry k 1) at
    ∙ one_more (15 * w) w (next_row (j % 8) lt) (in_row (j % 8) w 15 lt (row_leads j) (lit< tt)) (row_leads j)
    ∙ ap shift_of sum

pub shift_entry : (j d : ℕ) → d < 16 → get_or SHIFTS (j % 8 * 16 + d) 0 ≡ shift_of (d * 16 ^ j)
shift_entry j d lt =
    let below : j % 8 < 8 = omega arith in
    in_row (j % 8) (16 ^ j) d below (row_leads j) lt

-- A digit of the length that goes over from those that are left to those that are done, where w is its weight.
pub digit_done : (done rest w len : ℕ) → done + rest * w ≡ len → done + rest % 16 * w + rest / 16 * (w * 16) ≡ len
digit_done done rest w len e =
    let parts : rest / 16 * 16 + rest % 16 ≡ rest = omega arith in
    let spread : done + rest % 16 * w + rest / 16 * (w * 16) ≡ done + (rest / 16 * 16 + rest % 16) * w = omega arith in
    spread ∙ ap (λ (x : ℕ). done + x * w) parts ∙ e
