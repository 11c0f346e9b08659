-- A run of plain bytes, sixteen at a time, and the mask of those that end it.
use Rattle.std.proofs.Common.{◌≡◌, ℕ, ◌+◌, ◌%◌, ◌^◌, ◌<◌, ◌≤◌, ltb, Bool, true, false, cond, ◌||◌, eqb, List, [], ◌∷◌, map, length, drop, replicate, bit_or, refl, ap, ap₂, ◌∙◌, subst, arith}
use Rattle.std.proofs.lemmas.Simd.{chunk-drop, length-chunk, mask_l-mod}
use Rattle.std.proofs.lemmas.List.{length-drop, length-map}
use Rattle.std.proofs.lemmas.List.Folds.{prefix_len-append}
use Rattle.std.proofs.lemmas.List.Sums.{prefix_len-le-length}
use Rattle.std.proofs.lemmas.Bool.{eq-eqb, ne_eqb}
use Rattle.std.specs.List.{prefix_len}
use lib.Lanes.{chunk, mask_l, top, zip2}
use Rattle.json.specs.Run.{is_stop, is_plain}

-- ---- the mask

abbrev pub hit : ℕ → ℕ → ℕ
hit a b = cond (eqb a b) 255 0

abbrev pub below : ℕ → ℕ → ℕ
below a b = cond (ltb a b) 255 0

-- a lane that holds where one of three tests does
lane : (a b c : Bool) → top 7 (bit_or (bit_or (cond a 255 0) (cond b 255 0)) (cond c 255 0)) ≡ ((a || b) || c)
lane true true true = refl
lane true true false = refl
lane true false true = refl
lane true false false = refl
lane false true true = refl
lane false true false = refl
lane false false true = refl
lane false false false = refl

abbrev lanes : ℕ → List ℕ → List ℕ
lanes n v = zip2 bit_or (zip2 bit_or (zip2 hit v (replicate n 34)) (zip2 hit v (replicate n 92))) (zip2 below v (replicate n 32))

each_lane : (v : List ℕ) → map (top 7) (lanes (length v) v) ≡ map is_stop v
each_lane [] = refl
each_lane (x ∷ xs) = ap₂ (λ b l. b ∷ l) (lane (eqb x 34) (eqb x 92) (ltb x 32)) (each_lane xs)

pub mask_is : (v : List ℕ) (n : ℕ) → length v ≡ n → n ≤ 64
    → mask_l (map (top 7) (zip2 bit_or (zip2 bit_or (zip2 hit v (replicate n 34)) (zip2 hit v (replicate n 92))) (zip2 below v (replicate n 32)))) % 2 ^ 64 ≡ mask_l (map is_stop v)
mask_is v n long few =
    ap (λ l. mask_l l % 2 ^ 64) (subst (λ k. map (top 7) (lanes k v) ≡ map is_stop v) long (each_lane v)) ∙ mask_l-mod (map is_stop v) 64 (omega (arith, length-map v is_stop))

-- ---- the run

pub run_bound : (d : List ℕ) (i : ℕ) → i ≤ length d → i + prefix_len is_plain (drop i d) ≤ length d
run_bound d i h = omega (arith, prefix_len-le-length is_plain (drop i d), length-drop i d)

-- the run from i on, by that of the n bytes there: it goes on behind them where they all are plain
module _ (d : List ℕ) (i n : ℕ) (room : i + n ≤ length d) where
  by_front : prefix_len is_plain (drop i d) ≡ cond (eqb (prefix_len is_plain (chunk i n d)) n) (n + prefix_len is_plain (drop (i + n) d)) (prefix_len is_plain (chunk i n d))
  by_front =
      ap (prefix_len is_plain) (chunk-drop i n d) ∙ prefix_len-append is_plain (chunk i n d) (drop (i + n) d)
      ∙ ap (λ k. cond (eqb (prefix_len is_plain (chunk i n d)) k) (k + prefix_len is_plain (drop (i + n) d)) (prefix_len is_plain (chunk i n d))) (length-chunk i n d room)

  pub front_ends : prefix_len is_plain (chunk i n d) < n → prefix_len is_plain (drop i d) ≡ prefix_len is_plain (chunk i n d)
  front_ends less = by_front ∙ rw (ne_eqb (prefix_len is_plain (chunk i n d)) n (omega arith)) refl

  pub front_goes_on : n ≤ prefix_len is_plain (chunk i n d) → prefix_len is_plain (drop i d) ≡ n + prefix_len is_plain (drop (i + n) d)
  front_goes_on all =
      let most = prefix_len-le-length is_plain (chunk i n d) in
      by_front ∙ rw (eq-eqb (prefix_len is_plain (chunk i n d)) n (omega (arith, most, length-chunk i n d room))) refl
