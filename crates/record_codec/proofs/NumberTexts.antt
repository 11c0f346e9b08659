-- Numbers one after another: read as written, and written as read.
use Rattle.std.proofs.Common.{◌≡◌, ℕ, ◌+◌, ◌^◌, ◌<◌, ◌≤◌, ◌++◌, List, [], ◌∷◌, length, take, drop, refl, sym, ap, ◌∙◌, append_assoc, arith, inl, inr, length-append, length-drop}
use Rattle.std.specs.Int.{Width, w32, w64, byte_len, to_be_bytes, from_be_bytes}
use Rattle.std.proofs.lemmas.Bool.{cases_lt}
use Rattle.std.proofs.lemmas.List.{take_at, drop_at, length-take, get_or-drop, get_or-take, get_or_past, drop-drop}
use Rattle.std.proofs.lemmas.Nat.{be_bytes_4, be_bytes_8, from_be_bytes-to_be_bytes_4, from_be_bytes-to_be_bytes_8}
use Rattle.std.proofs.Math.Seq.{take-add}
use Rattle.mq_bytes.specs.Bytes.{AreBytes}
use Rattle.record_codec.specs.Layout.{numbers_text}

pub AreBytes-drop : (n : ℕ) (bytes : List ℕ) → AreBytes bytes → AreBytes (drop n bytes)
AreBytes-drop n bytes h i = rw get_or-drop (h (n + i))

pub AreBytes-take : (n : ℕ) (bytes : List ℕ) → AreBytes bytes → AreBytes (take n bytes)
AreBytes-take n bytes h i =
    elim (cases_lt i n) [
      | inl lt ↦ rw (get_or-take n bytes i 0 lt) (h i)
      | inr le ↦ rw (get_or_past (take n bytes) i 0 (omega (arith, length-take n bytes))) (omega arith)
    ]

-- the widths in use
pub data IsWide : Width → Type 0 where
  four : IsWide w32
  eight : IsWide w64

pub data AreWide : List Width → Type 0 where
  none : AreWide []
  more : {w : Width} {ws : List Width} → IsWide w → AreWide ws → AreWide (w ∷ ws)

abbrev limit : Width → ℕ
limit w = 256 ^ byte_len w

-- each number fits its width
abbrev pub Fit : List Width → List ℕ → Type 0
Fit [] [] = Unit {0}
Fit [] (n ∷ ns) = ⊥
Fit (w ∷ ws) [] = ⊥
Fit (w ∷ ws) (n ∷ ns) = (n < limit w) × Fit ws ns

abbrev pub total : List Width → ℕ
total [] = 0
total (w ∷ ws) = byte_len w + total ws

abbrev pub numbers_from : ℕ → List Width → List ℕ → List ℕ
numbers_from at [] b = []
numbers_from at (w ∷ ws) b = from_be_bytes w (take (byte_len w) (drop at b)) ∷ numbers_from (at + byte_len w) ws b

wide_len : (w : Width) (n : ℕ) → IsWide w → length (to_be_bytes w n) ≡ byte_len w
wide_len w n four = refl
wide_len w n eight = refl

wide_back : (w : Width) (b : List ℕ) → IsWide w → length b ≡ byte_len w → AreBytes b → to_be_bytes w (from_be_bytes w b) ≡ b
wide_back w b four len fits = be_bytes_4 b _ len fits refl
wide_back w b eight len fits = be_bytes_8 b _ len fits refl

wide_again : (w : Width) (n : ℕ) → IsWide w → n < limit w → from_be_bytes w (to_be_bytes w n) ≡ n
wide_again w n four lt = from_be_bytes-to_be_bytes_4 n lt
wide_again w n eight lt = from_be_bytes-to_be_bytes_8 n lt

pub numbers_text-read : (at : ℕ) (ws : List Width) (b : List ℕ) → AreWide ws → at + total ws ≤ length b → AreBytes b → numbers_text ws (numbers_from at ws b) ≡ take (total ws) (drop at b)
numbers_text-read at [] b none le fits = refl
numbers_text-read at (w ∷ ws) b (more h hs) le fits =
    let len : length (take (byte_len w) (drop at b)) ≡ byte_len w = omega (arith, length-take (byte_len w) (drop at b), length-drop at b) in
    let first = wide_back w (take (byte_len w) (drop at b)) h len (AreBytes-take (byte_len w) (drop at b) (AreBytes-drop at b fits)) in
    let others = numbers_text-read (at + byte_len w) ws b hs (omega arith) fits in
    let moved : drop (at + byte_len w) b ≡ drop (byte_len w) (drop at b) = sym (drop-drop (byte_len w) at b) in
    rw (first, others, moved) (sym (take-add (byte_len w) (total ws) (drop at b)))

pub numbers_from-text : (pre : List ℕ) (at : ℕ) (ws : List Width) (ns rest : List ℕ) → length pre ≡ at → AreWide ws → Fit ws ns → numbers_from at ws (pre ++ (numbers_text ws ns ++ rest)) ≡ ns
numbers_from-text pre at [] [] rest len none fit = refl
numbers_from-text pre at [] (n ∷ ns) rest len none fit = absurd fit
numbers_from-text pre at (w ∷ ws) [] rest len (more h hs) fit = absurd fit
numbers_from-text pre at (w ∷ ws) (n ∷ ns) rest len (more h hs) fit =
    let first = to_be_bytes w n in
    let others = numbers_text ws ns ++ rest in
    let wide = wide_len w n h in
    let regrouped : pre ++ ((first ++ numbers_text ws ns) ++ rest) ≡ pre ++ (first ++ others) = ap (λ (x : List ℕ). pre ++ x) (append_assoc first (numbers_text ws ns) rest) in
    let later : pre ++ (first ++ others) ≡ (pre ++ first) ++ others = sym (append_assoc pre first others) in
    let here : from_be_bytes w (take (byte_len w) (drop at (pre ++ (first ++ others)))) ≡ n =
    rw (drop_at pre (first ++ others) at len, take_at first others (byte_len w) wide, wide_again w n h fit.0) refl in
    let there : numbers_from (at + byte_len w) ws (pre ++ (first ++ others)) ≡ ns =
    rw later (numbers_from-text (pre ++ first) (at + byte_len w) ws ns rest (omega (arith, length-append pre first)) hs fit.1) in
    ap (numbers_from at (w ∷ ws)) regrouped ∙ rw here (ap (λ (x : List ℕ). n ∷ x) there)
