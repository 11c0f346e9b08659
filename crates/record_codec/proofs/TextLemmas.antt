-- Parts of UTF-8 texts.
use Rattle.std.proofs.Common.{◌≡◌, ℕ, zero, suc, ◌+◌, ◌<◌, ◌⊎◌, ◌++◌, List, [], ◌∷◌, length, get_or, take, drop, Bool, true, false, ◌&&◌, ◌||◌, eqb, cond, Option, Some, refl, sym, ap, subst, ◌∙◌, inl, inr, append_assoc, arith, length-append, lit<}
use Rattle.std.specs.Prelude.{nat_le}
use Rattle.std.specs.Str.{IsUtf8, IsAscii, bytes_eq}
use Rattle.std.proofs.lemmas.Bool.{and_parts, or_cases, eqb-true, leb-true}
use Rattle.std.proofs.lemmas.List.{take_at, drop_at}
use Rattle.std.proofs.lemmas.Str.{IsUtf8-take, IsUtf8-drop, IsUtf8-from_ascii, IsCharBoundary-before_ascii, IsCharBoundary-after_ascii}
use Rattle.record_codec.specs.Props.{pair_text, written, value_of}
use Rattle.record_codec.specs.Layout.{is_named, is_topic_char, all_topic_chars, is_legal}

byte_at : (xs : List ℕ) (c : ℕ) (ys : List ℕ) → get_or (xs ++ c ∷ ys) (length xs) 0 ≡ c
byte_at [] c ys = refl
byte_at (x ∷ xs) c ys = byte_at xs c ys

-- what stands before an ASCII byte, and behind it
pub IsUtf8-parts : (xs : List ℕ) (c : ℕ) (ys : List ℕ) → c < 128 → IsUtf8 (xs ++ c ∷ ys) → IsUtf8 xs × IsUtf8 ys
IsUtf8-parts xs c ys low u =
    let all = xs ++ c ∷ ys in
    let n = length xs in
    let within : n < length all = omega (arith, length-append xs (c ∷ ys)) in
    let at : get_or all n 0 < 128 = omega (arith, byte_at xs c ys) in
    let before : take n all ≡ xs = take_at xs (c ∷ ys) n refl in
    let regrouped : all ≡ (xs ++ c ∷ []) ++ ys = sym (append_assoc xs (c ∷ []) ys) in
    let after : drop (n + 1) all ≡ ys = ap (drop (n + 1)) regrouped ∙ drop_at (xs ++ c ∷ []) ys (n + 1) (length-append xs (c ∷ [])) in
    (subst IsUtf8 before (IsUtf8-take all n u (IsCharBoundary-before_ascii all n within at)), subst IsUtf8 after (IsUtf8-drop all (n + 1) u (IsCharBoundary-after_ascii all n u within at)))

-- the texts of the first pair, and the rest
pub IsUtf8-pair : (p : List ℕ × List ℕ) (rest : List ℕ) → IsUtf8 (pair_text p ++ rest) → IsUtf8 p.0 × IsUtf8 p.1 × IsUtf8 rest
IsUtf8-pair p rest u =
    let regrouped : pair_text p ++ rest ≡ p.0 ++ 1 ∷ (p.1 ++ 2 ∷ rest) = simp append_assoc in
    let first = IsUtf8-parts p.0 1 (p.1 ++ 2 ∷ rest) (omega arith) (subst IsUtf8 regrouped u) in
    let second = IsUtf8-parts p.1 2 rest (omega arith) first.1 in
    (first.0, second.0, second.1)

value_step : (t : Bool) (p : List ℕ × List ℕ) (o : Option (List ℕ)) (v : List ℕ) → cond t (Some p.1) o ≡ Some v → (p.1 ≡ v) ⊎ (o ≡ Some v)
value_step true p o v e = inl cc
value_step false p o v e = inr e

pub IsUtf8-value : (name : List ℕ) (ps : List (List ℕ × List ℕ)) (v : List ℕ) → IsUtf8 (written ps) → value_of name ps ≡ Some v → IsUtf8 v
IsUtf8-value name [] v u e = absurd cc
IsUtf8-value name (p ∷ ps) v u e =
    let parts = IsUtf8-pair p (written ps) u in
    elim (value_step (bytes_eq name p.0) p (value_of name ps) v e) [
      | inl here ↦ subst IsUtf8 here parts.1
      | inr later ↦ IsUtf8-value name ps v parts.2 later
    ]

-- ---- topics are ASCII

below : (lo hi b : ℕ) → hi < 128 → (nat_le lo b && nat_le b hi) ≡ true → b < 128
below lo hi b low h = let e = leb-true b hi (and_parts (nat_le lo b) (nat_le b hi) h).1 in omega (arith, e)

exactly : (c b : ℕ) → c < 128 → eqb b c ≡ true → b < 128
exactly c b low h = let e = eqb-true b c h in omega (arith, e)

either : (p q : Bool) (b : ℕ) → (p ≡ true → b < 128) → (q ≡ true → b < 128) → (p || q) ≡ true → b < 128
either p q b f g h = elim (or_cases p q h) [ inl x ↦ f x | inr x ↦ g x ]

topic_char_low : (b : ℕ) → is_topic_char b ≡ true → b < 128
topic_char_low b =
    either _ _ b (either _ _ b (either _ _ b (either _ _ b (either _ _ b (either _ _ b
    (exactly 37 b (lit< tt)) (exactly 124 b (lit< tt))) (exactly 95 b (lit< tt))) (exactly 45 b (lit< tt))) (below 48 57 b (lit< tt))) (below 65 90 b (lit< tt))) (below 97 122 b (lit< tt))

IsAscii-topic : (topic : List ℕ) → all_topic_chars topic ≡ true → IsAscii topic
IsAscii-topic [] h i = omega arith
IsAscii-topic (b ∷ topic) h zero = topic_char_low b (and_parts _ (all_topic_chars topic) h).0
IsAscii-topic (b ∷ topic) h (suc i) = IsAscii-topic topic (and_parts (is_topic_char b) _ h).1 i

pub IsUtf8-legal : (topic : List ℕ) → is_legal topic ≡ true → IsUtf8 topic
IsUtf8-legal topic h = IsUtf8-from_ascii topic (IsAscii-topic topic (and_parts _ (all_topic_chars topic) (and_parts (is_named topic) _ h).0).1)
