-- A blank's first bytes say its size, and no other one.
use Rattle.std.proofs.Common.{◌≡◌, ℕ, ◌+◌, ◌^◌, ◌<◌, ◌≤◌, ◌++◌, List, length, take, drop, false, eqb, ltb, Option, Some, None, refl, sym, ap, ◌∙◌, append_assoc, arith, length-append, length-drop}
use Rattle.std.specs.Prelude.{IfSome, IfNone}
use Rattle.std.specs.Int.{w32, to_be_bytes}
use Rattle.std.proofs.lemmas.Bool.{ltb-false, le-ltb, eqb-true}
use Rattle.std.proofs.lemmas.List.{length-take, take-append-drop, drop-drop}
use Rattle.std.proofs.lemmas.Nat.{be_bytes_4, from_be_bytes-to_be_bytes_4}
use Rattle.mq_bytes.specs.Bytes.{AreBytes}
use Rattle.record_codec.specs.Parsed.{n32}
use Rattle.record_codec.specs.Blanks.{blank_magic, blank_front, blank_size}
use Rattle.record_codec.proofs.NumberTexts.{AreBytes-drop, AreBytes-take}
use Rattle.record_codec.proofs.PairTexts.{past_fault, past_test}

number_at : (b : List ℕ) (at : ℕ) → AreBytes b → at + 4 ≤ length b → to_be_bytes w32 (n32 b at) ≡ take 4 (drop at b)
number_at b at fits le =
    be_bytes_4 (take 4 (drop at b)) _ (omega (arith, length-take 4 (drop at b), length-drop at b)) (AreBytes-take 4 (drop at b) (AreBytes-drop at b fits)) refl

-- what is found stands in front
front_is : (b : List ℕ) (size : ℕ) → AreBytes b → blank_size b ≡ Some size → b ≡ blank_front size ++ drop 8 b
unfolding blank_size
front_is b size fits h =
    let p = past_fault (ltb (length b) 8) _ size h in
    let q = past_test (eqb (n32 b 4) blank_magic) (n32 b 0) size p.1 in
    let long = ltb-false _ _ p.0 in
    let first : to_be_bytes w32 size ≡ take 4 b = ap (to_be_bytes w32) (sym q.1) ∙ number_at b 0 fits (omega (arith, long)) in
    let second : to_be_bytes w32 blank_magic ≡ take 4 (drop 4 b) = ap (to_be_bytes w32) (sym (eqb-true _ _ q.0)) ∙ number_at b 4 fits (omega (arith, long)) in
    let rest : drop 4 b ≡ to_be_bytes w32 blank_magic ++ drop 8 b = sym (take-append-drop 4 (drop 4 b)) ∙ ap (λ (w : List ℕ). w ++ drop 4 (drop 4 b)) (sym second) ∙ ap (λ (w : List ℕ). to_be_bytes w32 blank_magic ++ w) (drop-drop 4 4 b) in
    sym (take-append-drop 4 b) ∙ ap (λ (w : List ℕ). w ++ drop 4 b) (sym first) ∙ ap (λ (w : List ℕ). to_be_bytes w32 size ++ w) rest ∙ sym (append_assoc (to_be_bytes w32 size) (to_be_bytes w32 blank_magic) (drop 8 b))

-- a blank is found, whatever follows its first bytes
again : (size : ℕ) (rest : List ℕ) → size < 2 ^ 32 → blank_size (blank_front size ++ rest) ≡ Some size
unfolding blank_size
again size rest lt =
    let long : ltb (length (blank_front size ++ rest)) 8 ≡ false = le-ltb _ 8 (omega (arith, length-append (blank_front size) rest)) in
    rw long (ap (λ (n : ℕ). Some n) (from_be_bytes-to_be_bytes_4 size lt))

pub found_by : (b : List ℕ) (o : Option ℕ) → AreBytes b → o ≡ blank_size b → IfSome o (λ size. (rest : List ℕ) × (b ≡ blank_front size ++ rest))
found_by b None fits e = tt
found_by b (Some size) fits e = (drop 8 b, front_is b size fits (sym e))

none_some : (n : ℕ) → None ≡ Some n → ⊥
none_some n e = absurd cc

pub none_by : (b : List ℕ) (o : Option ℕ) → o ≡ blank_size b → IfNone o ((size : ℕ) (rest : List ℕ) → size < 2 ^ 32 → b ≡ blank_front size ++ rest → ⊥)
none_by b None e = λ size rest lt is. none_some size (e ∙ ap blank_size is ∙ again size rest lt)
none_by b (Some size) e = tt
