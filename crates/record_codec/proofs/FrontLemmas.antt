-- Eight bytes of a record's layout say its size.
use Rattle.std.proofs.Common.{◌≡◌, ℕ, ◌+◌, ◌-◌, ◌≤◌, ◌++◌, List, length, take, drop, false, ltb, Option, Some, refl, sym, ap, ◌∙◌, arith, length-append}
use Rattle.std.specs.Int.{w32, to_be_bytes, from_be_bytes}
use Rattle.std.proofs.lemmas.Bool.{le-ltb}
use Rattle.std.proofs.lemmas.List.{length-take, drop-take, take-take}
use Rattle.std.proofs.lemmas.Nat.{from_be_bytes-to_be_bytes_4}
use Rattle.record_codec.specs.Entry.{Entry}
use Rattle.record_codec.specs.Layout.{magic, size, layout, front, sealed, IsRecord}
use Rattle.record_codec.specs.Parsed.{n32}
use Rattle.record_codec.specs.Fronts.{front_size}
use Rattle.record_codec.proofs.LayoutLengths.{length-layout}

-- the size and the magic stand in front
layout_front : (r : Entry) (rest : List ℕ) → (behind : List ℕ) × (layout r ++ rest ≡ to_be_bytes w32 (size r) ++ (to_be_bytes w32 magic ++ behind))
unfolding sealed front
layout_front r rest = (_, refl)

numbers_in_front : (r : Entry) (rest : List ℕ) → IsRecord r → (n32 (layout r ++ rest) 0 ≡ size r) × (n32 (layout r ++ rest) 4 ≡ magic)
numbers_in_front r rest is =
    let begins = layout_front r rest in
    (ap (λ (l : List ℕ). n32 l 0) begins.1 ∙ from_be_bytes-to_be_bytes_4 (size r) is.size, ap (λ (l : List ℕ). n32 l 4) begins.1)

-- a number within the first n bytes is one of those
n32-take : (bytes : List ℕ) (n at : ℕ) → at + 4 ≤ n → n32 (take n bytes) at ≡ n32 bytes at
n32-take bytes n at low =
    let whole : at + (n - at) ≡ n = omega (arith, low) in
    ap (λ (k : ℕ). from_be_bytes w32 (take 4 (drop at (take k bytes)))) (sym whole)
    ∙ ap (λ (l : List ℕ). from_be_bytes w32 (take 4 l)) (drop-take at (n - at) bytes)
    ∙ ap (from_be_bytes w32) (take-take 4 (n - at) (drop at bytes) (omega (arith, low)))

pub front_size-layout : (r : Entry) (rest : List ℕ) (n : ℕ) → IsRecord r → 8 ≤ n → front_size (take n (layout r ++ rest)) ≡ Some (size r)
unfolding front_size
front_size-layout r rest n is low =
    let numbers = numbers_in_front r rest is in
    let long : ltb (length (take n (layout r ++ rest))) 8 ≡ false = le-ltb _ 8 (omega (arith, length-take n (layout r ++ rest), length-append (layout r) rest, length-layout r, low)) in
    let spelled : n32 (take n (layout r ++ rest)) 4 ≡ magic = n32-take (layout r ++ rest) n 4 (omega (arith, low)) ∙ numbers.1 in
    let first : n32 (take n (layout r ++ rest)) 0 ≡ size r = n32-take (layout r ++ rest) n 0 (omega (arith, low)) ∙ numbers.0 in
    rw (long, spelled, first) refl

pub said_by : (bytes : List ℕ) (found : Option ℕ) → found ≡ front_size bytes → (r : Entry) (rest : List ℕ) (n : ℕ) → IsRecord r → 8 ≤ n → bytes ≡ take n (layout r ++ rest) → found ≡ Some (size r)
said_by bytes found says r rest n is low stands = says ∙ ap front_size stands ∙ front_size-layout r rest n is low
