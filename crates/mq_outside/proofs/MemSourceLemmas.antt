-- A place in a list of pieces that goes on, inside a piece and to the next one.
use Rattle.std.proofs.Common.{◌≡◌, ◌<◌, ◌≤◌, ◌+◌, ℕ, List, [], ◌∷◌, ◌++◌, length, take, drop, get_or, refl, sym, ◌∙◌, ap, append_assoc, arith}
use Rattle.std.proofs.lemmas.List.{take-append-le, drop-append-le, drop-drop, drop_more, take_more, take-append-drop, length-drop, append-nil}
use Rattle.std.proofs.Math.Seq.{take-add}
use Rattle.std.specs.Prelude.{Vec}
use Rattle.std.specs.declared.alloc.Global.{Global}
use Rattle.mq_outside.specs.MemSource.{joined, bytes_before, bytes_from}

joined-append : (xs ys : List (Vec ℕ Global)) → joined (xs ++ ys) ≡ joined xs ++ joined ys
joined-append [] ys = refl
joined-append (x ∷ xs) ys = ap (λ (l : List ℕ). x.items ++ l) (joined-append xs ys) ∙ sym (append_assoc x.items (joined xs) (joined ys))

-- a piece, and those behind it
joined_more : (pieces : List (Vec ℕ Global)) (piece : ℕ) (d : Vec ℕ Global) → piece < length pieces
    → joined (drop piece pieces) ≡ (get_or pieces piece d).items ++ joined (drop (piece + 1) pieces)
joined_more pieces piece d below = ap joined (drop_more pieces piece d below)

-- the first bytes of the rest of a piece are the first of what is left
first_of_rest : (p behind : List ℕ) (at n : ℕ) → at + n ≤ length p → take n (drop at (p ++ behind)) ≡ take n (drop at p)
first_of_rest p behind at n within = ap (take n) (drop-append-le at p behind (omega arith))
    ∙ take-append-le n (drop at p) behind (omega (arith, length-drop at p))

-- n bytes further inside a piece
pub given_within : (pieces : List (Vec ℕ Global)) (piece at n : ℕ) (d : Vec ℕ Global) → piece < length pieces → at + n ≤ length (get_or pieces piece d).items
    → bytes_before pieces piece (at + n) ≡ bytes_before pieces piece at ++ take n (drop at (get_or pieces piece d).items)
given_within pieces piece at n d below within =
    let behind = joined (drop (piece + 1) pieces) in
    let p = (get_or pieces piece d).items in
    let more = joined_more pieces piece d below in
    ap (λ (l : List ℕ). joined (take piece pieces) ++ l)
    (take-add at n (joined (drop piece pieces))
    ∙ ap (λ (l : List ℕ). take at (joined (drop piece pieces)) ++ l) (ap (λ (l : List ℕ). take n (drop at l)) more ∙ first_of_rest p behind at n within))
    ∙ sym (append_assoc (joined (take piece pieces)) (take at (joined (drop piece pieces))) (take n (drop at p)))

pub left_within : (pieces : List (Vec ℕ Global)) (piece at n : ℕ) (d : Vec ℕ Global) → piece < length pieces → at + n ≤ length (get_or pieces piece d).items
    → bytes_from pieces piece at ≡ take n (drop at (get_or pieces piece d).items) ++ bytes_from pieces piece (at + n)
left_within pieces piece at n d below within =
    let behind = joined (drop (piece + 1) pieces) in
    let p = (get_or pieces piece d).items in
    let whole = joined (drop piece pieces) in
    let more = joined_more pieces piece d below in
    sym (take-append-drop n (drop at whole))
    ∙ ap (λ (l : List ℕ). l ++ drop n (drop at whole)) (ap (λ (l : List ℕ). take n (drop at l)) more ∙ first_of_rest p behind at n within)
    ∙ ap (λ (l : List ℕ). take n (drop at p) ++ l) (drop-drop n at whole)

-- the rest of a piece, and on to the next
pub given_over : (pieces : List (Vec ℕ Global)) (piece at : ℕ) (d : Vec ℕ Global) → piece < length pieces → at ≤ length (get_or pieces piece d).items
    → bytes_before pieces (piece + 1) 0 ≡ bytes_before pieces piece at ++ drop at (get_or pieces piece d).items
given_over pieces piece at d below within =
    let behind = joined (drop (piece + 1) pieces) in
    let p = (get_or pieces piece d).items in
    let front = joined (take piece pieces) in
    let more = joined_more pieces piece d below in
    append-nil (joined (take (piece + 1) pieces))
    ∙ ap joined (take_more pieces piece d below)
    ∙ joined-append (take piece pieces) (get_or pieces piece d ∷ [])
    ∙ ap (λ (l : List ℕ). front ++ l) (append-nil p ∙ sym (take-append-drop at p))
    ∙ sym (append_assoc front (take at p) (drop at p))
    ∙ ap (λ (l : List ℕ). (front ++ l) ++ drop at p) (sym (ap (take at) more ∙ take-append-le at p behind within))
