-- Pieces in the order of the log: what a piece that is added changes, and where a range is found.
use Rattle.std.proofs.Common.{◌≡◌, ◌⊎◌, ⊎_elim, inl, inr, ◌∙◌, ℕ, ◌+◌, ◌-◌, ◌<◌, ◌≤◌, ◌++◌, List, [], ◌∷◌, length, take, drop, get_or, ap, sym, subst, arith, Option, None}
use Rattle.std.proofs.lemmas.List.{take-append-drop}
use Rattle.mq_outside.specs.declared.frozen.Frozen.{Frozen}
use Rattle.mq_outside.specs.Readings.{HasAt}
use Rattle.mq_outside.specs.Covers.{piece_start, piece_end, Covers, AreOrdered, HasRange, PieceHolds, HoldsRange, IsJoined, HasJoined, IsAdded}

-- ---- order

pub ordered-le : (low : ℕ) (pieces : List Frozen) (high : ℕ) → AreOrdered low pieces high → low ≤ high
ordered-le low [] high ordered = ordered
ordered-le low (p ∷ pieces) high ordered = omega (arith, ordered.0, ordered-le (piece_end p) pieces high ordered.1)

-- one more piece that begins at the end or later
ordered-push : (low : ℕ) (pieces : List Frozen) (high : ℕ) (p : Frozen) → AreOrdered low pieces high → high ≤ piece_start p → AreOrdered low (pieces ++ p ∷ []) (piece_end p)
ordered-push low [] high p ordered behind = (omega (arith, ordered, behind), omega arith)
ordered-push low (q ∷ pieces) high p ordered behind = (ordered.0, ordered-push (piece_end q) pieces high p ordered.1 behind)

-- the last piece ends with the pieces
pub ordered-last : (low : ℕ) (rest : List Frozen) (last : Frozen) (high : ℕ) → AreOrdered low (rest ++ last ∷ []) high → (piece_end last ≤ high) × AreOrdered low rest (piece_start last)
ordered-last low [] last high ordered = (ordered.1, ordered.0)
ordered-last low (q ∷ rest) last high ordered = let inner = ordered-last (piece_end q) rest last high ordered.1 in (inner.0, (ordered.0, inner.1))

pub ordered-added : (old : List Frozen) (piece : Frozen) (new : List Frozen) (high : ℕ) → AreOrdered 0 old high → high ≤ piece_start piece → IsAdded old piece new → AreOrdered 0 new (piece_end piece)
ordered-added old piece new high ordered behind added = ⊎_elim
    (λ (is : new ≡ old ++ piece ∷ []). subst (λ (l : List Frozen). AreOrdered 0 l (piece_end piece)) (sym is) (ordered-push 0 old high piece ordered behind))
    (λ (j : HasJoined old piece new).
    let was = ordered-last 0 j.rest j.last high (subst (λ (l : List Frozen). AreOrdered 0 l high) j.was ordered) in
    let start : piece_start j.last ≤ piece_start j.joined = omega (arith, j.are_one.base, j.are_one.from) in
    let ends : piece_end j.joined ≡ piece_end piece = omega (arith, j.are_one.base, j.are_one.from, j.are_one.len, j.are_one.meets) in
    subst (λ (l : List Frozen). AreOrdered 0 l (piece_end piece)) (sym j.is)
    (subst (AreOrdered 0 (j.rest ++ j.joined ∷ [])) ends (ordered-push 0 j.rest (piece_start j.last) j.joined was.1 start)))
    added

-- ---- which ranges there are

has-before : (xs ys : List Frozen) (place n : ℕ) → HasRange xs place n → HasRange (xs ++ ys) place n
has-before [] ys place n has = absurd has
has-before (x ∷ xs) ys place n has = ⊎_elim (λ (here : Covers x place n). inl here) (λ (later : HasRange xs place n). inr (has-before xs ys place n later)) has

has-behind : (xs ys : List Frozen) (place n : ℕ) → HasRange ys place n → HasRange (xs ++ ys) place n
has-behind [] ys place n has = has
has-behind (x ∷ xs) ys place n has = inr (has-behind xs ys place n has)

has-either : (xs ys : List Frozen) (place n : ℕ) → HasRange (xs ++ ys) place n → HasRange xs place n ⊎ HasRange ys place n
has-either [] ys place n has = inr has
has-either (x ∷ xs) ys place n has = ⊎_elim (λ (here : Covers x place n). inl (inl here))
    (λ (later : HasRange (xs ++ ys) place n). ⊎_elim (λ (in_xs : HasRange xs place n). inl (inr in_xs)) (λ (in_ys : HasRange ys place n). inr in_ys) (has-either xs ys place n later)) has

-- what one of two joined pieces has, both have
first-joined : (first next joined : Frozen) (place n : ℕ) → IsJoined first next joined → Covers first place n → Covers joined place n
first-joined first next joined place n one covers = record { from = omega (arith, one.base, one.from, covers.from); to = omega (arith, one.base, one.from, one.len, covers.to) }

next-joined : (first next joined : Frozen) (place n : ℕ) → IsJoined first next joined → Covers next place n → Covers joined place n
next-joined first next joined place n one covers = record { from = omega (arith, one.base, one.from, one.meets, covers.from); to = omega (arith, one.base, one.from, one.len, one.meets, covers.to) }

only-one : (p : Frozen) (place n : ℕ) → HasRange (p ∷ []) place n → Covers p place n
only-one p place n has = ⊎_elim (λ (here : Covers p place n). here) (λ (none : ⊥). absurd none) has

pub has-kept : (old : List Frozen) (piece : Frozen) (new : List Frozen) (place n : ℕ) → IsAdded old piece new → HasRange old place n → HasRange new place n
has-kept old piece new place n added has = ⊎_elim
    (λ (is : new ≡ old ++ piece ∷ []). subst (λ (l : List Frozen). HasRange l place n) (sym is) (has-before old (piece ∷ []) place n has))
    (λ (j : HasJoined old piece new). subst (λ (l : List Frozen). HasRange l place n) (sym j.is) (⊎_elim
    (λ (before : HasRange j.rest place n). has-before j.rest (j.joined ∷ []) place n before)
    (λ (last : HasRange (j.last ∷ []) place n). has-behind j.rest (j.joined ∷ []) place n (inl (first-joined j.last piece j.joined place n j.are_one (only-one j.last place n last))))
    (has-either j.rest (j.last ∷ []) place n (subst (λ (l : List Frozen). HasRange l place n) j.was has))))
    added

pub has-added : (old : List Frozen) (piece : Frozen) (new : List Frozen) (place n : ℕ) → IsAdded old piece new → Covers piece place n → HasRange new place n
has-added old piece new place n added covers = ⊎_elim
    (λ (is : new ≡ old ++ piece ∷ []). subst (λ (l : List Frozen). HasRange l place n) (sym is) (has-behind old (piece ∷ []) place n (inl covers)))
    (λ (j : HasJoined old piece new). subst (λ (l : List Frozen). HasRange l place n) (sym j.is) (has-behind j.rest (j.joined ∷ []) place n (inl (next-joined j.last piece j.joined place n j.are_one covers))))
    added

-- ---- what is held

holds-append : (xs ys : List Frozen) (place : ℕ) (bytes : List ℕ) → HoldsRange xs place bytes → HoldsRange ys place bytes → HoldsRange (xs ++ ys) place bytes
holds-append [] ys place bytes one two = two
holds-append (x ∷ xs) ys place bytes one two = (one.0, holds-append xs ys place bytes one.1 two)

pub holds-before : (xs ys : List Frozen) (place : ℕ) (bytes : List ℕ) → HoldsRange (xs ++ ys) place bytes → HoldsRange xs place bytes
holds-before [] ys place bytes holds = tt
holds-before (x ∷ xs) ys place bytes holds = (holds.0, holds-before xs ys place bytes holds.1)

pub holds-behind : (xs ys : List Frozen) (place : ℕ) (bytes : List ℕ) → HoldsRange (xs ++ ys) place bytes → HoldsRange ys place bytes
holds-behind [] ys place bytes holds = holds
holds-behind (x ∷ xs) ys place bytes holds = holds-behind xs ys place bytes holds.1

-- a piece that holds no bytes says nothing of them
none-holds : (p : Frozen) (place : ℕ) (bytes : List ℕ) → p.held ≡ None → PieceHolds p place bytes
none-holds p place bytes none covers = subst (λ (held : Option (List ℕ)). HasAt held (place - piece_start p) bytes) (sym none) tt

pub holds-added : (old : List Frozen) (piece : Frozen) (new : List Frozen) (place : ℕ) (bytes : List ℕ) → IsAdded old piece new → HoldsRange old place bytes → PieceHolds piece place bytes → HoldsRange new place bytes
holds-added old piece new place bytes added holds here = ⊎_elim
    (λ (is : new ≡ old ++ piece ∷ []). subst (λ (l : List Frozen). HoldsRange l place bytes) (sym is) (holds-append old (piece ∷ []) place bytes holds (here, tt)))
    (λ (j : HasJoined old piece new). subst (λ (l : List Frozen). HoldsRange l place bytes) (sym j.is)
    (holds-append j.rest (j.joined ∷ []) place bytes (holds-before j.rest (j.last ∷ []) place bytes (subst (λ (l : List Frozen). HoldsRange l place bytes) j.was holds)) (none-holds j.joined place bytes j.are_one.none, tt)))
    added

-- pieces that end before a range have no part of it
pub holds-past : (low : ℕ) (old : List Frozen) (high place : ℕ) (bytes : List ℕ) → AreOrdered low old high → high ≤ place → 0 < length bytes → HoldsRange old place bytes
holds-past low [] high place bytes ordered past some = tt
holds-past low (p ∷ old) high place bytes ordered past some =
    (λ (covers : Covers p place (length bytes)). absurd (omega (arith, covers.to, ordered-le (piece_end p) old high ordered.1)), holds-past (piece_end p) old high place bytes ordered.1 past some)

-- ---- where a range is found

-- what ends before a piece that begins at the place or before is empty there
touching : (low : ℕ) (xs : List Frozen) (p : Frozen) (ys : List Frozen) (high place n : ℕ) → AreOrdered low (xs ++ p ∷ ys) high → piece_start p ≤ place → place + n ≤ low → Covers p place n
touching low [] p ys high place n ordered at ends = record { from = at; to = omega (arith, ordered.0, at, ends) }
touching low (x ∷ xs) p ys high place n ordered at ends = touching (piece_end x) xs p ys high place n ordered.1 at (omega (arith, ordered.0, ends))

-- pieces before one that begins at the place or before have no range there that this one and those behind it lack
pub found-behind : (low : ℕ) (xs : List Frozen) (p : Frozen) (ys : List Frozen) (high place n : ℕ) → AreOrdered low (xs ++ p ∷ ys) high → piece_start p ≤ place
    → HasRange (xs ++ p ∷ ys) place n → HasRange (p ∷ ys) place n
found-behind low [] p ys high place n ordered at has = has
found-behind low (x ∷ xs) p ys high place n ordered at has = ⊎_elim
    (λ (here : Covers x place n). inl (touching (piece_end x) xs p ys high place n ordered.1 at here.to))
    (λ (later : HasRange (xs ++ p ∷ ys) place n). found-behind (piece_end x) xs p ys high place n ordered.1 at later)
    has

-- pieces that begin past the place have no range there
none-later : (low : ℕ) (pieces : List Frozen) (high place n : ℕ) → AreOrdered low pieces high → place < low → HasRange pieces place n → ⊥
none-later low [] high place n ordered past has = has
none-later low (p ∷ pieces) high place n ordered past has = ⊎_elim (λ (here : Covers p place n). omega (arith, here.from, ordered.0, past))
    (λ (later : HasRange pieces place n). none-later (piece_end p) pieces high place n ordered.1 (omega (arith, ordered.0, past)) later) has

-- pieces from one on that begins past the place have no range there
pub found-before : (low : ℕ) (xs : List Frozen) (p : Frozen) (ys : List Frozen) (high place n : ℕ) → AreOrdered low (xs ++ p ∷ ys) high → place < piece_start p → HasRange (xs ++ p ∷ ys) place n → HasRange xs place n
found-before low [] p ys high place n ordered past has = absurd (⊎_elim (λ (here : Covers p place n). let no : ⊥ = omega (arith, here.from, past) in no)
    (λ (later : HasRange ys place n). none-later (piece_end p) ys high place n ordered.1 (omega (arith, past)) later) has)
found-before low (x ∷ xs) p ys high place n ordered past has = ⊎_elim (λ (here : Covers x place n). inl here)
    (λ (later : HasRange (xs ++ p ∷ ys) place n). inr (found-before (piece_end x) xs p ys high place n ordered.1 past later)) has

-- ---- a list that is cut in two

pub split-is : (k : ℕ) (pieces front back : List Frozen) → front ≡ take k pieces → back ≡ drop k pieces → pieces ≡ front ++ back
split-is k pieces front back is_front is_back = sym (take-append-drop k pieces) ∙ ap (λ (l : List Frozen). l ++ drop k pieces) (sym is_front) ∙ ap (λ (l : List Frozen). front ++ l) (sym is_back)

pub ordered-split : (low : ℕ) (front back : List Frozen) (high : ℕ) → AreOrdered low (front ++ back) high → (mid : ℕ) × AreOrdered low front mid × AreOrdered mid back high
ordered-split low [] back high ordered = (low, omega arith, ordered)
ordered-split low (x ∷ front) back high ordered = let inner = ordered-split (piece_end x) front back high ordered.1 in (inner.0, (ordered.0, inner.1), inner.2)

-- a list is its first piece and the others
first-of : (pieces : List Frozen) (p : Frozen) → 0 < length pieces → p ≡ get_or pieces 0 p → pieces ≡ p ∷ drop 1 pieces
first-of [] p some is = absurd (let none : ⊥ = omega (arith, some) in none)
first-of (x ∷ pieces) p some is = ap (λ (q : Frozen). q ∷ pieces) (sym is)

module _ (pieces front back : List Frozen) (p : Frozen) (low high place n : ℕ) (cut : pieces ≡ front ++ back) (some : 0 < length back) (is : p ≡ get_or back 0 p) (ordered : AreOrdered low pieces high) where
  at_p : pieces ≡ front ++ p ∷ drop 1 back
  at_p = cut ∙ ap (λ (l : List Frozen). front ++ l) (first-of back p some is)

  ordered_at : AreOrdered low (front ++ p ∷ drop 1 back) high
  ordered_at = subst (λ (l : List Frozen). AreOrdered low l high) at_p ordered

  -- a piece of ordered ones begins before they end
  pub start-within : piece_start p ≤ high
  start-within = let parts = ordered-split low front (p ∷ drop 1 back) high ordered_at in omega (arith, ordered-le (piece_end p) (drop 1 back) high parts.2.1)

  -- where the middle piece begins at the place or before, the range is in it or behind it
  pub search-behind : piece_start p ≤ place → HasRange pieces place n → HasRange back place n
  search-behind at has =
      subst (λ (l : List Frozen). HasRange l place n) (sym (first-of back p some is))
      (found-behind low front p (drop 1 back) high place n ordered_at at (subst (λ (l : List Frozen). HasRange l place n) at_p has))

  -- and else before it
  pub search-before : place < piece_start p → HasRange pieces place n → HasRange front place n
  search-before past has = found-before low front p (drop 1 back) high place n ordered_at past (subst (λ (l : List Frozen). HasRange l place n) at_p has)

-- the only piece has the range
pub only-has : (pieces : List Frozen) (p : Frozen) (place n : ℕ) → length pieces ≤ 1 → p ≡ get_or pieces 0 p → HasRange pieces place n → Covers p place n
only-has [] p place n few is has = absurd has
only-has (x ∷ []) p place n few is has = subst (λ (q : Frozen). Covers q place n) (sym is) (only-one x place n has)
only-has (x ∷ y ∷ pieces) p place n few is has = absurd (let none : ⊥ = omega (arith, few) in none)

-- and holds what they hold
pub only-holds : (pieces : List Frozen) (p : Frozen) (place : ℕ) (bytes : List ℕ) → 0 < length pieces → p ≡ get_or pieces 0 p → HoldsRange pieces place bytes → PieceHolds p place bytes
only-holds [] p place bytes some is holds = absurd (let none : ⊥ = omega (arith, some) in none)
only-holds (x ∷ pieces) p place bytes some is holds = subst (λ (q : Frozen). PieceHolds q place bytes) (sym is) holds.0

pub some-has : (pieces : List Frozen) (place n : ℕ) → HasRange pieces place n → 0 < length pieces
some-has [] place n has = absurd has
some-has (x ∷ pieces) place n has = omega arith
