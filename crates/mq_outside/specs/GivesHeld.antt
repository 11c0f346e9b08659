-- A reader that gives what a piece holds, where it holds bytes.
use Rattle.std.proofs.Common.{◌≡◌, ◌∙◌, ℕ, ◌+◌, ◌≤◌, List, length, take, drop, ap, sym, subst, arith, Option, Some, None}
use Rattle.std.proofs.lemmas.List.{length-take, length-drop, take-take, drop-take, drop-drop}
use Rattle.mq_outside.specs.Readings.{HasAt, HasSame, Giving, GivesHeld, GivesParts, GivesAlike}

-- what such a reader gives
abbrev pub gives_held : Giving
gives_held piece at bytes = HasAt piece.held at bytes

pub held_law : GivesHeld gives_held
held_law piece at bytes given = given

front_of : (held : Option (List ℕ)) (at n : ℕ) (bytes : List ℕ) → n ≤ length bytes → HasAt held at bytes → HasAt held at (take n bytes)
front_of None at n bytes within given = tt
front_of (Some h) at n bytes within given =
    let len : length (take n bytes) ≡ n = omega (arith, length-take n bytes, within) in
    ap (take n) given ∙ take-take n (length bytes) (drop at h) within ∙ ap (λ (k : ℕ). take k (drop at h)) (sym len)

back_in : (h : List ℕ) (at n m : ℕ) (bytes : List ℕ) → bytes ≡ take (n + m) (drop at h) → drop n bytes ≡ take m (drop (at + n) h)
back_in h at n m bytes given = ap (drop n) given ∙ drop-take n m (drop at h) ∙ ap (take m) (drop-drop n at h)

back_of : (held : Option (List ℕ)) (at n : ℕ) (bytes : List ℕ) → n ≤ length bytes → HasAt held at bytes → HasAt held (at + n) (drop n bytes)
back_of None at n bytes within given = tt
back_of (Some h) at n bytes within given =
    let len : length bytes ≡ n + length (drop n bytes) = omega (arith, length-drop n bytes, within) in
    back_in h at n (length (drop n bytes)) bytes (subst (λ (k : ℕ). bytes ≡ take k (drop at h)) len given)

pub parts_law : GivesParts gives_held
parts_law piece at n bytes within given = (front_of piece.held at n bytes within given, back_of piece.held at n bytes within given)

alike_in : (first next : Option (List ℕ)) (at : ℕ) (bytes : List ℕ) → HasSame first next at (length bytes) → HasAt first at bytes
    → HasAt next at bytes
alike_in None None at bytes same given = tt
alike_in None (Some h) at bytes same given = absurd same
alike_in (Some h) None at bytes same given = absurd same
alike_in (Some h) (Some k) at bytes same given = given ∙ sym same

pub alike_law : GivesAlike gives_held
alike_law first next at bytes alike given = alike_in first.held next.held at bytes alike.same given
