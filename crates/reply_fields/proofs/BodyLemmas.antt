-- How many bytes slices have, and that what is read of a stretch is its slices' bytes.
use Rattle.std.proofs.Common.{◌≡◌, ◌∙◌, ℕ, zero, suc, ◌+◌, ◌≤◌, ◌<◌, ◌++◌, List, [], ◌∷◌, length, take, drop, get_or, ap, refl, sym, subst, arith}
use Rattle.std.specs.Prelude.{if◌then◌else◌}
use Rattle.std.proofs.Math.Seq.{take-add}
use Rattle.std.proofs.lemmas.List.{length-take, length-drop, take-append-le, drop-append-le, take_more}
use Rattle.std.proofs.lemmas.List.Sums.{sum_by-append, sum_by-take-le}
use Rattle.mq_outside.specs.Readings.{Giving, GivesParts, GivesAlike, IsSamePart}
use Rattle.reply_fields.specs.declared.slice.StoredRange.{StoredRange}
use Rattle.reply_fields.specs.declared.slice.Slice.{Slice}
use Rattle.reply_fields.specs.declared.slice.Slice.TheVariants.{Held, Kept}
use Rattle.reply_fields.specs.Slices.{slice_len, body_len, kept_count, is_kept, IsSlice, IsBody}
use Rattle.reply_fields.specs.Ranges.{RisesAtMost, AreAsked}
use Rattle.reply_fields.specs.Stretches.{GoesOn, GoOn, IsStretch}

-- ---- lengths

pub body_len-cons : (s : Slice) (slices : List Slice) → body_len (s ∷ slices) ≡ slice_len s + body_len slices
body_len-cons s slices = omega (arith, sum_by-append slice_len (s ∷ []) slices)

-- what a slice adds to the count
abbrev one_if_kept : Slice → ℕ
one_if_kept s = if is_kept s then 1 else 0

kept_count-append : (first second : List Slice) → kept_count (first ++ second) ≡ kept_count first + kept_count second
kept_count-append first second = sum_by-append one_if_kept first second

-- the slices so far, and those that follow them
slices-add : (a b : ℕ) (slices rest : List Slice) → rest ≡ drop a slices → take (a + b) slices ≡ take a slices ++ take b rest
slices-add a b slices rest is = take-add a b slices ∙ ap (λ (l : List Slice). take a slices ++ take b l) (sym is)

pub body_len-add : (a b : ℕ) (slices rest : List Slice) → rest ≡ drop a slices → body_len (take (a + b) slices) ≡ body_len (take a slices) + body_len (take b rest)
body_len-add a b slices rest is = ap body_len (slices-add a b slices rest is) ∙ sum_by-append slice_len (take a slices) (take b rest)

pub kept_count-add : (a b : ℕ) (slices rest : List Slice) → rest ≡ drop a slices → kept_count (take (a + b) slices) ≡ kept_count (take a slices) + kept_count (take b rest)
kept_count-add a b slices rest is = ap kept_count (slices-add a b slices rest is) ∙ kept_count-append (take a slices) (take b rest)

pub body_len-within : (a b : ℕ) (slices rest : List Slice) → rest ≡ drop a slices → body_len (take a slices) + body_len (take b rest) ≤ body_len slices
body_len-within a b slices rest is = omega (arith, body_len-add a b slices rest is, sum_by-take-le slice_len slices (a + b))

pub kept_count-within : (a b : ℕ) (slices rest : List Slice) → rest ≡ drop a slices → kept_count (take a slices) + kept_count (take b rest) ≤ kept_count slices
kept_count-within a b slices rest is = omega (arith, kept_count-add a b slices rest is, sum_by-take-le one_if_kept slices (a + b))

-- what a first part of the reads and then another count
pub rises-more : (a b first mid last : ℕ) → RisesAtMost a first mid → RisesAtMost b mid last → RisesAtMost (a + b) first last
rises-more a b first mid last some more = (omega (arith, some.0, more.0), omega (arith, some.1, more.1))

pub rises-most : (a b first last : ℕ) → a ≤ b → RisesAtMost a first last → RisesAtMost b first last
rises-most a b first last few some = (some.0, omega (arith, few, some.1))

-- what a first part of the slices asked and then another
pub asked-more : (a b first mid last : ℕ) → RisesAtMost a first mid → AreAsked a first mid → RisesAtMost b mid last → AreAsked b mid last → AreAsked (a + b) first last
asked-more zero b first mid last some asked more next any = omega (arith, some.0, next (omega (arith, any)))
asked-more (suc a) b first mid last some asked more next any = omega (arith, asked (omega arith), more.0)

length-slice : (gives : Giving) (s : Slice) (bytes : List ℕ) → IsSlice gives s bytes → length bytes ≡ slice_len s
length-slice gives (Held held) bytes same = ap length same
length-slice gives (Kept range) bytes given = given.0

-- what is as long as its first n bytes has n
has_front : (n : ℕ) (bytes : List ℕ) → length (take n bytes) ≡ n → n ≤ length bytes
has_front n bytes whole = omega (arith, length-take n bytes, whole)

pub length-body : (gives : Giving) (slices : List Slice) (bytes : List ℕ) → IsBody gives slices bytes → length bytes ≡ body_len slices
length-body gives [] bytes none = ap length none
length-body gives (s ∷ slices) bytes given =
    let front = has_front (slice_len s) bytes (length-slice gives s (take (slice_len s) bytes) given.0) in
    omega (arith, body_len-cons s slices, length-drop (slice_len s) bytes, length-body gives slices (drop (slice_len s) bytes) given.1, front)

-- ---- bodies one after another

body-append : (gives : Giving) (first second : List Slice) (xs ys : List ℕ) → IsBody gives first xs → IsBody gives second ys → IsBody gives (first ++ second) (xs ++ ys)
body-append gives [] second xs ys none given = subst (λ (l : List ℕ). IsBody gives second (l ++ ys)) (sym none) given
body-append gives (s ∷ first) second xs ys given more =
    let front = has_front (slice_len s) xs (length-slice gives s (take (slice_len s) xs) given.0) in (
      subst (IsSlice gives s) (sym (take-append-le (slice_len s) xs ys front)) given.0,
      subst (IsBody gives (first ++ second)) (sym (drop-append-le (slice_len s) xs ys front)) (body-append gives first second (drop (slice_len s) xs) ys given.1 more),
    )

-- the slices up to one place have these bytes, and those that follow have these
pub body-more : (gives : Giving) (a b : ℕ) (slices rest : List Slice) (xs ys : List ℕ) → rest ≡ drop a slices → IsBody gives (take a slices) xs → IsBody gives (take b rest) ys → IsBody gives (take (a + b) slices) (xs ++ ys)
body-more gives a b slices rest xs ys is so_far more =
    subst (λ (l : List Slice). IsBody gives l (xs ++ ys)) (sym (slices-add a b slices rest is)) (body-append gives (take a slices) (take b rest) xs ys so_far more)

-- ---- stretches

pub goes_on-more : (first : StoredRange) (len : ℕ) (slices : List Slice) (s : Slice) → GoOn first len slices → GoesOn first (len + body_len slices) s → GoOn first len (slices ++ s ∷ [])
goes_on-more first len [] s on next = let here : len + body_len [] ≡ len = omega arith in (subst (λ (n : ℕ). GoesOn first n s) here next, tt)
goes_on-more first len (t ∷ slices) s on next =
    let here : len + body_len (t ∷ slices) ≡ (len + slice_len t) + body_len slices = omega (arith, body_len-cons t slices) in
    (on.0, goes_on-more first (len + slice_len t) slices s on.1 (subst (λ (n : ℕ). GoesOn first n s) here next))

-- one more slice goes on
pub goes_on-next : (first : StoredRange) (others : List Slice) (count : ℕ) (len : ℕ) (s : Slice) → count < length others → s ≡ get_or others count s → len ≡ first.len + body_len (take count others)
    → GoOn first first.len (take count others) → GoesOn first len s → GoOn first first.len (take (count + 1) others)
goes_on-next first others count len s within is so_far on next =
    subst (GoOn first first.len) (sym (take_more others count s within ∙ ap (λ (t : Slice). take count others ++ t ∷ []) (sym is)))
    (goes_on-more first first.len (take count others) s on (subst (λ (n : ℕ). GoesOn first n s) so_far next))

-- the bytes of a stretch lie in the piece of its first range
pub goes_on-within : (first : StoredRange) (len : ℕ) (slices : List Slice) → first.at + len ≤ first.piece.len → GoOn first len slices → first.at + len + body_len slices ≤ first.piece.len
goes_on-within first len [] within on = omega arith
goes_on-within first len (Held bytes ∷ slices) within on = absurd on.0
goes_on-within first len (Kept next ∷ slices) within on =
    let at : next.at ≡ first.at + len = on.0.at in
    let end : next.at + next.len ≤ first.piece.len = omega (arith, next.within, on.0.piece.len) in
    omega (arith, body_len-cons (Kept next) slices, goes_on-within first (len + next.len) slices (omega arith) on.1)

-- what is read behind the first bytes of a stretch is the bytes of the slices that go on
pub read-goes_on : (gives : Giving) → GivesParts gives → GivesAlike gives → (first : StoredRange) (len : ℕ) (slices : List Slice) (bytes : List ℕ) → GoOn first len slices
    → length bytes ≡ body_len slices → gives first.piece (first.at + len) bytes → IsBody gives slices bytes
read-goes_on gives parts alike first len [] [] on size given = refl
read-goes_on gives parts alike first len [] (b ∷ bytes) on size given = absurd (omega arith)
read-goes_on gives parts alike first len (Held held ∷ slices) bytes on size given = absurd on.0
read-goes_on gives parts alike first len (Kept next ∷ slices) bytes on size given =
    let cons = body_len-cons (Kept next) slices in
    let within : next.len ≤ length bytes = omega (arith, cons) in
    let long : length (take next.len bytes) ≡ next.len = omega (arith, length-take next.len bytes) in
    let both = parts first.piece (first.at + len) next.len bytes within given in
    let front = subst (λ (at : ℕ). gives first.piece at (take next.len bytes)) (sym on.0.at) both.0 in
    let later : (first.at + len) + next.len ≡ first.at + (len + next.len) = omega arith in
    let rest = subst (λ (at : ℕ). gives first.piece at (drop next.len bytes)) later both.1 in (
      (long, alike first.piece next.piece next.at (take next.len bytes) (subst (IsSamePart first.piece next.piece next.at) (sym long) on.0.piece) front),
      read-goes_on gives parts alike first (len + next.len) slices (drop next.len bytes) on.1 (omega (arith, length-drop next.len bytes)) rest,
    )

-- what is read of a stretch is the bytes of its slices
read-stretch : (gives : Giving) → GivesParts gives → GivesAlike gives → (range : StoredRange) (slices : List Slice) (bytes : List ℕ) → GoOn range range.len slices
    → length bytes ≡ body_len (Kept range ∷ slices) → gives range.piece range.at bytes → IsBody gives (Kept range ∷ slices) bytes
read-stretch gives parts alike range slices bytes on size given =
    let cons = body_len-cons (Kept range) slices in
    let within : range.len ≤ length bytes = omega (arith, cons) in
    let both = parts range.piece range.at range.len bytes within given in (
      (omega (arith, length-take range.len bytes), both.0),
      read-goes_on gives parts alike range range.len slices (drop range.len bytes) on (omega (arith, length-drop range.len bytes)) both.1,
    )

-- the same, of a stretch whose first slice is known
pub read-front : (gives : Giving) → GivesParts gives → GivesAlike gives → (slices : List Slice) (s : Slice) (range : StoredRange) (bytes : List ℕ) → s ≡ get_or slices 0 s → s ≡ Kept range → IsStretch slices
    → length bytes ≡ body_len slices → gives range.piece range.at bytes → IsBody gives slices bytes
read-front gives parts alike [] s range bytes is kept stretch size given = absurd stretch
read-front gives parts alike (Held held ∷ slices) s range bytes is kept stretch size given = cc
read-front gives parts alike (Kept first ∷ slices) s range bytes is kept stretch size given =
    let same : range ≡ first = cc in
    read-stretch gives parts alike first slices bytes stretch size (subst (λ (r : StoredRange). gives r.piece r.at bytes) same given)

-- where the bytes of a stretch stand
pub front-within : (slices : List Slice) (s : Slice) (range : StoredRange) → s ≡ get_or slices 0 s → s ≡ Kept range → IsStretch slices → range.at + body_len slices ≤ range.piece.len
front-within [] s range is kept stretch = absurd stretch
front-within (Held held ∷ slices) s range is kept stretch = cc
front-within (Kept first ∷ slices) s range is kept stretch =
    let same : range ≡ first = cc in
    subst (λ (r : StoredRange). r.at + body_len (Kept first ∷ slices) ≤ r.piece.len) (sym same)
    (omega (arith, body_len-cons (Kept first) slices, goes_on-within first first.len slices first.within stretch))
