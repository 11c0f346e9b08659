-- The places of records, and those that go into a reply together.
use Rattle.std.proofs.Common.{◌≡◌, ◌∙◌, ℕ, zero, suc, ◌+◌, ◌-◌, ◌<◌, ◌≤◌, List, [], ◌∷◌, ◌++◌, length, get_or, take, drop, map, reverse, refl, sym, ap, arith, append_assoc, append-nil}
use Rattle.std.specs.Prelude.{nat_le, ℤ, filter}
use Rattle.std.proofs.lemmas.Bool.{cond-true, cond-false, lt-leb, le-leb}
use Rattle.std.proofs.lemmas.List.{take-map, reverse-append, map-append}
use Rattle.record_codec.specs.Entry.{Entry}
use Rattle.record_codec.specs.Layout.{size}
use Rattle.log_model.specs.Keys.{hash_of, asked_number, is_match, newest_with_key, within}
use Rattle.log_replay.specs.Told.{place_and_size}

-- the record of a pair of a place and a size, and what is behind it
pub next_in : (rs : List Entry) (i : ℕ) → i < length (map place_and_size rs)
    → (r : Entry) × (get_or (map place_and_size rs) i (0, 0) ≡ place_and_size r) × (drop i rs ≡ r ∷ drop (i + 1) rs)
next_in [] i low = absurd (omega (arith, low))
next_in (r ∷ rs) zero low = (r, refl, refl)
next_in (r ∷ rs) (suc i) low =
    let rest = next_in rs i (omega (arith, low)) in
    let one : suc i + 1 ≡ suc (i + 1) = omega arith in
    (rest.0, rest.1, rest.2 ∙ ap (λ (n : ℕ). rest.0 ∷ drop n (r ∷ rs)) (sym one))

abbrev pub places_of : List Entry → List ℕ
places_of rs = map (λ r. r.offset) rs

module _ (pairs : List (ℕ × ℕ)) (rs : List Entry) (same : pairs ≡ map place_and_size rs) (i : ℕ) (low : i < length pairs) (places : List ℕ) (room : ℕ) where
  next_one : (r : Entry) × (get_or pairs i (0, 0) ≡ place_and_size r) × (drop i rs ≡ r ∷ drop (i + 1) rs)
  next_one =
      let n = next_in rs i (omega (arith, low, ap (λ (l : List (ℕ × ℕ)). length l) same)) in
      (n.0, ap (λ (l : List (ℕ × ℕ)). get_or l i (0, 0)) same ∙ n.1, n.2)

  -- the next one has no room
  pub reply_ends : room < (get_or pairs i (0, 0)).1 → places ≡ places ++ places_of (within room (drop i rs))
  reply_ends more =
      let n = next_one in
      let large : room < size n.0 = omega (arith, more, ap (λ (p : ℕ × ℕ). p.1) n.1) in
      let none : within room (drop i rs) ≡ [] = ap (within room) n.2
      ∙ cond-false (nat_le (size n.0) room) (n.0 ∷ within (room - size n.0) (drop (i + 1) rs)) [] (lt-leb (size n.0) room large) in
      sym (ap (λ (l : List Entry). places ++ places_of l) none ∙ append-nil places)

  -- the next one goes with those before it
  pub reply_goes_on : (get_or pairs i (0, 0)).1 ≤ room
      → (places ++ (get_or pairs i (0, 0)).0 ∷ []) ++ places_of (within (room - (get_or pairs i (0, 0)).1) (drop (i + 1) rs)) ≡ places ++ places_of (within room (drop i rs))
  reply_goes_on fits =
      let n = next_one in
      let low : size n.0 ≤ room = omega (arith, fits, ap (λ (p : ℕ × ℕ). p.1) n.1) in
      let goes : within room (drop i rs) ≡ n.0 ∷ within (room - size n.0) (drop (i + 1) rs) = ap (within room) n.2
      ∙ cond-true (nat_le (size n.0) room) (n.0 ∷ within (room - size n.0) (drop (i + 1) rs)) [] (le-leb (size n.0) room low) in
      ap (λ (p : ℕ × ℕ). (places ++ p.0 ∷ []) ++ places_of (within (room - p.1) (drop (i + 1) rs))) n.1
      ∙ append_assoc places (n.0.offset ∷ []) (places_of (within (room - size n.0) (drop (i + 1) rs)))
      ∙ ap (λ (l : List Entry). places ++ places_of l) (sym goes)

pub reverse-map : {A B : Type 0} (f : A → B) (xs : List A) → reverse (map f xs) ≡ map f (reverse xs)
reverse-map f [] = refl
reverse-map {A = A} {B = B} f (x ∷ xs) =
    reverse-append (f x ∷ []) (map f xs) ∙ ap (λ (l : List B). l ++ f x ∷ []) (reverse-map f xs)
    ∙ sym (ap (λ (l : List A). map f l) (reverse-append (x ∷ []) xs) ∙ map-append f (reverse xs) (x ∷ []))

pub newest_first : {A B : Type 0} (f : A → B) (n : ℕ) (xs : List A) → take n (reverse (map f xs)) ≡ map f (take n (reverse xs))
newest_first {A = A} {B = B} f n xs = ap (λ (l : List B). take n l) (reverse-map f xs) ∙ take-map f n (reverse xs)

pub firsts : (rs : List Entry) → map (λ (p : ℕ × ℕ). p.0) (map place_and_size rs) ≡ places_of rs
firsts [] = refl
firsts (r ∷ rs) = ap (λ (l : List ℕ). r.offset ∷ l) (firsts rs)

-- the newest with a key, by the hash, the times and the number that a program has of what was asked
pub newest_are : (log : List Entry) (topic key : List ℕ) (hash n : ℕ) (from to from' to' most : ℤ) → hash ≡ hash_of topic key → from ≡ from' → to ≡ to' → n ≡ asked_number 64 most
    → take n (reverse (filter (is_match hash from to) log)) ≡ newest_with_key log topic key from' to' most
newest_are log topic key hash n from to from' to' most hashed begins ends number =
    ap (λ (h : ℕ). take n (reverse (filter (is_match h from to) log))) hashed
    ∙ ap (λ (z : ℤ). take n (reverse (filter (is_match (hash_of topic key) z to) log))) begins
    ∙ ap (λ (z : ℤ). take n (reverse (filter (is_match (hash_of topic key) from' z) log))) ends
    ∙ ap (λ (k : ℕ). take k (reverse (filter (is_match (hash_of topic key) from' to') log))) number

-- a function of two values that are the same
pub at_both : {A B C : Type 0} (f : A → B → C) (a a' : A) (b b' : B) → a ≡ a' → b ≡ b' → f a b ≡ f a' b'
at_both {A = A} {B = B} f a a' b b' first second = ap (λ (x : A). f x b) first ∙ ap (f a') second
