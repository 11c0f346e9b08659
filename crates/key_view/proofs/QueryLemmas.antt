-- What a query has found of the rows that it has passed.
use Rattle.std.proofs.Common.{◌≡◌, ◌∙◌, ◌≢◌, ℕ, zero, suc, ◌+◌, ◌-◌, ◌<◌, ◌≤◌, Bool, true, false, cond, List, [], ◌∷◌, ◌++◌, reverse, map, length, get_or, take, drop, refl, sym, ap, subst, arith, inl, inr}
use Rattle.std.specs.Prelude.{◌&&◌, nat_lt, ℤ, filter, pos, int_le}
use Rattle.std.proofs.lemmas.Bool.{cases_lt, ne_eqb}
use Rattle.std.proofs.lemmas.List.{drop-drop, map-append, drop_more, take_all, append-nil, take-append-drop, length_push, reverse-append}
use Rattle.std.proofs.lemmas.List.Elements.{filter-append}
use Rattle.std.proofs.Math.Seq.{take-add}
use Rattle.key_view.specs.declared.row.KeyRow.{KeyRow}
use Rattle.key_view.specs.Entries.{KeyEntry, once, with_sought, is_last, place_of, is_sought}
use Rattle.key_view.specs.Rooms.{Covers, entry_of}
use Rattle.key_view.proofs.PlaceLemmas.{once-push, once-front}

-- the places of those of these rows that are sought
abbrev pub places_in : (KeyEntry → Bool) → List KeyRow → List ℕ
places_in test rows = map place_of (filter test (map entry_of rows))

pub places_in-append : (test : KeyEntry → Bool) (xs ys : List KeyRow) → places_in test (xs ++ ys) ≡ places_in test xs ++ places_in test ys
places_in-append test xs ys =
    ap (λ (es : List KeyEntry). map place_of (filter test es)) (map-append entry_of xs ys)
    ∙ ap (λ (es : List KeyEntry). map place_of es) (filter-append test (map entry_of xs) (map entry_of ys))
    ∙ map-append place_of (filter test (map entry_of xs)) (filter test (map entry_of ys))

-- where the chain is after what it passes over
pub next_in : (hash : ℕ) (rows : List KeyRow) (passed : ℕ) → Covers hash rows passed → Covers hash (drop passed rows) 0
next_in hash [] zero covers = tt
next_in hash [] (suc passed) covers = tt
next_in hash (row ∷ rows) zero covers = covers
next_in hash (row ∷ rows) (suc passed) covers = next_in hash rows passed covers.1

-- a row of another hash is not sought
other_hash : (hash : ℕ) (from to : ℤ) (end : ℕ) (row : KeyRow) → row.hash ≢ hash → is_sought hash from to end (entry_of row) ≡ false
other_hash hash from to end row other =
    ap (λ (b : Bool). b && int_le from (pos row.store) && int_le (pos row.store) to && nat_lt row.place end) (ne_eqb row.hash hash other)

-- none of what is passed over is sought
pub none_passed : (hash : ℕ) (from to : ℤ) (end : ℕ) (rows : List KeyRow) (passed : ℕ) → Covers hash rows passed → places_in (is_sought hash from to end) (take passed rows) ≡ []
none_passed hash from to end [] zero covers = refl
none_passed hash from to end [] (suc passed) covers = refl
none_passed hash from to end (row ∷ rows) zero covers = refl
none_passed hash from to end (row ∷ rows) (suc passed) covers =
    ap (λ (b : Bool). map place_of (cond b (entry_of row ∷ filter (is_sought hash from to end) (map entry_of (take passed rows))) (filter (is_sought hash from to end) (map entry_of (take passed rows)))))
    (other_hash hash from to end row covers.0)
    ∙ none_passed hash from to end rows passed covers.1

-- the row that the chain is at, and what is behind it
chain_at : (hash : ℕ) (rows : List KeyRow) (passed : ℕ) (row : KeyRow) → passed < length rows → row ≡ get_or rows passed row → Covers hash (drop passed rows) 0
    → (drop passed rows ≡ row ∷ drop (passed + 1) rows) × (1 ≤ row.back) × Covers hash (drop (passed + 1) rows) (row.back - 1)
chain_at hash rows passed row within is covers =
    let here : drop passed rows ≡ row ∷ drop (passed + 1) rows
    = drop_more rows passed row within ∙ ap (λ (r : KeyRow). r ∷ drop (passed + 1) rows) (sym is) in
    let at = subst (λ (rs : List KeyRow). Covers hash rs 0) here covers in
    (here, at.0, at.1)

-- the next row of the chain
pub chain_next : (hash : ℕ) (rows : List KeyRow) (passed : ℕ) (row : KeyRow) → passed < length rows → row ≡ get_or rows passed row → Covers hash (drop passed rows) 0
    → (1 ≤ row.back) × Covers hash (drop (passed + row.back) rows) 0
chain_next hash rows passed row within is covers =
    let at = chain_at hash rows passed row within is covers in
    let some = at.1 in
    let next = next_in hash (drop (passed + 1) rows) (row.back - 1) at.2 in (
      some,
      subst (λ (rs : List KeyRow). Covers hash rs 0)
          (drop-drop (row.back - 1) (passed + 1) rows ∙ ap (λ (n : ℕ). drop n rows) (let e : passed + 1 + (row.back - 1) ≡ passed + row.back = omega (arith, some) in e)) next,
    )

-- what was found with the rows that the chain passes, but for those behind the row that it is at
pub found_next : (hash : ℕ) (from to : ℤ) (end : ℕ) (rows : List KeyRow) (passed : ℕ) (row : KeyRow) → passed < length rows → row ≡ get_or rows passed row
    → Covers hash (drop passed rows) 0
    → places_in (is_sought hash from to end) (take (passed + row.back) rows)
    ≡ places_in (is_sought hash from to end) (take passed rows) ++ places_in (is_sought hash from to end) (row ∷ [])
found_next hash from to end rows passed row within is covers =
    let test = is_sought hash from to end in
    let at = chain_at hash rows passed row within is covers in
    let some = at.1 in
    let rest = drop (passed + 1) rows in
    let back : row.back ≡ suc (row.back - 1) = omega (arith, some) in
    let taken : take row.back (drop passed rows) ≡ row ∷ take (row.back - 1) rest
    = ap (λ (rs : List KeyRow). take row.back rs) at.0 ∙ ap (λ (n : ℕ). take n (row ∷ rest)) back in
    ap (places_in test) (take-add passed row.back rows ∙ ap (λ (rs : List KeyRow). take passed rows ++ rs) taken)
    ∙ places_in-append test (take passed rows) (row ∷ take (row.back - 1) rest)
    ∙ ap (λ (ps : List ℕ). places_in test (take passed rows) ++ ps)
    (places_in-append test (row ∷ []) (take (row.back - 1) rest)
    ∙ ap (λ (ps : List ℕ). places_in test (row ∷ []) ++ ps) (none_passed hash from to end rest (row.back - 1) at.2)
    ∙ append-nil (places_in test (row ∷ [])))

sought_by : (b : Bool) (row : KeyRow) (found : List ℕ) → with_sought b row.place (once found) ≡ once (found ++ map place_of (cond b (entry_of row ∷ []) []))
sought_by true row found = sym (once-push found row.place)
sought_by false row found = ap once (sym (append-nil found))

-- with the row that the chain was at
pub once_next : (test : KeyEntry → Bool) (rows all : List KeyRow) (row : KeyRow) (places : List ℕ) → places ≡ once (places_in test rows)
    → places_in test all ≡ places_in test rows ++ places_in test (row ∷ []) → with_sought (test (entry_of row)) row.place places ≡ once (places_in test all)
once_next test rows all row places are more =
    ap (λ (ps : List ℕ). with_sought (test (entry_of row)) row.place ps) are ∙ sought_by (test (entry_of row)) row (places_in test rows) ∙ ap once (sym more)

one_by : (b : Bool) (place : ℕ) (places : List ℕ) → length (cond b places (places ++ place ∷ [])) ≤ length places + 1
one_by true place places = omega arith
one_by false place places = omega (arith, length_push places place)

-- one more at most
pub one_more : (sought : Bool) (place : ℕ) (places : List ℕ) → length (with_sought sought place places) ≤ length places + 1
one_more true place places = one_by (is_last place places) place places
one_more false place places = omega arith

-- what was found when the query ends, as the rows end or as many were found as are asked for
pub found_all : (test : KeyEntry → Bool) (rows : List KeyRow) (passed most : ℕ) (places : List ℕ) → places ≡ once (places_in test (take passed rows))
    → length places ≤ most → (passed < length rows → most ≤ length places) → places ≡ take most (once (places_in test rows))
found_all test rows passed most places are few over =
    elim (cases_lt passed (length rows)) [
      | inl within ↦
          (let full : length places ≡ most = (let many = over within in omega (arith, many, few)) in
          let front = once-front (places_in test (take passed rows)) (places_in test (drop passed rows)) in
          let all : places_in test rows ≡ places_in test (take passed rows) ++ places_in test (drop passed rows)
          = ap (places_in test) (sym (take-append-drop passed rows)) ∙ places_in-append test (take passed rows) (drop passed rows) in
          are ∙ sym front ∙ ap (λ (n : ℕ). take n (once (places_in test (take passed rows) ++ places_in test (drop passed rows)))) (sym (ap length are) ∙ full)
          ∙ ap (λ (ps : List ℕ). take most (once ps)) (sym all))
      | inr past ↦
          (let all : places ≡ once (places_in test rows) = are ∙ ap (λ (rs : List KeyRow). once (places_in test rs)) (take_all passed rows past) in
          all ∙ sym (take_all most (once (places_in test rows)) (subst (λ (ps : List ℕ). length ps ≤ most) all few)))
    ]

-- the mirror of what was made of each
pub map-reverse : {A B : Type 0} (f : A → B) (xs : List A) → map f (reverse xs) ≡ reverse (map f xs)
map-reverse f [] = refl
map-reverse {B = B} f (x ∷ xs) =
    ap (map f) (reverse-append (x ∷ []) xs) ∙ map-append f (reverse xs) (x ∷ []) ∙ ap (λ (l : List B). l ++ f x ∷ []) (map-reverse f xs)
    ∙ sym (reverse-append (f x ∷ []) (map f xs))
