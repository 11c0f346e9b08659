-- What is left of the table when the rows below a place are cut off.
use Rattle.std.proofs.Common.{◌≡◌, ◌∙◌, ℕ, zero, suc, ◌+◌, ◌-◌, ◌<◌, ◌≤◌, Bool, true, false, cond, not, nat_le, List, [], ◌∷◌, reverse, map, length, get_or, take, drop, refl, sym, ap, subst, arith}
use Rattle.std.specs.Prelude.{filter}
use Rattle.std.specs.List.{position_or_len}
use Rattle.std.specs.List.Sorted.{IsNonDecreasingBy}
use Rattle.std.proofs.lemmas.Bool.{le-leb, leb-true}
use Rattle.std.proofs.lemmas.List.{reverse-append, length-reverse, length-drop, length-map, get_or-map, take_at, take-append-drop, take_all}
use Rattle.key_view.specs.declared.row.KeyRow.{KeyRow}
use Rattle.key_view.specs.Entries.{KeyEntry, place_of}
use Rattle.key_view.specs.Rooms.{Covers, IsKept, entry_of, newest_in}
use Rattle.key_view.proofs.ChainLemmas.{covers_same}

-- a chain over the newest rows alone
covers_front : (hash : ℕ) (rows : List KeyRow) (count passed : ℕ) → Covers hash rows passed → Covers hash (take count rows) passed
covers_front hash [] zero passed covers = tt
covers_front hash [] (suc count) passed covers = tt
covers_front hash (row ∷ rows) zero passed covers = tt
covers_front hash (row ∷ rows) (suc count) zero covers = (covers.0, covers_front hash rows count (row.back - 1) covers.1)
covers_front hash (row ∷ rows) (suc count) (suc passed) covers = (covers.0, covers_front hash rows count passed covers.1)

reverse-drop : (count : ℕ) (rows : List KeyRow) → reverse (drop count rows) ≡ take (length rows - count) (reverse rows)
reverse-drop count rows =
    sym (ap (λ (rs : List KeyRow). take (length rows - count) (reverse rs)) (sym (take-append-drop count rows))
    ∙ ap (take (length rows - count)) (reverse-append (take count rows) (drop count rows))
    ∙ take_at (reverse (drop count rows)) (reverse (take count rows)) (length rows - count) (length-reverse (drop count rows) ∙ length-drop count rows))

-- the table without its first rows
pub kept_cut : (rows others : List KeyRow) (gone count : ℕ) (slots : List ℕ) → IsKept rows gone slots → count ≤ length rows → others ≡ drop count rows
    → IsKept others (gone + count) slots
kept_cut rows others gone count slots kept within is =
    let few = kept.few in
    let small = kept.small in
    let size : length others ≡ length rows - count = ap length is ∙ length-drop count rows in
    let all : gone + count + length others ≡ gone + length rows = omega (arith, size, within) in
    record {
      few = omega (arith, size, few);
      small = omega (arith, all, small);
      below = λ hash. (let low = kept.below hash in omega (arith, all, low));
      chains = λ hash.
          (let passed = gone + length rows - newest_in slots hash in
          covers_same hash (take (length rows - count) (reverse rows)) (reverse others) passed (gone + count + length others - newest_in slots hash)
          (ap reverse is ∙ reverse-drop count rows) (ap (λ (n : ℕ). n - newest_in slots hash) all)
          (covers_front hash (reverse rows) (length rows - count) passed (kept.chains hash)));
    }

-- the places of the rows rise as those of the keys do
pub rows_rise : (rows : List KeyRow) (count : ℕ) → count ≡ length rows → IsNonDecreasingBy place_of (map entry_of rows) → IsNonDecreasingBy (λ (row : KeyRow). row.place) (take count rows)
rows_rise rows count size rising =
    subst (λ (rs : List KeyRow). IsNonDecreasingBy (λ (row : KeyRow). row.place) rs) (sym (take_all count rows (omega (arith, size))))
    (λ i j d less within.
    let there : i < length rows = omega (arith, less, within) in
    let long : j < length (map entry_of rows) = omega (arith, within, length-map rows entry_of) in
    subst (λ (e : KeyEntry). e.place ≤ (get_or rows j d).place) (get_or-map entry_of rows i d (entry_of d) there)
    (subst (λ (e : KeyEntry). (get_or (map entry_of rows) i (entry_of d)).place ≤ e.place) (get_or-map entry_of rows j d (entry_of d) within)
    (rising i j (entry_of d) less long)))

-- rows at or past a place all stay
all_stay : (place : ℕ) (rows : List KeyRow) → ((j : ℕ) (d : KeyRow) → j < length rows → place ≤ (get_or rows j d).place)
    → filter (λ (e : KeyEntry). nat_le place e.place) (map entry_of rows) ≡ map entry_of rows
all_stay place [] past = refl
all_stay place (row ∷ rows) past =
    let rest = filter (λ (e : KeyEntry). nat_le place e.place) (map entry_of rows) in
    ap (λ (b : Bool). cond b (entry_of row ∷ rest) rest) (le-leb place row.place (past 0 row (omega arith)))
    ∙ ap (λ (es : List KeyEntry). entry_of row ∷ es) (all_stay place rows (λ j d within. past (suc j) d (omega (arith, within))))

stay_by : (b : Bool) (place : ℕ) (row : KeyRow) (rows : List KeyRow) → nat_le place row.place ≡ b → IsNonDecreasingBy (λ (r : KeyRow). r.place) (row ∷ rows)
    → map entry_of (drop (position_or_len (λ (r : KeyRow). nat_le place r.place) rows) rows) ≡ filter (λ (e : KeyEntry). nat_le place e.place) (map entry_of rows)
    → map entry_of (drop (cond (not b) (1 + position_or_len (λ (r : KeyRow). nat_le place r.place) rows) 0) (row ∷ rows))
    ≡ cond b (entry_of row ∷ filter (λ (e : KeyEntry). nat_le place e.place) (map entry_of rows)) (filter (λ (e : KeyEntry). nat_le place e.place) (map entry_of rows))
stay_by true place row rows is rising rest =
    let low = leb-true place row.place is in
    ap (λ (es : List KeyEntry). entry_of row ∷ es) (sym (all_stay place rows (λ j d within.
    let up = rising 0 (suc j) d (omega arith) (omega (arith, within)) in omega (arith, low, up))))
stay_by false place row rows is rising rest =
    let first = position_or_len (λ (r : KeyRow). nat_le place r.place) rows in
    ap (λ (n : ℕ). map entry_of (drop n (row ∷ rows))) (let e : 1 + first ≡ suc first = omega arith in e) ∙ rest

-- where the places rise, the rows from the first at or past a place on are those that are at or past it
pub stay_from : (place : ℕ) (rows : List KeyRow) → IsNonDecreasingBy (λ (row : KeyRow). row.place) rows
    → map entry_of (drop (position_or_len (λ (row : KeyRow). nat_le place row.place) rows) rows) ≡ filter (λ (e : KeyEntry). nat_le place e.place) (map entry_of rows)
stay_from place [] rising = refl
stay_from place (row ∷ rows) rising =
    stay_by (nat_le place row.place) place row rows refl rising
    (stay_from place rows (λ i j d less within. rising (suc i) (suc j) d (omega (arith, less)) (omega (arith, within))))
