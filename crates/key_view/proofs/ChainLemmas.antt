-- Chains of rows: what one row more, twice as many slots and a cut leave of them.
use Rattle.std.proofs.Common.{◌≡◌, ◌∙◌, ◌≢◌, ℕ, zero, suc, ◌+◌, ◌-◌, ◌*◌, ◌/◌, ◌%◌, ◌<◌, ◌≤◌, ◌^◌, min, List, [], ◌∷◌, ◌++◌, reverse, length, get_or, set, Bool, cond, inl, inr, refl, sym, ap, subst, arith, length-set, get_or-set_same, get_or-set_other}
use Rattle.std.proofs.lemmas.Bool.{cases_lt, cases_eq}
use Rattle.std.proofs.lemmas.List.{reverse-append, length_push, get_or_append_left, get_or-append-add, length-append, length-reverse}
use Rattle.std.proofs.lemmas.Nat.{mod-mul-add}
use Rattle.std.proofs.Math.Nat.{div-add-mod}
use Rattle.std.proofs.Math.Dec.{eqb-suc-zero}
use Rattle.key_view.specs.declared.row.KeyRow.{KeyRow}
use Rattle.std.specs.Prelude.{Result, Ok, Err, OnOk, OnErr}
use Rattle.chunks.specs.Lists.{Roomy}
use Rattle.key_view.specs.Rooms.{Covers, IsKept, newest_in, spare_of}

-- past the last row there is nothing to pass over
pub past_end : (hash : ℕ) (rows : List KeyRow) (passed other : ℕ) → length rows ≤ passed → length rows ≤ other → Covers hash rows passed → Covers hash rows other
past_end hash [] passed other low below covers = tt
past_end hash (row ∷ rows) zero other low below covers = absurd (omega (arith, low))
past_end hash (row ∷ rows) (suc passed) zero low below covers = absurd (omega (arith, below))
past_end hash (row ∷ rows) (suc passed) (suc other) low below covers =
    (covers.0, past_end hash rows passed other (omega (arith, low)) (omega (arith, below)) covers.1)

-- the same chain of the same rows
pub covers_same : (hash : ℕ) (rows others : List KeyRow) (passed other : ℕ) → others ≡ rows → other ≡ passed → Covers hash rows passed → Covers hash others other
covers_same hash rows others passed other same there covers =
    subst (λ (rs : List KeyRow). Covers hash rs other) (sym same) (subst (λ (n : ℕ). Covers hash rows n) (sym there) covers)

-- a row that is linked to the newest one of its chain
pub covers_linked : (hash : ℕ) (row : KeyRow) (rows : List KeyRow) (passed : ℕ) → row.back ≡ min (suc passed) (2 ^ 32 - 1) → length rows ≤ 2 ^ 32 - 2
    → Covers hash rows passed → Covers hash (row ∷ rows) 0
covers_linked hash row rows passed back few covers = (
  omega (arith, back),
  elim (cases_lt passed (2 ^ 32 - 2)) [
    | inl near ↦ covers_same hash rows rows passed (row.back - 1) refl (omega (arith, back, near)) covers
    | inr far ↦ past_end hash rows passed (row.back - 1) (omega (arith, few, far)) (omega (arith, few, far, back)) covers
  ],
)

-- a hash in the slot that was set
pub newest_in-set_same : (slots : List ℕ) (slot number hash : ℕ) → slot < length slots → hash % length slots ≡ slot → newest_in (set slots slot number) hash ≡ number
newest_in-set_same slots slot number hash within here =
    ap (λ (n : ℕ). get_or (set slots slot number) (hash % n) 0) (length-set slots slot number)
    ∙ ap (λ (k : ℕ). get_or (set slots slot number) k 0) here
    ∙ get_or-set_same slots slot number 0 within

-- a hash in another slot
pub newest_in-set_other : (slots : List ℕ) (slot number hash : ℕ) → hash % length slots ≢ slot → newest_in (set slots slot number) hash ≡ newest_in slots hash
newest_in-set_other slots slot number hash other =
    ap (λ (n : ℕ). get_or (set slots slot number) (hash % n) 0) (length-set slots slot number)
    ∙ get_or-set_other slots slot (hash % length slots) number 0 other

-- the rest by twice a number: the rest by the number, or that and the number
rest_low : (hash n : ℕ) → 0 < n → hash % (n + n) < n → hash % n ≡ hash % (n + n)
rest_low hash n some low =
    let q = hash / (n + n) in
    let r = hash % (n + n) in
    let all : (q + q) * n + r ≡ hash = omega (arith, div-add-mod hash (n + n)) in
    ap (λ (h : ℕ). h % n) (sym all) ∙ mod-mul-add (q + q) n r low

rest_high : (hash n : ℕ) → 0 < n → n ≤ hash % (n + n) → hash % n ≡ hash % (n + n) - n
rest_high hash n some high =
    let q = hash / (n + n) in
    let r = hash % (n + n) in
    let two : 0 < n + n = omega (arith, some) in
    let most : r < n + n = omega (arith, two) in
    let all : (q + q + 1) * n + (r - n) ≡ hash = omega (arith, div-add-mod hash (n + n), high) in
    ap (λ (h : ℕ). h % n) (sym all) ∙ mod-mul-add (q + q + 1) n (r - n) (omega (arith, most, high))

-- each hash has in twice as many slots what it had
pub newest_in-twice : (slots : List ℕ) (hash : ℕ) → 0 < length slots → newest_in (slots ++ slots) hash ≡ newest_in slots hash
newest_in-twice slots hash some =
    let n = length slots in
    let r = hash % (n + n) in
    ap (λ (m : ℕ). get_or (slots ++ slots) (hash % m) 0) (length-append slots slots)
    ∙ elim (cases_lt r n) [
      | inl low ↦ get_or_append_left slots slots 0 r low ∙ ap (λ (k : ℕ). get_or slots k 0) (sym (rest_low hash n some low))
      | inr high ↦
          ap (λ (k : ℕ). get_or (slots ++ slots) k 0) (let e : r ≡ n + (r - n) = omega (arith, high) in e)
          ∙ get_or-append-add slots slots (r - n) 0
          ∙ ap (λ (k : ℕ). get_or slots k 0) (sym (rest_high hash n some high))
    ]

-- the table with one row more, which is linked to the newest one in its slot and takes its place
pub kept_added : (rows : List KeyRow) (gone : ℕ) (slots : List ℕ) (row : KeyRow) → IsKept rows gone slots → 0 < length slots
    → row.back ≡ min (gone + length rows + 1 - newest_in slots row.hash) (2 ^ 32 - 1)
    → length rows < 2 ^ 32 - 2 → gone + length rows < 2 ^ 62
    → IsKept (rows ++ row ∷ []) gone (set slots (row.hash % length slots) (gone + length rows + 1))
kept_added rows gone slots row kept some back few small =
    let n = length slots in
    let slot = row.hash % n in
    let number = gone + length rows + 1 in
    let size = length_push rows row in
    let within : slot < n = omega (arith, some) in
    let newest : (hash : ℕ) → hash % n ≡ slot → newest_in (set slots slot number) hash ≡ number
    = λ hash here. newest_in-set_same slots slot number hash within here in
    let others : (hash : ℕ) → hash % n ≢ slot → newest_in (set slots slot number) hash ≡ newest_in slots hash
    = λ hash other. newest_in-set_other slots slot number hash other in
    record {
      few = omega (arith, size, few);
      small = omega (arith, size, small);
      below = λ hash. elim (cases_eq (hash % n) slot) [
        | inl here ↦ (let e = newest hash here in omega (arith, e, size))
        | inr other ↦ (let e = others hash other in let low = kept.below hash in omega (arith, e, size, low))
      ];
      chains = λ hash. elim (cases_eq (hash % n) slot) [
        | inl here ↦
            (let e = newest hash here in
            let same : newest_in slots hash ≡ newest_in slots row.hash = ap (λ (k : ℕ). get_or slots k 0) here in
            let low = kept.below hash in
            let passed = gone + length rows - newest_in slots hash in
            covers_same hash (row ∷ reverse rows) (reverse (rows ++ row ∷ [])) 0 (gone + length (rows ++ row ∷ []) - newest_in (set slots slot number) hash)
            (reverse-append rows (row ∷ [])) (omega (arith, e, size))
            (covers_linked hash row (reverse rows) passed (omega (arith, back, same, low)) (omega (arith, few, length-reverse rows)) (kept.chains hash)))
        | inr other ↦
            (let e = others hash other in
            let low = kept.below hash in
            let passed = gone + length rows - newest_in slots hash in
            let differs : row.hash ≢ hash = λ same. other (ap (λ (h : ℕ). h % n) (sym same)) in
            covers_same hash (row ∷ reverse rows) (reverse (rows ++ row ∷ [])) (suc passed) (gone + length (rows ++ row ∷ []) - newest_in (set slots slot number) hash)
            (reverse-append rows (row ∷ [])) (omega (arith, e, size, low))
            (differs, kept.chains hash))
      ];
    }

-- the slots are twice as many, or as they were
pub newest_in_either : {A E : Type 0} (result : Result A E) (slots others : List ℕ) (hash : ℕ) → 0 < length slots
    → OnOk result (others ≡ slots ++ slots) → OnErr result (others ≡ slots) → newest_in others hash ≡ newest_in slots hash
newest_in_either (Ok value) slots others hash some twice same = ap (λ (s : List ℕ). newest_in s hash) twice ∙ newest_in-twice slots hash some
newest_in_either (Err fault) slots others hash some twice same = ap (λ (s : List ℕ). newest_in s hash) same

-- what a table with room has
pub has_room : (rows : Roomy KeyRow) (gone : ℕ) (slots : List ℕ) → 0 < spare_of rows gone slots
    → (0 < length slots) × (length rows.items < 2 ^ 32 - 2) × (gone + length rows.items < 2 ^ 62)
has_room rows gone [] room = absurd (omega (arith, room))
has_room rows gone (newest ∷ slots) room =
    let some : 0 < min rows.spare (min (2 ^ 32 - 2 - length rows.items) (2 ^ 62 - (gone + length rows.items)))
    = subst (λ (b : Bool). 0 < cond b 0 (min rows.spare (min (2 ^ 32 - 2 - length rows.items) (2 ^ 62 - (gone + length rows.items))))) (eqb-suc-zero (length slots)) room in
    (omega arith, omega (arith, some), omega (arith, some))
