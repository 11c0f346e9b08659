-- The table: what is changed of it, and what is due.
use Rattle.std.proofs.Common.{◌≡◌, ◌∙◌, ℕ, zero, suc, ◌+◌, ◌-◌, ◌<◌, ◌≤◌, Bool, true, false, cond, nat_lt, List, [], ◌∷◌, length, slice_get, Option, Some, None, refl, sym, ap, subst, arith}
use Rattle.std.specs.Prelude.{IsSome}
use Rattle.std.proofs.lemmas.Bool.{ltb-false}
use Rattle.std.proofs.lemmas.Option.{same_Some}
use Rattle.half_view.specs.declared.check.Check.{Check}
use Rattle.half_view.specs.declared.row.HalfRow.{HalfRow}
use Rattle.half_view.specs.Halves.{HalfTable, index_of, change, changed, is_due_row, check_row, due_from}
use Rattle.half_view.proofs.ListLemmas.{change_past}

-- ---- a half message that doesn't stand

absent_by : (f : HalfRow → HalfRow) (h : ℕ) (t : HalfTable) (a b : Bool) → nat_lt (h - t.low) (length t.halves) ≡ b
    → None ≡ cond a None (cond b (Some (h - t.low)) None) → t ≡ cond a t (record t { halves = change f (h - t.low) t.halves })
absent_by f h t true b short is = refl
absent_by f h t false true short is = cc is
absent_by f h t false false short is = ap (λ (rows : List HalfRow). record t { halves = rows }) (sym (change_past f (h - t.low) t.halves (ltb-false (h - t.low) (length t.halves) short)))

pub changed_absent : (f : HalfRow → HalfRow) (h : ℕ) (t : HalfTable) → None ≡ index_of t h → t ≡ changed f h t
changed_absent f h t is = absent_by f h t (nat_lt h t.low) (nat_lt (h - t.low) (length t.halves)) refl is

-- ---- the first that is due

-- of the half messages with these indexes none is due
abbrev pub NoneIsDue : ℕ → ℕ → List HalfRow → ℕ → ℕ → Type 0
NoneIsDue now low rows from to = (k : ℕ) (row : HalfRow) → from ≤ k → k < to
    → slice_get rows k ≡ Some row → is_due_row now (low + k) row ≡ false

next_none : (now own : ℕ) (x : HalfRow) (xs : List HalfRow) (k : ℕ) → NoneIsDue now own (x ∷ xs) 0 (suc k) → (is_due_row now own x ≡ false) × NoneIsDue now (own + 1) xs 0 k
next_none now own x xs k none = (
  (let e : own + 0 ≡ own = omega arith in subst (λ (n : ℕ). is_due_row now n x ≡ false) e (none 0 x (omega arith) (omega arith) refl)),
  (λ j y some less at. let e : own + suc j ≡ own + 1 + j = omega arith in
      subst (λ (n : ℕ). is_due_row now n y ≡ false) e (none (suc j) y (omega arith) (omega (arith, less)) at)),
)

due_later : (now own : ℕ) (x : HalfRow) (xs : List HalfRow) (found : Option Check) → is_due_row now own x ≡ false → due_from now (own + 1) xs ≡ found → due_from now own (x ∷ xs) ≡ found
due_later now own x xs found not later = ap (λ (b : Bool). cond b (Some (check_row own x)) (due_from now (own + 1) xs)) not ∙ later

pub due_here : (now own : ℕ) (rows : List HalfRow) (k : ℕ) (row : HalfRow) → slice_get rows k ≡ Some row → is_due_row now (own + k) row ≡ true → NoneIsDue now own rows 0 k
    → due_from now own rows ≡ Some (check_row (own + k) row)
due_here now own [] k row at due none = cc at
due_here now own (x ∷ xs) zero row at due none =
    let e : own + 0 ≡ own = omega arith in
    let same : x ≡ row = same_Some x row at in
    ap (λ (b : Bool). cond b (Some (check_row own x)) (due_from now (own + 1) xs))
    (ap (λ (y : HalfRow). is_due_row now own y) same ∙ ap (λ (n : ℕ). is_due_row now n row) (sym e) ∙ due)
    ∙ ap (λ (y : HalfRow). Some (check_row own y)) same ∙ ap (λ (n : ℕ). Some (check_row n row)) (sym e)
due_here now own (x ∷ xs) (suc k) row at due none =
    let e : own + suc k ≡ own + 1 + k = omega arith in
    let parts = next_none now own x xs k none in
    due_later now own x xs (Some (check_row (own + suc k) row)) parts.0
    (due_here now (own + 1) xs k row at (subst (λ (n : ℕ). is_due_row now n row ≡ true) e due) parts.1 ∙ ap (λ (n : ℕ). Some (check_row n row)) (sym e))

pub due_absent : (now own : ℕ) (rows : List HalfRow) → NoneIsDue now own rows 0 (length rows) → due_from now own rows ≡ None
due_absent now own [] none = refl
due_absent now own (x ∷ xs) none = let parts = next_none now own x xs (length xs) none in due_later now own x xs None parts.0 (due_absent now (own + 1) xs parts.1)

-- where one of them is due, one is found
pub due_some : (now own : ℕ) (rows : List HalfRow) (k : ℕ) (row : HalfRow) → slice_get rows k ≡ Some row → is_due_row now (own + k) row ≡ true → IsSome (due_from now own rows)
due_some now own [] k row at due = cc at
due_some now own (x ∷ xs) k row at due = by_first (λ j there is. due_some now (own + 1) xs j row there is) (is_due_row now own x) refl k at due
  where
    by_first : ((j : ℕ) → slice_get xs j ≡ Some row → is_due_row now (own + 1 + j) row ≡ true → IsSome (due_from now (own + 1) xs))
        → (b : Bool) → is_due_row now own x ≡ b → (i : ℕ) → slice_get (x ∷ xs) i ≡ Some row → is_due_row now (own + i) row ≡ true
        → IsSome (cond b (Some (check_row own x)) (due_from now (own + 1) xs))
    by_first rest true first i there is = refl
    by_first rest false first zero there is =
        let e : own + 0 ≡ own = omega arith in
        let same : x ≡ row = same_Some x row there in
        let here : is_due_row now own x ≡ true = ap (λ (y : HalfRow). is_due_row now own y) same ∙ ap (λ (n : ℕ). is_due_row now n row) (sym e) ∙ is in
        absurd (cc (sym first ∙ here))
    by_first rest false first (suc i) there is =
        let e : own + suc i ≡ own + 1 + i = omega arith in
        rest i there (subst (λ (n : ℕ). is_due_row now n row ≡ true) e is)
