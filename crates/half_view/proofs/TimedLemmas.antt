-- The times of half messages, and what they say of what is due.
use Rattle.std.proofs.Common.{◌≡◌, ◌∙◌, inl, inr, ℕ, ◌+◌, ◌-◌, ◌^◌, ◌<◌, ◌≤◌, ◌&&◌, Bool, true, false, cond, nat_le, min, List, [], ◌∷◌, ◌++◌, length, set, slice_get, Some, refl, sym, ap, subst, arith, length-set}
use Rattle.std.specs.Prelude.{◌==◌, IsSome}
use Rattle.std.proofs.lemmas.Bool.{cases_lt, cases_Bool, leb-true, le-leb}
use Rattle.std.proofs.lemmas.List.{length_push}
use Rattle.std.proofs.lemmas.Option.{same_Some}
use Rattle.half_view.specs.declared.row.HalfRow.{HalfRow}
use Rattle.half_view.specs.Halves.{is_due_row, is_open, due_from}
use Rattle.half_view.specs.Due.{due_time, AreTimed}
use Rattle.half_view.specs.Times.{AreAllLater}
use Rattle.half_view.proofs.ListLemmas.{get_there, get_within, at_set, at_push}
use Rattle.half_view.proofs.TableLemmas.{NoneIsDue, due_some}

-- ---- what changes

pub put_timed : (low : ℕ) (rows : List HalfRow) (times : List ℕ) (k time : ℕ) (row : HalfRow) → AreTimed low rows times → k < length rows → row.due < 2 ^ 63 → time ≡ due_time (low + k) row
    → AreTimed low (set rows k row) (set times k time)
put_timed low rows times k time row are within early is = record {
  small = (let size = length-set rows k row in let small = are.small in omega (arith, size, small));
  early = λ j x at. elim (at_set rows k j row x at) [
    | inl here ↦ subst (λ (y : HalfRow). y.due < 2 ^ 63) (sym here.1) early
    | inr other ↦ are.early j x other.1
  ];
  room = (let size = length-set rows k row in let all = length-set times k time in let room = are.room in omega (arith, size, all, room));
  each = λ j t x at there. elim (at_set rows k j row x at) [
    | inl here ↦ elim (at_set times k j time t there) [
      | inl this ↦ this.1 ∙ is ∙ ap (λ (n : ℕ). due_time (low + n) row) (sym here.0) ∙ ap (λ (y : HalfRow). due_time (low + j) y) (sym here.1)
      | inr that ↦ absurd (that.0 here.0)
    ]
    | inr other ↦ elim (at_set times k j time t there) [
      | inl this ↦ absurd (other.0 this.0)
      | inr that ↦ are.each j t x other.1 that.1
    ]
  ];
  rest = λ j t past there. elim (at_set times k j time t there) [
    | inl this ↦ absurd (let size = length-set rows k row in let same = this.0 in omega (arith, size, same, past, within))
    | inr that ↦ are.rest j t (let size = length-set rows k row in omega (arith, size, past)) that.1
  ];
}

-- with a half message more
pub push_timed : (low : ℕ) (rows : List HalfRow) (times : List ℕ) (time : ℕ) (row : HalfRow) → AreTimed low rows times → low + length rows < 2 ^ 62 → length rows < length times
    → row.due < 2 ^ 63 → time ≡ due_time (low + length rows) row → AreTimed low (rows ++ row ∷ []) (set times (length rows) time)
push_timed low rows times time row are small room early is = record {
  small = (let size = length_push rows row in omega (arith, size, small));
  early = λ j x at. elim (at_push rows row x j at) [
    | inl here ↦ subst (λ (y : HalfRow). y.due < 2 ^ 63) (sym here.1) early
    | inr other ↦ are.early j x other
  ];
  room = (let size = length_push rows row in let all = length-set times (length rows) time in omega (arith, size, all, room));
  each = λ j t x at there. elim (at_push rows row x j at) [
    | inl here ↦ elim (at_set times (length rows) j time t there) [
      | inl this ↦ this.1 ∙ is ∙ ap (λ (n : ℕ). due_time (low + n) row) (sym here.0) ∙ ap (λ (y : HalfRow). due_time (low + j) y) (sym here.1)
      | inr that ↦ absurd (that.0 here.0)
    ]
    | inr other ↦ elim (at_set times (length rows) j time t there) [
      | inl this ↦ absurd (let few = get_within rows j x other in let same = this.0 in omega (arith, few, same))
      | inr that ↦ are.each j t x other that.1
    ]
  ];
  rest = λ j t past there. elim (at_set times (length rows) j time t there) [
    | inl this ↦ absurd (let size = length_push rows row in let same = this.0 in omega (arith, size, same, past))
    | inr that ↦ are.rest j t (let size = length_push rows row in omega (arith, size, past)) that.1
  ];
}

-- with times more that never come
pub grown_timed : (low : ℕ) (rows : List HalfRow) (times more : List ℕ) → AreTimed low rows times → length times ≤ length more
    → ((k time : ℕ) → slice_get times k ≡ Some time → slice_get more k ≡ Some time) → ((k time : ℕ) → length times ≤ k → slice_get more k ≡ Some time → time ≡ 2 ^ 64 - 1)
    → AreTimed low rows more
grown_timed low rows times more are kept same never = record {
  small = are.small;
  early = are.early;
  room = (let room = are.room in omega (arith, room, kept));
  each = λ j t x at there.
      (let within = get_within rows j x at in
      let room = are.room in
      let old = get_there times j (omega (arith, within, room)) in
      same_Some t old.0 (sym there ∙ same j old.0 old.1) ∙ are.each j old.0 x at old.1);
  rest = λ j t past there. elim (cases_lt j (length times)) [
    | inl less ↦ (let old = get_there times j less in same_Some t old.0 (sym there ∙ same j old.0 old.1) ∙ are.rest j old.0 past old.1)
    | inr more_than ↦ never j t more_than there
  ];
}

-- ---- what is due

due_has_come : (a b : Bool) (due now : ℕ) → (a && b && nat_le due now) ≡ true → cond (a && b) due (2 ^ 64 - 1) ≡ due
due_has_come true true due now is = refl
due_has_come true false due now is = cc is
due_has_come false b due now is = cc is

due_is_come : (a b : Bool) (due now : ℕ) → (a && b && nat_le due now) ≡ true → due ≤ now
due_is_come true true due now is = leb-true due now is
due_is_come true false due now is = cc is
due_is_come false b due now is = cc is

come_is_due : (a b : Bool) (due now : ℕ) → cond (a && b) due (2 ^ 64 - 1) ≤ min now (2 ^ 64 - 2) → (a && b && nat_le due now) ≡ true
come_is_due true true due now come = let low : due ≤ min now (2 ^ 64 - 2) = come in le-leb due now (omega (arith, low))
come_is_due true false due now come = let low : 2 ^ 64 - 1 ≤ min now (2 ^ 64 - 2) = come in absurd (omega (arith, low))
come_is_due false b due now come = let low : 2 ^ 64 - 1 ≤ min now (2 ^ 64 - 2) = come in absurd (omega (arith, low))

-- of the half messages whose times have not come none is due
later_none : (now low : ℕ) (rows : List HalfRow) (times : List ℕ) (n to : ℕ) → AreTimed low rows times → to ≤ n → AreAllLater (min now (2 ^ 64 - 2)) times n → NoneIsDue now low rows 0 to
later_none now low rows times n to are most later = λ k row some less at. elim (cases_Bool (is_due_row now (low + k) row)) [
  | inl due ↦ absurd
      (let within = get_within rows k row at in
      let room = are.room in
      let time = get_there times k (omega (arith, within, room)) in
      let late = later k time.0 (omega (arith, less, most)) time.1 in
      let is = are.each k time.0 row at time.1 ∙ due_has_come (row.names == low + k) (is_open row.state) row.due now due in
      let come = due_is_come (row.names == low + k) (is_open row.state) row.due now due in
      let early = are.early k row at in
      omega (arith, late, is, come, early))
  | inr not ↦ not
]

pub none_due : (now limit low : ℕ) (rows : List HalfRow) (times : List ℕ) → AreTimed low rows times → limit ≡ min now (2 ^ 64 - 2) → AreAllLater limit times (length times) → NoneIsDue now low rows 0 (length rows)
none_due now limit low rows times are is later =
    later_none now low rows times (length times) (length rows) are are.room (subst (λ (n : ℕ). AreAllLater n times (length times)) is later)

-- what is found in the times: the half message with this index is due, and none before it is
pub found_due : (now limit low : ℕ) (rows : List HalfRow) (times : List ℕ) (k time : ℕ) → AreTimed low rows times → limit ≡ min now (2 ^ 64 - 2) → slice_get times k ≡ Some time → time ≤ limit
    → AreAllLater limit times k → (row : HalfRow) × (slice_get rows k ≡ Some row) × (is_due_row now (low + k) row ≡ true) × NoneIsDue now low rows 0 k
found_due now limit low rows times k time are is at come later = elim (cases_lt k (length rows)) [
  | inl within ↦
      (let row = get_there rows k within in
      let time_is = are.each k time row.0 row.1 at in
      let most : due_time (low + k) row.0 ≤ min now (2 ^ 64 - 2) = omega (arith, time_is, is, come) in (
        row.0,
        row.1,
        come_is_due (row.0.names == low + k) (is_open row.0.state) row.0.due now most,
        later_none now low rows times k k are (omega arith) (subst (λ (n : ℕ). AreAllLater n times k) is later),
      ))
  | inr past ↦ absurd (let never = are.rest k time past at in omega (arith, never, is, come))
]

-- where a time has come before the one that never does, one is due
pub some_due : (now low : ℕ) (rows : List HalfRow) (times : List ℕ) (k time : ℕ) → AreTimed low rows times → now < 2 ^ 64 - 1 → slice_get times k ≡ Some time → time ≤ now
    → IsSome (due_from now low rows)
some_due now low rows times k time are small at come = elim (cases_lt k (length rows)) [
  | inl within ↦
      (let row = get_there rows k within in
      let time_is = are.each k time row.0 row.1 at in
      let most : due_time (low + k) row.0 ≤ min now (2 ^ 64 - 2) = omega (arith, time_is, small, come) in
      due_some now low rows k row.0 row.1 (come_is_due (row.0.names == low + k) (is_open row.0.state) row.0.due now most))
  | inr past ↦ absurd (let never = are.rest k time past at in omega (arith, never, small, come))
]
