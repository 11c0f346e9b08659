-- What is looked up in rows, with one row for another of its queue.
use Rattle.std.proofs.Common.{◌≡◌, ◌∙◌, ℕ, List, [], ◌∷◌, Bool, true, false, cond, ◌&&◌, ◌==◌, not, filter, find, refl, ap, sym, Some}
use Rattle.std.proofs.lemmas.Bool.{and_parts}
use Rattle.std.proofs.lemmas.Bool.Decides.{Decides-eqb}
use Rattle.std.proofs.lemmas.Slice.Eq.{bytes_eq-Decides}
use Rattle.std.specs.Str.{bytes_eq}
use Rattle.std.specs.Option.{option_map}
use Rattle.broker_model.specs.Tables.{OffsetRow, is_row_of, offset_in, with_offset}

-- three tests in either order of brackets
pub in_turn : (a b c : Bool) → (a && (b && c)) ≡ (a && b && c)
in_turn true b c = refl
in_turn false b c = refl

module _ (row : OffsetRow) (group topic : List ℕ) (queue : ℕ) where
  abbrev asked : OffsetRow → Bool
  asked = is_row_of group topic queue

  abbrev is_same : OffsetRow → Bool
  is_same = is_row_of row.group row.topic row.queue

  -- rows of one queue are both asked for, or neither is
  same_asked : (r : OffsetRow) → is_same r ≡ true → asked r ≡ asked row
  same_asked r same =
      let parts = and_parts (bytes_eq r.group row.group && bytes_eq r.topic row.topic) (r.queue == row.queue) same in
      let names = and_parts (bytes_eq r.group row.group) (bytes_eq r.topic row.topic) parts.0 in
      let of_group : r.group ≡ row.group = (bytes_eq-Decides r.group row.group).0 names.0 in
      let of_topic : r.topic ≡ row.topic = (bytes_eq-Decides r.topic row.topic).0 names.1 in
      let of_queue : r.queue ≡ row.queue = (Decides-eqb r.queue row.queue).0 parts.1 in
      λ i. bytes_eq (of_group i) group && bytes_eq (of_topic i) topic && (of_queue i == queue)

  step : (r : OffsetRow) (rows kept : List OffsetRow) (drops asks : Bool) → (drops ≡ true → asks ≡ false) → find asked kept ≡ find asked rows → asked r ≡ asks
      → find asked (cond (not drops) (r ∷ kept) kept) ≡ cond asks (Some r) (find asked rows)
  step r rows kept true asks apart rest is = rest ∙ ap (λ (b : Bool). cond b (Some r) (find asked rows)) (sym (apart refl))
  step r rows kept false asks apart rest is = λ i. cond (is i) (Some r) (rest i)

  find_others : asked row ≡ false → (rows : List OffsetRow) → find asked (filter (λ other. not (is_same other)) rows) ≡ find asked rows
  find_others other_queue [] = refl
  find_others other_queue (r ∷ rows) = step r rows (filter (λ other. not (is_same other)) rows) (is_same r) (asked r) (λ same. same_asked r same ∙ other_queue) (find_others other_queue rows) refl

  by_case : (rows : List OffsetRow) (asks : Bool) → asked row ≡ asks
      → option_map (λ r. r.offset) (cond asks (Some row) (find asked (filter (λ other. not (is_same other)) rows))) ≡ cond asks (Some row.offset) (offset_in rows group topic queue)
  by_case rows true is = refl
  by_case rows false is = ap (option_map (λ r. r.offset)) (find_others is rows)

  -- with the row, its queue has its offset, and each other queue the one that it had
  pub offset_in-with_offset : (rows : List OffsetRow) → offset_in (with_offset row rows) group topic queue ≡ cond (asked row) (Some row.offset) (offset_in rows group topic queue)
  offset_in-with_offset rows = by_case rows (asked row) refl
