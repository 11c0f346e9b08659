-- The buffer of the files in memory, cut at a file.
use Rattle.std.proofs.Common.{◌≡◌, ℕ, suc, ◌+◌, ◌-◌, ◌<◌, ◌≤◌, List, [], ◌∷◌, ◌++◌, length, take, drop, get_or, set, refl, sym, ◌∙◌, ap, subst, arith, length-append, length-take-le, Option, None, Some, min, ⊎_elim, length-drop, take-append-drop, append_assoc}
use Rattle.std.proofs.lemmas.List.{nil_from_length, drop_all, take_all, take-append-le, drop-append-le, drop_more, take_more, take_at, drop_at, take-take, drop-take, drop-drop, map-append, set_split}
use Rattle.std.proofs.lemmas.Bool.{cases_lt}
use Rattle.std.specs.List.{insert, remove}
use Rattle.std.specs.Str.{is_utf8}
use Rattle.std.proofs.Math.Seq.{take-add}
use Rattle.std.proofs.Common.{true, false}
use Rattle.std.proofs.lemmas.Bool.{false≢true}
use Rattle.std.proofs.lemmas.Cmp.{nat_list_cmp_total}
use Rattle.std.proofs.lemmas.Map.Lookups.{exact_bytes}
use Rattle.std.specs.Ordering.{nat_cmp, ordering_reverse}
use Rattle.std.specs.Cmp.Lexicographic.{slice_cmp}
use Rattle.std.specs.declared.cmp.Ordering.TheVariants.{Less, Equal, Greater}
use Rattle.mq_outside.specs.Named.{Named, content, names_of, IsBelow, AreBelow, AreAbove, IsAscending, AreTexts}
use Rattle.mq_outside.specs.Files.{bytes_in, bytes_of, overwritten}
use Rattle.mq_outside.specs.Calls.{put_file}
use Rattle.mq_outside.proofs.NamedLemmas.{below-append, ascending_behind, above_all, content_below, content_above, content-here, content-front, changed, added, removed, ascending_insert, ascending_remove, texts_insert, texts_remove, texts_behind}
use Rattle.mq_outside.specs.MemFiles.{total, files_in, IsFirst, IsPlace}
use Rattle.mq_outside.specs.declared.mem_files.Extent.{Extent}
use Rattle.mq_outside.specs.declared.mem_files.Place.{Place}

pub total-append : (xs ys : List Extent) → total (xs ++ ys) ≡ total xs + total ys
total-append [] ys = omega arith
total-append (x ∷ xs) ys = omega (arith, total-append xs ys)

-- the files of two buffers, one behind the other
pub files_in-append : (xs ys : List Extent) (a b : List ℕ) → total xs ≡ length a → files_in (xs ++ ys) (a ++ b) ≡ files_in xs a ++ files_in ys b
files_in-append [] ys a b whole = ap (λ (l : List ℕ). files_in ys (l ++ b)) (nil_from_length a (sym whole))
files_in-append (x ∷ xs) ys a b whole =
    let name : take x.name (a ++ b) ≡ take x.name a = take-append-le x.name a b (omega arith) in
    let behind : drop x.name (a ++ b) ≡ drop x.name a ++ b = drop-append-le x.name a b (omega arith) in
    let bytes : take x.size (drop x.name (a ++ b)) ≡ take x.size (drop x.name a) =
    ap (λ (l : List ℕ). take x.size l) behind ∙ take-append-le x.size (drop x.name a) b (omega (arith, length-drop x.name a)) in
    let rest : drop (x.name + x.size) (a ++ b) ≡ drop (x.name + x.size) a ++ b = drop-append-le (x.name + x.size) a b (omega arith) in
    let more : files_in (xs ++ ys) (drop (x.name + x.size) a ++ b) ≡ files_in xs (drop (x.name + x.size) a) ++ files_in ys b =
    files_in-append xs ys (drop (x.name + x.size) a) b (omega (arith, length-drop (x.name + x.size) a)) in
    ap (λ (n : List ℕ). record { name = n; bytes = take x.size (drop x.name (a ++ b)) } ∷ files_in (xs ++ ys) (drop (x.name + x.size) (a ++ b))) name
    ∙ ap (λ (n : List ℕ). record { name = take x.name a; bytes = n } ∷ files_in (xs ++ ys) (drop (x.name + x.size) (a ++ b))) bytes
    ∙ ap (λ (n : List Named). record { name = take x.name a; bytes = take x.size (drop x.name a) } ∷ n) (ap (files_in (xs ++ ys)) rest ∙ more)

-- the bytes of the first so many files
pub total-take : (extents : List Extent) (i : ℕ) → total (take i extents) + total (drop i extents) ≡ total extents
total-take extents i = sym (total-append (take i extents) (drop i extents)) ∙ ap total (take-append-drop i extents)

-- the files before a place and those from it on
pub cut_at : (extents : List Extent) (buffer : List ℕ) (i start : ℕ) → total extents ≡ length buffer → start ≡ total (take i extents)
    → files_in extents buffer ≡ files_in (take i extents) (take start buffer) ++ files_in (drop i extents) (drop start buffer)
cut_at extents buffer i start whole at =
    let size : length (take start buffer) ≡ start = length-take-le start buffer (omega (arith, total-take extents i)) in
    ap (λ (l : List Extent). files_in l buffer) (sym (take-append-drop i extents))
    ∙ ap (λ (l : List ℕ). files_in (take i extents ++ drop i extents) l) (sym (take-append-drop start buffer))
    ∙ files_in-append (take i extents) (drop i extents) (take start buffer) (drop start buffer) (sym at ∙ sym size)

-- a file of the buffer
abbrev pub file_at : Extent → List ℕ → Named
file_at extent bytes = record { name = take extent.name bytes; bytes = take extent.size (drop extent.name bytes) }

-- the file at a place
module _ (extents : List Extent) (buffer : List ℕ) (i start : ℕ) (e d : Extent) (whole : total extents ≡ length buffer) (at : start ≡ total (take i extents))
    (below : i < length extents) (is : get_or extents i d ≡ e) where
  pub drop_here : drop i extents ≡ e ∷ drop (i + 1) extents
  drop_here = drop_more extents i d below ∙ ap (λ (x : Extent). x ∷ drop (i + 1) extents) is

  pub take_here : take (i + 1) extents ≡ take i extents ++ e ∷ []
  take_here = take_more extents i d below ∙ ap (λ (x : Extent). take i extents ++ x ∷ []) is

  pub ends_within : start + (e.name + e.size) + total (drop (i + 1) extents) ≡ length buffer
  ends_within = omega (arith, total-take extents i, ap total drop_here)

  pub next_start : start + (e.name + e.size) ≡ total (take (i + 1) extents)
  next_start = omega (arith, ap total take_here, total-append (take i extents) (e ∷ []))

  pub here : files_in (drop i extents) (drop start buffer) ≡ file_at e (drop start buffer) ∷ files_in (drop (i + 1) extents) (drop (e.name + e.size) (drop start buffer))
  here = ap (λ (l : List Extent). files_in l (drop start buffer)) drop_here

  -- the files before the next place
  pub front_more : files_in (take (i + 1) extents) (take (start + (e.name + e.size)) buffer)
      ≡ files_in (take i extents) (take start buffer) ++ file_at e (drop start buffer) ∷ []
  front_more =
      let size : length (take start buffer) ≡ start = length-take-le start buffer (omega (arith, ends_within)) in
      let piece = take (e.name + e.size) (drop start buffer) in
      let name : take e.name piece ≡ take e.name (drop start buffer) = take-take e.name (e.name + e.size) (drop start buffer) (omega arith) in
      let bytes : take e.size (drop e.name piece) ≡ take e.size (drop e.name (drop start buffer)) =
      ap (λ (l : List ℕ). take e.size l) (drop-take e.name e.size (drop start buffer)) ∙ take-take e.size e.size (drop e.name (drop start buffer)) (omega arith) in
      ap (λ (l : List Extent). files_in l (take (start + (e.name + e.size)) buffer)) take_here
      ∙ ap (λ (l : List ℕ). files_in (take i extents ++ e ∷ []) l) (take-add start (e.name + e.size) buffer)
      ∙ files_in-append (take i extents) (e ∷ []) (take start buffer) piece (sym at ∙ sym size)
      ∙ ap (λ (n : List ℕ). files_in (take i extents) (take start buffer) ++ record { name = n; bytes = take e.size (drop e.name piece) } ∷ []) name
      ∙ ap (λ (n : List ℕ). files_in (take i extents) (take start buffer) ++ record { name = take e.name (drop start buffer); bytes = n } ∷ []) bytes

  -- the name there stands before the other, so the place is behind this file
  pub below_next : (name : List ℕ) → IsBelow (take e.name (drop start buffer)) name
      → AreBelow (names_of (files_in (take i extents) (take start buffer))) name
      → AreBelow (names_of (files_in (take (i + 1) extents) (take (start + (e.name + e.size)) buffer))) name
  below_next name less before =
      let front = files_in (take i extents) (take start buffer) in
      subst (λ (l : List Named). AreBelow (names_of l) name) (sym front_more)
      (subst (λ (l : List (List ℕ)). AreBelow l name) (sym (map-append (λ (file : Named). file.name) front (file_at e (drop start buffer) ∷ [])))
      (below-append (names_of front) (take e.name (drop start buffer) ∷ []) name before (less, tt)))

  pub text_here : AreTexts (names_of (files_in extents buffer)) → is_utf8 (take e.name (drop start buffer)) ≡ true
  text_here texts =
      let front = files_in (take i extents) (take start buffer) in
      let rest = files_in (drop (i + 1) extents) (drop (e.name + e.size) (drop start buffer)) in
      let whole_list : names_of (files_in extents buffer) ≡ names_of front ++ take e.name (drop start buffer) ∷ names_of rest =
      ap names_of (cut_at extents buffer i start whole at ∙ ap (λ (l : List Named). front ++ l) here)
      ∙ map-append (λ (file : Named). file.name) front (file_at e (drop start buffer) ∷ rest) in
      texts_behind (names_of front) (names_of rest) (take e.name (drop start buffer)) (subst AreTexts whole_list texts)

  pub names_more : names_of (files_in (take (i + 1) extents) (take (start + (e.name + e.size)) buffer))
      ≡ names_of (files_in (take i extents) (take start buffer)) ++ take e.name (drop start buffer) ∷ []
  names_more = ap names_of front_more ∙ map-append (λ (file : Named). file.name) (files_in (take i extents) (take start buffer)) (file_at e (drop start buffer) ∷ [])

  -- the name there stands behind the other, so no file has that name
  pub above_here : (name : List ℕ) → IsBelow name (take e.name (drop start buffer)) → IsAscending (names_of (files_in extents buffer))
      → AreAbove name (names_of (files_in (drop i extents) (drop start buffer)))
  above_here name less ascending =
      let front = files_in (take i extents) (take start buffer) in
      let rest = files_in (drop (i + 1) extents) (drop (e.name + e.size) (drop start buffer)) in
      let whole_list : names_of (files_in extents buffer) ≡ names_of front ++ take e.name (drop start buffer) ∷ names_of rest =
      ap names_of (cut_at extents buffer i start whole at ∙ ap (λ (l : List Named). front ++ l) here)
      ∙ map-append (λ (file : Named). file.name) front (file_at e (drop start buffer) ∷ rest) in
      let behind = ascending_behind (names_of front) (names_of rest) (take e.name (drop start buffer)) (subst IsAscending whole_list ascending) in
      subst (λ (l : List Named). AreAbove name (names_of l)) (sym here)
      (less, above_all name (take e.name (drop start buffer)) (names_of rest) less behind)

-- what a comparison of the name there answers
module _ (extents : List Extent) (buffer name : List ℕ) (i start n : ℕ) (e d : Extent) (whole : total extents ≡ length buffer) (at : start ≡ total (take i extents))
    (below : i < length extents) (is : get_or extents i d ≡ e) (long : n ≡ e.name) (before : AreBelow (names_of (files_in (take i extents) (take start buffer))) name) where
  shown : take n (drop start buffer) ≡ take e.name (drop start buffer)
  shown = ap (λ (k : ℕ). take k (drop start buffer)) long

  pub found_place : Equal ≡ slice_cmp nat_cmp (take n (drop start buffer)) name → IsPlace extents buffer name (record { index = i; start = start; found = true })
  found_place same = record {
    within = omega arith;
    at = at;
    before = before;
    here = λ _. subst (IsFirst name) (sym (here extents buffer i start e d whole at below is))
        (sym shown ∙ exact_bytes (take n (drop start buffer)) name (sym same));
    after = λ no. absurd (false≢true (sym no));
  }

  pub absent_place : Greater ≡ slice_cmp nat_cmp (take n (drop start buffer)) name → IsAscending (names_of (files_in extents buffer))
      → IsPlace extents buffer name (record { index = i; start = start; found = false })
  absent_place greater ascending = record {
    within = omega arith;
    at = at;
    before = before;
    here = λ no. absurd (false≢true no);
    after = λ _. above_here extents buffer i start e d whole at below is name
        (nat_list_cmp_total.antisymm name (take e.name (drop start buffer)) ∙ ap ordering_reverse (ap (λ (l : List ℕ). slice_cmp nat_cmp l name) (sym shown) ∙ sym greater)) ascending;
  }

  pub behind_place : Less ≡ slice_cmp nat_cmp (take n (drop start buffer)) name
      → (start + (e.name + e.size) ≡ total (take (i + 1) extents)) × AreBelow (names_of (files_in (take (i + 1) extents) (take (start + (e.name + e.size)) buffer))) name
  behind_place less =
      (next_start extents buffer i start e d whole at below is, below_next extents buffer i start e d whole at below is name (ap (λ (l : List ℕ). slice_cmp nat_cmp l name) (sym shown) ∙ sym less) before)

-- a file whose name and bytes stand in front
file_front : (e : Extent) (rest : List Extent) (n b c : List ℕ) → length n ≡ e.name → length b ≡ e.size
    → files_in (e ∷ rest) ((n ++ b) ++ c) ≡ record { name = n; bytes = b } ∷ files_in rest c
file_front e rest n b c named sized =
    let all = (n ++ b) ++ c in
    let name : take e.name all ≡ n = ap (λ (l : List ℕ). take e.name l) (append_assoc n b c) ∙ take_at n (b ++ c) e.name named in
    let behind : drop e.name all ≡ b ++ c = ap (λ (l : List ℕ). drop e.name l) (append_assoc n b c) ∙ drop_at n (b ++ c) e.name named in
    let bytes : take e.size (drop e.name all) ≡ b = ap (λ (l : List ℕ). take e.size l) behind ∙ take_at b c e.size sized in
    let last : drop (e.name + e.size) all ≡ c = drop_at (n ++ b) c (e.name + e.size) (omega (arith, length-append n b)) in
    ap (λ (l : List ℕ). record { name = l; bytes = take e.size (drop e.name all) } ∷ files_in rest (drop (e.name + e.size) all)) name
    ∙ ap (λ (l : List ℕ). record { name = n; bytes = l } ∷ files_in rest (drop (e.name + e.size) all)) bytes
    ∙ ap (λ (l : List ℕ). record { name = n; bytes = b } ∷ files_in rest l) last

set_here : (extents : List Extent) (i : ℕ) (next : Extent) → i < length extents → set extents i next ≡ take i extents ++ next ∷ drop (i + 1) extents
set_here extents i next below =
    let one : suc i ≡ i + 1 = omega arith in
    set_split extents i next below ∙ ap (λ (k : ℕ). take i extents ++ next ∷ drop k extents) one

-- a piece put into a file's bytes at an offset, for so many bytes
module _ (extents : List Extent) (buffer : List ℕ) (i start : ℕ) (e d next : Extent) (whole : total extents ≡ length buffer) (at : start ≡ total (take i extents))
    (below : i < length extents) (is : get_or extents i d ≡ e) (piece : List ℕ) (from count : ℕ) (within : from + count ≤ e.size)
    (named : next.name ≡ e.name) (sized : next.size + count ≡ e.size + length piece) where
  abbrev result : List ℕ
  result = take (start + e.name + from) buffer ++ piece ++ drop (start + e.name + from + count) buffer

  abbrev edited : List ℕ → List ℕ
  edited bytes = take from bytes ++ piece ++ drop (from + count) bytes

  bounds : start + (e.name + e.size) + total (drop (i + 1) extents) ≡ length buffer
  bounds = ends_within extents buffer i start e d whole at below is

  -- what stands before the file, its name, its bytes, and what stands behind it
  cut_result : result ≡ take start buffer ++ ((take e.name (drop start buffer) ++ edited (take e.size (drop e.name (drop start buffer)))) ++ drop (e.name + e.size) (drop start buffer))
  cut_result =
      let a = take start buffer in
      let all = drop start buffer in
      let n = take e.name all in
      let b = take e.size (drop e.name all) in
      let c = drop (e.name + e.size) all in
      let front : take (start + e.name + from) buffer ≡ a ++ (n ++ take from b) =
      ap (λ (k : ℕ). take k buffer) (omega arith) ∙ take-add start (e.name + from) buffer
      ∙ ap (λ (l : List ℕ). a ++ l) (take-add e.name from all ∙ ap (λ (l : List ℕ). n ++ l) (sym (take-take from e.size (drop e.name all) (omega arith)))) in
      let split : drop e.name all ≡ b ++ c = sym (take-append-drop e.size (drop e.name all)) ∙ ap (λ (l : List ℕ). b ++ l) (drop-drop e.size e.name all) in
      let size : length b ≡ e.size = length-take-le e.size (drop e.name all) (omega (arith, length-drop e.name all, length-drop start buffer, bounds)) in
      let back : drop (start + e.name + from + count) buffer ≡ drop (from + count) b ++ c =
      ap (λ (k : ℕ). drop k buffer) (omega arith) ∙ sym (drop-drop (e.name + (from + count)) start buffer) ∙ sym (drop-drop (from + count) e.name all)
      ∙ ap (λ (l : List ℕ). drop (from + count) l) split ∙ drop-append-le (from + count) b c (omega (arith, size)) in
      rw (front, back) (simp append_assoc)

  edited_size : length (edited (take e.size (drop e.name (drop start buffer)))) ≡ next.size
  edited_size =
      let b = take e.size (drop e.name (drop start buffer)) in
      let size : length b ≡ e.size = length-take-le e.size (drop e.name (drop start buffer)) (omega (arith, length-drop e.name (drop start buffer), length-drop start buffer, bounds)) in
      omega (arith, length-append (take from b ++ piece) (drop (from + count) b), length-append (take from b) piece, length-take-le from b (omega (arith, size)), length-drop (from + count) b, size)

  name_size : length (take e.name (drop start buffer)) ≡ next.name
  name_size = length-take-le e.name (drop start buffer) (omega (arith, length-drop start buffer, bounds)) ∙ sym named

  pub spliced_files : files_in (set extents i next) result
      ≡ files_in (take i extents) (take start buffer)
      ++ record { name = take e.name (drop start buffer); bytes = edited (take e.size (drop e.name (drop start buffer))) }
      ∷ files_in (drop (i + 1) extents) (drop (e.name + e.size) (drop start buffer))
  spliced_files =
      let n = take e.name (drop start buffer) in
      let b = edited (take e.size (drop e.name (drop start buffer))) in
      let c = drop (e.name + e.size) (drop start buffer) in
      let size : length (take start buffer) ≡ start = length-take-le start buffer (omega (arith, bounds)) in
      ap (files_in (set extents i next)) cut_result
      ∙ ap (λ (l : List Extent). files_in l (take start buffer ++ ((n ++ b) ++ c))) (set_here extents i next below)
      ∙ files_in-append (take i extents) (next ∷ drop (i + 1) extents) (take start buffer) ((n ++ b) ++ c) (sym at ∙ sym size)
      ∙ ap (λ (l : List Named). files_in (take i extents) (take start buffer) ++ l) (file_front next (drop (i + 1) extents) n b c name_size edited_size)

  pub spliced_total : total (set extents i next) ≡ length result
  spliced_total =
      let n = take e.name (drop start buffer) in
      let b = edited (take e.size (drop e.name (drop start buffer))) in
      let c = drop (e.name + e.size) (drop start buffer) in
      let split : total (set extents i next) ≡ total (take i extents ++ next ∷ drop (i + 1) extents) =
      ap total (set_here extents i next below) in
      omega (
        arith,
        split,
        total-append (take i extents) (next ∷ drop (i + 1) extents),
        ap length cut_result,
        length-append (take start buffer) ((n ++ b) ++ c),
        length-append (n ++ b) c,
        length-append n b,
        length-take-le start buffer (omega (arith, bounds)),
        name_size,
        edited_size,
        length-drop (e.name + e.size) (drop start buffer),
        length-drop start buffer,
        bounds,
      )

-- a file that was found
module _ (extents : List Extent) (buffer name : List ℕ) (place : Place) (whole : total extents ≡ length buffer) (placed : IsPlace extents buffer name place)
    (found : place.found ≡ true) where
  pub found_below : place.index < length extents
  found_below = ⊎_elim
      (λ (below : place.index < length extents). below)
      (λ (past : length extents ≤ place.index).
      absurd (subst (λ (l : List Extent). IsFirst name (files_in l (drop place.start buffer))) (drop_all place.index extents past) (placed.here found)))
      (cases_lt place.index (length extents))

  pub absent_before : content (files_in (take place.index extents) (take place.start buffer)) name ≡ None
  absent_before = content_below (files_in (take place.index extents) (take place.start buffer)) name placed.before

-- a found file, with the numbers of its bytes
module _ (extents : List Extent) (buffer name : List ℕ) (place : Place) (whole : total extents ≡ length buffer) (placed : IsPlace extents buffer name place)
    (found : place.found ≡ true) (e d : Extent) (is : get_or extents place.index d ≡ e) where
  pub found_ends : place.start + (e.name + e.size) + total (drop (place.index + 1) extents) ≡ length buffer
  found_ends = ends_within extents buffer place.index place.start e d whole placed.at (found_below extents buffer name place whole placed found) is

  pub found_named : take e.name (drop place.start buffer) ≡ name
  found_named = subst (IsFirst name) (here extents buffer place.index place.start e d whole placed.at (found_below extents buffer name place whole placed found) is) (placed.here found)

  pub found_whole : files_in extents buffer ≡ files_in (take place.index extents) (take place.start buffer)
      ++ file_at e (drop place.start buffer) ∷ files_in (drop (place.index + 1) extents) (drop (e.name + e.size) (drop place.start buffer))
  found_whole = cut_at extents buffer place.index place.start whole placed.at
      ∙ ap (λ (l : List Named). files_in (take place.index extents) (take place.start buffer) ++ l) (here extents buffer place.index place.start e d whole placed.at (found_below extents buffer name place whole placed found) is)

  pub found_bytes : content (files_in extents buffer) name ≡ Some (take e.size (drop e.name (drop place.start buffer)))
  found_bytes = ap (λ (l : List Named). content l name) found_whole
      ∙ content-here (files_in (take place.index extents) (take place.start buffer)) (files_in (drop (place.index + 1) extents) (drop (e.name + e.size) (drop place.start buffer)))
      (file_at e (drop place.start buffer)) name (absent_before extents buffer name place whole placed found) found_named

  pub found_size : length (bytes_of (content (files_in extents buffer)) name) ≡ e.size
  found_size = ap (λ (o : Option (List ℕ)). length (bytes_in o)) found_bytes
      ∙ length-take-le e.size (drop e.name (drop place.start buffer)) (omega (arith, length-drop e.name (drop place.start buffer), length-drop place.start buffer, found_ends))

  -- the file taken out
  abbrev rest_of : List ℕ
  rest_of = take place.start buffer ++ drop (place.start + (e.name + e.size)) buffer

  removed_files : files_in (remove extents place.index) rest_of
      ≡ files_in (take place.index extents) (take place.start buffer) ++ files_in (drop (place.index + 1) extents) (drop (e.name + e.size) (drop place.start buffer))
  removed_files =
      let one : suc place.index ≡ place.index + 1 = omega arith in
      let size : length (take place.start buffer) ≡ place.start = length-take-le place.start buffer (omega (arith, found_ends)) in
      ap (λ (k : ℕ). files_in (take place.index extents ++ drop k extents) rest_of) one
      ∙ files_in-append (take place.index extents) (drop (place.index + 1) extents) (take place.start buffer) (drop (place.start + (e.name + e.size)) buffer) (sym placed.at ∙ sym size)
      ∙ ap (λ (l : List ℕ). files_in (take place.index extents) (take place.start buffer) ++ files_in (drop (place.index + 1) extents) l) (sym (drop-drop (e.name + e.size) place.start buffer))

  pub removed_total : total (remove extents place.index) ≡ length rest_of
  removed_total =
      let one : suc place.index ≡ place.index + 1 = omega arith in
      let same : total (remove extents place.index) ≡ total (take place.index extents ++ drop (place.index + 1) extents) = ap (λ (k : ℕ). total (take place.index extents ++ drop k extents)) one in
      omega (
        arith,
        same,
        total-append (take place.index extents) (drop (place.index + 1) extents),
        found_ends,
        placed.at,
        length-append (take place.start buffer) (drop (place.start + (e.name + e.size)) buffer),
        length-take-le place.start buffer (omega (arith, found_ends)),
        length-drop (place.start + (e.name + e.size)) buffer,
      )

  names_cut : names_of (files_in extents buffer) ≡ names_of (files_in (take place.index extents) (take place.start buffer))
      ++ take e.name (drop place.start buffer) ∷ names_of (files_in (drop (place.index + 1) extents) (drop (e.name + e.size) (drop place.start buffer)))
  names_cut = ap names_of found_whole
      ∙ map-append (λ (file : Named). file.name) (files_in (take place.index extents) (take place.start buffer))
      (file_at e (drop place.start buffer) ∷ files_in (drop (place.index + 1) extents) (drop (e.name + e.size) (drop place.start buffer)))

  removed_names : names_of (files_in (remove extents place.index) rest_of) ≡ names_of (files_in (take place.index extents) (take place.start buffer))
      ++ names_of (files_in (drop (place.index + 1) extents) (drop (e.name + e.size) (drop place.start buffer)))
  removed_names = ap names_of removed_files
      ∙ map-append (λ (file : Named). file.name) (files_in (take place.index extents) (take place.start buffer))
      (files_in (drop (place.index + 1) extents) (drop (e.name + e.size) (drop place.start buffer)))

  pub removed_ascending : IsAscending (names_of (files_in extents buffer)) → IsAscending (names_of (files_in (remove extents place.index) rest_of))
  removed_ascending ascending = subst IsAscending (sym removed_names)
      (ascending_remove (names_of (files_in (take place.index extents) (take place.start buffer)))
      (names_of (files_in (drop (place.index + 1) extents) (drop (e.name + e.size) (drop place.start buffer)))) (take e.name (drop place.start buffer)) (subst IsAscending names_cut ascending))

  pub removed_texts : AreTexts (names_of (files_in extents buffer)) → AreTexts (names_of (files_in (remove extents place.index) rest_of))
  removed_texts texts = subst AreTexts (sym removed_names)
      (texts_remove (names_of (files_in (take place.index extents) (take place.start buffer)))
      (names_of (files_in (drop (place.index + 1) extents) (drop (e.name + e.size) (drop place.start buffer)))) (take e.name (drop place.start buffer)) (subst AreTexts names_cut texts))

  absent_behind : IsAscending (names_of (files_in extents buffer)) → content (files_in (drop (place.index + 1) extents) (drop (e.name + e.size) (drop place.start buffer))) name ≡ None
  absent_behind ascending =
      let rest = files_in (drop (place.index + 1) extents) (drop (e.name + e.size) (drop place.start buffer)) in
      content_above rest name
      (subst (λ (n : List ℕ). AreAbove n (names_of rest)) found_named
      (ascending_behind (names_of (files_in (take place.index extents) (take place.start buffer))) (names_of rest) (take e.name (drop place.start buffer)) (subst IsAscending names_cut ascending)))

  pub removed_content : IsAscending (names_of (files_in extents buffer)) → (other : List ℕ)
      → content (files_in (remove extents place.index) rest_of) other ≡ put_file name None (content (files_in extents buffer)) other
  removed_content ascending other =
      ap (λ (l : List Named). content l other) removed_files
      ∙ removed (files_in (take place.index extents) (take place.start buffer)) (files_in (drop (place.index + 1) extents) (drop (e.name + e.size) (drop place.start buffer)))
      (file_at e (drop place.start buffer)) name (absent_before extents buffer name place whole placed found) (absent_behind ascending) found_named other
      ∙ ap (λ (l : List Named). put_file name None (content l) other) (sym found_whole)

  -- the file with a piece put in
  module _ (next : Extent) (piece : List ℕ) (from count : ℕ) (within : from + count ≤ e.size) (named : next.name ≡ e.name) (sized : next.size + count ≡ e.size + length piece) where
    abbrev after : List ℕ
    after = take (place.start + e.name + from) buffer ++ piece ++ drop (place.start + e.name + from + count) buffer

    abbrev old_bytes : List ℕ
    old_bytes = take e.size (drop e.name (drop place.start buffer))

    pub replaced_total : total (set extents place.index next) ≡ length after
    replaced_total = spliced_total extents buffer place.index place.start e d next whole placed.at (found_below extents buffer name place whole placed found) is piece from count within named sized

    replaced_files : files_in (set extents place.index next) after ≡ files_in (take place.index extents) (take place.start buffer)
        ++ record { name = take e.name (drop place.start buffer); bytes = take from old_bytes ++ piece ++ drop (from + count) old_bytes }
        ∷ files_in (drop (place.index + 1) extents) (drop (e.name + e.size) (drop place.start buffer))
    replaced_files = spliced_files extents buffer place.index place.start e d next whole placed.at (found_below extents buffer name place whole placed found) is piece from count within named sized

    pub replaced_content : (other : List ℕ) → content (files_in (set extents place.index next) after) other
        ≡ put_file name (Some (take from old_bytes ++ piece ++ drop (from + count) old_bytes)) (content (files_in extents buffer)) other
    replaced_content other =
        ap (λ (l : List Named). content l other) replaced_files
        ∙ changed (files_in (take place.index extents) (take place.start buffer)) (files_in (drop (place.index + 1) extents) (drop (e.name + e.size) (drop place.start buffer)))
        (file_at e (drop place.start buffer)) (record { name = take e.name (drop place.start buffer); bytes = take from old_bytes ++ piece ++ drop (from + count) old_bytes }) name
        (absent_before extents buffer name place whole placed found) found_named found_named other
        ∙ ap (λ (l : List Named). put_file name (Some (take from old_bytes ++ piece ++ drop (from + count) old_bytes)) (content l) other) (sym found_whole)

    replaced_names : names_of (files_in (set extents place.index next) after) ≡ names_of (files_in extents buffer)
    replaced_names =
        let front = files_in (take place.index extents) (take place.start buffer) in
        let rest = files_in (drop (place.index + 1) extents) (drop (e.name + e.size) (drop place.start buffer)) in
        let new : Named = record { name = take e.name (drop place.start buffer); bytes = take from old_bytes ++ piece ++ drop (from + count) old_bytes } in
        ap names_of replaced_files ∙ map-append (λ (file : Named). file.name) front (new ∷ rest)
        ∙ sym (ap names_of found_whole ∙ map-append (λ (file : Named). file.name) front (file_at e (drop place.start buffer) ∷ rest))

    pub replaced_ascending : IsAscending (names_of (files_in extents buffer)) → IsAscending (names_of (files_in (set extents place.index next) after))
    replaced_ascending ascending = subst IsAscending (sym replaced_names) ascending

    pub replaced_texts : AreTexts (names_of (files_in extents buffer)) → AreTexts (names_of (files_in (set extents place.index next) after))
    replaced_texts texts = subst AreTexts (sym replaced_names) texts

-- a piece over the bytes that are there and behind them
pub written_over : (at count : ℕ) (piece bytes : List ℕ) → count ≡ min (length piece) (length bytes - at) → at ≤ length bytes
    → take at bytes ++ piece ++ drop (at + count) bytes ≡ overwritten at piece bytes
written_over at count piece bytes is within = ap (λ (l : List ℕ). take at bytes ++ piece ++ l) (⊎_elim
    (λ (short : length piece < length bytes - at). let same : count ≡ length piece = omega arith in ap (λ (k : ℕ). drop (at + k) bytes) same)
    (λ (long : length bytes - at ≤ length piece). drop_all (at + count) bytes (omega arith) ∙ sym (drop_all (at + length piece) bytes (omega arith)))
    (cases_lt (length piece) (length bytes - at)))

-- a file that was not found
module _ (extents : List Extent) (buffer name : List ℕ) (place : Place) (whole : total extents ≡ length buffer) (placed : IsPlace extents buffer name place)
    (absent : place.found ≡ false) where
  pub place_within : place.start ≤ length buffer
  place_within = omega (arith, placed.at, total-take extents place.index)

  cut_whole : files_in extents buffer ≡ files_in (take place.index extents) (take place.start buffer) ++ files_in (drop place.index extents) (drop place.start buffer)
  cut_whole = cut_at extents buffer place.index place.start whole placed.at

  none_before : content (files_in (take place.index extents) (take place.start buffer)) name ≡ None
  none_before = content_below (files_in (take place.index extents) (take place.start buffer)) name placed.before

  pub absent_content : content (files_in extents buffer) name ≡ None
  absent_content = ap (λ (l : List Named). content l name) cut_whole
      ∙ content-front (files_in (take place.index extents) (take place.start buffer)) (files_in (drop place.index extents) (drop place.start buffer)) name none_before
      ∙ content_above (files_in (drop place.index extents) (drop place.start buffer)) name (placed.after absent)

  -- a file put in there: its bytes, and then its name before them
  module _ (next : Extent) (piece mid after : List ℕ) (named : next.name ≡ length name) (sized : next.size ≡ length piece)
      (first : mid ≡ take place.start buffer ++ piece ++ drop place.start buffer) (second : after ≡ take place.start mid ++ name ++ drop place.start mid) where
    front_size : length (take place.start buffer) ≡ place.start
    front_size = length-take-le place.start buffer place_within

    after_cut : after ≡ take place.start buffer ++ ((name ++ piece) ++ drop place.start buffer)
    after_cut =
        let a = take place.start buffer in
        let c = drop place.start buffer in
        let mid_cut : mid ≡ a ++ (piece ++ c) = first ∙ append_assoc a piece c in
        let low : take place.start mid ≡ a = ap (λ (l : List ℕ). take place.start l) mid_cut ∙ take_at a (piece ++ c) place.start front_size in
        let high : drop place.start mid ≡ piece ++ c = ap (λ (l : List ℕ). drop place.start l) mid_cut ∙ drop_at a (piece ++ c) place.start front_size in
        second ∙ ap (λ (l : List ℕ). l ++ name ++ drop place.start mid) low ∙ ap (λ (l : List ℕ). a ++ name ++ l) high ∙ simp append_assoc

    added_files : files_in (insert extents place.index next) after ≡ files_in (take place.index extents) (take place.start buffer)
        ++ record { name = name; bytes = piece } ∷ files_in (drop place.index extents) (drop place.start buffer)
    added_files =
        ap (files_in (insert extents place.index next)) after_cut
        ∙ files_in-append (take place.index extents) (next ∷ drop place.index extents) (take place.start buffer) ((name ++ piece) ++ drop place.start buffer) (sym placed.at ∙ sym front_size)
        ∙ ap (λ (l : List Named). files_in (take place.index extents) (take place.start buffer) ++ l) (file_front next (drop place.index extents) name piece (drop place.start buffer) (sym named) (sym sized))

    pub added_total : total (insert extents place.index next) ≡ length after
    added_total = omega (
      arith,
      total-append (take place.index extents) (next ∷ drop place.index extents),
      total-take extents place.index,
      named,
      sized,
      ap length after_cut,
      length-append (take place.start buffer) ((name ++ piece) ++ drop place.start buffer),
      length-append (name ++ piece) (drop place.start buffer),
      length-append name piece,
      front_size,
      length-drop place.start buffer,
      place_within,
    )

    old_names : names_of (files_in extents buffer) ≡ names_of (files_in (take place.index extents) (take place.start buffer)) ++ names_of (files_in (drop place.index extents) (drop place.start buffer))
    old_names = ap names_of cut_whole ∙ map-append (λ (file : Named). file.name) (files_in (take place.index extents) (take place.start buffer)) (files_in (drop place.index extents) (drop place.start buffer))

    new_names : names_of (files_in (insert extents place.index next) after)
        ≡ names_of (files_in (take place.index extents) (take place.start buffer)) ++ name ∷ names_of (files_in (drop place.index extents) (drop place.start buffer))
    new_names =
        let new : Named = record { name = name; bytes = piece } in
        ap names_of added_files ∙ map-append (λ (file : Named). file.name) (files_in (take place.index extents) (take place.start buffer)) (new ∷ files_in (drop place.index extents) (drop place.start buffer))

    pub added_ascending : IsAscending (names_of (files_in extents buffer)) → IsAscending (names_of (files_in (insert extents place.index next) after))
    added_ascending ascending = subst IsAscending (sym new_names)
        (ascending_insert (names_of (files_in (take place.index extents) (take place.start buffer))) (names_of (files_in (drop place.index extents) (drop place.start buffer))) name
        (subst IsAscending old_names ascending) placed.before (placed.after absent))

    pub added_texts : AreTexts (names_of (files_in extents buffer)) → is_utf8 name ≡ true → AreTexts (names_of (files_in (insert extents place.index next) after))
    added_texts texts text = subst AreTexts (sym new_names)
        (texts_insert (names_of (files_in (take place.index extents) (take place.start buffer))) (names_of (files_in (drop place.index extents) (drop place.start buffer))) name
        (subst AreTexts old_names texts) text)

    pub added_content : (other : List ℕ) → content (files_in (insert extents place.index next) after) other ≡ put_file name (Some piece) (content (files_in extents buffer)) other
    added_content other =
        ap (λ (l : List Named). content l other) added_files
        ∙ added (files_in (take place.index extents) (take place.start buffer)) (files_in (drop place.index extents) (drop place.start buffer)) (record { name = name; bytes = piece }) name none_before refl other
        ∙ ap (λ (l : List Named). put_file name (Some piece) (content l) other) (sym cut_whole)

-- all the names
pub names_all : (extents : List Extent) (buffer : List ℕ) (n start : ℕ) → n ≡ length extents → start ≡ total (take n extents) → total extents ≡ length buffer
    → names_of (files_in (take n extents) (take start buffer)) ≡ names_of (files_in extents buffer)
names_all extents buffer n start is at whole =
    let same : take n extents ≡ extents = take_all n extents (omega arith) in
    ap (λ (l : List Extent). names_of (files_in l (take start buffer))) same
    ∙ ap (λ (l : List ℕ). names_of (files_in extents l)) (take_all start buffer (omega (arith, ap total same)))
