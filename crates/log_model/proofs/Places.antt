-- The segments of a well-formed log: each record has its place in the segment that the blank rule gives it.
use Rattle.std.proofs.Common.{◌≡◌, ⊎_elim, ℕ, zero, suc, ◌+◌, ◌*◌, ◌/◌, ◌%◌, ◌^◌, ◌<◌, ◌≤◌, true, false, cond, List, [], ◌∷◌, ◌++◌, length, take, slice_get, Some, refl, sym, ◌∙◌, ap, subst, arith, append_assoc, append-nil, length-append}
use Rattle.std.proofs.lemmas.Bool.{leb-true, cases_Bool, cond-true, cond-false}
use Rattle.std.proofs.lemmas.List.{take-take}
use Rattle.std.proofs.lemmas.List.Concat.{flat_map-append}
use Rattle.std.proofs.lemmas.Nat.{mod-mul-add, div-mul-add}
use Rattle.std.proofs.Math.Nat.{div-mul-le_self, div-eq_of_lt}
use Rattle.record_codec.specs.Entry.{Entry}
use Rattle.record_codec.specs.Layout.{layout, size}
use Rattle.record_codec.proofs.LayoutLengths.{length-layout}
use Rattle.log_model.specs.Bases.{Base, Geometry, whole, first_segment}
use Rattle.log_model.specs.Log.{IsSegmentSize, IsGeometry, fits, end_from, end_of, next_place, Follows, IsWellFormed}
use Rattle.log_model.specs.Segments.{layouts, Shape, empty_shape, added, opened, used, grown, laid, next_segment, shape_of, end_in}
use Rattle.log_model.proofs.Lists.{get_take}

-- ---- well-formed logs

pub well_formed_take : (S : Geometry) (k : ℕ) (log : List Entry) → IsWellFormed S log → IsWellFormed S (take k log)
well_formed_take S k log well = record {
  segment = well.segment;
  each = λ j r got.
      let in_log = get_take k j log r got in
      subst (λ (l : List Entry). Follows S l r) (sym (take-take j k log (omega (arith, in_log.1)))) (well.each j r in_log.0);
}

-- the size of its segments
pub geometry_size : (S : Geometry) → IsGeometry S → IsSegmentSize S.size
geometry_size S geometry = record { low = geometry.low; high = geometry.high }

-- a log may begin at place 0
pub whole_geometry : (n : ℕ) → IsSegmentSize n → IsGeometry (whole n)
whole_geometry n segment = record {
  low = segment.low;
  high = segment.high;
  begins = omega (arith, div-mul-le_self 0 n);
  within = omega arith;
  some = omega arith;
  counted = λ topic queue. omega arith;
}

-- whose segment has number 0
pub first_whole : (n : ℕ) → 0 < n → first_segment (whole n) ≡ 0
first_whole n some = div-eq_of_lt some

-- the log without records
pub empty_well_formed : (S : Geometry) → IsGeometry S → IsWellFormed S []
empty_well_formed S segment = record { segment = segment; each = λ k r got. absurd (cc) }

-- the end of a longer log goes on from that of the shorter one
end_from-append : (place : ℕ) (log more : List Entry) → end_from place (log ++ more) ≡ end_from (end_from place log) more
end_from-append place [] more = refl
end_from-append place (r ∷ log) more = end_from-append (r.offset + size r) log more

pub end_of-append : (base : Base) (log : List Entry) (r : Entry) → end_of base (log ++ r ∷ []) ≡ r.offset + size r
end_of-append base log r = end_from-append base.place log (r ∷ [])

-- ---- the bytes of records

pub layouts_push : (records : List Entry) (r : Entry) → layouts (records ++ r ∷ []) ≡ layouts records ++ layout r
layouts_push records r = flat_map-append layout records (r ∷ []) ∙ ap (λ (l : List ℕ). layouts records ++ l) (append-nil (layout r))

pub used_push : (shape : Shape) (r : Entry) → used (added shape (r ∷ [])) ≡ used shape + size r
used_push shape r = omega (arith, ap length (layouts_push shape.last r), length-append (layouts shape.last) (layout r), length-layout r)

pub used_first : (shape : Shape) (r : Entry) → used (added (opened shape) (r ∷ [])) ≡ size r
used_first shape r = omega (arith, ap length (append-nil (layout r)), length-layout r)

-- ---- the blank rule

pub grown_here : (S : Geometry) (shape : Shape) (r : Entry) → fits S.size (used shape) (size r) ≡ true → grown S shape r ≡ added shape (r ∷ [])
grown_here S shape r here = cond-true _ (added shape (r ∷ [])) (added (opened shape) (r ∷ [])) here

pub grown_next : (S : Geometry) (shape : Shape) (r : Entry) → fits S.size (used shape) (size r) ≡ false → grown S shape r ≡ added (opened shape) (r ∷ [])
grown_next S shape r full = cond-false _ (added shape (r ∷ [])) (added (opened shape) (r ∷ [])) full

laid-append : (S : Geometry) (shape : Shape) (records more : List Entry) → laid S shape (records ++ more) ≡ laid S (laid S shape records) more
laid-append S shape [] more = refl
laid-append S shape (x ∷ records) more = laid-append S (grown S shape x) records more

pub shape_of-append : (S : Geometry) (log more : List Entry) → shape_of S (log ++ more) ≡ laid S (shape_of S log) more
shape_of-append S log more = laid-append S empty_shape log more

-- no segment of a log stands before its first one
pub next_low : (S : Geometry) (older : List (List Entry)) → first_segment S ≤ next_segment S older
next_low S [] = omega arith
next_low S (records ∷ older) = omega (arith, next_low S older)

-- a record takes away no segment
pub grown_longer : (S : Geometry) (shape : Shape) (r : Entry) → next_segment S shape.older ≤ next_segment S (grown S shape r).older
grown_longer S shape r = ⊎_elim
    (λ (here : fits S.size (used shape) (size r) ≡ true). omega (arith, ap (λ (s : Shape). next_segment S s.older) (grown_here S shape r here)))
    (λ (full : fits S.size (used shape) (size r) ≡ false). omega (arith, ap (λ (s : Shape). next_segment S s.older) (grown_next S shape r full)))
    (cases_Bool (fits S.size (used shape) (size r)))

-- nor do several
pub laid_longer : (S : Geometry) (shape : Shape) (records : List Entry) → next_segment S shape.older ≤ next_segment S (laid S shape records).older
laid_longer S shape [] = omega arith
laid_longer S shape (r ∷ records) = omega (arith, grown_longer S shape r, laid_longer S (grown S shape r) records)

-- each segment before the last has room for a blank
abbrev pub AreRoomy : Geometry → List (List Entry) → Type 0
AreRoomy S [] = Unit {0}
AreRoomy S (records ∷ older) = (length (layouts records) + 8 ≤ S.size) × AreRoomy S older

-- the records of all segments
abbrev pub all_of : List (List Entry) → List Entry
all_of [] = []
all_of (records ∷ older) = all_of older ++ records

-- the segments of these records, which end where the records end
pub record Placed (S : Geometry) (done : List Entry) (shape : Shape) : Type 0 where
  pub end : end_of S.base done ≡ end_in S shape
  pub room : used shape + 8 ≤ S.size
  pub roomy : AreRoomy S shape.older
  pub all : all_of shape.older ++ shape.last ≡ done

-- the records end in the last segment
pub placed_number : (S : Geometry) (done : List Entry) (shape : Shape) → Placed S done shape → end_of S.base done / S.size ≡ next_segment S shape.older
placed_number S done shape placed = ap (λ (n : ℕ). n / S.size) placed.end ∙ div-mul-add (next_segment S shape.older) S.size (used shape) (omega (arith, placed.room))

-- behind the bytes that it has
pub placed_offset : (S : Geometry) (done : List Entry) (shape : Shape) → Placed S done shape → end_of S.base done % S.size ≡ used shape
placed_offset S done shape placed = ap (λ (n : ℕ). n % S.size) placed.end ∙ mod-mul-add (next_segment S shape.older) S.size (used shape) (omega (arith, placed.room))

-- the next place, by the last segment
next_of : (S : Geometry) (done : List Entry) (shape : Shape) (r : Entry) → Placed S done shape
    → next_place S done (size r) ≡ (cond (fits S.size (used shape) (size r)) (end_in S shape) ((next_segment S shape.older + 1) * S.size))
next_of S done shape r placed =
    let offset = placed_offset S done shape placed in
    let number = placed_number S done shape placed in
    λ i. cond (fits S.size (offset i) (size r)) (placed.end i) ((number i + 1) * S.size)

-- a record that follows stands at the end where it fits there
pub place_here : (S : Geometry) (done : List Entry) (shape : Shape) (r : Entry) → Placed S done shape → Follows S done r → fits S.size (used shape) (size r) ≡ true
    → r.offset ≡ end_in S shape
place_here S done shape r placed follows here = follows.place ∙ next_of S done shape r placed ∙ cond-true _ (end_in S shape) ((next_segment S shape.older + 1) * S.size) here

-- and else at the start of the next segment
pub place_next : (S : Geometry) (done : List Entry) (shape : Shape) (r : Entry) → Placed S done shape → Follows S done r → fits S.size (used shape) (size r) ≡ false
    → r.offset ≡ end_in S (opened shape)
place_next S done shape r placed follows full =
    let one : next_segment S shape.older + 1 ≡ suc (next_segment S shape.older) = omega arith in
    let start : (next_segment S shape.older + 1) * S.size ≡ suc (next_segment S shape.older) * S.size = ap (λ (n : ℕ). n * S.size) one in
    let here : r.offset ≡ (next_segment S shape.older + 1) * S.size = follows.place ∙ next_of S done shape r placed ∙ cond-false _ (end_in S shape) ((next_segment S shape.older + 1) * S.size) full in
    omega (arith, here, start)

placed_here : (S : Geometry) (done : List Entry) (shape : Shape) (r : Entry) → Placed S done shape → Follows S done r → fits S.size (used shape) (size r) ≡ true
    → Placed S (done ++ r ∷ []) (added shape (r ∷ []))
placed_here S done shape r placed follows here = record {
  end = omega (arith, end_of-append S.base done r, place_here S done shape r placed follows here, used_push shape r);
  room = omega (arith, used_push shape r, leb-true _ _ here);
  roomy = placed.roomy;
  all = sym (append_assoc (all_of shape.older) shape.last (r ∷ [])) ∙ ap (λ (l : List Entry). l ++ r ∷ []) placed.all;
}

placed_next : (S : Geometry) (done : List Entry) (shape : Shape) (r : Entry) → Placed S done shape → Follows S done r → fits S.size (used shape) (size r) ≡ false
    → Placed S (done ++ r ∷ []) (added (opened shape) (r ∷ []))
placed_next S done shape r placed follows full = record {
  end = omega (arith, end_of-append S.base done r, place_next S done shape r placed follows full, used_first shape r);
  room = omega (arith, used_first shape r, follows.room);
  roomy = (placed.room, placed.roomy);
  all = ap (λ (l : List Entry). l ++ r ∷ []) placed.all;
}

pub placed_grown : (S : Geometry) (done : List Entry) (shape : Shape) (r : Entry) → Placed S done shape → Follows S done r → Placed S (done ++ r ∷ []) (grown S shape r)
placed_grown S done shape r placed follows = ⊎_elim
    (λ (here : fits S.size (used shape) (size r) ≡ true). subst (λ (s : Shape). Placed S (done ++ r ∷ []) s) (sym (grown_here S shape r here)) (placed_here S done shape r placed follows here))
    (λ (full : fits S.size (used shape) (size r) ≡ false). subst (λ (s : Shape). Placed S (done ++ r ∷ []) s) (sym (grown_next S shape r full)) (placed_next S done shape r placed follows full))
    (cases_Bool (fits S.size (used shape) (size r)))

placed_from : (S : Geometry) (rest done : List Entry) (shape : Shape) → Placed S done shape → ((k : ℕ) (r : Entry) → slice_get rest k ≡ Some r → Follows S (done ++ take k rest) r)
    → Placed S (done ++ rest) (laid S shape rest)
placed_from S [] done shape placed each = subst (λ (l : List Entry). Placed S l shape) (sym (append-nil done)) placed
placed_from S (x ∷ rest) done shape placed each =
    let first : Follows S done x = subst (λ (l : List Entry). Follows S l x) (append-nil done) (each zero x refl) in
    subst (λ (l : List Entry). Placed S l (laid S (grown S shape x) rest)) (append_assoc done (x ∷ []) rest)
    (placed_from S rest (done ++ x ∷ []) (grown S shape x) (placed_grown S done shape x placed first)
    (λ k r got. subst (λ (l : List Entry). Follows S l r) (sym (append_assoc done (x ∷ []) (take k rest))) (each (suc k) r got)))

placed_empty : (S : Geometry) → IsGeometry S → Placed S [] empty_shape
placed_empty S geometry = record { end = omega (arith, geometry.begins); room = omega (arith, geometry.low); roomy = tt; all = refl }

-- a well-formed log is placed in its segments
pub placed_log : (S : Geometry) (log : List Entry) → IsWellFormed S log → Placed S log (shape_of S log)
placed_log S log well = placed_from S log [] empty_shape (placed_empty S well.segment) well.each

-- ---- how far a log goes

end_from_low : (place : ℕ) (log : List Entry) → place ≤ 2 ^ 62 → ((k : ℕ) (r : Entry) → slice_get log k ≡ Some r → r.offset + size r ≤ 2 ^ 62) → end_from place log ≤ 2 ^ 62
end_from_low place [] low each = low
end_from_low place (r ∷ log) low each = end_from_low (r.offset + size r) log (each zero r refl) (λ k s got. each (suc k) s got)

pub end_low : (S : Geometry) (log : List Entry) → IsWellFormed S log → end_of S.base log ≤ 2 ^ 62
end_low S log well = end_from_low S.base.place log well.segment.within (λ k r got. (well.each k r got).low)
