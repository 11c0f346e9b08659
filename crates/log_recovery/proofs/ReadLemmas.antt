-- Reading the log record by record and file by file, up to where recovery keeps its records or finds damage.
use Rattle.std.proofs.Common.{◌≡◌, ◌≢◌, ◌⊎◌, inl, inr, ⊎_elim, ℕ, zero, suc, ◌+◌, ◌*◌, ◌^◌, ◌<◌, ◌≤◌, true, false, List, [], ◌∷◌, ◌++◌, length, take, Option, Some, None, IsSome, refl, sym, ◌∙◌, ap, subst, arith, append_assoc, take-append-drop}
use Rattle.std.proofs.lemmas.Bool.{cases_Bool, cases_eq}
use Rattle.std.proofs.lemmas.List.{take_at}
use Rattle.mq_outside.specs.Files.{Files, bytes_in}
use Rattle.record_codec.specs.Entry.{Entry}
use Rattle.record_codec.specs.Layout.{layout, size}
use Rattle.log_model.specs.Bases.{Geometry, first_segment}
use Rattle.log_model.specs.Log.{IsGeometry, fits, IsWellFormed}
use Rattle.log_model.specs.Segments.{layouts, Shape, empty_shape, added, opened, used, shape_of, segment_start, segment_file, last_name, last_bytes, IsLogFile, next_segment}
use Rattle.log_model.specs.Store.{StartsWith, EndsInBlank, IsNext, ReadsTo, ComesNext, IsDamagedAt, Keeps, opened_times}
use Rattle.log_model.proofs.Places.{empty_well_formed, next_low, placed_log, place_here, place_next, layouts_push, grown_here, grown_next, shape_of-append}
use Rattle.log_model.proofs.FileNames.{IsNamed, next_absent, names_apart, is_log_file}
use Rattle.log_model.proofs.Fronts.{starts_some}
use Rattle.log_model.proofs.Recovery.{well_formed_push, times_length}
use Rattle.log_recovery.specs.Names.{AreNamed, NoFurther, IsOdd}

-- before the first record
pub reads_start : (S : Geometry) (files : Files) → IsGeometry S → ReadsTo S [] empty_shape files
reads_start S files segment = record {
  well_formed = empty_well_formed S segment;
  opens = 0;
  is = refl;
  named = λ k from low. absurd (omega (arith, from, low));
  older = tt;
  last = refl;
}

-- the last segment leaves room for a blank
opened_used : (S : Geometry) (opens : ℕ) (shape : Shape) → IsGeometry S → used shape + 8 ≤ S.size → used (opened_times opens shape) + 8 ≤ S.size
opened_used S zero shape segment room = room
opened_used S (suc opens) shape segment room = omega (arith, segment.low)

pub reads_room : (S : Geometry) (records : List Entry) (shape : Shape) (files : Files) → ReadsTo S records shape files → used shape + 8 ≤ S.size
reads_room S records shape files reads = subst (λ (s : Shape). used s + 8 ≤ S.size) (sym reads.is)
    (opened_used S reads.opens (shape_of S records) reads.well_formed.segment (placed_log S records reads.well_formed).room)

-- a record that is next puts itself into the last segment
next_shape : (S : Geometry) (opens : ℕ) (records : List Entry) (files : Files) (r : Entry) → IsWellFormed S records → IsNext S records files (opened_times opens (shape_of S records)) r
    → shape_of S (records ++ r ∷ []) ≡ added (opened_times opens (shape_of S records)) (r ∷ [])
next_shape S zero records files r well next =
    let shape : Shape = shape_of S records in
    let placed = placed_log S records well in
    ⊎_elim
    (λ (here : fits S.size (used shape) (size r) ≡ true). shape_of-append S records (r ∷ []) ∙ grown_here S shape r here)
    (λ (full : fits S.size (used shape) (size r) ≡ false). absurd (omega (arith, placed.room, next.place, place_next S records shape r placed next.follows full)))
    (cases_Bool (fits S.size (used shape) (size r)))
next_shape S (suc zero) records files r well next =
    let shape : Shape = shape_of S records in
    let placed = placed_log S records well in
    ⊎_elim
    (λ (here : fits S.size (used shape) (size r) ≡ true). absurd (omega (arith, placed.room, next.place, place_here S records shape r placed next.follows here)))
    (λ (full : fits S.size (used shape) (size r) ≡ false). shape_of-append S records (r ∷ []) ∙ grown_next S shape r full)
    (cases_Bool (fits S.size (used shape) (size r)))
next_shape S (suc (suc opens)) records files r well next =
    let shape : Shape = shape_of S records in
    let placed = placed_log S records well in
    let number : suc (next_segment S (opened_times (suc opens) shape).older) ≡ opens + 2 + next_segment S shape.older = omega (arith, times_length S (suc opens) shape) in
    let start : suc (next_segment S (opened_times (suc opens) shape).older) * S.size ≡ opens * S.size + (2 * S.size + next_segment S shape.older * S.size) = ap (λ (n : ℕ). n * S.size) number ∙ omega arith in
    absurd (⊎_elim
    (λ (here : fits S.size (used shape) (size r) ≡ true). omega (arith, placed.room, next.place, start, place_here S records shape r placed next.follows here))
    (λ (full : fits S.size (used shape) (size r) ≡ false). omega (arith, placed.room, next.place, start, well.segment.low, place_next S records shape r placed next.follows full))
    (cases_Bool (fits S.size (used shape) (size r))))

-- one record more is read
pub reads_more : (S : Geometry) (records : List Entry) (shape : Shape) (files : Files) (r : Entry) → ReadsTo S records shape files → IsNext S records files shape r
    → ReadsTo S (records ++ r ∷ []) (added shape (r ∷ [])) files
reads_more S records shape files r reads next =
    let bytes : List ℕ = last_bytes S shape files in
    let whole : bytes ≡ layouts (shape.last ++ r ∷ []) ++ next.starts.rest =
    sym (take-append-drop (used shape) bytes) ∙ (λ i. reads.last i ++ next.starts.split i) ∙ sym (append_assoc (layouts shape.last) (layout r) next.starts.rest)
    ∙ ap (λ (l : List ℕ). l ++ next.starts.rest) (sym (layouts_push shape.last r)) in
    record {
      well_formed = well_formed_push S records r reads.well_formed next.follows;
      opens = 0;
      is = ap (λ (s : Shape). added s (r ∷ [])) reads.is ∙ sym (next_shape S reads.opens records files r reads.well_formed (subst (λ (s : Shape). IsNext S records files s r) reads.is next));
      named = reads.named;
      older = reads.older;
      last = ap (λ (l : List ℕ). take (length (layouts (shape.last ++ r ∷ []))) l) whole ∙ take_at (layouts (shape.last ++ r ∷ [])) next.starts.rest _ refl;
    }

some_of : {A : Type 0} (o : Option A) → IsSome o → (x : A) × (o ≡ Some x)
some_of None there = absurd (cc)
some_of (Some x) there = (x, refl)

-- a file that ends in a blank is read to its end
pub reads_ended : (S : Geometry) (records : List Entry) (shape : Shape) (files : Files) → ReadsTo S records shape files → segment_start S shape < 2 ^ 63 → ComesNext S (next_segment S shape.older) files (last_name S shape)
    → EndsInBlank S shape.last (last_bytes S shape files) → ReadsTo S records (opened shape) files
reads_ended S records shape files reads low next ended =
    let there = some_of (files (last_name S shape)) next.there in
    record {
      well_formed = reads.well_formed;
      opens = suc reads.opens;
      is = ap opened reads.is;
      named = λ k from within. ⊎_elim
          (λ (last : k ≡ next_segment S shape.older). subst (λ (n : ℕ). (n * S.size < 2 ^ 63) × ComesNext S n files (segment_file S n)) (sym last) (low, next))
          (λ (other : k ≡ next_segment S shape.older → ⊥). reads.named k from (omega (arith, within, other)))
          (cases_eq k (next_segment S shape.older));
      older = ((there.0, there.1, subst (EndsInBlank S shape.last) (ap bytes_in there.1) ended), reads.older);
      last = refl;
    }

-- a file before the last that doesn't end so is damaged where its records end
pub damaged_there : (S : Geometry) (records : List Entry) (shape : Shape) (files : Files) (place : ℕ) (name behind : List ℕ) → ReadsTo S records shape files → segment_start S shape < 2 ^ 63
    → name ≡ last_name S shape → ComesNext S (next_segment S shape.older) files name → ComesNext S (next_segment S shape.older + 1) files behind → place ≡ segment_start S shape + used shape
    → ((r : Entry) → IsNext S records files shape r → ⊥) → (EndsInBlank S shape.last (last_bytes S shape files) → ⊥) → IsDamagedAt S files place name
damaged_there S records shape files place name behind reads low is next after here ends full =
    let one : next_segment S shape.older + 1 ≡ suc (next_segment S shape.older) = omega arith in
    record {
      records = records;
      shape = shape;
      reads = reads;
      next = next;
      here = here;
      fault = inr (record { is = is; low = low; behind = (behind, subst (λ (n : ℕ). ComesNext S n files behind) one after); ends = ends; full = full });
    }

-- a file of another name is damage
pub damaged_name : (S : Geometry) (records : List Entry) (shape : Shape) (files : Files) (n place : ℕ) (name : List ℕ) → ReadsTo S records shape files → used shape ≡ 0 → next_segment S shape.older ≡ n
    → IsOdd S n files name → place ≡ n * S.size → IsDamagedAt S files place name
damaged_name S records shape files n place name reads starts number odd here = record {
  records = records;
  shape = shape;
  reads = reads;
  next = subst (λ (k : ℕ). ComesNext S k files name) (sym number) odd.next;
  here = omega (arith, here, starts, ap (λ (k : ℕ). k * S.size) number);
  fault = inl (record { starts = starts; other = subst (λ (k : ℕ). (name ≢ segment_file S k) ⊎ (2 ^ 63 ≤ k * S.size)) (sym number) odd.other });
}

-- ---- where recovery keeps its records

-- where no record comes next in the last file, its records are kept
pub reads_keep : (S : Geometry) (n : ℕ) (records : List Entry) (shape : Shape) (files : Files) → ReadsTo S records shape files → next_segment S shape.older ≡ n → AreNamed S (n + 1) files → NoFurther S (n + 1) files
    → ((r : Entry) → IsNext S records files shape r → ⊥) → Keeps S records files
reads_keep S n records shape files reads number named all ends =
    let some : 0 < S.size = omega (arith, reads.well_formed.segment.low) in
    let last = named n (omega (arith, next_low S shape.older, number)) (omega arith) in
    let others : (name : List ℕ) → IsLogFile name → ((k : ℕ) → k ≤ next_segment S shape.older → name ≢ segment_file S k) → files name ≡ None =
    λ name in_folder apart. all name in_folder (λ k low. apart k (omega (arith, low, number))) in
    let low : segment_start S shape < 2 ^ 63 = omega (arith, last.0, ap (λ (k : ℕ). k * S.size) number) in
    let wide : suc (next_segment S shape.older) * S.size < 2 ^ 64 = omega (arith, low, reads.well_formed.segment.high) in
    record {
      well_formed = reads.well_formed;
      shape = shape;
      looks = record {
        opens = reads.opens;
        is = reads.is;
        there = λ opens. subst (λ (k : ℕ). IsSome (files (segment_file S k))) (sym number) last.1.there;
        none = next_absent S (next_segment S shape.older) files (record { some = some; low = wide }) others;
        low = low;
        older = reads.older;
        last = reads.last;
      };
      ends = ends;
      others = others;
    }

pub keep_number : (S : Geometry) (n : ℕ) (records : List Entry) (shape : Shape) (files : Files) → (reads : ReadsTo S records shape files) → (number : next_segment S shape.older ≡ n) → (named : AreNamed S (n + 1) files) → (all : NoFurther S (n + 1) files)
    → (ends : (r : Entry) → IsNext S records files shape r → ⊥) → next_segment S (reads_keep S n records shape files reads number named all ends).shape.older ≡ next_segment S shape.older
unfolding reads_keep
keep_number S n records shape files reads number named all ends = refl

-- where there is no file, nothing is kept
pub none_keep : (S : Geometry) (files : Files) → IsGeometry S → NoFurther S (first_segment S) files → Keeps S [] files
none_keep S files segment all =
    let n : ℕ = first_segment S in
    let two : suc n * S.size ≡ n * S.size + S.size = omega arith in
    let named : IsNamed S (suc n) = record { some = omega (arith, segment.low); low = omega (arith, two, segment.begins, segment.within, segment.high) } in
    let none : (j : ℕ) → n ≤ j → j ≤ suc n → files (segment_file S j) ≡ None =
    λ j from within. all (segment_file S j) (is_log_file S j) (λ k low. names_apart S (suc n) j k named within (omega (arith, low)) (λ is. omega (arith, is, low, from))) in
    record {
      well_formed = empty_well_formed S segment;
      shape = empty_shape;
      looks = record {
        opens = 0;
        is = refl;
        there = λ some. absurd (omega (arith, some));
        none = none (suc n) (omega arith) (omega arith);
        low = omega (arith, segment.begins, segment.within);
        older = tt;
        last = refl;
      };
      ends = λ r next. starts_some r (subst (λ (o : Option (List ℕ)). StartsWith (bytes_in o) r) (none n (omega arith) (omega arith)) next.starts);
      others = λ name in_folder apart. all name in_folder (λ k low. apart k (omega (arith, low)));
    }
