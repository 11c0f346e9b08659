-- Files that recovery keeps records of are not damaged.
use Rattle.std.proofs.Common.{◌≡◌, ◌≢◌, ⊎_elim, ℕ, zero, suc, ◌+◌, ◌-◌, ◌*◌, ◌^◌, ◌<◌, ◌≤◌, true, false, List, [], ◌∷◌, ◌++◌, take, drop, slice_get, Option, Some, None, IsSome, is_some, refl, sym, ◌∙◌, ap, subst, arith, append_assoc}
use Rattle.std.proofs.lemmas.Bool.{cases_order, cases_lt, cases_eq}
use Rattle.std.proofs.Math.Nat.{mul-le-mul_right, mul-lt-mul_of_pos_right}
use Rattle.mq_outside.specs.Files.{Files, bytes_in}
use Rattle.record_codec.specs.Entry.{Entry}
use Rattle.record_codec.specs.Layout.{size}
use Rattle.log_model.specs.Bases.{Geometry, first_segment}
use Rattle.log_model.specs.Log.{fits, Follows, IsWellFormed}
use Rattle.log_model.specs.Segments.{Shape, opened, used, laid, grown, shape_of, segment_start, end_in, segment_file, last_name, last_bytes, next_segment}
use Rattle.log_model.specs.Store.{StartsWith, EndsInBlank, AreEnded, opened_times, IsNext, Keeps, ComesNext, IsMisnamed, IsBroken, IsDamagedAt}
use Rattle.log_model.proofs.Places.{empty_well_formed, next_low, placed_log, place_here, place_next, shape_of-append}
use Rattle.log_model.proofs.FileNames.{IsNamed, named_low, names_apart, is_log_file}
use Rattle.log_model.proofs.NameOrder.{Precedes, precede_once, files_precede}
use Rattle.log_model.proofs.Longer.{find_name}
use Rattle.log_model.proofs.Recovery.{Reads, KeepsRest, ComesAt, reads_first, rest_first, comes_same, nothing_comes, here_ends, next_stops, rest_more, keeps_rest, well_formed_push, times_closed, opened_inside}

none_some : {A : Type 0} (o : Option A) → o ≡ None → IsSome o → ⊥
none_some None is some = absurd (cc)
none_some (Some x) is some = absurd (cc)

some_there : {A : Type 0} (o : Option A) (x : A) → o ≡ Some x → IsSome o
some_there o x is = ap is_some is

-- a segment before the last has a file
pub ended_there : (S : Geometry) (older : List (List Entry)) (files : Files) (k : ℕ) → first_segment S ≤ k → k < next_segment S older → AreEnded S older files → IsSome (files (segment_file S k))
ended_there S [] files k past low are = absurd (omega (arith, past, low))
ended_there S (records ∷ older) files k past low are = ⊎_elim
    (λ (is : k ≡ next_segment S older). subst (λ (n : ℕ). IsSome (files (segment_file S n))) (sym is) (some_there _ are.0.0 are.0.1))
    (λ (earlier : k ≡ next_segment S older → ⊥). ended_there S older files k past (omega (arith, low, earlier)) are.1)
    (cases_eq k (next_segment S older))

pub times_add : (d b : ℕ) (shape : Shape) → opened_times (d + b) shape ≡ opened_times d (opened_times b shape)
times_add zero b shape = let is : 0 + b ≡ b = omega arith in ap (λ (n : ℕ). opened_times n shape) is
times_add (suc d) b shape = let is : suc d + b ≡ suc (d + b) = omega arith in ap (λ (n : ℕ). opened_times n shape) is ∙ ap opened (times_add d b shape)

-- ---- a file of another name

misnamed_not : (S : Geometry) (files : Files) (records : List Entry) (shape : Shape) (name : List ℕ) → Keeps S records files → ComesNext S (next_segment S shape.older) files name
    → IsMisnamed S shape name → ⊥
misnamed_not S files records shape name keeps next misnamed =
    let n : ℕ = next_segment S keeps.shape.older in
    let m : ℕ = next_segment S shape.older in
    let some : 0 < S.size = omega (arith, keeps.well_formed.segment.low) in
    let named : IsNamed S n = named_low S n some keeps.looks.low in
    let absent : ((k : ℕ) → k ≤ n → name ≢ segment_file S k) → ⊥ = λ apart. none_some (files name) (keeps.others name next.in_folder apart) next.there in
    ⊎_elim
    (λ (past : n < m). absent (λ k low is. next.behind k (omega (arith, low, past)) is))
    (λ (within : m ≤ n). ⊎_elim
    (λ (found : (k : ℕ) × (k ≤ n) × (name ≡ segment_file S k)).
    let k : ℕ = found.0 in
    ⊎_elim
    (λ (same : k ≡ m). ⊎_elim
    (λ (other : name ≢ last_name S shape). other (found.2 ∙ ap (segment_file S) same))
    (λ (far : 2 ^ 63 ≤ segment_start S shape). omega (arith, far, keeps.looks.low, mul-le-mul_right S.size within))
    misnamed.other)
    (λ order. ⊎_elim
    (λ (before : k < m). next.behind k before found.2)
    (λ (behind : m < k).
    let there : IsSome (files (segment_file S m)) = ended_there S keeps.shape.older files m (next_low S shape.older) (omega (arith, behind, found.1)) keeps.looks.older in
    let apart : segment_file S m ≢ name = λ is. names_apart S n m k named within found.1 (λ e. omega (arith, e, behind)) (is ∙ found.2) in
    let first : Precedes name (segment_file S m) = next.first (segment_file S m) (is_log_file S m) there
    (λ j low is. names_apart S n m j named within (omega (arith, low, within)) (λ e. omega (arith, e, low)) is) apart in
    precede_once (segment_file S m) name
    (subst (Precedes (segment_file S m)) (sym found.2) (files_precede (m * S.size) (k * S.size) (mul-lt-mul_of_pos_right behind some) (omega (arith, keeps.looks.low, mul-le-mul_right S.size found.1))))
    first)
    order)
    (cases_order k m))
    absent
    (find_name S n name))
    (cases_lt n m)

-- ---- a file that is broken

-- what is read behind these records up to a broken file
pub record BrokenRest (S : Geometry) (done rest : List Entry) (files : Files) : Type 0 where
  pub opens : ℕ
  pub reads : Reads S (opened_times opens (laid S (shape_of S done) rest)) files
  pub each : (k : ℕ) (r : Entry) → slice_get rest k ≡ Some r → Follows S (done ++ take k rest) r
  pub there : IsSome (files (last_name S (opened_times opens (laid S (shape_of S done) rest))))
  pub behind : (other : List ℕ) × ComesNext S (suc (next_segment S (opened_times opens (laid S (shape_of S done) rest)).older)) files other
  pub ends : (r : Entry) → IsNext S (done ++ rest) files (opened_times opens (laid S (shape_of S done) rest)) r → ⊥
  pub full : EndsInBlank S (opened_times opens (laid S (shape_of S done) rest)).last (last_bytes S (opened_times opens (laid S (shape_of S done) rest)) files) → ⊥

pub broken_more : (S : Geometry) (done : List Entry) (r : Entry) (rest : List Entry) (files : Files) → BrokenRest S done (r ∷ rest) files → BrokenRest S (done ++ r ∷ []) rest files
broken_more S done r rest files broken =
    let is : shape_of S (done ++ r ∷ []) ≡ grown S (shape_of S done) r = shape_of-append S done (r ∷ []) in
    record {
      opens = broken.opens;
      reads = subst (λ (s : Shape). Reads S (opened_times broken.opens (laid S s rest)) files) (sym is) broken.reads;
      each = λ k s got. subst (λ (l : List Entry). Follows S l s) (sym (append_assoc done (r ∷ []) (take k rest))) (broken.each (suc k) s got);
      there = subst (λ (s : Shape). IsSome (files (last_name S (opened_times broken.opens (laid S s rest))))) (sym is) broken.there;
      behind = subst (λ (s : Shape). (other : List ℕ) × ComesNext S (suc (next_segment S (opened_times broken.opens (laid S s rest)).older)) files other) (sym is) broken.behind;
      ends = subst (λ (s : Shape). (other : Entry) → IsNext S ((done ++ r ∷ []) ++ rest) files (opened_times broken.opens (laid S s rest)) other → ⊥) (sym is)
          (subst (λ (l : List Entry). (other : Entry) → IsNext S l files (opened_times broken.opens (laid S (grown S (shape_of S done) r) rest)) other → ⊥)
          (sym (append_assoc done (r ∷ []) rest)) broken.ends);
      full = subst (λ (s : Shape). EndsInBlank S (opened_times broken.opens (laid S s rest)).last (last_bytes S (opened_times broken.opens (laid S s rest)) files) → ⊥) (sym is) broken.full;
    }

pub broken_more-opens : (S : Geometry) (done : List Entry) (r : Entry) (rest : List Entry) (files : Files) (broken : BrokenRest S done (r ∷ rest) files)
    → (broken_more S done r rest files broken).opens ≡ broken.opens
unfolding broken_more
broken_more-opens S done r rest files broken = refl

-- the last of these segments ends in a blank, where another stands behind it
pub ended_last : (S : Geometry) (shape : Shape) (files : Files) → AreEnded S (shape.last ∷ shape.older) files → EndsInBlank S shape.last (last_bytes S shape files)
ended_last S shape files are = subst (EndsInBlank S shape.last) (sym (ap bytes_in are.0.1)) are.0.2

-- the next record stands in a further file, and this one is broken
next_broken : (S : Geometry) (done : List Entry) (files : Files) (r : Entry) (opens : ℕ) → Reads S (opened_times opens (shape_of S done)) files
    → ((other : Entry) → IsNext S (done ++ []) files (opened_times opens (shape_of S done)) other → ⊥)
    → (EndsInBlank S (opened_times opens (shape_of S done)).last (last_bytes S (opened_times opens (shape_of S done)) files) → ⊥)
    → AreEnded S ((shape_of S done).last ∷ (shape_of S done).older) files → Follows S done r
    → StartsWith (last_bytes S (opened (shape_of S done)) files) r → r.offset ≡ end_in S (opened (shape_of S done)) → ⊥
next_broken S done files r zero reads ends full are follows starts place = full (ended_last S (shape_of S done) files are)
next_broken S done files r (suc opens) reads ends full are follows starts place = next_stops S done files r opens reads ends follows starts place

-- the file behind the last has bytes, where one was opened
next_there : (S : Geometry) (files : Files) (d : ℕ) (shape : Shape) → Reads S (opened_times (suc d) shape) files → IsSome (files (last_name S (opened_times (suc d) shape)))
    → IsSome (files (segment_file S (suc (next_segment S shape.older))))
next_there S files zero shape reads there = there
next_there S files (suc d) shape reads there =
    let are = times_closed S d (opened shape) files (subst (λ (s : Shape). Reads S s files) (opened_inside (suc d) shape) reads) in
    some_there _ are.0.0 are.0.1

-- no record comes at a broken file
pub broken_stops : (S : Geometry) (done : List Entry) (files : Files) (r : Entry) → IsWellFormed S done → BrokenRest S done [] files → ComesAt S done files r → ⊥
broken_stops S done files r well broken comes =
    let shape : Shape = shape_of S done in
    let placed = placed_log S done well in
    ⊎_elim
    (λ (here : (fits S.size (used shape) (size r) ≡ true) × StartsWith (drop (used shape) (last_bytes S shape files)) r).
    here_ends S done files r broken.opens broken.reads broken.ends comes.follows here.1 (place_here S done shape r placed comes.follows here.0))
    (λ (next : (fits S.size (used shape) (size r) ≡ false) × AreEnded S (shape.last ∷ shape.older) files × StartsWith (last_bytes S (opened shape) files) r).
    next_broken S done files r broken.opens broken.reads broken.ends broken.full next.1 comes.follows next.2 (place_next S done shape r placed comes.follows next.0))
    comes.stands

-- where the records end, the files can't both end and be broken
broken_ends : (S : Geometry) (done : List Entry) (files : Files) → KeepsRest S done [] files → BrokenRest S done [] files → ⊥
broken_ends S done files keeps broken =
    let shape : Shape = shape_of S done in
    ⊎_elim
    (λ (same : keeps.opens ≡ broken.opens).
    let behind = subst (λ (o : ℕ). ComesNext S (suc (next_segment S (opened_times o shape).older)) files broken.behind.0) (sym same) broken.behind.1 in
    none_some (files broken.behind.0) (keeps.others broken.behind.0 behind.in_folder (λ k low is. behind.behind k (omega (arith, low)) is)) behind.there)
    (λ order. ⊎_elim
    (λ (less : keeps.opens < broken.opens).
    let d : ℕ = broken.opens - keeps.opens - 1 in
    let is : broken.opens ≡ suc d + keeps.opens = omega (arith, less) in
    let shape_is : opened_times broken.opens shape ≡ opened_times (suc d) (opened_times keeps.opens shape) = ap (λ (n : ℕ). opened_times n shape) is ∙ times_add (suc d) keeps.opens shape in
    none_some (files (segment_file S (suc (next_segment S (opened_times keeps.opens shape).older)))) keeps.none
    (next_there S files d (opened_times keeps.opens shape) (subst (λ (s : Shape). Reads S s files) shape_is broken.reads)
    (subst (λ (s : Shape). IsSome (files (last_name S s))) shape_is broken.there)))
    (λ (more : broken.opens < keeps.opens).
    let d : ℕ = keeps.opens - broken.opens - 1 in
    let is : keeps.opens ≡ suc d + broken.opens = omega (arith, more) in
    let shape_is : opened_times keeps.opens shape ≡ opened_times (suc d) (opened_times broken.opens shape) = ap (λ (n : ℕ). opened_times n shape) is ∙ times_add (suc d) broken.opens shape in
    broken.full (ended_last S (opened_times broken.opens shape) files (times_closed S d (opened_times broken.opens shape) files (subst (λ (s : Shape). Reads S s files) shape_is keeps.reads))))
    order)
    (cases_order keeps.opens broken.opens)

broken_not : (S : Geometry) (files : Files) (kept read done : List Entry) → IsWellFormed S done → KeepsRest S done kept files → BrokenRest S done read files → ⊥
broken_not S files [] [] done well keeps broken = broken_ends S done files keeps broken
broken_not S files [] (b ∷ read) done well keeps broken = nothing_comes S done files b well keeps (reads_first S done b read files broken.opens broken.reads broken.each)
broken_not S files (a ∷ kept) [] done well keeps broken = broken_stops S done files a well broken (rest_first S done a kept files keeps)
broken_not S files (a ∷ kept) (b ∷ read) done well keeps broken =
    let comes = rest_first S done a kept files keeps in
    let same : a ≡ b = comes_same S done files a b comes (reads_first S done b read files broken.opens broken.reads broken.each) in
    broken_not S files kept read (done ++ a ∷ []) (well_formed_push S done a well comes.follows) (rest_more S done a kept files keeps)
    (subst (λ (r : Entry). BrokenRest S (done ++ r ∷ []) read files) (sym same) (broken_more S done b read files broken))

-- files that recovery keeps records of are not damaged
pub kept_undamaged : (S : Geometry) (records : List Entry) (files : Files) (place : ℕ) (name : List ℕ) → Keeps S records files → IsDamagedAt S files place name → ⊥
kept_undamaged S records files place name keeps damaged = ⊎_elim
    (λ (misnamed : IsMisnamed S damaged.shape name). misnamed_not S files records damaged.shape name keeps damaged.next misnamed)
    (λ (broken : IsBroken S damaged.records damaged.shape files name).
    let is = damaged.reads.is in
    broken_not S files records damaged.records [] (empty_well_formed S keeps.well_formed.segment) (keeps_rest S records files keeps)
    (record {
      opens = damaged.reads.opens;
      reads = subst (λ (s : Shape). Reads S s files) is (record { older = damaged.reads.older; last = damaged.reads.last });
      each = damaged.reads.well_formed.each;
      there = subst (λ (s : Shape). IsSome (files (last_name S s))) is (subst (λ (l : List ℕ). IsSome (files l)) broken.is damaged.next.there);
      behind = subst (λ (s : Shape). (other : List ℕ) × ComesNext S (suc (next_segment S s.older)) files other) is broken.behind;
      ends = subst (λ (s : Shape). (r : Entry) → IsNext S damaged.records files s r → ⊥) is broken.ends;
      full = subst (λ (s : Shape). EndsInBlank S s.last (last_bytes S s files) → ⊥) is broken.full;
    }))
    damaged.fault
