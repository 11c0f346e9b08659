-- The segment files of a log: that there are some, and how long they are.
use Rattle.std.proofs.Common.{◌≡◌, ◌≢◌, ⊎_elim, ℕ, suc, ◌*◌, ◌/◌, ◌%◌, ◌^◌, ◌<◌, ◌≤◌, cond, true, false, bytes_eq, List, [], ◌∷◌, length, Option, Some, None, IsSome, is_some, refl, sym, ◌∙◌, ap, arith}
use Rattle.std.proofs.lemmas.Bool.{cond-true, cond-false, cases_eq, cases_lt, false_from_ne_true}
use Rattle.std.proofs.lemmas.Slice.Eq.{bytes_eq-Decides}
use Rattle.mq_outside.specs.Files.{Files, bytes_in, bytes_of}
use Rattle.record_codec.specs.Entry.{Entry}
use Rattle.log_model.specs.Bases.{Geometry, first_segment}
use Rattle.log_model.specs.Log.{end_of, IsWellFormed}
use Rattle.log_model.specs.Segments.{layouts, Shape, shape_of, segment_file, last_name, closed, AreClosed, AreFilesOf, AreSegmentFiles, next_segment}
use Rattle.log_model.proofs.Places.{AreRoomy, placed_log, placed_number, placed_offset}
use Rattle.log_model.proofs.FileNames.{IsNamed, names_apart, named_less, shape_named, is_log_file}
use Rattle.log_model.proofs.Steps.{closed_stay}
use Rattle.log_model.proofs.Fronts.{closed_ends}

-- ---- the files of a log

-- these files, and this one
abbrev with_file : List ℕ → List ℕ → Files → Files
with_file name bytes files = λ other. cond (bytes_eq other name) (Some bytes) (files other)

-- it is there
file_here : (name bytes : List ℕ) (files : Files) → with_file name bytes files name ≡ Some bytes
file_here name bytes files = cond-true _ (Some bytes) (files name) ((bytes_eq-Decides name name).1 refl)

-- and the others are as they were
file_other : (name bytes : List ℕ) (files : Files) (other : List ℕ) → other ≢ name → with_file name bytes files other ≡ files other
file_other name bytes files other differs = cond-false _ (Some bytes) (files other) (false_from_ne_true _ (λ same. differs ((bytes_eq-Decides other name).0 same)))

-- the files of the segments before the last
abbrev closed_files : Geometry → List (List Entry) → Files
closed_files S [] = λ name. None
closed_files S (records ∷ older) = with_file (segment_file S (next_segment S older)) (closed S records) (closed_files S older)

-- they stand whole
closed_are : (S : Geometry) (older : List (List Entry)) → IsNamed S (next_segment S older) → AreClosed S older (closed_files S older)
closed_are S [] named = tt
closed_are S (records ∷ older) named =
    let less : IsNamed S (next_segment S older) = named_less S _ _ (omega arith) named in
    let name = segment_file S (next_segment S older) in (
      file_here name (closed S records) (closed_files S older),
      closed_stay S (next_segment S older) older (closed_files S older) (closed_files S (records ∷ older)) less (omega arith)
          (file_other name (closed S records) (closed_files S older)) (closed_are S older less),
    )

-- and there is no other
closed_none : (S : Geometry) (older : List (List Entry)) (name : List ℕ) → ((k : ℕ) → k < next_segment S older → name ≢ segment_file S k) → closed_files S older name ≡ None
closed_none S [] name apart = refl
closed_none S (records ∷ older) name apart =
    file_other (segment_file S (next_segment S older)) (closed S records) (closed_files S older) name (apart (next_segment S older) (omega arith))
    ∙ closed_none S older name (λ k low. apart k (omega (arith, low)))

-- the files of any segments
files_of : (S : Geometry) (shape : Shape) → IsNamed S (next_segment S shape.older) → (files : Files) × AreFilesOf S shape files
files_of S shape named =
    let before : Files = closed_files S shape.older in
    let files : Files = with_file (last_name S shape) (layouts shape.last) before in (
      files,
      record {
        older = closed_stay S (next_segment S shape.older) shape.older before files named (omega arith) (file_other (last_name S shape) (layouts shape.last) before) (closed_are S shape.older named);
        last = ap bytes_in (file_here (last_name S shape) (layouts shape.last) before);
        others = λ name in_folder apart. file_other (last_name S shape) (layouts shape.last) before name (apart (next_segment S shape.older) (omega arith))
            ∙ closed_none S shape.older name (λ k low. apart k (omega (arith, low)));
      },
    )

-- each log has files
pub log_files : (S : Geometry) (log : List Entry) → IsWellFormed S log → (files : Files) × AreSegmentFiles S log files
log_files S log well = files_of S (shape_of S log) (named_less S _ _ (omega arith) (shape_named S log well))

-- ---- their lengths

-- the last file ends where the log does
pub last_ends : (S : Geometry) (log : List Entry) (files : Files) → IsWellFormed S log → AreSegmentFiles S log files → length (bytes_of files (segment_file S (end_of S.base log / S.size))) ≡ end_of S.base log % S.size
last_ends S log files well are =
    let placed = placed_log S log well in
    ap (λ (k : ℕ). length (bytes_of files (segment_file S k))) (placed_number S log (shape_of S log) placed) ∙ ap length are.last ∙ sym (placed_offset S log (shape_of S log) placed)

-- a segment before the last is full
closed_full : (S : Geometry) (k : ℕ) (older : List (List Entry)) (files : Files) → first_segment S ≤ k → k < next_segment S older → AreRoomy S older → AreClosed S older files → length (bytes_of files (segment_file S k)) ≡ S.size
closed_full S k [] files past low roomy are = absurd (omega (arith, past, low))
closed_full S k (records ∷ older) files past low roomy are = ⊎_elim
    (λ (is : k ≡ next_segment S older). ap (λ (n : ℕ). length (bytes_of files (segment_file S n))) is ∙ ap (λ (o : Option (List ℕ)). length (bytes_in o)) are.0 ∙ (closed_ends S records roomy.0).long)
    (λ (earlier : k ≡ next_segment S older → ⊥). closed_full S k older files past (omega (arith, low, earlier)) roomy.1 are.1)
    (cases_eq k (next_segment S older))

-- each file before it is full
pub before_full : (S : Geometry) (log : List Entry) (files : Files) (k : ℕ) → IsWellFormed S log → AreSegmentFiles S log files → first_segment S ≤ k → k < end_of S.base log / S.size
    → length (bytes_of files (segment_file S k)) ≡ S.size
before_full S log files k well are past low =
    let placed = placed_log S log well in
    closed_full S k (shape_of S log).older files past (omega (arith, low, placed_number S log (shape_of S log) placed)) placed.roomy are.older

-- and so is each file behind which another stands
pub behind_full : (S : Geometry) (log : List Entry) (files : Files) (k : ℕ) → IsWellFormed S log → AreSegmentFiles S log files → first_segment S ≤ k → suc k * S.size < 2 ^ 64
    → IsSome (files (segment_file S (suc k))) → length (bytes_of files (segment_file S k)) ≡ S.size
behind_full S log files k well are from low some =
    let placed = placed_log S log well in
    let n : ℕ = next_segment S (shape_of S log).older in
    let named : IsNamed S (suc k) = record { some = omega (arith, well.segment.low); low = low } in
    ⊎_elim
    (λ (before : k < n). closed_full S k (shape_of S log).older files from before placed.roomy are.older)
    (λ (past : n ≤ k).
    let none : files (segment_file S (suc k)) ≡ None =
    are.others (segment_file S (suc k)) (is_log_file S (suc k)) (λ j within. names_apart S (suc k) (suc k) j named (omega arith) (omega (arith, within, past)) (λ is. omega (arith, is, within, past))) in
    let full : true ≡ false = sym some ∙ ap is_some none in absurd (cc))
    (cases_lt k n)
