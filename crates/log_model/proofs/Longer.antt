-- A longer log: its files begin with those of the shorter one, and a disk that stores the shorter one stores it too.
use Rattle.std.proofs.Common.{◌≡◌, ◌≢◌, ◌⊎◌, inl, inr, ⊎_elim, ℕ, zero, suc, ◌/◌, ◌<◌, ◌≤◌, true, false, bytes_eq, List, [], ◌∷◌, ◌++◌, length, take, Option, None, refl, sym, ◌∙◌, ap, subst, arith, length-append}
use Rattle.std.proofs.lemmas.Bool.{cases_Bool, cases_eq, cases_lt}
use Rattle.std.proofs.lemmas.List.{take_all, take-append-le}
use Rattle.std.proofs.lemmas.Slice.Eq.{bytes_eq-Decides}
use Rattle.mq_outside.specs.Files.{Files, bytes_in, bytes_of}
use Rattle.mq_outside.specs.Disk.{DiskState, IsCrashImage, IsDurable}
use Rattle.record_codec.specs.Entry.{Entry}
use Rattle.record_codec.specs.Layout.{size}
use Rattle.log_model.specs.Bases.{Geometry, first_segment}
use Rattle.log_model.specs.Log.{fits, end_of, IsWellFormed}
use Rattle.log_model.specs.Segments.{Shape, opened, used, grown, laid, shape_of, segment_file, last_bytes, AreClosed, Counts, AreSegmentFiles, next_segment}
use Rattle.log_model.specs.Store.{StoresAt, StoresLog, IsLaid}
use Rattle.log_model.proofs.Places.{placed_log, placed_number, well_formed_take, grown_here, grown_next, shape_of-append}
use Rattle.log_model.proofs.Fronts.{closed_ended}
use Rattle.log_model.proofs.Recovery.{Reads, laid_reads}

-- ---- the files of a longer log

grown_closed : (S : Geometry) (shape : Shape) (r : Entry) (files : Files) → AreClosed S (grown S shape r).older files → AreClosed S shape.older files
grown_closed S shape r files are = ⊎_elim
    (λ (here : fits S.size (used shape) (size r) ≡ true). subst (λ (s : Shape). AreClosed S s.older files) (grown_here S shape r here) are)
    (λ (full : fits S.size (used shape) (size r) ≡ false). (subst (λ (s : Shape). AreClosed S s.older files) (grown_next S shape r full) are).1)
    (cases_Bool (fits S.size (used shape) (size r)))

laid_closed : (S : Geometry) (shape : Shape) (records : List Entry) (files : Files) → AreClosed S (laid S shape records).older files → AreClosed S shape.older files
laid_closed S shape [] files are = are
laid_closed S shape (r ∷ records) files are = grown_closed S shape r files (laid_closed S (grown S shape r) records files are)

pub closed_same : (S : Geometry) (k : ℕ) (older : List (List Entry)) (some other : Files) → first_segment S ≤ k → k < next_segment S older → AreClosed S older some → AreClosed S older other
    → some (segment_file S k) ≡ other (segment_file S k)
closed_same S k [] some other past low are too = absurd (omega (arith, past, low))
closed_same S k (records ∷ older) some other past low are too = ⊎_elim
    (λ (is : k ≡ next_segment S older). ap (λ (n : ℕ). some (segment_file S n)) is ∙ are.0 ∙ sym too.0 ∙ ap (λ (n : ℕ). other (segment_file S n)) (sym is))
    (λ (earlier : k ≡ next_segment S older → ⊥). closed_same S k older some other past (omega (arith, low, earlier)) are.1 too.1)
    (cases_eq k (next_segment S older))

-- a name is that of one of the first segments, or of none
pub find_name : (S : Geometry) (n : ℕ) (name : List ℕ) → ((k : ℕ) × (k ≤ n) × (name ≡ segment_file S k)) ⊎ ((k : ℕ) → k ≤ n → name ≢ segment_file S k)
find_name S zero name = ⊎_elim
    (λ (same : bytes_eq name (segment_file S 0) ≡ true). inl (0, omega arith, (bytes_eq-Decides _ _).0 same))
    (λ (apart : bytes_eq name (segment_file S 0) ≡ false). inr (λ k low is.
    let zero_is : k ≡ 0 = omega (arith, low) in
    let full : false ≡ true = sym apart ∙ (bytes_eq-Decides _ _).1 (is ∙ ap (segment_file S) zero_is) in absurd (cc)))
    (cases_Bool (bytes_eq name (segment_file S 0)))
find_name S (suc n) name = ⊎_elim
    (λ (same : bytes_eq name (segment_file S (suc n)) ≡ true). inl (suc n, omega arith, (bytes_eq-Decides _ _).0 same))
    (λ (apart : bytes_eq name (segment_file S (suc n)) ≡ false). ⊎_elim
    (λ (found : (k : ℕ) × (k ≤ n) × (name ≡ segment_file S k)). inl (found.0, omega (arith, found.1), found.2))
    (λ (none : (k : ℕ) → k ≤ n → name ≢ segment_file S k). inr (λ k low is. ⊎_elim
    (λ (last : k ≡ suc n). let full : false ≡ true = sym apart ∙ (bytes_eq-Decides _ _).1 (is ∙ ap (segment_file S) last) in absurd (cc))
    (λ (earlier : k ≡ suc n → ⊥). none k (omega (arith, low, earlier)) is)
    (cases_eq k (suc n))))
    (find_name S n name))
    (cases_Bool (bytes_eq name (segment_file S (suc n))))

-- the bytes of one file begin the other
abbrev pub Begins : List ℕ → List ℕ → Type 0
Begins front bytes = take (length front) bytes ≡ front

-- each file of a log begins that file of each longer one
pub files_begin : (S : Geometry) (log more : List Entry) (files longer : Files) (name : List ℕ) → IsWellFormed S (log ++ more) → AreSegmentFiles S log files
    → AreSegmentFiles S (log ++ more) longer → Counts S name → Begins (bytes_of files name) (bytes_of longer name)
files_begin S log more files longer name well short long counts =
    let shape : Shape = shape_of S log in
    let rule : shape_of S (log ++ more) ≡ laid S shape more = shape_of-append S log more in
    let older : AreClosed S shape.older longer = laid_closed S shape more longer (subst (λ (s : Shape). AreClosed S s.older longer) rule long.older) in
    let placed = placed_log S (log ++ more) well in
    let all : Reads S (shape_of S (log ++ more)) longer = record {
      older = closed_ended S (shape_of S (log ++ more)).older longer placed.roomy long.older;
      last = ap (λ (l : List ℕ). take (used (shape_of S (log ++ more))) l) long.last ∙ take_all _ _ (omega arith);
    } in
    let reads : Reads S shape longer = laid_reads S shape more longer (subst (λ (s : Shape). Reads S s longer) rule all) in
    ⊎_elim
    (λ (found : (k : ℕ) × (k ≤ next_segment S shape.older) × (name ≡ segment_file S k)). subst (λ (n : List ℕ). Begins (bytes_of files n) (bytes_of longer n)) (sym found.2) (⊎_elim
    (λ (is : found.0 ≡ next_segment S shape.older). subst (λ (k : ℕ). Begins (bytes_of files (segment_file S k)) (bytes_of longer (segment_file S k))) (sym is)
    (subst (λ (l : List ℕ). Begins l (last_bytes S shape longer)) (sym short.last) reads.last))
    (λ (earlier : found.0 ≡ next_segment S shape.older → ⊥).
    let past : first_segment S ≤ found.0 = ⊎_elim
    (λ (less : found.0 < first_segment S). absurd (counts.kept found.0 less found.2))
    (λ (more : first_segment S ≤ found.0). more)
    (cases_lt found.0 (first_segment S)) in
    let same = closed_same S found.0 shape.older files longer past (omega (arith, found.1, earlier)) short.older older in
    ap (λ (o : Option (List ℕ)). take (length (bytes_of files (segment_file S found.0))) (bytes_in o)) (sym same) ∙ take_all _ _ (omega arith))
    (cases_eq found.0 (next_segment S shape.older))))
    (λ (none : (k : ℕ) → k ≤ next_segment S shape.older → name ≢ segment_file S k).
    let absent : files name ≡ None = short.others name counts.in_folder none in
    subst (λ (o : Option (List ℕ)). Begins (bytes_in o) (bytes_of longer name)) (sym absent) refl)
    (find_name S (next_segment S shape.older) name)

-- ---- a disk that stores a log stores each longer one

pub stores_longer : (S : Geometry) (log more : List Entry) (flushed : ℕ) (shape : Shape) (reach : ℕ) (disk : DiskState) → IsWellFormed S (log ++ more)
    → StoresAt S log flushed shape reach disk → StoresAt S (log ++ more) flushed shape reach disk
stores_longer S log more flushed shape reach disk well stores = record {
  well_formed = well;
  within = omega (arith, stores.within, length-append log more);
  laid = subst (λ (l : List Entry). IsLaid S l shape) (sym (take-append-le flushed log more stores.within)) stores.laid;
  each = stores.each;
}

-- each crash image has the files before the one where the flushed records end as they are read
pub stores_durable : (S : Geometry) (log : List Entry) (flushed k : ℕ) (disk : DiskState) → IsCrashImage disk disk.reads → StoresLog S log flushed disk
    → first_segment S ≤ k → k < end_of S.base (take flushed log) / S.size → IsDurable (segment_file S k) disk
stores_durable S log flushed k disk reads stores past low files image =
    let at = stores.at in
    let placed = placed_log S (take flushed log) (well_formed_take S flushed log at.well_formed) in
    let number = placed_number S (take flushed log) (shape_of S (take flushed log)) placed in
    let within : k < next_segment S stores.shape.older = ⊎_elim
    (λ (here : stores.shape ≡ shape_of S (take flushed log)). omega (arith, low, number, ap (λ (s : Shape). next_segment S s.older) here))
    (λ (next : stores.shape ≡ opened (shape_of S (take flushed log))). omega (arith, low, number, ap (λ (s : Shape). next_segment S s.older) next))
    at.laid in
    closed_same S k stores.shape.older files disk.reads past within (at.each.at files image).older (at.each.at disk.reads reads).older
