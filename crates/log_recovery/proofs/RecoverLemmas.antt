-- What recovery leaves on the disk, from what was read and how the files were settled.
use Rattle.std.proofs.Common.{◌≡◌, ◌≢◌, ◌⊎◌, ⊎_elim, ℕ, suc, ◌+◌, ◌-◌, ◌*◌, ◌/◌, ◌%◌, ◌^◌, ◌<◌, ◌≤◌, max, List, [], ◌∷◌, length, Option, Some, None, IsSome, sym, ◌∙◌, ap, subst, arith}
use Rattle.std.proofs.lemmas.Bool.{cases_lt}
use Rattle.std.proofs.lemmas.List.{length-take}
use Rattle.std.proofs.lemmas.Nat.{mod-mul-add, div-mul-add}
use Rattle.std.proofs.Math.Nat.{mul-lt-mul_of_pos_right, div-mul-le_self}
use Rattle.mq_outside.specs.Files.{Files, bytes_of}
use Rattle.mq_outside.specs.Disk.{DiskState, IsCrashImage, EachImage, Rests}
use Rattle.mq_outside.proofs.Moments.{at_end}
use Rattle.record_codec.specs.Entry.{Entry}
use Rattle.log_model.specs.Bases.{Geometry, first_segment}
use Rattle.log_model.specs.Log.{IsSegmentSize, IsWellFormed, end_of}
use Rattle.log_model.specs.Segments.{Shape, used, shape_of, segment_file, last_bytes, IsLogFile, NoOther, next_segment}
use Rattle.log_model.specs.Store.{AreEnded, Keeps}
use Rattle.log_model.proofs.Places.{next_low, placed_log}
use Rattle.log_model.proofs.FileNames.{IsNamed, names_apart, is_log_file}
use Rattle.log_model.proofs.Longer.{find_name}
use Rattle.log_model.proofs.NameOrder.{Precedes, precede_once, files_precede}
use Rattle.log_model.proofs.Recovery.{times_length, keeps_unique}
use Rattle.log_recovery.specs.Names.{AreNamed, NoFurther}
use Rattle.log_recovery.specs.Recovered.{HasKept, IsCutTo, IsSettled, IsLastFile}
use Rattle.log_recovery.specs.Scan.{ReadLog}
use Rattle.log_recovery.specs.Settle.{CutsTo, IsPruned, IsTrimmed, Settles, IsSettledAt}
use Rattle.log_recovery.proofs.KeptShapes.{kept_reads}

-- ---- where the records end

-- the segment and the offset in it
pub ends_at : (S : Geometry) (records : List Entry) (end : ℕ) → IsWellFormed S records → end ≡ end_of S.base records
    → (end / S.size ≡ next_segment S (shape_of S records).older) × (end % S.size ≡ used (shape_of S records))
ends_at S records end well is =
    let placed = placed_log S records well in
    let shape : Shape = shape_of S records in
    let small : used shape < S.size = omega (arith, placed.room) in (
      ap (λ (n : ℕ). n / S.size) (is ∙ placed.end) ∙ div-mul-add (next_segment S shape.older) S.size (used shape) small,
      ap (λ (n : ℕ). n % S.size) (is ∙ placed.end) ∙ mod-mul-add (next_segment S shape.older) S.size (used shape) small,
    )

-- so many bytes are there
pub ends_within : (S : Geometry) (records : List Entry) (files : Files) → Keeps S records files → used (shape_of S records) ≤ length (bytes_of files (segment_file S (next_segment S (shape_of S records).older)))
ends_within S records files keeps =
    let reads = kept_reads S records files keeps in
    omega (arith, ap length reads.last, length-take (used (shape_of S records)) (last_bytes S (shape_of S records) files))

-- the files that are removed have names
pub top_named : (S : Geometry) (end count : ℕ) → IsSegmentSize S.size → end ≤ 2 ^ 62 → ((k : ℕ) → k < count → k * S.size < 2 ^ 63) → IsNamed S (max (end / S.size + 1) (count - 1))
top_named S end count segment low each = record {
  some = omega (arith, segment.low);
  low = ⊎_elim
      (λ (less : end / S.size + 1 < count - 1).
      let is : max (end / S.size + 1) (count - 1) ≡ count - 1 = omega (arith, less) in
      omega (arith, ap (λ (n : ℕ). n * S.size) is, each (count - 1) (omega (arith, less))))
      (λ (more : count - 1 ≤ end / S.size + 1).
      let is : max (end / S.size + 1) (count - 1) ≡ end / S.size + 1 = omega (arith, more) in
      let whole : end / S.size * S.size ≤ end = div-mul-le_self end S.size in
      let step : (end / S.size + 1) * S.size ≡ end / S.size * S.size + S.size = omega arith in
      omega (arith, ap (λ (n : ℕ). n * S.size) is, whole, step, low, segment.high))
      (cases_lt (end / S.size + 1) (count - 1));
}

none_some : {A : Type 0} (o : Option A) → o ≡ None → IsSome o → ⊥
none_some None is some = absurd (cc)
none_some (Some x) is some = absurd (cc)

-- ---- any files

module _ (S : Geometry) (count n : ℕ) (records : List Entry) (read before files : Files) (named : IsNamed S n) (keeps : Keeps S records read) (low : count ≤ n + 1) (behind : next_segment S (shape_of S records).older < n)
    (front : AreNamed S count read) (all : NoFurther S count read) (last_there : (first_segment S < next_segment S (shape_of S records).older) → next_segment S (shape_of S records).older < count)
    (settled : (name : List ℕ) → IsLogFile name → (before name ≡ read name) ⊎ IsLastFile read name) (trimmed : IsTrimmed S.size (next_segment S (shape_of S records).older) n (used (shape_of S records)) before files)
    (cut : CutsTo (segment_file S (next_segment S (shape_of S records).older)) (used (shape_of S records)) read files) where
  abbrev m : ℕ
  m = next_segment S (shape_of S records).older

  -- a segment before the last stays
  stays : (k : ℕ) → first_segment S ≤ k → k < m → files (segment_file S k) ≡ read (segment_file S k)
  stays k from less =
      let apart : segment_file S k ≢ segment_file S m = names_apart S n k m named (omega (arith, less, behind)) (omega (arith, behind)) (λ is. omega (arith, is, less)) in
      let from_mid : files (segment_file S k) ≡ trimmed.mid (segment_file S k) = trimmed.cut.others (segment_file S k) apart in
      let from_before : trimmed.mid (segment_file S k) ≡ before (segment_file S k) = ⊎_elim
      (λ (same : trimmed.mid (segment_file S k) ≡ before (segment_file S k)). same)
      (λ (gone : (trimmed.mid (segment_file S k) ≡ None) × ((j : ℕ) × (m < j) × (j ≤ n) × (segment_file S k ≡ segment_file S j))).
      absurd (names_apart S n k gone.1.0 named (omega (arith, less, behind)) gone.1.2 (λ is. omega (arith, is, less, gone.1.1)) gone.1.3))
      (trimmed.pruned (segment_file S k)) in
      let there = front m (next_low S (shape_of S records).older) (last_there (omega (arith, from, less))) in
      from_mid ∙ from_before ∙ ⊎_elim
      (λ (same : before (segment_file S k) ≡ read (segment_file S k)). same)
      (λ (last : IsLastFile read (segment_file S k)).
      let after : Precedes (segment_file S m) (segment_file S k) = last.behind (segment_file S m) (is_log_file S m) there.1.there (λ is. apart (sym is)) in
      let ahead : Precedes (segment_file S k) (segment_file S m) = files_precede (k * S.size) (m * S.size) (mul-lt-mul_of_pos_right less named.some) (omega (arith, there.0)) in
      absurd (precede_once (segment_file S k) (segment_file S m) ahead after))
      (settled (segment_file S k) (is_log_file S k))

  -- and nothing stands behind the last
  no_other : NoOther S m files
  no_other name in_folder apart =
      let from_mid : files name ≡ trimmed.mid name = trimmed.cut.others name (apart m (omega arith)) in
      from_mid ∙ ⊎_elim
      (λ (found : (k : ℕ) × (k ≤ n) × (name ≡ segment_file S k)). ⊎_elim
      (λ (past : m < found.0). ap trimmed.mid found.2 ∙ trimmed.gone found.0 past found.1)
      (λ (within : found.0 ≤ m). absurd (apart found.0 within found.2))
      (cases_lt m found.0))
      (λ (none : (k : ℕ) → k ≤ n → name ≢ segment_file S k).
      let absent : read name ≡ None = all name in_folder (λ k less. none k (omega (arith, less, low))) in
      ⊎_elim
      (λ (same : trimmed.mid name ≡ before name). same ∙ ⊎_elim
      (λ (as_read : before name ≡ read name). as_read ∙ absent)
      (λ (last : IsLastFile read name). absurd (none_some (read name) absent last.there))
      (settled name in_folder))
      (λ (gone : (trimmed.mid name ≡ None) × ((j : ℕ) × (m < j) × (j ≤ n) × (name ≡ segment_file S j))). gone.0)
      (trimmed.pruned name))
      (find_name S n name)

  pub exact_image : IsCutTo S records read files
  exact_image = record { older = stays; last = cut.bytes ∙ (kept_reads S records read keeps).last; there = cut.there; others = no_other }

-- ---- from what was read

pub read_within : (S : Geometry) (count end : ℕ) (files again : Files) (before after : List Entry → Type 0) → ReadLog S files before after count end → again ≡ files
    → end % S.size ≤ length (bytes_of again (segment_file S (end / S.size)))
read_within S count end files again before after log same =
    let at = ends_at S log.records end log.keeps.well_formed log.ends in
    subst (λ (j : ℕ). j ≤ length (bytes_of again (segment_file S (end / S.size)))) (sym at.1)
    (subst (λ (j : ℕ). used (shape_of S log.records) ≤ length (bytes_of again (segment_file S j))) (sym at.0)
    (subst (λ (f : Files). used (shape_of S log.records) ≤ length (bytes_of f (segment_file S (next_segment S (shape_of S log.records).older)))) (sym same)
    (ends_within S log.records files log.keeps)))

pub settles_here : (S : Geometry) (end n m len : ℕ) (old new : DiskState) → (end / S.size ≡ m) × (end % S.size ≡ len) → Settles S.size (end / S.size) n (end % S.size) old new → Settles S.size m n len old new
settles_here S end n m len old new at settles = subst (λ (j : ℕ). Settles S.size m n j old new) at.1 (subst (λ (j : ℕ). Settles S.size j n (end % S.size) old new) at.0 settles)

pub settled_here : (S : Geometry) (end n m len : ℕ) (old new : DiskState) → (end / S.size ≡ m) × (end % S.size ≡ len) → EachImage (IsSettledAt S.size (end / S.size) n (end % S.size) old) new → EachImage (IsSettledAt S.size m n len old) new
settled_here S end n m len old new at settled =
    subst (λ (j : ℕ). EachImage (IsSettledAt S.size m n j old) new) at.1 (subst (λ (j : ℕ). EachImage (IsSettledAt S.size j n (end % S.size) old) new) at.0 settled)

-- the file in which the records end is there, but maybe for the first
read_there : (S : Geometry) (count end : ℕ) (files : Files) (before after : List Entry → Type 0) → (log : ReadLog S files before after count end) → first_segment S < next_segment S (shape_of S log.records).older
    → next_segment S (shape_of S log.records).older < count
read_there S count end files before after log some = ⊎_elim
    (λ (none : (count ≡ first_segment S) × (log.records ≡ [])). absurd (omega (arith, some, ap (λ (l : List Entry). next_segment S (shape_of S l).older) none.1)))
    (λ (last : count ≡ suc (next_segment S log.keeps.shape.older)).
    omega (arith, last, ap (λ (s : Shape). next_segment S s.older) log.keeps.looks.is, times_length S log.keeps.looks.opens (shape_of S log.records)))
    log.last

pub exact_each : (S : Geometry) (count end n : ℕ) (before after : List Entry → Type 0) (first old new : DiskState) → (log : ReadLog S first.reads before after count end) → Rests first old → IsNamed S n → count ≤ n + 1
    → next_segment S (shape_of S log.records).older < n → IsSettled first → EachImage (IsSettledAt S.size (next_segment S (shape_of S log.records).older) n (used (shape_of S log.records)) old) new
    → (records : List Entry) → Keeps S records first.reads → EachImage (IsCutTo S records first.reads) new
exact_each S count end n before after first old new log rests named low behind is_settled each records keeps =
    let same : log.records ≡ records = keeps_unique S log.records records first.reads log.keeps keeps in
    subst (λ (l : List Entry). EachImage (IsCutTo S l first.reads) new) same (record {
      at = λ files image.
          let settled = each.at files image in
          let from = settled.trimmed in
          let was : IsCrashImage first from.before = (at_end rests.quiet).at from.before from.image in
          let m : ℕ = next_segment S (shape_of S log.records).older in
          exact_image S count n log.records first.reads from.before files named log.keeps low behind log.named log.all (read_there S count end first.reads before after log)
          (is_settled.at from.before was) from.changed
          (subst (λ (f : Files). CutsTo (segment_file S m) (used (shape_of S log.records)) f files) rests.same settled.last);
    })

-- ---- what is read at the end

pruned_same : (S : Geometry) (m n k : ℕ) (old new : Files) → IsNamed S n → m < n → k < m → IsPruned S.size m n old new → new (segment_file S k) ≡ old (segment_file S k)
pruned_same S m n k old new named behind less pruned = ⊎_elim
    (λ (same : new (segment_file S k) ≡ old (segment_file S k)). same)
    (λ (gone : (new (segment_file S k) ≡ None) × ((j : ℕ) × (m < j) × (j ≤ n) × (segment_file S k ≡ segment_file S j))).
    absurd (names_apart S n k gone.1.0 named (omega (arith, less, behind)) gone.1.2 (λ is. omega (arith, is, less, gone.1.1)) gone.1.3))
    (pruned (segment_file S k))

settled_same : (S : Geometry) (m n len k : ℕ) (old new : DiskState) → IsNamed S n → m < n → k < m → Settles S.size m n len old new → new.reads (segment_file S k) ≡ old.reads (segment_file S k)
settled_same S m n len k old new named behind less settles = ⊎_elim
    (λ (pruned : IsPruned S.size m n old.reads new.reads). pruned_same S m n k old.reads new.reads named behind less pruned)
    (λ (trimmed : IsTrimmed S.size m n len old.reads new.reads).
    let apart : segment_file S k ≢ segment_file S m = names_apart S n k m named (omega (arith, less, behind)) (omega (arith, behind)) (λ is. omega (arith, is, less)) in
    trimmed.cut.others (segment_file S k) apart ∙ pruned_same S m n k old.reads trimmed.mid named behind less trimmed.pruned)
    settles.reads

ended_same : (S : Geometry) (older : List (List Entry)) (old new : Files) → ((k : ℕ) → k < next_segment S older → new (segment_file S k) ≡ old (segment_file S k)) → AreEnded S older old → AreEnded S older new
ended_same S [] old new same ended = tt
ended_same S (records ∷ older) old new same ended =
    ((ended.0.0, same (next_segment S older) (omega arith) ∙ ended.0.1, ended.0.2), ended_same S older old new (λ k less. same k (omega (arith, less))) ended.1)

-- the kept records are read then, and nothing behind them
pub has_kept : (S : Geometry) (count end n : ℕ) (before after : List Entry → Type 0) (first old new : DiskState) → (log : ReadLog S first.reads before after count end) → Rests first old → IsNamed S n
    → next_segment S (shape_of S log.records).older < n → Settles S.size (next_segment S (shape_of S log.records).older) n (used (shape_of S log.records)) old new
    → CutsTo (segment_file S (next_segment S (shape_of S log.records).older)) (used (shape_of S log.records)) old.reads new.reads
    → (records : List Entry) → Keeps S records first.reads → HasKept S records new.reads
has_kept S count end n before after first old new log rests named behind settles cut records keeps =
    let same : log.records ≡ records = keeps_unique S log.records records first.reads log.keeps keeps in
    let m : ℕ = next_segment S (shape_of S log.records).older in
    let reads = kept_reads S log.records first.reads log.keeps in
    let cuts : CutsTo (segment_file S m) (used (shape_of S log.records)) first.reads new.reads = subst (λ (f : Files). CutsTo (segment_file S m) (used (shape_of S log.records)) f new.reads) rests.same cut in
    subst (λ (l : List Entry). HasKept S l new.reads) same (record {
      older = ended_same S (shape_of S log.records).older first.reads new.reads
          (λ k less. settled_same S m n (used (shape_of S log.records)) k old new named behind less settles ∙ ap (λ (f : Files). f (segment_file S k)) rests.same) reads.older;
      last = cuts.bytes ∙ reads.last;
    })
