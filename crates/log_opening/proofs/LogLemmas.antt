-- Where the records of a log stand in its files, and that pieces of these cover them.
use Rattle.std.proofs.Common.{◌≡◌, ⊎_elim, ap, sym, ◌∙◌, subst, arith, ℕ, zero, suc, ◌+◌, ◌-◌, ◌*◌, ◌/◌, ◌%◌, ◌<◌, ◌≤◌, true, false, List, [], ◌∷◌, ◌++◌, length, take, drop, slice_get, Option, Some, append_assoc}
use Rattle.std.proofs.lemmas.Bool.{leb-true, cases_Bool, cond-true, cond-false}
use Rattle.std.proofs.lemmas.List.{take_all}
use Rattle.std.proofs.lemmas.Option.{same_Some}
use Rattle.std.proofs.Math.Nat.{mul-mod_left, div-add-mod, eq-or-lt_of_le}
use Rattle.mq_outside.specs.Covers.{HasRange, HoldsRange}
use Rattle.mq_outside.specs.Disk.{DiskState, IsCrashImage}
use Rattle.mq_outside.specs.Files.{Files, bytes_in, bytes_of}
use Rattle.mq_outside.specs.declared.frozen_ranges.FrozenRanges.{FrozenRanges}
use Rattle.record_codec.specs.Entry.{Entry}
use Rattle.record_codec.specs.Layout.{size, layout}
use Rattle.record_codec.proofs.LayoutLengths.{length-layout}
use Rattle.log_model.specs.Bases.{Geometry, whole, no_base, first_segment}
use Rattle.log_model.specs.Log.{end_of, fits, Follows, IsWellFormed}
use Rattle.log_model.specs.Numbered.{IsLawful, count_of}
use Rattle.log_model.specs.Segments.{Shape, used, laid, shape_of, segment_file, last_bytes, next_segment}
use Rattle.log_model.specs.Store.{AreEnded, StandsAtPlace, StoresAt}
use Rattle.log_model.proofs.Fronts.{starts_layout, closed_ended}
use Rattle.log_model.proofs.Lists.{get_within}
use Rattle.log_model.proofs.Places.{empty_well_formed, first_whole, placed_log, placed_number, placed_offset, shape_of-append}
use Rattle.log_model.proofs.Recovery.{Reads, reads_first, comes_stands, well_formed_push}
use Rattle.log_recovery.specs.Recovered.{HasKept}
use Rattle.pending_log.proofs.LogLemmas.{ends_with, places_rise}
use Rattle.core_log.specs.Loads.{whole_log}
use Rattle.core_log.specs.Represents.{AreCovered}
use Rattle.log_opening.specs.Freezes.{HasUpTo, ArePieces}

-- ---- in the log

-- a record lies within its segment
record_inside : (S : ℕ) (records : List Entry) (k : ℕ) (r : Entry) → IsLawful S (whole_log records) → slice_get records k ≡ Some r → r.offset % S + size r ≤ S
record_inside S records k r lawful got =
    let follows = lawful.each k r got in
    let end : ℕ = end_of no_base (take k records) in
    ⊎_elim
    (λ (here : fits S (end % S) (size r) ≡ true).
    let is : r.offset ≡ end = follows.place ∙ cond-true _ end ((end / S + 1) * S) here in
    omega (arith, ap (λ (n : ℕ). n % S) is, leb-true _ _ here))
    (λ (full : fits S (end % S) (size r) ≡ false).
    let is : r.offset ≡ (end / S + 1) * S = follows.place ∙ cond-false _ end ((end / S + 1) * S) full in
    omega (arith, ap (λ (n : ℕ). n % S) is, mul-mod_left (end / S + 1) S, follows.room))
    (cases_Bool (fits S (end % S) (size r)))

-- what stands in a list stands before its end
got_below : {A : Type 0} (xs : List A) (k : ℕ) (x : A) → slice_get xs k ≡ Some x → k < length xs
got_below [] k x got = absurd (cc)
got_below (y ∷ xs) zero x got = omega arith
got_below (y ∷ xs) (suc k) x got = let rest = got_below xs k x got in omega (arith, rest)

-- and ends where the log does, or before
record_ends : (S : Geometry) (records : List Entry) (k : ℕ) (r : Entry) → IsWellFormed S records → slice_get records k ≡ Some r → r.offset + size r ≤ end_of S.base records
record_ends S records k r well got =
    let n : ℕ = length records - 1 in
    let low : k < length records = got_below records k r got in
    let last = get_within records n (let within : n < length records = omega (arith, low) in within) in
    let ends : end_of S.base (take (suc n) records) ≡ last.0.offset + size last.0 = ends_with S.base records n last.0 last.1 in
    let all : take (suc n) records ≡ records = take_all (suc n) records (omega (arith, low)) in
    let end_is : end_of S.base records ≡ last.0.offset + size last.0 = ap (end_of S.base) (sym all) ∙ ends in
    ⊎_elim
    (λ (same : k ≡ n).
    let is : r ≡ last.0 = same_Some r last.0 (sym got ∙ (ap (slice_get records) same ∙ last.1)) in
    omega (arith, end_is, ap (λ (e : Entry). e.offset + size e) is))
    (λ (early : k < n).
    let rise = places_rise S records well k n r last.0 early got last.1 in
    omega (arith, end_is, rise))
    (eq-or-lt_of_le (let within : k ≤ n = omega (arith, low) in within))

-- its segment and its offset there
place_split : (S place : ℕ) → place / S * S + place % S ≡ place
place_split S place = let whole = div-add-mod place S in omega (arith, whole)

-- ---- in the files

reads_stand : (S : Geometry) (files : Files) (k : ℕ) (rest done : List Entry) (r : Entry) → IsWellFormed S done → Reads S (laid S (shape_of S done) rest) files
    → ((j : ℕ) (s : Entry) → slice_get rest j ≡ Some s → Follows S (done ++ take j rest) s) → slice_get rest k ≡ Some r → StandsAtPlace S files r
reads_stand S files k [] done r well reads each got = absurd (cc)
reads_stand S files zero (x ∷ rest) done r well reads each got =
    subst (StandsAtPlace S files) (same_Some x r got) (comes_stands S done files x well (reads_first S done x rest files zero reads each))
reads_stand S files (suc k) (x ∷ rest) done r well reads each got =
    let first = reads_first S done x rest files zero reads each in
    reads_stand S files k rest (done ++ x ∷ []) r (well_formed_push S done x well first.follows)
    (subst (λ (s : Shape). Reads S (laid S s rest) files) (sym (shape_of-append S done (x ∷ []))) reads)
    (λ j s there. subst (λ (l : List Entry). Follows S l s) (sym (append_assoc done (x ∷ []) (take j rest))) (each (suc j) s there)) got

-- each kept record stands where it says
kept_stands : (S : Geometry) (records : List Entry) (files : Files) (k : ℕ) (r : Entry) → IsWellFormed S records → HasKept S records files → slice_get records k ≡ Some r → StandsAtPlace S files r
kept_stands S records files k r well has got =
    let last : List ℕ = last_bytes S (shape_of S records) files in
    let long : length last ≤ used (shape_of S records) = omega (arith, ap length has.last) in
    reads_stand S files k records [] r (empty_well_formed S well.segment) (record { older = has.older; last = take_all (used (shape_of S records)) last long ∙ has.last }) well.each got

-- a segment that ended has all its bytes
ended_long : (S : Geometry) (older : List (List Entry)) (files : Files) (k : ℕ) → AreEnded S older files → first_segment S ≤ k → k < next_segment S older → S.size ≤ length (bytes_of files (segment_file S k))
ended_long S [] files k ended from low = absurd (let none : ⊥ = omega (arith, from, low) in none)
ended_long S (records ∷ older) files k ended from low = ⊎_elim
    (λ (same : k ≡ next_segment S older).
    omega (arith, ap (λ (j : ℕ). length (bytes_of files (segment_file S j))) same, ap (λ (o : Option (List ℕ)). length (bytes_in o)) ended.0.1, ended.0.2.long))
    (λ (less : k < next_segment S older). ended_long S older files k ended.1 from less)
    (eq-or-lt_of_le (let within : k ≤ next_segment S older = omega (arith, low) in within))

-- the files of the kept records have bytes up to their end
pub has_up_to : (S : ℕ) (records : List Entry) (end : ℕ) (files : Files) → IsLawful S (whole_log records) → end ≡ end_of no_base records → HasKept (whole S) records files → HasUpTo S end files
has_up_to S records end files lawful is has =
    let shape : Shape = shape_of (whole S) records in
    let placed = placed_log (whole S) records lawful in
    let number : end / S ≡ next_segment (whole S) shape.older = ap (λ (n : ℕ). n / S) is ∙ placed_number (whole S) records shape placed in
    let offset : end % S ≡ used shape = ap (λ (n : ℕ). n % S) is ∙ placed_offset (whole S) records shape placed in
    let some : 0 < S = let low = lawful.segment.low in omega (arith, low) in
    let long : used shape ≤ length (bytes_of files (segment_file (whole S) (next_segment (whole S) shape.older))) = omega (arith, ap length has.last) in
    record {
      before = λ k less. ended_long (whole S) shape.older files k has.older (omega (arith, first_whole S some)) (omega (arith, less, number));
      last = omega (arith, offset, long, ap (λ (j : ℕ). length (bytes_of files (segment_file (whole S) j))) number);
    }

-- a disk that stores just these records has them
pub stored_has_kept : (S : Geometry) (records : List Entry) (number : ℕ) (disk : DiskState) → StoresAt S records number (shape_of S records) (used (shape_of S records)) disk → IsCrashImage disk disk.reads
    → HasKept S records disk.reads
stored_has_kept S records number disk stores image =
    let stands = stores.each.at disk.reads image in
    let placed = placed_log S records stores.well_formed in
    record {
      older = closed_ended S (shape_of S records).older disk.reads placed.roomy stands.older;
      last = sym (take_all (used (shape_of S records)) (last_bytes S (shape_of S records) disk.reads) stands.short) ∙ stands.last;
    }

-- ---- in the pieces

module _ (tells : Type 0) (S : ℕ) (records : List Entry) (end : ℕ) (files : Files) (pieces : FrozenRanges) (lawful : IsLawful S (whole_log records)) (is : end ≡ end_of no_base records)
    (are : ArePieces tells S end files pieces) where
  -- they cover the log, where they hold no bytes but the records'
  covered_by : ((k : ℕ) (r : Entry) → slice_get records k ≡ Some r → HoldsRange pieces.pieces.items r.offset (layout r)) → AreCovered pieces (whole_log records) (count_of (whole_log records))
  covered_by holds = record {
    each = λ k r low got.
        let some : 0 < size r = omega arith in
        let to : r.offset / S * S + r.offset % S + size r ≤ end = let split = place_split S r.offset in let ends = record_ends (whole S) records k r lawful got in omega (arith, split, ends, is) in
        record {
          range = subst (λ (place : ℕ). HasRange pieces.pieces.items place (size r)) (place_split S r.offset)
              (are.range (r.offset / S) (r.offset % S) (size r) some (record_inside S records k r lawful got) to);
          held = holds k r got;
        };
    end =
        let low = are.end in
        let all : take (count_of (whole_log records) - 0) records ≡ records = take_all (count_of (whole_log records) - 0) records (omega arith) in
        subst (λ (l : List Entry). pieces.end ≤ end_of no_base l) (sym all) (omega (arith, low, is));
  }

  -- where the disk tells what it holds
  pub covered_told : tells → HasKept (whole S) records files → AreCovered pieces (whole_log records) (count_of (whole_log records))
  covered_told told has = covered_by (λ k r got.
      let stands = kept_stands (whole S) records files k r lawful has got in
      let long : length (layout r) ≡ size r = length-layout r in
      let some : 0 < length (layout r) = omega (arith, long) in
      let inside : r.offset % S + length (layout r) ≤ S = let fits_in = record_inside S records k r lawful got in omega (arith, long, fits_in) in
      let bytes : List ℕ = drop (r.offset % S) (bytes_of files (segment_file (whole S) (r.offset / S))) in
      let read : take (length (layout r)) bytes ≡ layout r = ap (λ (n : ℕ). take n bytes) long ∙ starts_layout bytes r stands in
      subst (λ (place : ℕ). HoldsRange pieces.pieces.items place (layout r)) (place_split S r.offset) (are.held told (r.offset / S) (r.offset % S) (layout r) some inside read))

  -- and where they hold nothing
  pub covered_none : ((place : ℕ) (bytes : List ℕ) → HoldsRange pieces.pieces.items place bytes) → AreCovered pieces (whole_log records) (count_of (whole_log records))
  covered_none nothing = covered_by (λ k r got. nothing r.offset (layout r))
