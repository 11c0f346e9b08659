-- Where a disk stores a log, its flushed records stand at their places; and only the files of the log's own segments matter.
use Rattle.std.proofs.Common.{◌≡◌, ⊎_elim, ℕ, zero, suc, ◌<◌, ◌≤◌, List, [], ◌∷◌, ◌++◌, length, take, slice_get, Some, sym, ◌∙◌, ap, subst, arith, append_assoc}
use Rattle.std.proofs.lemmas.Option.{same_Some}
use Rattle.mq_outside.specs.Files.{Files, bytes_in}
use Rattle.mq_outside.specs.Disk.{DiskState, EachImage}
use Rattle.record_codec.specs.Entry.{Entry}
use Rattle.log_model.specs.Bases.{Geometry, first_segment}
use Rattle.log_model.specs.Log.{Follows, IsWellFormed}
use Rattle.log_model.specs.Segments.{Shape, opened, used, laid, shape_of, segment_file, last_name, AreClosed, Counts, next_segment}
use Rattle.log_model.specs.Store.{StandsAtPlace, Stands, IsLaid, StoresLog, HasLogFilesOf}
use Rattle.log_model.proofs.Lists.{take_get}
use Rattle.log_model.proofs.Places.{empty_well_formed, placed_log, well_formed_take, shape_of-append, next_low}
use Rattle.log_model.proofs.FileNames.{IsNamed, names_apart, named_less, is_log_file}
use Rattle.log_model.proofs.Fronts.{closed_ended}
use Rattle.log_model.proofs.Recovery.{Reads, reads_first, closed_reads, comes_stands, well_formed_push}
use Rattle.log_model.proofs.StoreLemmas.{stores_named}

-- records that the files hold stand where they say
reads_stand : (S : Geometry) (files : Files) (k : ℕ) (rest done : List Entry) (r : Entry) → IsWellFormed S done → Reads S (laid S (shape_of S done) rest) files
    → ((j : ℕ) (s : Entry) → slice_get rest j ≡ Some s → Follows S (done ++ take j rest) s) → slice_get rest k ≡ Some r → StandsAtPlace S files r
reads_stand S files k [] done r well reads each got = absurd (cc)
reads_stand S files zero (x ∷ rest) done r well reads each got =
    subst (StandsAtPlace S files) (same_Some x r got) (comes_stands S done files x well (reads_first S done x rest files zero reads each))
reads_stand S files (suc k) (x ∷ rest) done r well reads each got =
    let first = reads_first S done x rest files zero reads each in
    reads_stand S files k rest (done ++ x ∷ []) r (well_formed_push S done x well first.follows)
    (subst (λ (s : Shape). Reads S (laid S s rest) files) (sym (shape_of-append S done (x ∷ []))) reads)
    (λ j s there. subst (λ (l : List Entry). Follows S l s) (sym (append_assoc done (x ∷ []) (take j rest))) (each (suc j) s there)) got

-- files that begin with some records hold them
stands_reads : (S : Geometry) (records : List Entry) (shape : Shape) (reach : ℕ) (files : Files) → IsWellFormed S records → IsLaid S records shape → Stands S shape reach files
    → Reads S (shape_of S records) files
stands_reads S records shape reach files well is_laid stands =
    let placed = placed_log S records well in
    ⊎_elim
    (λ (here : shape ≡ shape_of S records).
    let so : Stands S (shape_of S records) reach files = subst (λ (s : Shape). Stands S s reach files) here stands in
    record { older = closed_ended S (shape_of S records).older files placed.roomy so.older; last = so.last })
    (λ (next : shape ≡ opened (shape_of S records)).
    let so : Stands S (opened (shape_of S records)) reach files = subst (λ (s : Shape). Stands S s reach files) next stands in
    closed_reads S (shape_of S records) files (closed_ended S (opened (shape_of S records)).older files (placed.room, placed.roomy) so.older))
    is_laid

-- each crash image has each flushed record at its place
pub flushed_stand : (S : Geometry) (log : List Entry) (flushed k : ℕ) (r : Entry) (disk : DiskState) → StoresLog S log flushed disk → k < flushed → slice_get log k ≡ Some r
    → EachImage (λ files. StandsAtPlace S files r) disk
flushed_stand S log flushed k r disk stores low got =
    let at = stores.at in
    let front : List Entry = take flushed log in
    let well : IsWellFormed S front = well_formed_take S flushed log at.well_formed in
    record {
      at = λ files image. reads_stand S files k front [] r (empty_well_formed S well.segment)
          (stands_reads S front stores.shape stores.reach files well at.laid (at.each.at files image)) well.each (take_get flushed k log r low got);
    }

-- ---- the files of the log's own segments

-- the file of a segment from the first one on counts
own_counts : (S : Geometry) (k : ℕ) → IsNamed S k → first_segment S ≤ k → Counts S (segment_file S k)
own_counts S k named past = record {
  in_folder = is_log_file S k;
  kept = λ j less. names_apart S k k j named (omega arith) (omega (arith, less, past)) (λ is. omega (arith, is, less, past));
}

closed_as : (S : Geometry) (older : List (List Entry)) (before files : Files) → IsNamed S (next_segment S older) → ((name : List ℕ) → Counts S name → files name ≡ before name)
    → AreClosed S older before → AreClosed S older files
closed_as S [] before files named same are = tt
closed_as S (records ∷ older) before files named same are =
    let here : IsNamed S (next_segment S older) = named_less S _ _ (omega arith) named in
    (same (segment_file S (next_segment S older)) (own_counts S (next_segment S older) here (next_low S older)) ∙ are.0, closed_as S older before files here same are.1)

stands_as : (S : Geometry) (shape : Shape) (reach : ℕ) (before files : Files) → IsNamed S (next_segment S shape.older) → ((name : List ℕ) → Counts S name → files name ≡ before name)
    → Stands S shape reach before → Stands S shape reach files
stands_as S shape reach before files named same stands =
    let own = own_counts S (next_segment S shape.older) named (next_low S shape.older) in
    let last = ap bytes_in (same (last_name S shape) own) in
    record {
      older = closed_as S shape.older before files named same stands.older;
      last = ap (λ (l : List ℕ). take (used shape) l) last ∙ stands.last;
      short = omega (arith, ap (λ (l : List ℕ). length l) last, stands.short);
      others = λ name in_folder apart. same name (record { in_folder = in_folder; kept = λ k less. apart k (omega (arith, less, next_low S shape.older)) }) ∙ stands.others name in_folder apart;
    }

-- a disk whose images have the log's files of another's stores what that one stores
pub stores_as : (S : Geometry) (log : List Entry) (flushed : ℕ) (old new : DiskState) → EachImage (HasLogFilesOf S old) new → StoresLog S log flushed old → StoresLog S log flushed new
stores_as S log flushed old new each stores = record {
  shape = stores.shape;
  reach = stores.reach;
  at = record {
    well_formed = stores.at.well_formed;
    within = stores.at.within;
    laid = stores.at.laid;
    each = record {
      at = λ files image.
          let from = each.at files image in
          stands_as S stores.shape stores.reach from.before files (stores_named S log flushed stores.shape stores.reach old stores.at) from.same (stores.at.each.at from.before from.image);
    };
  };
}
