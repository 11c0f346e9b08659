-- A disk that stores a log goes on to store it, over writes that are torn and writes that are synced.
use Rattle.std.proofs.Common.{◌≡◌, inl, inr, ⊎_elim, ℕ, suc, ◌+◌, ◌-◌, ◌^◌, ◌≤◌, max, List, [], length, take, drop, refl, sym, ap, subst, arith}
use Rattle.mq_bytes.specs.Names.{log_file}
use Rattle.mq_outside.specs.Files.{Files, HasNoFile, At, Torn, bytes_in}
use Rattle.mq_outside.specs.Disk.{DiskState, IsCrashImage, EachImage, Moves, Throughout}
use Rattle.mq_outside.proofs.Moments.{at_end, weaker}
use Rattle.record_codec.specs.Entry.{Entry}
use Rattle.log_model.specs.Bases.{Geometry, first_segment}
use Rattle.log_model.specs.Log.{IsGeometry, IsWellFormed, end_of}
use Rattle.log_model.specs.Segments.{blank_of, Shape, empty_shape, added, opened, used, shape_of, segment_start, end_in, segment_file, AreFilesOf, AreSegmentFiles, next_segment}
use Rattle.log_model.specs.Store.{Stands, Has, IsAt, IsBatch, IsLaid, StoresAt, StoresLog, KeepsIfHonest}
use Rattle.log_model.proofs.Places.{empty_well_formed, placed_log, well_formed_take, end_low}
use Rattle.log_model.proofs.FileNames.{IsNamed, named_less, shape_named}
use Rattle.log_model.proofs.Steps.{batch_stands, blank_opens, stands_exact, exact_stands, each_torn}
use Rattle.log_model.proofs.Prefixes.{keeps_prefix}

-- the files of these segments, and of the one behind them, have names
pub laid_named : (S : Geometry) (log : List Entry) (flushed : ℕ) (shape : Shape) → IsWellFormed S log → IsLaid S (take flushed log) shape → IsNamed S (suc (next_segment S shape.older))
laid_named S log flushed shape well laid =
    let named = shape_named S (take flushed log) (well_formed_take S flushed log well) in
    ⊎_elim
    (λ (at_end : shape ≡ shape_of S (take flushed log)). subst (λ (s : Shape). IsNamed S (suc (next_segment S s.older))) (sym at_end) (named_less S _ _ (omega arith) named))
    (λ (at_next : shape ≡ opened (shape_of S (take flushed log))). subst (λ (s : Shape). IsNamed S (suc (next_segment S s.older))) (sym at_next) named)
    laid

pub stores_named : (S : Geometry) (log : List Entry) (flushed : ℕ) (shape : Shape) (reach : ℕ) (disk : DiskState) → StoresAt S log flushed shape reach disk → IsNamed S (next_segment S shape.older)
stores_named S log flushed shape reach disk stores = named_less S _ _ (omega arith) (laid_named S log flushed shape stores.well_formed stores.laid)

-- the segments leave room for a blank
pub laid_room : (S : Geometry) (log : List Entry) (flushed : ℕ) (shape : Shape) → IsWellFormed S log → IsLaid S (take flushed log) shape → used shape + 8 ≤ S.size
laid_room S log flushed shape well laid =
    let placed = placed_log S (take flushed log) (well_formed_take S flushed log well) in
    ⊎_elim
    (λ (at_end : shape ≡ shape_of S (take flushed log)). subst (λ (s : Shape). used s + 8 ≤ S.size) (sym at_end) placed.room)
    (λ (at_next : shape ≡ opened (shape_of S (take flushed log))). subst (λ (s : Shape). used s + 8 ≤ S.size) (sym at_next) (omega (arith, well.segment.low)))
    laid

-- and no segment begins past 2^62 by more than its size
pub laid_low : (S : Geometry) (log : List Entry) (flushed : ℕ) (shape : Shape) → IsWellFormed S log → IsLaid S (take flushed log) shape → segment_start S shape ≤ 2 ^ 62 + S.size
laid_low S log flushed shape well laid =
    let front : List Entry = take flushed log in
    let placed = placed_log S front (well_formed_take S flushed log well) in
    let low = end_low S front (well_formed_take S flushed log well) in
    ⊎_elim
    (λ (at_end : shape ≡ shape_of S front). omega (arith, ap (segment_start S) at_end, placed.end, low))
    (λ (at_next : shape ≡ opened (shape_of S front)). omega (arith, ap (segment_start S) at_next, placed.end, low))
    laid

-- the records end where the segments end
pub shape_end : (S : Geometry) (log : List Entry) → IsWellFormed S log → end_of S.base log ≡ end_in S (shape_of S log)
shape_end S log well = (placed_log S log well).end

-- ---- each honest image keeps a prefix of the log

pub stores_keeps : (S : Geometry) (log : List Entry) (flushed : ℕ) (shape : Shape) (reach : ℕ) (disk : DiskState) → StoresAt S log flushed shape reach disk → EachImage (KeepsIfHonest S log flushed) disk
stores_keeps S log flushed shape reach disk stores = record {
  at = λ files image honest. keeps_prefix S log flushed files shape reach stores.well_formed stores.within stores.laid (stores.each.at files image) honest;
}

pub keeps_throughout : (S : Geometry) (log : List Entry) (flushed : ℕ) (shape : Shape) (reach more : ℕ) (old new : DiskState) → StoresAt S log flushed shape reach old
    → Throughout old new (Stands S shape more) → Throughout old new (KeepsIfHonest S log flushed)
keeps_throughout S log flushed shape reach more old new stores so_far = weaker so_far
    (λ files stands honest. keeps_prefix S log flushed files shape more stores.well_formed stores.within stores.laid stands honest)

-- ---- what is stored stays stored

-- after a fault too, with a longer reach
pub stores_still : (S : Geometry) (log : List Entry) (flushed : ℕ) (shape : Shape) (reach more : ℕ) (old new : DiskState) → StoresAt S log flushed shape reach old
    → Throughout old new (Stands S shape more) → StoresAt S log flushed shape more new
stores_still S log flushed shape reach more old new stores so_far =
    record { well_formed = stores.well_formed; within = stores.within; laid = stores.laid; each = at_end so_far }

-- after a torn write behind the records
pub stores_torn : (S : Geometry) (log : List Entry) (flushed : ℕ) (shape : Shape) (reach : ℕ) (old new : DiskState) (name : List ℕ) (at n file_base : ℕ)
    → name ≡ log_file file_base → IsAt S shape file_base at → Moves (At name (Torn at n)) old new → StoresAt S log flushed shape reach old
    → StoresAt S log flushed shape (max reach (at + n)) new
stores_torn S log flushed shape reach old new name at n file_base named place moves stores = record {
  well_formed = stores.well_formed;
  within = stores.within;
  laid = stores.laid;
  each = each_torn (stores_named S log flushed shape reach old stores) named place moves stores.each;
}

-- after a batch that is written and synced
pub stores_batch : (S : Geometry) (log : List Entry) (flushed count : ℕ) (shape : Shape) (reach : ℕ) (batch : List ℕ) (new : DiskState) → IsWellFormed S log
    → IsBatch S log flushed count shape batch → EachImage (Has S shape reach batch) new
    → StoresAt S log (flushed + count) (added shape (take count (drop flushed log))) reach new
stores_batch S log flushed count shape reach batch new well is each = record {
  well_formed = well;
  within = is.within;
  laid = inl (sym is.rule);
  each = record { at = λ files image. batch_stands S shape reach (take count (drop flushed log)) batch files is.bytes (each.at files image) };
}

-- after a blank that is written and synced
pub stores_opened : (S : Geometry) (log : List Entry) (flushed : ℕ) (shape : Shape) (reach : ℕ) (new : DiskState) → IsWellFormed S log → flushed ≤ length log
    → shape ≡ shape_of S (take flushed log) → reach ≤ S.size → EachImage (Has S shape reach (blank_of (S.size - used shape))) new → StoresAt S log flushed (opened shape) 0 new
stores_opened S log flushed shape reach new well within is low each = record {
  well_formed = well;
  within = within;
  laid = inr (ap opened is);
  each = record {
    at = λ files image. blank_opens S shape reach files (laid_room S log flushed shape well (inl is)) low (laid_named S log flushed shape well (inl is)) (each.at files image);
  };
}

-- ---- disks that hold exactly the files of a log

-- a disk that was written nowhere past its records has exactly the files of the flushed records
pub stores_exact : (S : Geometry) (log : List Entry) (flushed : ℕ) (shape : Shape) (disk : DiskState) → StoresAt S log flushed shape (used shape) disk → EachImage (AreFilesOf S shape) disk
stores_exact S log flushed shape disk stores = record { at = λ files image. stands_exact S shape files (stores.each.at files image) }

-- and a disk with exactly these files stores the log
pub exact_stores : (S : Geometry) (log : List Entry) (flushed : ℕ) (disk : DiskState) → IsWellFormed S log → flushed ≤ length log → EachImage (AreSegmentFiles S (take flushed log)) disk
    → StoresAt S log flushed (shape_of S (take flushed log)) (used (shape_of S (take flushed log))) disk
exact_stores S log flushed disk well within each = record {
  well_formed = well;
  within = within;
  laid = inl refl;
  each = record { at = λ files image. exact_stands S (shape_of S (take flushed log)) files (each.at files image) };
}

-- without files there is the empty log
pub no_files : (S : Geometry) (files : Files) → HasNoFile files → AreSegmentFiles S [] files
no_files S files none = record { older = tt; last = ap bytes_in (none (segment_file S (first_segment S))); others = λ name in_folder apart. none name }

pub stores_empty : (S : Geometry) (disk : DiskState) → IsGeometry S → EachImage HasNoFile disk → StoresLog S [] 0 disk
stores_empty S disk segment each = record {
  shape = empty_shape;
  reach = 0;
  at = exact_stores S [] 0 disk (empty_well_formed S segment) (omega arith) (record { at = λ files image. no_files S files (each.at files image) });
}

-- ---- after a crash

-- a disk that has only images of another stores the same
pub stores_again : (S : Geometry) (log : List Entry) (flushed : ℕ) (old new : DiskState) → ((files : Files) → IsCrashImage new files → IsCrashImage old files)
    → StoresLog S log flushed old → StoresLog S log flushed new
stores_again S log flushed old new from stores = record {
  shape = stores.shape;
  reach = stores.reach;
  at = record {
    well_formed = stores.at.well_formed;
    within = stores.at.within;
    laid = stores.at.laid;
    each = record { at = λ files image. stores.at.each.at files (from files image) };
  };
}
