-- Calls that change certain files leave the others, and a disk whose log files stay stores what it stored.
use Rattle.std.proofs.Common.{◌≡◌, ◌≢◌, ◌*◌, ℕ, List, [], ◌∷◌, length, take, Option, refl, sym, ◌∙◌, ap, subst, arith}
use Rattle.mq_bytes.specs.Names.{log_file}
use Rattle.mq_outside.specs.Files.{Files, Same, At, bytes_in}
use Rattle.mq_outside.specs.Disk.{DiskState, Moves}
use Rattle.mq_outside.proofs.Moments.{at_start, at_end, goes_on, each_step, each_same, weaker, chained}
use Rattle.record_codec.specs.Entry.{Entry}
use Rattle.log_model.specs.Bases.{Geometry, whole}
use Rattle.log_model.specs.Segments.{Shape, used, last_name, next_segment, segment_file, closed, AreClosed, IsLogFile}
use Rattle.log_model.specs.Store.{Stands, StoresAt, StoresLog}
use Rattle.log_model.specs.Stored.{AreAsIn, StaysWhere, IsOutside, StaysOutside, LogStays}
use Rattle.log_model.proofs.FileNames.{is_log_file}

-- a segment's file lies in the folder
pub in_folder : {name : List ℕ} (n : ℕ) → name ≡ log_file n → IsLogFile name
in_folder n named =
    let once : 1 * n ≡ n = omega arith in
    subst IsLogFile (ap log_file once ∙ sym named) (is_log_file (whole n) 1)

-- ---- calls

-- before the first call
pub stays_start : (P : List ℕ → Type 0) (disk : DiskState) → StaysWhere P disk disk
stays_start P disk = record {
  reads = λ name in_it. refl;
  images = at_start disk (AreAsIn P disk) (record { at = λ files image. record { before = files; image = image; same = λ name in_it. refl } });
}

-- one call more that changes nothing
pub stays_same : {P : List ℕ → Type 0} {old mid new : DiskState} → StaysWhere P old mid → Moves Same mid new → StaysWhere P old new
stays_same so_far moves = record {
  reads = λ name in_it. ap (λ (f : Files). f name) moves.reads ∙ so_far.reads name in_it;
  images = goes_on so_far.images moves (each_same moves (at_end so_far.images));
}

-- one call more that changes another file
pub stays_call : {P : List ℕ → Type 0} {old mid new : DiskState} {file : List ℕ} {change : Option (List ℕ) → Option (List ℕ) → Type 0} → ((name : List ℕ) → P name → name ≢ file)
    → StaysWhere P old mid → Moves (At file change) mid new → StaysWhere P old new
stays_call {P = P} {old = old} apart so_far moves = record {
  reads = λ name in_it. moves.reads.others name (apart name in_it) ∙ so_far.reads name in_it;
  images = goes_on so_far.images moves (each_step {P = AreAsIn P old} moves
      (λ before after step from. record { before = from.before; image = from.image; same = λ name in_it. step.others name (apart name in_it) ∙ from.same name in_it })
      (at_end so_far.images));
}

-- one run behind another
pub stays_then : {P : List ℕ → Type 0} {old mid new : DiskState} → StaysWhere P old mid → StaysWhere P mid new → StaysWhere P old new
stays_then first second = record {
  reads = λ name in_it. second.reads name in_it ∙ first.reads name in_it;
  images = chained first.images (weaker second.images (λ files from.
      let was = (at_end first.images).at from.before from.image in
      record { before = was.before; image = was.image; same = λ name in_it. from.same name in_it ∙ was.same name in_it }));
}

pub outside_start : (disk : DiskState) → StaysOutside disk disk
outside_start disk = stays_start IsOutside disk

pub outside_same : {old mid new : DiskState} → StaysOutside old mid → Moves Same mid new → StaysOutside old new
outside_same so_far moves = stays_same so_far moves

pub outside_then : {old mid new : DiskState} → StaysOutside old mid → StaysOutside mid new → StaysOutside old new
outside_then first second = stays_then first second

-- a call that changes a file of the log
pub outside_call : {old mid new : DiskState} {file : List ℕ} {change : Option (List ℕ) → Option (List ℕ) → Type 0} → IsLogFile file
    → StaysOutside old mid → Moves (At file change) mid new → StaysOutside old new
outside_call inside so_far moves = stays_call (λ name not is. not (subst IsLogFile (sym is) inside)) so_far moves

-- a call that changes a file outside the log's folder
pub log_call : {old mid new : DiskState} {file : List ℕ} {change : Option (List ℕ) → Option (List ℕ) → Type 0} → IsOutside file
    → LogStays old mid → Moves (At file change) mid new → LogStays old new
log_call outside so_far moves = stays_call (λ name inside is. outside (subst IsLogFile is inside)) so_far moves

-- ---- a log whose files stay

closed_as : (S : Geometry) (older : List (List Entry)) (before files : Files) → ((name : List ℕ) → IsLogFile name → files name ≡ before name) → AreClosed S older before → AreClosed S older files
closed_as S [] before files same closed = tt
closed_as S (records ∷ older) before files same closed =
    (same (segment_file S (next_segment S older)) (is_log_file S (next_segment S older)) ∙ closed.0, closed_as S older before files same closed.1)

stands_as : (S : Geometry) (shape : Shape) (reach : ℕ) (before files : Files) → ((name : List ℕ) → IsLogFile name → files name ≡ before name) → Stands S shape reach before → Stands S shape reach files
stands_as S shape reach before files same stands =
    let last : files (last_name S shape) ≡ before (last_name S shape) = same (last_name S shape) (is_log_file S (next_segment S shape.older)) in
    record {
      older = closed_as S shape.older before files same stands.older;
      last = ap (λ (o : Option (List ℕ)). take (used shape) (bytes_in o)) last ∙ stands.last;
      short = omega (arith, ap (λ (o : Option (List ℕ)). length (bytes_in o)) last, stands.short);
      others = λ name inside apart. same name inside ∙ stands.others name inside apart;
    }

pub stores_as : (S : Geometry) (log : List Entry) (flushed : ℕ) (shape : Shape) (reach : ℕ) (old new : DiskState) → LogStays old new → StoresAt S log flushed shape reach old
    → StoresAt S log flushed shape reach new
stores_as S log flushed shape reach old new stays stores = record {
  well_formed = stores.well_formed;
  within = stores.within;
  laid = stores.laid;
  each = record {
    at = λ files image.
        let from = (at_end stays.images).at files image in
        stands_as S shape reach from.before files from.same (stores.each.at from.before from.image);
  };
}

pub log_stores_as : (S : Geometry) (log : List Entry) (flushed : ℕ) (old new : DiskState) → LogStays old new → StoresLog S log flushed old → StoresLog S log flushed new
log_stores_as S log flushed old new stays stores = record { shape = stores.shape; reach = stores.reach; at = stores_as S log flushed stores.shape stores.reach old new stays stores.at }
