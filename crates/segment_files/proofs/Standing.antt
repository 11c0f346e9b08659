-- What is read back at a place: the record that stands there, or that none does.
use Rattle.std.proofs.Common.{◌≡◌, ℕ, ◌-◌, ◌*◌, ◌/◌, ◌%◌, ◌<◌, ◌++◌, List, [], length, take, drop, sym, ap, subst, ◌∙◌, arith, length-append}
use Rattle.std.proofs.lemmas.List.{append-nil, nil_from_length, take_at, take-append-drop}
use Rattle.mq_bytes.specs.Names.{log_file}
use Rattle.mq_outside.specs.Files.{bytes_of}
use Rattle.mq_outside.specs.Disk.{DiskState}
use Rattle.record_codec.specs.declared.draft.Record.{Record}
use Rattle.record_codec.specs.Entry.{Entry}
use Rattle.record_codec.specs.Layout.{layout, size, IsRecord}
use Rattle.record_codec.proofs.Records.{no_prefix}
use Rattle.record_codec.proofs.LayoutLengths.{length-layout}
use Rattle.log_model.specs.Bases.{whole}
use Rattle.log_model.specs.declared.fault.LoadFault.{LoadFault}
use Rattle.log_model.specs.declared.fault.LoadFault.TheVariants.{Damaged, Failed, Memory}
use Rattle.log_model.specs.Queues.{said_by, IsStored}
use Rattle.log_model.specs.Segments.{segment_file}
use Rattle.segment_files.specs.Reading.{bytes_from, IsRecordAt, SaysWhere, TellsDamage}

-- ---- bytes that were read

-- a record that fills the bytes is all of them
pub fills : (r : Entry) (rest : List ℕ) (bytes : List ℕ) → bytes ≡ layout r ++ rest → size r ≡ length bytes → bytes ≡ layout r
fills r rest bytes is long =
    let none : rest ≡ [] = nil_from_length rest (omega (arith, ap (λ (l : List ℕ). length l) is, length-append (layout r) rest, length-layout r, long)) in
    is ∙ ap (λ (l : List ℕ). layout r ++ l) none ∙ append-nil (layout r)

-- no record is all of the bytes where a shorter one stands in front
pub none_fills : (v : Entry) (rest : List ℕ) (bytes : List ℕ) → IsRecord v → bytes ≡ layout v ++ rest → (size v ≡ length bytes → ⊥) → (r : Entry) → IsRecord r → bytes ≡ layout r → ⊥
none_fills v rest bytes is_v front other r is_r whole =
    let same = no_prefix v r rest is_v is_r (sym front ∙ whole) in
    other (ap size same.0 ∙ sym (length-layout r) ∙ ap (λ (l : List ℕ). length l) (sym whole))

-- what fills the bytes that were read stands there
pub stands_there : (S place n : ℕ) (disk : DiskState) (bytes : List ℕ) (r : Entry) → length bytes ≡ n → bytes ≡ take n (bytes_from S place disk) → IsRecord r → bytes ≡ layout r
    → IsRecordAt S place n disk r
stands_there S place n disk bytes r long read is whole = record {
  starts = record {
    is = is;
    rest = drop n (bytes_from S place disk);
    split = sym (take-append-drop n (bytes_from S place disk)) ∙ ap (λ (l : List ℕ). l ++ drop n (bytes_from S place disk)) (sym read ∙ whole);
  };
  long = sym (length-layout r) ∙ ap (λ (l : List ℕ). length l) (sym whole) ∙ long;
}

-- what doesn't fill the bytes that were read doesn't stand there
pub none_there : (S place n : ℕ) (disk : DiskState) (bytes : List ℕ) → bytes ≡ take n (bytes_from S place disk) → ((r : Entry) → IsRecord r → bytes ≡ layout r → ⊥)
    → (r : Entry) → IsRecordAt S place n disk r → ⊥
none_there S place n disk bytes read none r at =
    none r at.starts.is (read ∙ ap (λ (l : List ℕ). take n l) at.starts.split ∙ take_at (layout r) at.starts.rest n (length-layout r ∙ at.long))

-- nothing stands where the file ends before
pub too_short : (S place n : ℕ) (disk : DiskState) → length (bytes_from S place disk) < n → (r : Entry) → IsRecordAt S place n disk r → ⊥
too_short S place n disk short r at =
    omega (arith, short, ap (λ (l : List ℕ). length l) at.starts.split, length-append (layout r) at.starts.rest, length-layout r, at.long)

-- a record that says what fills the bytes
pub stored_whole : (r : Record) (v : Entry) (bytes : List ℕ) → said_by r ≡ v → r.size ≡ size v → IsRecord v → bytes ≡ layout v → size v ≡ length bytes
    → IsStored r × (bytes ≡ layout (said_by r)) × (r.size ≡ length bytes)
stored_whole r v bytes says long is whole fits =
    (record { layout = subst IsRecord (sym says) is; size = long ∙ ap size (sym says) }, whole ∙ ap layout (sym says), long ∙ fits)

-- ---- the file of a place

-- the file of this name is the one of the place, and from the offset on it has what stands there
pub record Finds (S place : ℕ) (disk : DiskState) (offset : ℕ) (name : List ℕ) : Type 0 where
  pub named : name ≡ segment_file (whole S) (place / S)
  pub bytes : drop offset (bytes_of disk.reads name) ≡ bytes_from S place disk

pub finds : (S place s : ℕ) (disk : DiskState) (file name : List ℕ) → 0 < S → s ≡ S → file ≡ log_file (place - place % s) → name ≡ file → Finds S place disk (place % s) name
finds S place s disk file name some same is spelled =
    let begins : place - place % S ≡ place / S * S = grind arith in
    let named : name ≡ segment_file (whole S) (place / S) = spelled ∙ is ∙ ap (λ (n : ℕ). log_file (place - place % n)) same ∙ ap log_file begins in
    record { named = named; bytes = (λ i. drop (place % same i) (bytes_of disk.reads (named i))) }

-- a fault that says where tells of damage, if no record stands there
pub tells_damage : (S place n : ℕ) (disk : DiskState) (name : List ℕ) (fault : LoadFault) → name ≡ segment_file (whole S) (place / S) → ((r : Entry) → IsRecordAt S place n disk r → ⊥)
    → SaysWhere place name fault → TellsDamage S place n disk fault
tells_damage S place n disk name (Damaged told file) named none says = record { at = says.0; name = says.1 ∙ named; none = none }
tells_damage S place n disk name Failed named none says = absurd says
tells_damage S place n disk name Memory named none says = tt
