-- What was loaded of a log, and that the broker opens over it.
use Rattle.std.proofs.Common.{◌≡◌, ⊎_elim, ap, sym, ◌∙◌, subst, refl, arith, ℕ, ◌+◌, ◌-◌, ◌*◌, ◌/◌, ◌%◌, ◌<◌, ◌≤◌, List, [], ◌∷◌, length, take, Err}
use Rattle.std.proofs.lemmas.List.{take_all}
use Rattle.std.proofs.lemmas.Nat.{div-mul-add}
use Rattle.mq_outside.specs.Covers.{HoldsRange}
use Rattle.mq_outside.specs.Disk.{DiskState, IsCrashImage, Rests}
use Rattle.mq_bytes.specs.Names.{log_file}
use Rattle.mq_outside.specs.Files.{Files, bytes_of}
use Rattle.mq_outside.proofs.Moments.{at_end, chained, throughout_rests}
use Rattle.mq_outside.specs.declared.frozen_ranges.FrozenRanges.{FrozenRanges}
use Rattle.record_codec.specs.Entry.{Entry}
use Rattle.log_model.specs.Bases.{Geometry, whole, no_base}
use Rattle.log_model.specs.Log.{end_of}
use Rattle.log_model.specs.Numbered.{IsLawful}
use Rattle.log_model.specs.Segments.{used, shape_of}
use Rattle.log_model.specs.Store.{Keeps, StoresAt}
use Rattle.log_model.specs.Stored.{StaysOutside, stored}
use Rattle.log_model.proofs.OutsideLemmas.{outside_then}
use Rattle.log_model.proofs.Places.{placed_log, placed_offset}
use Rattle.log_model.proofs.StoreLemmas.{stores_again}
use Rattle.log_recovery.specs.Recovered.{Handed, HasKept, Kept, OnDamage, Recovered, StaysFlushed}
use Rattle.log_recovery.specs.declared.fault.RecoverFault.{RecoverFault}
use Rattle.log_recovery.specs.declared.fault.RecoverFault.TheVariants.{Damaged, Failed, Memory}
use Rattle.log_recovery.proofs.OursLemmas.{rests_images, rests_outside}
use Rattle.segment_files.specs.Turn.{GoesToEnd, IsReady, growing}
use Rattle.segment_files.specs.declared.last_file.LastFile.{LastFile}
use Rattle.segment_files.proofs.Ready.{stored_ready, ready_ahead}
use Rattle.broker_events.specs.declared.event.Setup.{Setup}
use Rattle.broker_model.specs.Run.{opened}
use Rattle.broker_model.specs.State.{Saved}
use Rattle.broker_model.specs.Tables.{OffsetRow, TopicRow}
use Rattle.core_log.specs.Loads.{IsLoadedFrom, IsLoadedWith, MayOpen, whole_log}
use Rattle.core_log.specs.Represents.{Represents, setup_of}
use Rattle.core_log.specs.Shows.{shown_of}
use Rattle.core_log.specs.declared.loaded.Loaded.{Loaded}
use Rattle.core_log.specs.declared.parts.Parts.{Parts}
use Rattle.log_opening.specs.declared.loading.LoadedLog.{LoadedLog}
use Rattle.log_opening.specs.declared.opening.Opened.{Opened}
use Rattle.log_opening.specs.Freezes.{HasUpTo, ArePieces}
use Rattle.log_opening.specs.Opens.{saved_as, IsKeptLog, IsOurLog, CanOpen, OpensWith, OpensLogWith, OpensKeptWith, OpensOursWith}
use Rattle.log_opening.proofs.LogLemmas.{stored_has_kept, covered_told, covered_none}

pub no_rows : (rows : List OffsetRow) → length rows ≡ 0 → rows ≡ []
no_rows [] none = refl
no_rows (row ∷ rows) none = absurd (omega (arith, none))

-- ---- what was loaded

-- that these records were loaded behind these topics
abbrev pub loaded_in : List TopicRow → Loaded → List Entry → Type 0
loaded_in topics loaded records = IsLoadedFrom topics records loaded

pub kept_log : (S : Geometry) (topics : List TopicRow) (old new : Files) (start : Loaded) (log : LoadedLog) → IsLoadedFrom topics [] start
    → Kept S old (loaded_in topics start) (loaded_in topics log.loaded) log.end
    → ((records : List Entry) → Keeps S records old → HasKept S records new) → IsKeptLog S topics old new log
kept_log S topics old new start log none kept has =
    record { records = kept.records; keeps = kept.keeps; loaded = kept.handed none; ends = kept.ends; has = has kept.records kept.keeps }

pub our_log : (S : Geometry) (topics : List TopicRow) (log : List Entry) (flushed : ℕ) (disk : DiskState) (start : Loaded) (it : LoadedLog) → IsLoadedFrom topics [] start → IsCrashImage disk disk.reads
    → Recovered (stored S log flushed) (loaded_in topics start) (loaded_in topics it.loaded) disk it.end → IsOurLog S topics log flushed disk it
our_log S topics log flushed disk start it none image found = record {
  number = found.number;
  low = found.low;
  high = found.high;
  loaded = found.handed none;
  ends = found.ends;
  has = stored_has_kept S (take found.number log) found.number disk found.stores image;
  stores = found.stores;
}

-- ---- the opening

pub may_open : (setup : Setup) (offsets : List OffsetRow) (topics : List TopicRow) (records : List Entry) (log : LoadedLog) (pieces : FrozenRanges) → CanOpen setup offsets topics records log pieces
    → MayOpen setup (saved_as offsets topics) records log.loaded pieces
may_open setup offsets topics records log pieces can = record { lawful = can.lawful; of_log = can.loaded; covered = can.covered; base = refl }

-- over records that are read, where the disk tells what it holds
pub can_told : (tells : Type 0) (setup : Setup) (offsets : List OffsetRow) (topics : List TopicRow) (records : List Entry) (files : Files) (log : LoadedLog) (pieces : FrozenRanges) → tells
    → IsLawful setup.segment (whole_log records) → IsLoadedWith topics records offsets log.loaded
    → log.end ≡ end_of no_base records → HasKept (whole setup.segment) records files → ArePieces tells setup.segment log.end files pieces → CanOpen setup offsets topics records log pieces
can_told tells setup offsets topics records files log pieces told lawful loaded ends has are = record {
  lawful = lawful;
  loaded = loaded;
  ends = ends;
  covered = covered_told tells setup.segment records log.end files pieces lawful ends are told has;
}

-- and over those that were loaded, where the pieces hold nothing
pub can_some : (tells : Type 0) (setup : Setup) (offsets : List OffsetRow) (topics : List TopicRow) (old files : Files) (before log : LoadedLog) (pieces : FrozenRanges)
    → Handed (whole setup.segment) (λ records. IsLoadedFrom topics records before.loaded) before.end → (tells → IsKeptLog (whole setup.segment) topics old files before)
    → ((records : List Entry) → IsLoadedFrom topics records before.loaded → IsLoadedWith topics records offsets log.loaded) → log.end ≡ before.end
    → ArePieces tells setup.segment log.end files pieces → (records : List Entry) × CanOpen setup offsets topics records log pieces
can_some tells setup offsets topics old files before log pieces handed kept loaded ends are = ⊎_elim
    (λ (nothing : (place : ℕ) (bytes : List ℕ) → HoldsRange pieces.pieces.items place bytes). (
      handed.records,
      record {
        lawful = handed.lawful;
        loaded = loaded handed.records handed.handed;
        ends = ends ∙ handed.ends;
        covered = covered_none tells setup.segment handed.records log.end files pieces handed.lawful (ends ∙ handed.ends) are nothing;
      },
    ))
    (λ (told : tells). let found = kept told in (found.records, can_told tells setup offsets topics found.records files log pieces told found.keeps.well_formed (loaded found.records found.loaded) (ends ∙ found.ends) found.has are))
    are.none

-- the next bytes go where the log ends
pub goes_to_end : (S : ℕ) (records : List Entry) (end : ℕ) (file : LastFile) → end ≡ end_of no_base records → file.base ≡ end / S * S → file.offset ≡ end % S → GoesToEnd (stored (whole S) records (length records)) file
goes_to_end S records end file is base offset =
    let all : end ≡ end_of no_base (take (length records) records) = is ∙ ap (end_of no_base) (sym (take_all (length records) records (omega arith))) in
    record { base = base ∙ ap (λ (n : ℕ). n / S * S) all; offset = offset ∙ ap (λ (n : ℕ). n % S) all }

-- ---- while the files are frozen

pub stays_then : (S : Geometry) (old mid new : DiskState) → StaysFlushed S old mid → Rests mid new → StaysFlushed S old new
stays_then S old mid new stays rests log flushed stores honest =
    let so_far = stays log flushed stores honest in
    record {
      still = stores_again S log flushed mid new (rests_images mid new rests) so_far.still;
      any_moment = chained so_far.any_moment (throughout_rests rests (at_end so_far.any_moment));
      honest = chained so_far.honest (throughout_rests rests (at_end so_far.honest));
    }

pub stays_outside_then : (old mid new : DiskState) → StaysOutside old mid → Rests mid new → StaysOutside old new
stays_outside_then old mid new outside rests = outside_then outside (rests_outside mid new rests)

-- what tells no damage tells none of another kind
pub no_damage : (A B : Type 0) (fault : RecoverFault) (P : ℕ → List ℕ → Type 0) → OnDamage {A = A} (Err fault) (λ place name. ⊥) → OnDamage {A = B} (Err fault) P
no_damage A B (Damaged place name) P none = absurd none
no_damage A B Failed P none = tt
no_damage A B Memory P none = tt

-- ---- where the flusher writes

-- inside its file
pub inside_file : (S : ℕ) (records : List Entry) (end : ℕ) (file : LastFile) (files : Files) → end ≡ end_of no_base records → GoesToEnd (stored (whole S) records (length records)) file → HasUpTo S end files
    → file.offset ≤ length (bytes_of files (log_file file.base))
inside_file S records end file files is placed has =
    let all : end_of no_base (take (length records) records) ≡ end = ap (end_of no_base) (take_all (length records) records (omega arith)) ∙ sym is in
    let base : file.base ≡ end / S * S = placed.base ∙ ap (λ (n : ℕ). n / S * S) all in
    let offset : file.offset ≡ end % S = placed.offset ∙ ap (λ (n : ℕ). n % S) all in
    let low = has.last in
    subst (λ (b : ℕ). file.offset ≤ length (bytes_of files (log_file b))) (sym base) (omega (arith, offset, low))

-- whose number is that of the segment where the log ends
pub base_number : (S : ℕ) (records : List Entry) (end : ℕ) (file : LastFile) → 0 < S → end ≡ end_of no_base records → GoesToEnd (stored (whole S) records (length records)) file → file.base / S ≡ end / S
base_number S records end file some is placed =
    let all : end_of no_base (take (length records) records) ≡ end = ap (end_of no_base) (take_all (length records) records (omega arith)) ∙ sym is in
    let base : file.base ≡ end / S * S + 0 = let starts = placed.base ∙ ap (λ (n : ℕ). n / S * S) all in omega (arith, starts) in
    ap (λ (n : ℕ). n / S) base ∙ div-mul-add (end / S) S 0 some

-- behind a log that is stored, and nothing stands behind that
pub ready_for_turns : (S : ℕ) (records : List Entry) (number : ℕ) (file : LastFile) (old new : DiskState) → number ≡ length records → GoesToEnd (stored (whole S) records (length records)) file → file.ahead ≡ 0
    → StoresAt (whole S) records number (shape_of (whole S) records) (used (shape_of (whole S) records)) old → Rests old new → IsReady (stored (whole S) records number) 0 (growing file new)
ready_for_turns S records number file old new is placed none stores rests =
    let reach : ℕ = used (shape_of (whole S) records) in
    let all : take number records ≡ records = take_all number records (omega (arith, is)) in
    let place = placed_log (whole S) records stores.well_formed in
    let to_end : GoesToEnd (stored (whole S) records number) file = subst (λ (n : ℕ). GoesToEnd (stored (whole S) records n) file) (sym is) placed in
    let offset : file.offset ≡ reach = to_end.offset ∙ ap (λ (l : List Entry). end_of no_base l % S) all ∙ placed_offset (whole S) records (shape_of (whole S) records) place in
    let room = place.room in
    let again : StoresAt (whole S) records number (shape_of (whole S) (take number records)) reach new =
    subst (λ (l : List Entry). StoresAt (whole S) records number (shape_of (whole S) l) reach new) (sym all) (record {
      well_formed = stores.well_formed;
      within = stores.within;
      laid = stores.laid;
      each = record { at = λ files image. stores.each.at files (rests_images old new rests files image) };
    }) in
    subst (λ (n : ℕ). IsReady (stored (whole S) records number) n (growing file new)) (let no_more : reach - file.offset ≡ 0 = omega (arith, offset) in no_more)
    (stored_ready (stored (whole S) records number) reach file new to_end (omega (arith, none)) (omega (arith, room)) again)

-- ---- zeros ahead

-- the same file but for where zeros are written ahead
zeros_opens : (setup : Setup) (saved : Saved) (records : List Entry) (it other : Opened) → other.core ≡ it.core → other.flusher.file.base ≡ it.flusher.file.base
    → other.flusher.file.offset ≡ it.flusher.file.offset → OpensWith setup saved records it → OpensWith setup saved records other
zeros_opens setup saved records it other same base offset opens = record {
  lawful = opens.lawful;
  represents = subst (λ (core : Parts). Represents core (opened (setup_of setup) (whole_log records) saved)) (sym same) opens.represents;
  shown = ap shown_of same ∙ opens.shown;
  placed = record { base = base ∙ opens.placed.base; offset = offset ∙ opens.placed.offset };
}

module _ (setup : Setup) (saved : Saved) (it other : Opened) (same : other.core ≡ it.core) (base : other.flusher.file.base ≡ it.flusher.file.base)
    (offset : other.flusher.file.offset ≡ it.flusher.file.offset) where
  pub zeros_over : OpensLogWith setup saved it → OpensLogWith setup saved other
  zeros_over over = record { records = over.records; opens = zeros_opens setup saved over.records it other same base offset over.opens }

  pub zeros_kept : (files : Files) → OpensKeptWith setup saved files it → OpensKeptWith setup saved files other
  zeros_kept files kept = record { records = kept.records; keeps = kept.keeps; opens = zeros_opens setup saved kept.records it other same base offset kept.opens }

  pub zeros_ours : (log : List Entry) (flushed : ℕ) (disk : DiskState) → other.flusher.file.ahead ≡ setup.segment → OpensOursWith setup saved log flushed disk it
      → OpensOursWith setup saved log flushed disk other
  zeros_ours log flushed disk ahead ours = record {
    number = ours.number;
    low = ours.low;
    high = ours.high;
    opens = zeros_opens setup saved (take ours.number log) it other same base offset ours.opens;
    ready = ready_ahead (stored (whole setup.segment) (take ours.number log) ours.number) 0 it.flusher.file other.flusher.file disk base offset (omega (arith, ahead)) ours.ready;
  }
