-- A disk that stores a log goes on to store it while it is recovered, and then stores just what was kept.
use Rattle.std.proofs.Common.{◌≡◌, ◌⊎◌, inl, ⊎_elim, ℕ, ◌+◌, ◌-◌, ◌*◌, ◌/◌, ◌%◌, ◌^◌, ◌<◌, ◌≤◌, max, List, [], take, None, refl, sym, ◌∙◌, ap, subst, arith}
use Rattle.std.proofs.lemmas.List.{take-take, length-take}
use Rattle.mq_outside.specs.Files.{Files, bytes_of}
use Rattle.mq_outside.specs.Disk.{DiskState, IsCrashImage, EachImage, Throughout, Rests}
use Rattle.mq_outside.proofs.Moments.{at_end, weaker, chained, throughout_rests}
use Rattle.record_codec.specs.Entry.{Entry}
use Rattle.log_model.specs.Bases.{Geometry}
use Rattle.log_model.specs.Log.{IsSegmentSize, end_of}
use Rattle.log_model.specs.Segments.{Shape, used, shape_of, segment_file, IsLogFile, next_segment}
use Rattle.log_model.specs.Store.{Keeps, KeepsPrefix, KeepsIfHonest, IsHonest, Stands, StoresLog}
use Rattle.log_model.proofs.Places.{placed_log}
use Rattle.log_model.proofs.FileNames.{IsNamed, is_log_file}
use Rattle.log_model.proofs.Recovery.{keeps_unique}
use Rattle.log_model.proofs.Prefixes.{keeps_prefix}
use Rattle.log_model.proofs.StoreLemmas.{stores_again}
use Rattle.log_model.specs.Stored.{stored, AreAsIn, IsOutside, StaysOutside, HasRecords}
use Rattle.log_model.proofs.OutsideLemmas.{outside_then}
use Rattle.log_recovery.specs.Recovered.{Recovered, Stays, StaysFlushed}
use Rattle.log_recovery.specs.Scan.{ReadLog}
use Rattle.log_recovery.specs.Settle.{ComesFrom, IsPruned, CutsTo, IsTrimmed, Settles, IsSettledAt}
use Rattle.log_recovery.proofs.RecoverLemmas.{ends_at, top_named, settles_here, settled_here}
use Rattle.log_recovery.proofs.KeptShapes.{EndIn, kept_reads, where_kept}
use Rattle.log_recovery.proofs.ImageLemmas.{pruned_stands, standing, reaching, trimmed_stands, settled_stands, standing_laid}

-- ---- before the files are changed

pub rests_images : (old new : DiskState) → Rests old new → (files : Files) → IsCrashImage new files → IsCrashImage old files
rests_images old new rests = (at_end rests.quiet).at

-- the disk stores the log as before
rests_stores : (S : Geometry) (log : List Entry) (flushed : ℕ) (old new : DiskState) → Rests old new → StoresLog S log flushed old → StoresLog S log flushed new
rests_stores S log flushed old new rests stores = stores_again S log flushed old new (rests_images old new rests) stores

rests_records : (S : Geometry) (log : List Entry) (flushed : ℕ) (old new : DiskState) → Rests old new → StoresLog S log flushed old → Throughout old new (HasRecords S (take flushed log))
rests_records S log flushed old new rests stores = throughout_rests rests
    (record { at = λ files image. record { shape = stores.shape; reach = stores.reach; laid = stores.at.laid; stands = stores.at.each.at files image } })

records_honest : (S : Geometry) (log : List Entry) (flushed : ℕ) (old new : DiskState) → StoresLog S log flushed old → Throughout old new (HasRecords S (take flushed log))
    → Throughout old new (KeepsIfHonest S log flushed)
records_honest S log flushed old new stores so_far = weaker so_far
    (λ files has honest. keeps_prefix S log flushed files has.shape has.reach stores.at.well_formed stores.at.within has.laid has.stands honest)

pub rests_stays : (S : Geometry) (old new : DiskState) → Rests old new → StaysFlushed S old new
rests_stays S old new rests log flushed stores _ =
    let so_far = rests_records S log flushed old new rests stores in
    record { still = rests_stores S log flushed old new rests stores; any_moment = so_far; honest = records_honest S log flushed old new stores so_far }

-- ---- files outside the log's folder

pub rests_outside : (old new : DiskState) → Rests old new → StaysOutside old new
rests_outside old new rests = record {
  reads = λ name not. ap (λ (f : Files). f name) rests.same;
  images = weaker rests.quiet (λ files image. record { before = files; image = image; same = λ name not. refl });
}

pruned_outside : (S : Geometry) (m n : ℕ) (old new : Files) (name : List ℕ) → (IsLogFile name → ⊥) → IsPruned S.size m n old new → new name ≡ old name
pruned_outside S m n old new name not pruned = ⊎_elim
    (λ (same : new name ≡ old name). same)
    (λ (gone : (new name ≡ None) × ((k : ℕ) × (m < k) × (k ≤ n) × (name ≡ segment_file S k))). absurd (not (subst IsLogFile (sym gone.1.3) (is_log_file S gone.1.0))))
    (pruned name)

trimmed_outside : (S : Geometry) (m n len : ℕ) (old new : Files) (name : List ℕ) → (IsLogFile name → ⊥) → IsTrimmed S.size m n len old new → new name ≡ old name
trimmed_outside S m n len old new name not trimmed =
    trimmed.cut.others name (λ is. not (subst IsLogFile (sym is) (is_log_file S m))) ∙ pruned_outside S m n old trimmed.mid name not trimmed.pruned

settles_reads : (S : Geometry) (m n len : ℕ) (old new : DiskState) → Settles S.size m n len old new → (name : List ℕ) → (IsLogFile name → ⊥) → new.reads name ≡ old.reads name
settles_reads S m n len old new settles name not = ⊎_elim
    (λ (pruned : IsPruned S.size m n old.reads new.reads). pruned_outside S m n old.reads new.reads name not pruned)
    (λ (trimmed : IsTrimmed S.size m n len old.reads new.reads). trimmed_outside S m n len old.reads new.reads name not trimmed)
    settles.reads

settles_images : (S : Geometry) (m n len : ℕ) (old new : DiskState) → Settles S.size m n len old new → Throughout old new (AreAsIn IsOutside old)
settles_images S m n len old new settles = weaker settles.images (λ files from. ⊎_elim
    (λ (pruned : ComesFrom (IsPruned S.size m n) old files). record { before = pruned.before; image = pruned.image; same = λ name not. pruned_outside S m n pruned.before files name not pruned.changed })
    (λ (trimmed : ComesFrom (IsTrimmed S.size m n len) old files). record { before = trimmed.before; image = trimmed.image; same = λ name not. trimmed_outside S m n len trimmed.before files name not trimmed.changed })
    from)

pub settles_outside : (S : Geometry) (m n len : ℕ) (first old new : DiskState) → Rests first old → Settles S.size m n len old new → StaysOutside first new
settles_outside S m n len first old new rests settles = outside_then (rests_outside first old rests)
    (record { reads = settles_reads S m n len old new settles; images = settles_images S m n len old new settles })

-- ---- while the files are settled

module _ (S : Geometry) (log records : List Entry) (flushed n : ℕ) (first old new : DiskState) (rests : Rests first old) (keeps : Keeps S records first.reads) (named : IsNamed S n)
    (behind : next_segment S (shape_of S records).older < n) (read : IsCrashImage first first.reads) (stores : StoresLog S log flushed first) (honest : IsHonest S log flushed first.reads) where
  prefix : KeepsPrefix S log flushed first.reads
  prefix = keeps_prefix S log flushed first.reads stores.shape stores.reach stores.at.well_formed stores.at.within stores.at.laid (stores.at.each.at first.reads read) honest

  same : records ≡ take prefix.number log
  same = keeps_unique S records (take prefix.number log) first.reads keeps prefix.keeps

  behind_kept : next_segment S (shape_of S (take prefix.number log)).older < n
  behind_kept = subst (λ (l : List Entry). next_segment S (shape_of S l).older < n) same behind

  room : used (shape_of S (take prefix.number log)) + 8 ≤ S.size
  room = (placed_log S (take prefix.number log) prefix.keeps.well_formed).room

  ends : EndIn S log flushed prefix.number stores.shape
  ends = where_kept S log flushed prefix.number stores.shape stores.reach first.reads stores.at.well_formed prefix.low prefix.high stores.at.laid (stores.at.each.at first.reads read) prefix.keeps

  pruned_on : (files : Files) → ComesFrom (IsPruned S.size (next_segment S (shape_of S records).older) n) old files → Stands S stores.shape stores.reach files
  pruned_on files from = pruned_stands S log flushed prefix.number stores.shape stores.reach n named behind_kept from.before files ends
      (stores.at.each.at from.before (rests_images first old rests from.before from.image))
      (subst (λ (l : List Entry). IsPruned S.size (next_segment S (shape_of S l).older) n from.before files) same from.changed)

  trimmed_on : (files : Files) → ComesFrom (IsTrimmed S.size (next_segment S (shape_of S records).older) n (used (shape_of S records))) old files
      → Stands S (standing S log flushed prefix.number stores.shape stores.reach n named behind_kept ends) (reaching S log flushed prefix.number stores.shape stores.reach n named behind_kept ends) files
  trimmed_on files from = trimmed_stands S log flushed prefix.number stores.shape stores.reach n named behind_kept from.before files ends room
      (stores.at.each.at from.before (rests_images first old rests from.before from.image))
      (subst (λ (l : List Entry). IsTrimmed S.size (next_segment S (shape_of S l).older) n (used (shape_of S l)) from.before files) same from.changed)

  trimmed_laid : (standing S log flushed prefix.number stores.shape stores.reach n named behind_kept ends ≡ shape_of S (take flushed log))
      ⊎ (standing S log flushed prefix.number stores.shape stores.reach n named behind_kept ends ≡ Rattle.log_model.specs.Segments.opened (shape_of S (take flushed log)))
  trimmed_laid = standing_laid S log flushed prefix.number stores.shape stores.reach n named behind_kept ends stores.at.laid

  settles_records : Settles S.size (next_segment S (shape_of S records).older) n (used (shape_of S records)) old new → Throughout first new (HasRecords S (take flushed log))
  settles_records settles = chained (rests_records S log flushed first old rests stores) (weaker settles.images (λ files from. ⊎_elim
      (λ (pruned : ComesFrom (IsPruned S.size (next_segment S (shape_of S records).older) n) old files).
      record { shape = stores.shape; reach = stores.reach; laid = stores.at.laid; stands = pruned_on files pruned })
      (λ (trimmed : ComesFrom (IsTrimmed S.size (next_segment S (shape_of S records).older) n (used (shape_of S records))) old files).
      record { shape = _; reach = _; laid = trimmed_laid; stands = trimmed_on files trimmed })
      from))

  settles_stores : Settles S.size (next_segment S (shape_of S records).older) n (used (shape_of S records)) old new → StoresLog S log flushed new
  settles_stores settles = ⊎_elim
      (λ (each : EachImage (ComesFrom (IsPruned S.size (next_segment S (shape_of S records).older) n) old) new). record {
        shape = stores.shape;
        reach = stores.reach;
        at = record { well_formed = stores.at.well_formed; within = stores.at.within; laid = stores.at.laid; each = record { at = λ files image. pruned_on files (each.at files image) } };
      })
      (λ (each : EachImage (ComesFrom (IsTrimmed S.size (next_segment S (shape_of S records).older) n (used (shape_of S records))) old) new). record {
        shape = _;
        reach = _;
        at = record { well_formed = stores.at.well_formed; within = stores.at.within; laid = trimmed_laid; each = record { at = λ files image. trimmed_on files (each.at files image) } };
      })
      settles.now

  pub settles_stays : Settles S.size (next_segment S (shape_of S records).older) n (used (shape_of S records)) old new → Stays S log flushed first new
  settles_stays settles =
      let so_far = settles_records settles in
      record { still = settles_stores settles; any_moment = so_far; honest = records_honest S log flushed first new stores so_far }

  pub settled_recovered : (end : ℕ) (before after : List Entry → Type 0) → end ≡ end_of S.base records → (before [] → after records)
      → EachImage (IsSettledAt S.size (next_segment S (shape_of S records).older) n (used (shape_of S records)) old) new → Recovered (stored S log flushed) before after new end
  settled_recovered end before after is handed each =
      let kept : List Entry = take prefix.number log in
      let again : take prefix.number kept ≡ kept = take-take prefix.number prefix.number log (omega arith) in
      record {
        number = prefix.number;
        low = prefix.low;
        high = prefix.high;
        handed = λ start. subst after same (handed start);
        ends = is ∙ ap (end_of S.base) same;
        stores = record {
          well_formed = prefix.keeps.well_formed;
          within = omega (arith, length-take prefix.number log, prefix.high);
          laid = inl (ap (shape_of S) (sym again));
          each = record {
            at = λ files image.
                let settled = each.at files image in
                let cut : CutsTo (segment_file S (next_segment S (shape_of S kept).older)) (used (shape_of S kept)) old.reads files =
                subst (λ (l : List Entry). CutsTo (segment_file S (next_segment S (shape_of S l).older)) (used (shape_of S l)) old.reads files) same settled.last in
                settled_stands S log flushed prefix.number stores.shape stores.reach n named behind_kept files ends (trimmed_on files settled.trimmed)
                (cut.bytes ∙ ap (λ (f : Files). take (used (shape_of S kept)) (bytes_of f (segment_file S (next_segment S (shape_of S kept).older)))) rests.same ∙ (kept_reads S kept first.reads prefix.keeps).last);
          };
        };
      }

-- ---- from what was read

module _ (S : Geometry) (count end : ℕ) (first old new : DiskState) (before after : List Entry → Type 0) (segment : IsSegmentSize S.size) (low : end ≤ 2 ^ 62) (each : (k : ℕ) → k < count → k * S.size < 2 ^ 63)
    (read : ReadLog S first.reads before after count end) (rests : Rests first old) (image : IsCrashImage first first.reads) where
  at : (end / S.size ≡ next_segment S (shape_of S read.records).older) × (end % S.size ≡ used (shape_of S read.records))
  at = ends_at S read.records end read.keeps.well_formed read.ends

  pub read_stays : Settles S.size (end / S.size) (max (end / S.size + 1) (count - 1)) (end % S.size) old new → StaysFlushed S first new
  read_stays settles log flushed stores honest =
      settles_stays S log read.records flushed (max (end / S.size + 1) (count - 1)) first old new rests read.keeps (top_named S end count segment low each) (omega (arith, at.0)) image stores honest
      (settles_here S end (max (end / S.size + 1) (count - 1)) (next_segment S (shape_of S read.records).older) (used (shape_of S read.records)) old new at settles)

  pub read_recovered : (log : List Entry) (flushed : ℕ) → StoresLog S log flushed first → IsHonest S log flushed first.reads
      → EachImage (IsSettledAt S.size (end / S.size) (max (end / S.size + 1) (count - 1)) (end % S.size) old) new → Recovered (stored S log flushed) before after new end
  read_recovered log flushed stores honest settled =
      settled_recovered S log read.records flushed (max (end / S.size + 1) (count - 1)) first old new rests read.keeps (top_named S end count segment low each) (omega (arith, at.0)) image stores honest end
      before after read.ends read.handed
      (settled_here S end (max (end / S.size + 1) (count - 1)) (next_segment S (shape_of S read.records).older) (used (shape_of S read.records)) old new at settled)
