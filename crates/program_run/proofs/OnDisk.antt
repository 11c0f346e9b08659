-- Where a record stands on the disk once it is flushed.
use Rattle.std.proofs.Common.{◌≡◌, ℕ, ◌+◌, ◌<◌, ◌≤◌, ◌++◌, List, Some, slice_get, refl, sym, subst, arith}
use Rattle.mq_outside.specs.Disk.{DiskState}
use Rattle.mq_outside.specs.Files.{Files}
use Rattle.record_codec.specs.Entry.{Entry}
use Rattle.log_model.specs.Bases.{Geometry}
use Rattle.log_model.specs.Log.{IsWellFormed}
use Rattle.log_model.specs.Store.{KeepsIfHonest, StandsAtPlace}
use Rattle.log_model.specs.Stored.{FlushTurn, HasFirst, turned_by, turned_in}
use Rattle.log_model.proofs.Standing.{flushed_stand}
use Rattle.log_model.proofs.StoredLemmas.{first_keeps, first_stores, has_less}
use Rattle.flush_story.specs.Keeping.{AreInOrder}
use Rattle.program_run.specs.Acknowledged.{last_moment}
use Rattle.program_run.proofs.Moments.{order_first, order_low, turned_front}

-- a disk that has these files alone, whatever crashes
abbrev holding : Files → DiskState
holding files = record { reads = files; moment = 0; image_at = λ m image. image ≡ files; fresh = λ name from n. ⊥ }

-- where the files have the first records of a log, each of these stands at its place
pub first_stand : (S : Geometry) (log : List Entry) (least number : ℕ) (files : Files) (r : Entry) → IsWellFormed S log → HasFirst S log least files → number < least
    → slice_get log number ≡ Some r → StandsAtPlace S files r
first_stand S log least number files r well first low is =
    let stored = first_stores S log least files (holding files) well first (record { at = λ image there. there }) in
    (flushed_stand S log stored.number number r (holding files) stored.stores (omega (arith, low, stored.low)) is).at files refl

-- A record that the first of these turns flushed stands at its place from the last of them on, and recovery keeps it.
module _ (S : Geometry) (log : List Entry) (opened opening : ℕ) (turns first later : List FlushTurn) (disk : DiskState) (number : ℕ) (r : Entry) (well : IsWellFormed S log)
    (are : turns ≡ first ++ later) (order : AreInOrder opening turns disk.moment)
    (leaves : (m : ℕ) (files : Files) → opening ≤ m → m ≤ disk.moment → disk.image_at m files → HasFirst S log (opened + turned_by turns m) files)
    (is : slice_get log number ≡ Some r) (flushed : number < opened + turned_in first) where
  in_parts : AreInOrder opening (first ++ later) disk.moment
  in_parts = subst (λ (l : List FlushTurn). AreInOrder opening l disk.moment) are order

  begins : opening ≤ last_moment opening first
  begins = order_low opening (last_moment opening first) first (order_first opening disk.moment first later in_parts)

  enough : (m : ℕ) → last_moment opening first ≤ m → number + 1 ≤ opened + turned_by turns m
  enough m low =
      let here = turned_front opening disk.moment m first later in_parts low in
      let there = subst (λ (l : List FlushTurn). turned_in first ≤ turned_by l m) (sym are) here in
      omega (arith, flushed, there)

  pub turned_stands : (m : ℕ) (files : Files) → last_moment opening first ≤ m → m ≤ disk.moment → disk.image_at m files → StandsAtPlace S files r
  turned_stands m files low high image =
      first_stand S log (opened + turned_by turns m) number files r well (leaves m files (omega (arith, begins, low)) high image) (omega (arith, enough m low)) is

  pub turned_keeps : (m : ℕ) (files : Files) → last_moment opening first ≤ m → m ≤ disk.moment → disk.image_at m files → KeepsIfHonest S log (number + 1) files
  turned_keeps m files low high image = first_keeps S log (number + 1) files well
      (has_less S log (opened + turned_by turns m) (number + 1) files (enough m low) (leaves m files (omega (arith, begins, low)) high image))
