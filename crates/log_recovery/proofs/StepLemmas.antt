-- What the test of the bytes in the window tells of the next record.
use Rattle.std.proofs.Common.{◌≡◌, ℕ, ◌+◌, ◌-◌, ◌≤◌, List, ◌++◌, take, drop, sym, ◌∙◌, subst, arith}
use Rattle.mq_bytes.specs.Names.{log_file}
use Rattle.mq_outside.specs.Files.{Files, bytes_of}
use Rattle.record_codec.specs.Entry.{Entry}
use Rattle.record_codec.specs.Layout.{layout, IsRecord}
use Rattle.log_model.specs.Bases.{Geometry}
use Rattle.log_model.specs.Log.{Follows}
use Rattle.log_model.specs.Segments.{used, last_bytes}
use Rattle.log_model.specs.Store.{StartsWith, IsNext}
use Rattle.log_model.proofs.Fronts.{starts_same}
use Rattle.log_recovery.specs.declared.tail.LogTail.{LogTail}
use Rattle.log_recovery.specs.declared.window.Window.{Window}
use Rattle.log_recovery.specs.Scan.{Shows, EndsBefore, Reading, Stood, NoNext}
use Rattle.log_recovery.proofs.WindowLemmas.{front_is, starts_there, stands_there}

module _ (S : Geometry) (files : Files) (read : Reading) (tail : LogTail) (file_base at : ℕ) (stood : Stood S files read tail file_base at) where
  -- where the next record has to stand
  here_is : drop (used read.shape) (last_bytes S read.shape files) ≡ drop at (bytes_of files (log_file file_base))
  here_is = λ i. drop (sym stood.here i) (bytes_of files (log_file (sym stood.begins i)))

  starts_at : (r : Entry) → IsNext S read.records files read.shape r → StartsWith (drop at (bytes_of files (log_file file_base))) r
  starts_at r next = subst (λ (l : List ℕ). StartsWith l r) here_is next.starts

  module _ (window : Window) (shown : List ℕ) (shows : Shows window (bytes_of files (log_file file_base))) (low : window.from ≤ at)
      (is : shown ≡ drop (at - window.from) (take window.held window.buffer.items)) where
    front : shown ≡ take (window.held - (at - window.from)) (drop at (bytes_of files (log_file file_base)))
    front = is ∙ front_is window (bytes_of files (log_file file_base)) at shows low

    -- no record stands in front of the window
    pub step_none : EndsBefore (bytes_of files (log_file file_base)) at S.size (window.from + window.held) → ((r : Entry) (rest : List ℕ) → IsRecord r → shown ≡ layout r ++ rest → ⊥)
        → NoNext S files read
    step_none whole none = λ r next.
        let starts = starts_at r next in
        let inside = whole r starts.rest starts.is starts.split (omega (arith, next.follows.room)) in
        let there = stands_there (bytes_of files (log_file file_base)) at (window.held - (at - window.from)) r starts (omega (arith, inside, low)) in
        none r there.0 starts.is (front ∙ there.1)

    -- this record stands there
    pub step_starts : (r : Entry) → IsRecord r × ((rest : List ℕ) × (shown ≡ layout r ++ rest)) → StartsWith (drop at (bytes_of files (log_file file_base))) r
    step_starts r found = starts_there (bytes_of files (log_file file_base)) at (window.held - (at - window.from)) r found.1.0 found.0 (sym front ∙ found.1.1)

    -- and another can't be the next one
    pub step_other : (r : Entry) → IsRecord r × ((rest : List ℕ) × (shown ≡ layout r ++ rest)) → (r.offset ≡ file_base + at → Follows S read.records r → ⊥) → NoNext S files read
    step_other r found not = λ other next.
        let same : other ≡ r = starts_same (drop at (bytes_of files (log_file file_base))) other r (starts_at other next) (step_starts r found) in
        let place : other.offset ≡ file_base + at = omega (arith, next.place, stood.begins, stood.here) in
        not (subst (λ (e : Entry). e.offset ≡ file_base + at) same place) (subst (Follows S read.records) same next.follows)

    -- or it is the next one itself
    pub step_next : (r : Entry) → IsRecord r × ((rest : List ℕ) × (shown ≡ layout r ++ rest)) → r.offset ≡ file_base + at → Follows S read.records r → IsNext S read.records files read.shape r
    step_next r found place follows = record {
      starts = subst (λ (l : List ℕ). StartsWith l r) (sym here_is) (step_starts r found);
      follows = follows;
      place = omega (arith, place, stood.begins, stood.here);
    }
