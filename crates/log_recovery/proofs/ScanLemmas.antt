-- The reading of one file after another.
use Rattle.std.proofs.Common.{◌≡◌, ◌⊎◌, inl, inr, ⊎_elim, ℕ, zero, suc, ◌+◌, ◌*◌, ◌^◌, ◌<◌, ◌≤◌, List, [], ◌∷◌, ◌++◌, take, refl, sym, ◌∙◌, ap, subst, arith}
use Rattle.std.specs.Prelude.{Result, Ok, Err}
use Rattle.std.specs.Result.{IsErrAnd}
use Rattle.std.proofs.lemmas.Bool.{cases_eq, cases_order}
use Rattle.std.proofs.Math.Nat.{mul-lt-mul_of_pos_right}
use Rattle.mq_bytes.specs.Names.{log_file}
use Rattle.mq_outside.specs.Files.{Files, bytes_of}
use Rattle.record_codec.specs.Entry.{Entry}
use Rattle.log_model.specs.Bases.{Geometry, first_segment}
use Rattle.log_model.specs.Log.{IsSegmentSize, IsGeometry}
use Rattle.log_model.specs.Segments.{layouts, empty_shape, added, opened, segment_file, last_name, last_bytes, next_segment}
use Rattle.log_model.specs.Store.{EndsInBlank, ComesNext, IsDamagedAt}
use Rattle.log_model.proofs.Places.{next_low, used_push}
use Rattle.log_recovery.specs.declared.tail.LogTail.{LogTail}
use Rattle.log_recovery.specs.declared.fault.RecoverFault.{RecoverFault}
use Rattle.log_recovery.specs.declared.fault.RecoverFault.TheVariants.{Damaged, Failed, Memory}
use Rattle.log_recovery.specs.Recovered.{OnDamage}
use Rattle.log_recovery.specs.Names.{AreNamed, NoFurther, IsOdd}
use Rattle.log_recovery.specs.Scan.{StandsIn, Reading, Onward, Stood, StepsTo, Stops, Scanned, ScansTo, Opened, ReadLog}
use Rattle.log_recovery.proofs.WindowLemmas.{long_enough}
use Rattle.log_recovery.proofs.ReadLemmas.{reads_start, reads_room, reads_more, reads_ended, damaged_there, damaged_name, reads_keep, keep_number, none_keep}

-- ---- one file

module _ (S : Geometry) (files : Files) (done : List Entry) (tail next : LogTail) (file_base : ℕ) (before mid after : List Entry → Type 0) (at n : ℕ) (scanned : Scanned S files tail file_base (Onward before mid done) at)
    (step : StepsTo S files scanned.read next (Onward mid after scanned.read.records) n ⊎ Stops S files scanned.read next (Onward mid after scanned.read.records) n) where
  -- no record comes
  pub scan_end : n ≡ 0 → ScansTo S files next file_base (Onward before after done) at
  scan_end none = ⊎_elim
      (λ (steps : StepsTo S files scanned.read next (Onward mid after scanned.read.records) n). absurd (omega (arith, none, steps.long, long_enough steps.r)))
      (λ (stops : Stops S files scanned.read next (Onward mid after scanned.read.records) n). record {
        scanned = record {
          read = scanned.read;
          stood = record { reads = scanned.stood.reads; left = stops.left; begins = scanned.stood.begins; here = scanned.stood.here; low = scanned.stood.low };
          handed = λ start. stops.handed (scanned.handed start);
        };
        ends = stops.ends;
      })
      step

  -- one record more
  pub scan_more : (n ≡ 0 → ⊥) → Scanned S files next file_base (Onward before after done) (at + n)
  scan_more some = ⊎_elim
      (λ (steps : StepsTo S files scanned.read next (Onward mid after scanned.read.records) n). record {
        read = record { records = scanned.read.records ++ steps.r ∷ []; shape = added scanned.read.shape (steps.r ∷ []) };
        stood = record {
          reads = reads_more S scanned.read.records scanned.read.shape files steps.r scanned.stood.reads steps.next;
          left = steps.left;
          begins = scanned.stood.begins;
          here = omega (arith, scanned.stood.here, steps.long, used_push scanned.read.shape steps.r);
          low = scanned.stood.low;
        };
        handed = λ start. steps.handed (scanned.handed start);
      })
      (λ (stops : Stops S files scanned.read next (Onward mid after scanned.read.records) n). absurd (some stops.none))
      step

-- nothing is read yet
pub scan_start : (S : Geometry) (files : Files) (read : Reading) (tail : LogTail) (file_base : ℕ) (before : List Entry → Type 0) → Stood S files read tail file_base 0
    → Scanned S files tail file_base (Onward before before read.records) 0
scan_start S files read tail file_base before stood = record { read = read; stood = stood; handed = λ start. start }

-- the records of a file can't fill its segment
pub scan_full : (S : Geometry) (files : Files) (tail : LogTail) (file_base : ℕ) (handed_on : List Entry → Type 0) (at : ℕ) → Scanned S files tail file_base handed_on at → S.size ≤ at
    → ScansTo S files tail file_base handed_on at
scan_full S files tail file_base handed_on at scanned full =
    absurd (omega (arith, full, scanned.stood.here, reads_room S scanned.read.records scanned.read.shape files scanned.stood.reads))

-- ---- a file behind which another stands

-- the bytes of the file in which the records stand
pub stood_bytes : (S : Geometry) (files : Files) (read : Reading) (tail : LogTail) (file_base at : ℕ) → Stood S files read tail file_base at
    → bytes_of files (log_file file_base) ≡ last_bytes S read.shape files
stood_bytes S files read tail file_base at stood = ap (λ (n : ℕ). bytes_of files (log_file n)) stood.begins

pub stood_front : (S : Geometry) (files : Files) (read : Reading) (tail : LogTail) (file_base at : ℕ) → Stood S files read tail file_base at
    → take at (bytes_of files (log_file file_base)) ≡ layouts read.shape.last
stood_front S files read tail file_base at stood = (λ i. take (stood.here i) (stood_bytes S files read tail file_base at stood i)) ∙ stood.reads.last

number_of : (S : Geometry) (a b : ℕ) → 0 < S.size → a * S.size ≡ b * S.size → a ≡ b
number_of S a b some same = ⊎_elim
    (λ (is : a ≡ b). is)
    (λ order. ⊎_elim
    (λ (less : a < b). absurd (omega (arith, same, mul-lt-mul_of_pos_right less some)))
    (λ (more : b < a). absurd (omega (arith, same, mul-lt-mul_of_pos_right more some)))
    order)
    (cases_order a b)

module _ (S : Geometry) (files : Files) (read : Reading) (first tail : LogTail) (file_base : ℕ) (handed_on : List Entry → Type 0) (at : ℕ) (stood : Stood S files read first file_base 0)
    (to : ScansTo S files tail file_base handed_on at) where
  -- the file is still the same
  here_number : next_segment S to.scanned.read.shape.older ≡ next_segment S read.shape.older
  here_number = number_of S (next_segment S to.scanned.read.shape.older) (next_segment S read.shape.older) (omega (arith, stood.reads.well_formed.segment.low)) (sym to.scanned.stood.begins ∙ stood.begins)

  here_name : log_file file_base ≡ last_name S to.scanned.read.shape
  here_name = ap log_file to.scanned.stood.begins

  -- a blank ends it, and the next file is to be read
  pub file_ended : ComesNext S (next_segment S read.shape.older) files (log_file file_base) → EndsInBlank S to.scanned.read.shape.last (bytes_of files (log_file file_base))
      → Opened S files (next_segment S read.shape.older + 1) tail handed_on
  file_ended next ended = record {
    read = record { records = to.scanned.read.records; shape = opened to.scanned.read.shape };
    reads = reads_ended S to.scanned.read.records to.scanned.read.shape files to.scanned.stood.reads (omega (arith, to.scanned.stood.low, to.scanned.stood.begins))
        (subst (ComesNext S (next_segment S to.scanned.read.shape.older) files) here_name (subst (λ (n : ℕ). ComesNext S n files (log_file file_base)) (sym here_number) next))
        (subst (EndsInBlank S to.scanned.read.shape.last) (ap (λ (n : List ℕ). bytes_of files n) here_name) ended);
    left = to.scanned.stood.left;
    so_many = omega (arith, here_number);
    starts = refl;
    handed = to.scanned.handed;
  }

  -- or it is damaged where its records end
  pub file_broken : (behind : List ℕ) → ComesNext S (next_segment S read.shape.older) files (log_file file_base) → ComesNext S (next_segment S read.shape.older + 1) files behind
      → (EndsInBlank S to.scanned.read.shape.last (bytes_of files (log_file file_base)) → ⊥) → IsDamagedAt S files (file_base + at) (log_file file_base)
  file_broken behind next further full = damaged_there S to.scanned.read.records to.scanned.read.shape files (file_base + at) (log_file file_base) behind to.scanned.stood.reads
      (omega (arith, to.scanned.stood.low, to.scanned.stood.begins)) here_name
      (subst (λ (n : ℕ). ComesNext S n files (log_file file_base)) (sym here_number) next)
      (subst (λ (n : ℕ). ComesNext S (n + 1) files behind) (sym here_number) further)
      (omega (arith, to.scanned.stood.begins, to.scanned.stood.here)) to.ends
      (λ ended. full (subst (EndsInBlank S to.scanned.read.shape.last) (sym (ap (λ (n : List ℕ). bytes_of files n) here_name)) ended))

-- ---- one file after another

-- before the first file
pub front_start : (S : Geometry) (files : Files) (tail : LogTail) (before : List Entry → Type 0) → IsGeometry S → StandsIn S tail [] → Opened S files (first_segment S) tail (Onward before before [])
front_start S files tail before segment left = record {
  read = record { records = []; shape = empty_shape };
  reads = reads_start S files segment;
  left = left;
  so_many = refl;
  starts = refl;
  handed = λ start. start;
}

-- at the front of the next file
pub front_stood : (S : Geometry) (i file_base : ℕ) (files : Files) (tail : LogTail) (handed_on : List Entry → Type 0) → (so_far : Opened S files i tail handed_on) → file_base ≡ i * S.size → file_base < 2 ^ 63
    → Stood S files so_far.read tail file_base 0
front_stood S i file_base files tail handed_on so_far is low = record {
  reads = so_far.reads;
  left = so_far.left;
  begins = is ∙ ap (λ (n : ℕ). n * S.size) (sym so_far.so_many);
  here = sym so_far.starts;
  low = low;
}

-- and behind it
pub front_more : (S : Geometry) (i : ℕ) (files : Files) (done : List Entry) (tail next : LogTail) (before mid after : List Entry → Type 0) → (so_far : Opened S files i tail (Onward before mid done))
    → Opened S files (next_segment S so_far.read.shape.older + 1) next (Onward mid after so_far.read.records) → Opened S files (i + 1) next (Onward before after done)
front_more S i files done tail next before mid after so_far more = record {
  read = more.read;
  reads = more.reads;
  left = more.left;
  so_many = omega (arith, more.so_many, so_far.so_many);
  starts = more.starts;
  handed = λ start. more.handed (so_far.handed start);
}

-- the next file comes next
pub front_next : (S : Geometry) (i file_base count : ℕ) (files : Files) (tail : LogTail) (handed_on : List Entry → Type 0) → (so_far : Opened S files i tail handed_on) → file_base ≡ i * S.size → i < count → AreNamed S count files
    → ComesNext S (next_segment S so_far.read.shape.older) files (log_file file_base)
front_next S i file_base count files tail handed_on so_far is low named =
    subst (λ (n : ℕ). ComesNext S n files (log_file file_base)) (sym so_far.so_many) (subst (λ (n : ℕ). ComesNext S i files (log_file n)) (sym is) (named i (omega (arith, so_far.so_many, next_low S so_far.read.shape.older)) low).1)

-- and one more comes behind it
pub front_behind : (S : Geometry) (i count : ℕ) (files : Files) (tail : LogTail) (handed_on : List Entry → Type 0) (behind : List ℕ) → (so_far : Opened S files i tail handed_on) → i < count
    → AreNamed S count files → ComesNext S count files behind → (other : List ℕ) × ComesNext S (next_segment S so_far.read.shape.older + 1) files other
front_behind S i count files tail handed_on behind so_far low named further = ⊎_elim
    (λ (last : i + 1 ≡ count). (behind, subst (λ (n : ℕ). ComesNext S n files behind) (sym last ∙ ap (λ (n : ℕ). n + 1) (sym so_far.so_many)) further))
    (λ (other : i + 1 ≡ count → ⊥). (segment_file S (i + 1), subst (λ (n : ℕ). ComesNext S n files (segment_file S (i + 1))) (ap (λ (n : ℕ). n + 1) (sym so_far.so_many)) (named (i + 1) (omega (arith, so_far.so_many, next_low S so_far.read.shape.older)) (omega (arith, low, other))).1))
    (cases_eq (i + 1) count)

-- ---- all files

-- the last file too was read
pub all_read : (S : Geometry) (last : ℕ) (files : Files) (tail next : LogTail) (before mid after : List Entry → Type 0) (file_base at : ℕ) → (so_far : Opened S files last tail (Onward before mid [])) → file_base ≡ last * S.size
    → AreNamed S (last + 1) files → NoFurther S (last + 1) files → ScansTo S files next file_base (Onward mid after so_far.read.records) at → ReadLog S files before after (last + 1) next.end
all_read S last files tail next before mid after file_base at so_far is named all to =
    let number : next_segment S to.scanned.read.shape.older ≡ last =
    number_of S (next_segment S to.scanned.read.shape.older) last (omega (arith, so_far.reads.well_formed.segment.low)) (sym to.scanned.stood.begins ∙ is) in
    record {
      records = to.scanned.read.records;
      keeps = reads_keep S last to.scanned.read.records to.scanned.read.shape files to.scanned.stood.reads number named all to.ends;
      handed = λ start. to.scanned.handed (so_far.handed start);
      ends = to.scanned.stood.left.stands.end;
      named = named;
      all = all;
      last = inr (omega (arith, number, keep_number S last to.scanned.read.records to.scanned.read.shape files to.scanned.stood.reads number named all to.ends));
    }

-- there is no file
pub none_read : (S : Geometry) (files : Files) (tail : LogTail) (before : List Entry → Type 0) → IsGeometry S → StandsIn S tail [] → AreNamed S (first_segment S) files → NoFurther S (first_segment S) files → ReadLog S files before before (first_segment S) tail.end
none_read S files tail before segment left named all = record {
  records = [];
  keeps = none_keep S files segment all;
  handed = λ start. start;
  ends = left.stands.end;
  named = named;
  all = all;
  last = inl (refl, refl);
}

-- a file of another name stands behind them
pub odd_damaged : (S : Geometry) (count : ℕ) (files : Files) (tail : LogTail) (handed_on : List Entry → Type 0) (place : ℕ) (name : List ℕ) → (so_far : Opened S files count tail handed_on) → IsOdd S count files name
    → place ≡ count * S.size → IsDamagedAt S files place name
odd_damaged S count files tail handed_on place name so_far odd here = damaged_name S so_far.read.records so_far.read.shape files count place name so_far.reads so_far.starts so_far.so_many odd here

-- what is told as damage
pub on_damage : (A : Type 0) (fault : RecoverFault) (place : ℕ) (name : List ℕ) (P : ℕ → List ℕ → Type 0) → fault ≡ Damaged place name → P place name → OnDamage {A = A} (Err fault) P
on_damage A fault place name P is holds = subst (λ (f : RecoverFault). OnDamage {A = A} (Err f) P) (sym is) holds

same_damage : (A B : Type 0) (fault : RecoverFault) (P : ℕ → List ℕ → Type 0) → OnDamage {A = B} (Err fault) P → OnDamage {A = A} (Err fault) P
same_damage A B (Damaged place name) P told = told
same_damage A B Failed P told = tt
same_damage A B Memory P told = tt

-- and passed on
pub passed_on : (A B : Type 0) (result : Result A RecoverFault) (fault : RecoverFault) (P : ℕ → List ℕ → Type 0) → IsErrAnd result (λ e. e ≡ fault) → OnDamage {A = B} (Err fault) P → OnDamage {A = A} result P
passed_on A B (Ok x) fault P is told = absurd is
passed_on A B (Err e) fault P is told = subst (λ (f : RecoverFault). OnDamage {A = A} (Err f) P) (sym is) (same_damage A B fault P told)

-- where the file behind the first ones would begin
pub count_low : (S : Geometry) (count : ℕ) → IsSegmentSize S.size → ((k : ℕ) → k < count → k * S.size < 2 ^ 63) → count * S.size < 2 ^ 64
count_low S zero segment each = omega arith
count_low S (suc last) segment each =
    let step : suc last * S.size ≡ last * S.size + S.size = omega arith in
    omega (arith, step, each last (omega arith), segment.high)
