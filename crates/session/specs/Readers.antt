-- What is known of the reader that replies are written by: the bytes that it gives, and when it failed.
use Rattle.std.specs.Prelude.{◌≡◌, ◌≤◌, ℕ}
use Rattle.mq_outside.specs.Counts.{Rises}
use Rattle.mq_outside.specs.Readings.{Giving}
use Rattle.mq_outside.specs.declared.faults.DiskFault.{DiskFault}
use Rattle.mq_outside.specs.declared.faults.DiskFault.TheVariants.{Failed, Memory}

-- which bytes reads of a piece give, and to which counts its count of failures rose
pub record ReaderView : Type 1 where
  pub gives : Giving
  pub failed : ℕ → Type 0

abbrev pub reader_view : Giving → (ℕ → Type 0) → ReaderView
reader_view gives failed = record { gives = gives; failed = failed }

-- the same of one call, before which the count was this: it has risen
abbrev pub risen_from : Giving → ℕ → ReaderView
risen_from gives before = reader_view gives (λ count. Rises before count)

-- Between these two states of a reader there was a moment at which its count of failures rose to this one.
pub record FailedAt {R : Type 0} (faults : R → ℕ) (old new : R) (count : ℕ) : Type 0 where
  pub before : R
  pub after : R
  pub low : faults old ≤ faults before
  pub rose : Rises (faults before) (faults after)
  pub is : count ≡ faults after
  pub high : faults after ≤ faults new

-- what is known of a reader that went from the one to the other
abbrev pub reads_between : {R : Type 0} → Giving → (R → ℕ) → R → R → ReaderView
reads_between gives faults old new = reader_view gives (FailedAt faults old new)

-- the count of a reader of this kind can rise to this one
abbrev pub HasFailed : {R : Type 0} → (R → ℕ) → ℕ → Type 0
HasFailed {R} faults count = (old : R) × (new : R) × FailedAt faults old new count

-- what is known of the readers of a kind, at all times
unfoldable pub reads_of : {R : Type 0} → Giving → (R → ℕ) → ReaderView
reads_of gives faults = reader_view gives (HasFailed faults)

-- why a reply can't be written: the reader failed, by its count; or there is no memory
abbrev pub HasCause : ReaderView → DiskFault → ℕ → Type 0
HasCause reader Failed count = reader.failed count
HasCause reader Memory count = Unit {0}
