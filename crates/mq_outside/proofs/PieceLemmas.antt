-- Pieces of log files that are synced.
use Rattle.std.proofs.Common.{◌≡◌, ℕ, ◌-◌, ◌≤◌, List, length, take, drop, Option, ◌∙◌, ap, length-take}
use Rattle.std.proofs.lemmas.List.{take_min}
use Rattle.mq_bytes.specs.Names.{log_file}
use Rattle.mq_outside.specs.Files.{bytes_in, bytes_of}
use Rattle.mq_outside.specs.Disk.{DiskState, EachImage, IsDurable}
use Rattle.mq_outside.specs.Pieces.{HasPiece, IsStored, stored_piece}

front_of_front : (n : ℕ) (bytes : List ℕ) → take (length (take n bytes)) bytes ≡ take n bytes
front_of_front n bytes = ap (λ (k : ℕ). take k bytes) (length-take n bytes) ∙ take_min n bytes

-- a range of a log file that every crash image has as it is read
pub stored_from_durable : (base from to : ℕ) (disk : DiskState) → from ≤ to → to ≤ length (bytes_of disk.reads (log_file base)) → IsDurable (log_file base) disk
    → IsStored base from to disk
stored_from_durable base from to disk ordered within durable = record {
  ordered = ordered;
  within = within;
  durable = λ files image.
      ap (λ (o : Option (List ℕ)). take (length (stored_piece base from to disk)) (drop from (bytes_in o))) (durable files image)
      ∙ front_of_front (to - from) (drop from (bytes_of disk.reads (log_file base)));
}

-- the bytes of such a range are in each image
pub each_has_piece : {base from to : ℕ} {disk : DiskState} → IsStored base from to disk → EachImage (HasPiece base from (stored_piece base from to disk)) disk
each_has_piece stored = record { at = stored.durable }
