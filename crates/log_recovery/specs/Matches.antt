-- What makes a record the next one, by the numbers that are kept of a log.
use Rattle.std.specs.Prelude.{◌≡◌, ℕ, ◌+◌, ◌^◌, ◌≤◌}
use Rattle.record_codec.specs.Entry.{Entry}
use Rattle.record_codec.specs.Layout.{size}
use Rattle.log_model.specs.Log.{place_after}
use Rattle.log_model.specs.Admissible.{IsAdmissible, NamesEarlier}

-- the record's numbers are those that records up to this end leave for it, with this last store time, so many in its
-- queue and so many half messages
pub record Matches (S end time count halves : ℕ) (r : Entry) : Type 0 where
  pub place : r.offset ≡ place_after S end (size r)
  pub room : size r + 8 ≤ S
  pub low : r.offset + size r ≤ 2 ^ 62
  pub queue_offset : r.queue_offset ≡ count
  pub store : time ≤ r.store
  pub admissible : IsAdmissible S r
  pub names : NamesEarlier halves r
