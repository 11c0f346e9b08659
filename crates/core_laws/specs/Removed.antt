-- What removal waits for: a record on the disk settles each half message, and one delivers each delayed message.
use Rattle.std.specs.Prelude.{◌≡◌, ℕ, ◌+◌, ◌<◌, true}
use Rattle.record_codec.specs.Entry.{Entry}
use Rattle.log_model.specs.Transactions.{settles}
use Rattle.broker_model.specs.State.{State}
use Rattle.broker_model.specs.Removal.{is_delivered, flushed_records}
use Rattle.broker_model.specs.Run.{Boot, IsOfBoot}
use Rattle.broker_model.specs.Acknowledged.{StandsAt}
use Rattle.core_laws.specs.Delays.{Delivers}

-- a record on the disk, behind the one with this number, settles the origin with this queue offset
pub record IsSettledBehind (s : State) (h number : ℕ) : Type 0 where
  pub n : ℕ
  pub r : Entry
  pub behind : number < n
  pub flushed : n < s.flushed
  pub stands : StandsAt s n r
  pub settled : settles s.log.records h r ≡ true

-- A record on the disk, behind the one with this number, is the delivery of this delayed message. The queues of the delayed messages
-- are counted from 0, and their levels from 1.
pub record IsDeliveredBehind (s : State) (item : Entry) (number : ℕ) : Type 0 where
  pub n : ℕ
  pub r : Entry
  pub behind : number < n
  pub flushed : n < s.flushed
  pub stands : StandsAt s n r
  pub delivers : Delivers (item.queue + 1) item.queue_offset r

-- In this boot a state had the delayed message with this number, and its delivery on the disk.
pub record WasDelivered (b : Boot) (number : ℕ) (item : Entry) : Type 0 where
  pub state : State
  pub of : IsOfBoot b state
  pub stands : StandsAt state number item
  pub delivered : is_delivered (flushed_records state) item ≡ true
