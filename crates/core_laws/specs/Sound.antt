-- What every state of a run has, and how a later state of it stands to an earlier one.
use Rattle.std.specs.Prelude.{◌≡◌, ℕ, ◌+◌, ◌<◌, ◌≤◌, List, ◌++◌, take, drop, length}
use Rattle.record_codec.specs.Entry.{Entry}
use Rattle.log_model.specs.Numbered.{count_of}
use Rattle.broker_model.specs.State.{State}
use Rattle.broker_model.specs.Lawful.{IfOut}
use Rattle.broker_model.specs.Removal.{IsBaseAfter}
use Rattle.broker_model.specs.Run.{Boot, IsAmong}
use Rattle.broker_model.specs.Acknowledged.{StandsOrRemoved}

-- The numbers stand in order, the saved base counts some of the dispatched records, and the batch that is out is pending.
pub record IsSound (s : State) : Type 0 where
  pub ahead : ℕ
  pub saved : IsBaseAfter s.log.base (take ahead s.log.records) s.saved.base
  pub within : s.log.base.records + ahead ≤ s.dispatched
  pub dispatched : s.dispatched ≤ s.flushed
  pub flushed : s.flushed ≤ count_of s.log
  pub out : IfOut s.out (λ o. s.flushed + o.count ≤ count_of s.log)

-- In the same boot some records were appended and some removed from the front, and no number fell.
pub record Grows (p s : State) : Type 0 where
  pub more : List Entry
  pub gone : ℕ
  pub low : gone ≤ length p.log.records + length more
  pub base : IsBaseAfter p.log.base (take gone (p.log.records ++ more)) s.log.base
  pub log : s.log.records ≡ drop gone (p.log.records ++ more)
  pub flushed : p.flushed ≤ s.flushed
  pub dispatched : p.dispatched ≤ s.dispatched

-- In the same run no number fell, and each record that was on the disk stands at its number or was removed.
pub record Keeps (p s : State) : Type 0 where
  pub records : p.log.base.records ≤ s.log.base.records
  pub flushed : p.flushed ≤ s.flushed
  pub dispatched : p.dispatched ≤ s.dispatched
  pub stays : (n : ℕ) (r : Entry) → n < p.flushed → StandsOrRemoved p n r → StandsOrRemoved s n r

-- the state is sound, and the earlier ones of the boot grow into it
pub record IsSoundBoot (b : Boot) : Type 0 where
  pub state : IsSound b.now
  pub earlier : (p : State) → IsAmong b.before p → Grows p b.now
