-- What a broker keeps besides its log: tables of queues and keys, the states of origins, and the progress of levels.
use Rattle.std.specs.Prelude.{◌≡◌, ℕ, List, filter}
use Rattle.std.specs.List.{list_any}
use Rattle.std.specs.Prelude.{◌==◌}
use Rattle.record_codec.specs.Entry.{Entry}
use Rattle.log_model.specs.Numbered.{Log, records_of}
use Rattle.log_model.specs.Keys.{index_keys}
use Rattle.log_model.specs.Transactions.{TransactionState, transaction_state}
use Rattle.log_model.specs.Delays.{progress}
use Rattle.broker_model.specs.State.{State, seen}

-- the records of each queue, those of each hash of a key, what became of each origin, and the progress of each level
pub record Tables : Type 0 where
  pub queues : List ℕ → ℕ → List Entry
  pub keys : ℕ → List Entry
  pub states : ℕ → TransactionState
  pub levels : ℕ → ℕ

-- the records with this hash of a key
abbrev pub keyed_by : ℕ → List Entry → List Entry
keyed_by hash records = filter (λ r. list_any (λ k. k == hash) (index_keys r)) records

-- The tables stand for the state: queues and keys have what consumers see, origins and levels are those of the whole log.
pub record StandsFor (tables : Tables) (s : State) : Type 0 where
  pub queues : (topic : List ℕ) (queue : ℕ) → tables.queues topic queue ≡ records_of (seen s) topic queue
  pub keys : (hash : ℕ) → tables.keys hash ≡ keyed_by hash (seen s).records
  pub states : (h : ℕ) → tables.states h ≡ transaction_state s.log.records h
  pub levels : (level : ℕ) → tables.levels level ≡ progress s.log level

-- all of them are made of one log
pub record IsReplayOf (tables : Tables) (log : Log) : Type 0 where
  pub queues : (topic : List ℕ) (queue : ℕ) → tables.queues topic queue ≡ records_of log topic queue
  pub keys : (hash : ℕ) → tables.keys hash ≡ keyed_by hash log.records
  pub states : (h : ℕ) → tables.states h ≡ transaction_state log.records h
  pub levels : (level : ℕ) → tables.levels level ≡ progress log level
