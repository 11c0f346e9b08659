-- What the generator tells of the log that it left, and its lines. In the lists of codes 32 is a space and 10 a line end.
use Rattle.std.specs.Prelude.{◌≡◌, ◌⊎◌, ℕ, ◌+◌, ◌/◌, zero, suc, List, [], ◌∷◌, ◌++◌, codes, get_or, find, option_map, Some}
use Rattle.mq_bytes.specs.Decimal.{digits_of}
use Rattle.record_codec.specs.Entry.{Entry}
use Rattle.log_model.specs.Admissible.{half_topic, level_topic}
use Rattle.log_model.specs.Delays.{progress}
use Rattle.log_model.specs.Numbered.{Log, count_of, queue_max}
use Rattle.log_model.specs.Origins.{told_state}
use Rattle.log_model.specs.Transactions.{is_origin, transaction_state}
use Rattle.log_model.specs.declared.origin.OriginState.{OriginState}
use Rattle.log_model.specs.declared.origin.OriginState.TheVariants.{Open, Committed, RolledBack}
use Rattle.gen_run.specs.declared.summary.Summary.{Summary}

-- the half message with this queue offset is an origin of which this became
abbrev pub IsOriginIn : List Entry → OriginState → ℕ → Type 0
IsOriginIn log state h = option_map (λ r. told_state (transaction_state log r.queue_offset)) (find (is_origin h) log) ≡ Some state

-- of the half messages with queue offsets below n so many are origins of which this became
abbrev pub CountsOrigins : List Entry → OriginState → ℕ → ℕ → Type 0
CountsOrigins log state zero count = count ≡ 0
CountsOrigins log state (suc n) count = (before : ℕ) × CountsOrigins log state n before
    × ((IsOriginIn log state n × (count ≡ before + 1)) ⊎ ((IsOriginIn log state n → ⊥) × (count ≡ before)))

-- how many records of this queue of the generator's topic there are
abbrev pub in_queue : Log → ℕ → ℕ
in_queue log queue = queue_max log (codes "gen") queue

-- how many half messages there are
abbrev pub half_count : Log → ℕ
half_count log = queue_max log half_topic 0

-- The numbers are those of this log, which so many items from this start on left, where so many pulls found messages.
pub record IsSummaryOf (items start found : ℕ) (log : Log) (it : Summary) : Type 0 where
  pub items_are : it.items ≡ items
  pub start_is : it.start ≡ start
  pub records : it.records ≡ count_of log
  pub queues : it.queues ≡ in_queue log 0 ∷ in_queue log 1 ∷ in_queue log 2 ∷ in_queue log 3 ∷ []
  pub halves : it.halves ≡ half_count log
  pub committed : CountsOrigins log.records Committed (half_count log) it.committed
  pub rolled_back : CountsOrigins log.records RolledBack (half_count log) it.rolled_back
  pub left_open : CountsOrigins log.records Open (half_count log) it.left_open
  pub delayed : it.delayed ≡ queue_max log level_topic 0
  pub delivered : it.delivered ≡ progress log 1
  pub found_is : it.found ≡ found

-- ---- the lines

-- a word, a space and a number
abbrev pub field : List ℕ → ℕ → List ℕ
field word number = word ++ (32 ∷ digits_of number)

-- the line of a queue
abbrev pub queue_line : ℕ → ℕ → List ℕ
queue_line queue count = field (codes "\nqueue gen") queue ++ (32 ∷ digits_of count)

-- how many of so many items pull
abbrev pub pulls_in : ℕ → ℕ
pulls_in items = (items + 1) / 10

-- the lines up to those of the queues
abbrev pub record_lines : Summary → List ℕ
record_lines it = field (codes "gen") it.items ++ (32 ∷ (digits_of it.start ++ field (codes "\nrecords") it.records))

-- those of the queues
abbrev pub queue_lines : Summary → List ℕ
queue_lines it = queue_line 0 (get_or it.queues 0 0) ++ (queue_line 1 (get_or it.queues 1 0)
    ++ (queue_line 2 (get_or it.queues 2 0) ++ queue_line 3 (get_or it.queues 3 0)))

-- the line of the half messages
abbrev pub half_line : Summary → List ℕ
half_line it = field (codes "\nhalves") it.halves ++ (field (codes " committed") it.committed
    ++ (field (codes " rolledback") it.rolled_back ++ field (codes " open") it.left_open))

-- the line of the delayed messages, and that of the pulls
abbrev pub delay_line : Summary → List ℕ
delay_line it = field (codes "\ndelayed") it.delayed ++ field (codes " delivered") it.delivered

abbrev pub pull_line : Summary → List ℕ
pull_line it = field (codes "\npulls") (pulls_in it.items) ++ field (codes " found") it.found

-- the lines after that of the half messages
abbrev pub other_lines : Summary → List ℕ
other_lines it = delay_line it ++ (pull_line it ++ codes "\nreplay equal\n")

-- the text of the generator
abbrev pub summary_text : Summary → List ℕ
summary_text it = record_lines it ++ (queue_lines it ++ (half_line it ++ other_lines it))
