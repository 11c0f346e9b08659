-- Halves, their copies, and the Commits that make them.
use Rattle.std.specs.Prelude.{◌≡◌, ◌⊎◌, ℕ, ◌<◌, ◌||◌, Bool, true, false, Some}
use Rattle.record_codec.specs.Entry.{Entry}
use Rattle.log_model.specs.Drafts.{copy_draft}
use Rattle.log_model.specs.Numbered.{next_record}
use Rattle.log_model.specs.Transactions.{Open, Committed, RolledBack, transaction_state, is_origin, is_renewal, copies_it}
use Rattle.request_fields.specs.Requests.{EndSaid}
use Rattle.request_fields.specs.declared.request.Request.TheVariants.{EndTransaction}
use Rattle.broker_model.specs.State.{State}
use Rattle.broker_model.specs.Events
use Rattle.broker_model.specs.Appended.{is_refused, moment}
use Rattle.broker_model.specs.Refusals.{named_half, verdict_origin}
use Rattle.broker_model.specs.Run.{Boot, Move, Steps, SavesOffsets, SavesTopics, SavesBase, Crashes}
use Rattle.broker_model.specs.Acknowledged.{StandsAt, is_verdict_on}

-- a half message of the origin's family: the origin itself, or a renewal of it
abbrev pub in_family : ℕ → Entry → Bool
in_family h r = is_origin h r || is_renewal h r

-- The event is a Commit, carried out, of a half message on an origin that is open; this is the half, and this its origin.
pub record IsCommitOf (s : State) (e : Events.Event) (half origin : Entry) : Type 0 where
  pub asked : Events.Asked
  pub end : EndSaid
  pub is : e ≡ Events.Asks asked
  pub request : asked.request ≡ EndTransaction end
  pub verdict : end.verdict ≡ 8
  pub named : named_half s end ≡ Some half
  pub judged : verdict_origin s end ≡ Some origin
  pub family : in_family origin.queue_offset half ≡ true
  pub was_open : transaction_state s.log.records origin.queue_offset ≡ Open
  pub fine : is_refused s e ≡ false

-- the record is the copy that such a Commit makes
pub record IsMadeByCommit (s : State) (e : Events.Event) (r : Entry) : Type 0 where
  pub half : Entry
  pub origin : Entry
  pub commit : IsCommitOf s e half origin
  pub made : r ≡ next_record s.setup.segment (moment s e) s.log (copy_draft s.setup.host half)

-- the move is no accepted Commit on the origin with this queue offset
abbrev pub NoCommitOn : ℕ → Boot → Move → Boot → Type 0
NoCommitOn h b (Steps e said) c = is_verdict_on b.now h 8 e ≡ false
NoCommitOn h b SavesOffsets c = Unit {0}
NoCommitOn h b SavesTopics c = Unit {0}
NoCommitOn h b (SavesBase base) c = Unit {0}
NoCommitOn h b (Crashes k setup) c = Unit {0}

-- the record with this number is a copy of a half message of the family
pub record IsCopyAt (s : State) (h n : ℕ) (copy : Entry) : Type 0 where
  pub stands : StandsAt s n copy
  pub copies : copies_it s.log.records h copy ≡ true

-- the origin with this queue offset and this number is committed, or was removed with its segment
abbrev pub IsCommittedOrRemoved : State → ℕ → ℕ → Type 0
IsCommittedOrRemoved s h i = (i < s.log.base.records) ⊎ (transaction_state s.log.records h ≡ Committed)

-- it is rolled back, or was removed with its segment
abbrev pub IsRolledBackOrRemoved : State → ℕ → ℕ → Type 0
IsRolledBackOrRemoved s h i = (i < s.log.base.records) ⊎ (transaction_state s.log.records h ≡ RolledBack)

-- the origin with this queue offset stood in the first state, and in the later one it is rolled back or was removed
abbrev pub StaysRolledBack : State → State → ℕ → Type 0
StaysRolledBack asked later h =
    (i : ℕ) × (origin : Entry) × StandsAt asked i origin × (is_origin h origin ≡ true) × IsRolledBackOrRemoved later h i
