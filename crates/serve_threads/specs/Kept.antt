-- What is put into the kept files while threads serve: the texts of states along one history.
use Rattle.std.specs.Prelude.{◌≡◌, ℕ, List, Option}
use Rattle.mq_outside.specs.Disk.{DiskState}
use Rattle.broker_model.specs.State.{State}
use Rattle.broker_events.specs.declared.event.Event.{Event}
use Rattle.broker_events.specs.declared.said.Said.{Said}
use Rattle.core_log.specs.declared.parts.Parts.{Parts}
use Rattle.core_log.specs.Represents.{Represents}
use Rattle.config_store.specs.Texts.{offsets_text_of, topics_text_of}
use Rattle.keeper_turns.specs.Puts.{PutsBy}
use Rattle.story_lock.specs.Counts.{StartsWith}
use Rattle.spine.specs.Stands.{Along}

-- the text of a state to which a beginning of the history leads, from each state that the first core represented
abbrev pub IsTextAlong : (State → List ℕ) → Parts → List (Event × Option Said) → List ℕ → Type 0
IsTextAlong text_of start history text =
    (part : List (Event × Option Said)) × StartsWith history part
    × ((s : State) → Represents start s → (t : State) × Along s part t × (text ≡ text_of t))

-- each of the two files has its old text or that of a state to which a beginning of the history leads
abbrev pub PutsAlong : Parts → List (Event × Option Said) → DiskState → DiskState → Type 0
PutsAlong start history old new =
    PutsBy (IsTextAlong (λ s. offsets_text_of s.offsets) start history) (IsTextAlong (λ s. topics_text_of s.topics) start history) old new
