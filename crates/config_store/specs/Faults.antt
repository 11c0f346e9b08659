-- When the two kept files aren't loaded.
use Rattle.std.specs.Prelude.{◌≡◌, ◌⊎◌, ℕ, List, Result, Ok, Err}
use Rattle.mq_outside.specs.Counts.{Rises}
use Rattle.mq_outside.specs.Files.{Files}
use Rattle.broker_model.specs.Tables.{TopicRow, OffsetRow}
use Rattle.config_store.specs.declared.config.ConfigFault.{ConfigFault}
use Rattle.config_store.specs.declared.config.ConfigFault.TheVariants.{BadText, Failed, Memory}
use Rattle.config_store.specs.Configs.{OFFSETS, TOPICS, HasOffsets, HasTopics}

-- where the answer is that the text of a name is bad, this holds of the name
abbrev pub OnBadText : {A : Type 0} → Result A ConfigFault → (List ℕ → Type 0) → Type 0
OnBadText (Ok a) P = Unit {0}
OnBadText (Err (BadText name)) P = P name.now
OnBadText (Err Failed) P = Unit {0}
OnBadText (Err Memory) P = Unit {0}

-- the name is that of the offsets, and no rows have its text
pub record IsNoOffsets (texts : Files) (name : List ℕ) : Type 0 where
  pub named : name ≡ OFFSETS
  pub none : (rows : List OffsetRow) → HasOffsets (texts OFFSETS) rows → ⊥

-- the name is that of the topics, and no rows have its text
pub record IsNoTopics (texts : Files) (name : List ℕ) : Type 0 where
  pub named : name ≡ TOPICS
  pub none : (rows : List TopicRow) → HasTopics (texts TOPICS) rows → ⊥

-- the file of this name has no rows' text
abbrev pub IsBadText : Files → List ℕ → Type 0
IsBadText texts name = IsNoOffsets texts name ⊎ IsNoTopics texts name

-- the count rises exactly at Failed
abbrev pub CountsConfigFault : {A : Type 0} → Result A ConfigFault → ℕ → ℕ → Type 0
CountsConfigFault (Ok a) old new = new ≡ old
CountsConfigFault (Err (BadText name)) old new = new ≡ old
CountsConfigFault (Err Failed) old new = Rises old new
CountsConfigFault (Err Memory) old new = new ≡ old
