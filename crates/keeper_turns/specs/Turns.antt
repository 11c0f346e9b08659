-- What a keeper turn leaves of the kept files.
use Rattle.std.specs.Prelude.{◌≡◌, ℕ, List, Result, OnOk}
use Rattle.mq_outside.specs.Disk.{DiskState}
use Rattle.broker_model.specs.State.{State}
use Rattle.core_log.specs.declared.parts.Parts.{Parts}
use Rattle.core_log.specs.Represents.{Represents}
use Rattle.config_store.specs.Texts.{offsets_text_of, topics_text_of}
use Rattle.config_store.specs.Configs.{KeepsConfig, PutsConfig}
use Rattle.keeper_turns.specs.Puts.{PutsBy, KeepsBy}

-- From old to new each of the two files has its old text or that of the state, at each moment and in each crash image; and at Ok
-- both have those of the state, also through a crash.
pub record HasKept {E : Type 0} (tells : Type 0) (s : State) (result : Result (Unit {0}) E) (old new : DiskState) : Type 0 where
  pub puts : tells → PutsConfig (offsets_text_of s.offsets) (topics_text_of s.topics) old new
  pub done : tells → OnOk result (KeepsConfig (offsets_text_of s.offsets) (topics_text_of s.topics) new)

-- the text of the offsets, or of the topics, of each state that the core represents
abbrev pub IsOffsetsOf : Parts → List ℕ → Type 0
IsOffsetsOf core text = (s : State) → Represents core s → text ≡ offsets_text_of s.offsets

abbrev pub IsTopicsOf : Parts → List ℕ → Type 0
IsTopicsOf core text = (s : State) → Represents core s → text ≡ topics_text_of s.topics

-- the same of a core: each of the two files has its old text or that of the core, and at Ok both have those of the core
pub record HasKeptOf {E : Type 0} (tells : Type 0) (core : Parts) (result : Result (Unit {0}) E) (old new : DiskState) : Type 0 where
  pub puts : tells → PutsBy (IsOffsetsOf core) (IsTopicsOf core) old new
  pub done : tells → OnOk result (KeepsBy (IsOffsetsOf core) (IsTopicsOf core) new)
