-- The two files once they were replaced, or as they were.
use Rattle.std.proofs.Common.{◌≡◌, inl, refl, subst, List, ℕ, Result, Ok, Err, OnOk}
use Rattle.mq_outside.proofs.Moments.{at_start}
use Rattle.mq_outside.specs.Files.{Files}
use Rattle.mq_outside.specs.Disk.{DiskState}
use Rattle.broker_model.specs.State.{State}
use Rattle.core_log.specs.declared.parts.Parts.{Parts}
use Rattle.core_log.specs.Represents.{Represents}
use Rattle.config_store.specs.Texts.{offsets_text_of, topics_text_of}
use Rattle.config_store.specs.Configs.{KeepsConfig, PutsConfig, Replaces, IsImageReplaced}
use Rattle.keeper_turns.specs.Puts.{KeepsBy}
use Rattle.keeper_turns.specs.Turns.{HasKept, HasKeptOf, IsOffsetsOf, IsTopicsOf}
use Rattle.keeper_turns.proofs.PutLemmas.{puts_none, puts_one, keeps_one}

-- they were replaced by these texts, which are the state's
pub kept_as : {E : Type 0} (tells : Type 0) (s : State) (offsets topics : List ℕ) (result : Result (Unit {0}) E) (old new : DiskState) → offsets ≡ offsets_text_of s.offsets → topics ≡ topics_text_of s.topics
    → (tells → PutsConfig offsets topics old new) → (tells → OnOk result (KeepsConfig offsets topics new)) → HasKept tells s result old new
kept_as tells s offsets topics result old new offsets_are topics_are puts done = record {
  puts = λ told. subst (λ (text : List ℕ). PutsConfig text (topics_text_of s.topics) old new) offsets_are
      (subst (λ (text : List ℕ). PutsConfig offsets text old new) topics_are (puts told));
  done = λ told. subst (λ (text : List ℕ). OnOk result (KeepsConfig text (topics_text_of s.topics) new)) offsets_are
      (subst (λ (text : List ℕ). OnOk result (KeepsConfig offsets text new)) topics_are (done told));
}

-- what changes nothing
none_replaced : (offsets topics : List ℕ) (files : Files) → Replaces offsets topics files files
none_replaced offsets topics files = record { offsets_are = inl refl; topics_are = inl refl; others = λ name not_offsets not_topics. refl }

pub puts_nothing : (offsets topics : List ℕ) (keep : DiskState) → PutsConfig offsets topics keep keep
puts_nothing offsets topics keep = record {
  reads = none_replaced offsets topics keep.reads;
  at_each = at_start keep (IsImageReplaced offsets topics keep) (record { at = λ files image. (files, image, none_replaced offsets topics files) });
}

-- nothing was replaced
pub kept_none : {E : Type 0} (tells : Type 0) (s : State) (fault : E) (keep : DiskState) → HasKept tells s (Err fault) keep keep
kept_none tells s fault keep = record { puts = λ told. puts_nothing (offsets_text_of s.offsets) (topics_text_of s.topics) keep; done = λ told. tt }

-- ---- the same of a core

keeps_if : {E : Type 0} (core : Parts) (offsets topics : List ℕ) (result : Result (Unit {0}) E) (keep : DiskState) → IsOffsetsOf core offsets → IsTopicsOf core topics
    → OnOk result (KeepsConfig offsets topics keep) → OnOk result (KeepsBy (IsOffsetsOf core) (IsTopicsOf core) keep)
keeps_if core offsets topics (Ok done) keep p q keeps = keeps_one (IsOffsetsOf core) (IsTopicsOf core) offsets topics keep p q keeps
keeps_if core offsets topics (Err fault) keep p q keeps = tt

pub seen_as : {E : Type 0} (tells : Type 0) (core : Parts) (offsets topics : List ℕ) (result : Result (Unit {0}) E) (old new : DiskState) → IsOffsetsOf core offsets → IsTopicsOf core topics
    → (tells → PutsConfig offsets topics old new) → (tells → OnOk result (KeepsConfig offsets topics new)) → HasKeptOf tells core result old new
seen_as tells core offsets topics result old new p q puts done = record {
  puts = λ told. puts_one (IsOffsetsOf core) (IsTopicsOf core) offsets topics old new p q (puts told);
  done = λ told. keeps_if core offsets topics result new p q (done told);
}

pub seen_none : {E : Type 0} (tells : Type 0) (core : Parts) (fault : E) (keep : DiskState) → HasKeptOf tells core (Err fault) keep keep
seen_none tells core fault keep = record { puts = λ told. puts_none (IsOffsetsOf core) (IsTopicsOf core) keep; done = λ told. tt }
