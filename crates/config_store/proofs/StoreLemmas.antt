-- The two files are replaced, one after the other.
use Rattle.std.proofs.Common.{◌≢◌, inl, ℕ, List, Option, refl, sym, subst, ◌∙◌}
use Rattle.mq_outside.specs.Files.{Files, At, OldOrNew}
use Rattle.mq_outside.specs.Disk.{DiskState, Moves}
use Rattle.mq_outside.proofs.Moments.{at_start, goes_on}
use Rattle.config_store.specs.Configs.{OFFSETS, TOPICS, Replaces, IsImageReplaced, PutsConfig}

apart : TOPICS ≢ OFFSETS
apart same = cc

replaces_none : (offsets topics : List ℕ) (files : Files) → Replaces offsets topics files files
replaces_none offsets topics files = record { offsets_are = inl refl; topics_are = inl refl; others = λ name other also. refl }

replaces_offsets : (offsets topics : List ℕ) (old new : Files) → At OFFSETS (OldOrNew offsets) old new → Replaces offsets topics old new
replaces_offsets offsets topics old new put = record { offsets_are = put.here; topics_are = inl (put.others TOPICS apart); others = λ name other also. put.others name other }

replaces_topics : (offsets topics : List ℕ) (old mid new : Files) → At OFFSETS (OldOrNew offsets) old mid → At TOPICS (OldOrNew topics) mid new → Replaces offsets topics old new
replaces_topics offsets topics old mid new first second = record {
  offsets_are = subst (λ (bytes : Option (List ℕ)). OldOrNew offsets (old OFFSETS) bytes) (sym (second.others OFFSETS (λ same. apart (sym same)))) first.here;
  topics_are = subst (λ (bytes : Option (List ℕ)). OldOrNew topics bytes (new TOPICS)) (first.others TOPICS apart) second.here;
  others = λ name other also. second.others name also ∙ first.others name other;
}

pub puts_first : (offsets topics : List ℕ) (old new : DiskState) → Moves (At OFFSETS (OldOrNew offsets)) old new → PutsConfig offsets topics old new
puts_first offsets topics old new put = record {
  reads = replaces_offsets offsets topics old.reads new.reads put.reads;
  at_each = goes_on (at_start old (IsImageReplaced offsets topics old) (record { at = λ files image. (files, image, replaces_none offsets topics files) })) put (record {
    at = λ files image. let from = put.crash files image in (from.0, from.1, replaces_offsets offsets topics from.0 files from.2);
  });
}

pub puts_both : (offsets topics : List ℕ) (old mid new : DiskState) → Moves (At OFFSETS (OldOrNew offsets)) old mid → Moves (At TOPICS (OldOrNew topics)) mid new
    → PutsConfig offsets topics old new
puts_both offsets topics old mid new first second = record {
  reads = replaces_topics offsets topics old.reads mid.reads new.reads first.reads second.reads;
  at_each = goes_on (puts_first offsets topics old mid first).at_each second (record {
    at = λ files image.
        let from = second.crash files image in
        let before = first.crash from.0 from.1 in
        (before.0, before.1, replaces_topics offsets topics before.0 from.0 files before.2 from.2);
  });
}
