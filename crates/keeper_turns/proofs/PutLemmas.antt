-- How replacements of the two kept files follow one another.
use Rattle.std.proofs.Common.{◌≡◌, ◌⊎◌, inl, inr, refl, sym, subst, ◌∙◌, ℕ, List, Option, Some}
use Rattle.mq_outside.specs.Files.{Files, OldOrNew}
use Rattle.mq_outside.specs.Disk.{DiskState, Rests}
use Rattle.mq_outside.proofs.Moments.{at_start, at_end, weaker, chained}
use Rattle.config_store.specs.Configs.{OFFSETS, TOPICS, Replaces, PutsConfig, KeepsConfig}
use Rattle.keeper_turns.specs.Puts.{HasSuch, ReplacesBy, IsImageReplacedBy, PutsBy, KeepsBy}

-- ---- one file

then_such : (Is : List ℕ → Type 0) (old mid new : Option (List ℕ)) → (mid ≡ old) ⊎ HasSuch Is mid → (new ≡ mid) ⊎ HasSuch Is new → (new ≡ old) ⊎ HasSuch Is new
then_such Is old mid new first (inr it) = inr it
then_such Is old mid new (inl same) (inl still) = inl (still ∙ same)
then_such Is old mid new (inr it) (inl still) = inr (it.0, still ∙ it.1, it.2)

weaker_such : (Is Also : List ℕ → Type 0) (old new : Option (List ℕ)) → ((text : List ℕ) → Is text → Also text) → (new ≡ old) ⊎ HasSuch Is new → (new ≡ old) ⊎ HasSuch Also new
weaker_such Is Also old new gives (inl same) = inl same
weaker_such Is Also old new gives (inr it) = inr (it.0, it.1, gives it.0 it.2)

one_such : (Is : List ℕ → Type 0) (text : List ℕ) (old new : Option (List ℕ)) → Is text → OldOrNew text old new → (new ≡ old) ⊎ HasSuch Is new
one_such Is text old new is (inl same) = inl same
one_such Is text old new is (inr put) = inr (text, put, is)

-- ---- both

module _ (P Q : List ℕ → Type 0) where
  -- nothing was replaced
  none_by : (files : Files) → ReplacesBy P Q files files
  none_by files = record { offsets_are = inl refl; topics_are = inl refl; others = λ name not_offsets not_topics. refl }

  replaced_then : (old mid new : Files) → ReplacesBy P Q old mid → ReplacesBy P Q mid new → ReplacesBy P Q old new
  replaced_then old mid new first second = record {
    offsets_are = then_such P (old OFFSETS) (mid OFFSETS) (new OFFSETS) first.offsets_are second.offsets_are;
    topics_are = then_such Q (old TOPICS) (mid TOPICS) (new TOPICS) first.topics_are second.topics_are;
    others = λ name not_offsets not_topics. second.others name not_offsets not_topics ∙ first.others name not_offsets not_topics;
  }

  -- by these texts
  replaced_one : (offsets topics : List ℕ) (old new : Files) → P offsets → Q topics → Replaces offsets topics old new → ReplacesBy P Q old new
  replaced_one offsets topics old new p q replaced = record {
    offsets_are = one_such P offsets (old OFFSETS) (new OFFSETS) p replaced.offsets_are;
    topics_are = one_such Q topics (old TOPICS) (new TOPICS) q replaced.topics_are;
    others = replaced.others;
  }

  pub puts_none : (keep : DiskState) → PutsBy P Q keep keep
  puts_none keep = record {
    reads = none_by keep.reads;
    at_each = at_start keep (IsImageReplacedBy P Q keep) (record { at = λ files image. (files, image, none_by files) });
  }

  -- one turn behind another
  pub puts_then : (old mid new : DiskState) → PutsBy P Q old mid → PutsBy P Q mid new → PutsBy P Q old new
  puts_then old mid new first second =
      let images = at_end first.at_each in
      record {
        reads = replaced_then old.reads mid.reads new.reads first.reads second.reads;
        at_each = chained first.at_each
            (weaker second.at_each (λ files image.
            let before = images.at image.0 image.1 in
            (before.0, before.1, replaced_then before.0 image.0 files before.2 image.2)));
      }

  -- behind a keep that rested
  pub puts_rested : (old mid new : DiskState) → Rests old mid → PutsBy P Q mid new → PutsBy P Q old new
  puts_rested old mid new rests puts =
      let still : PutsBy P Q old mid = record {
        reads = subst (λ (files : Files). ReplacesBy P Q old.reads files) (sym rests.same) (none_by old.reads);
        at_each = weaker rests.quiet (λ files image. (files, image, none_by files));
      } in
      puts_then old mid new still puts

  pub puts_one : (offsets topics : List ℕ) (old new : DiskState) → P offsets → Q topics → PutsConfig offsets topics old new → PutsBy P Q old new
  puts_one offsets topics old new p q puts = record {
    reads = replaced_one offsets topics old.reads new.reads p q puts.reads;
    at_each = weaker puts.at_each (λ files image. (image.0, image.1, replaced_one offsets topics image.0 files p q image.2));
  }

  pub keeps_one : (offsets topics : List ℕ) (keep : DiskState) → P offsets → Q topics → KeepsConfig offsets topics keep → KeepsBy P Q keep
  keeps_one offsets topics keep p q keeps = record {
    offsets_are = (offsets, keeps.offsets_are, p);
    topics_are = (topics, keeps.topics_are, q);
    offsets_stay = keeps.offsets_stay;
    topics_stay = keeps.topics_stay;
  }

-- what holds of the texts holds more generally
pub puts_weaker : (P Q P' Q' : List ℕ → Type 0) (old new : DiskState) → ((text : List ℕ) → P text → P' text) → ((text : List ℕ) → Q text → Q' text) → PutsBy P Q old new → PutsBy P' Q' old new
puts_weaker P Q P' Q' old new gives_p gives_q puts = record {
  reads = replaced old.reads new.reads puts.reads;
  at_each = weaker puts.at_each (λ files image. (image.0, image.1, replaced image.0 files image.2));
}
  where
    replaced : (before after : Files) → ReplacesBy P Q before after → ReplacesBy P' Q' before after
    replaced before after it = record {
      offsets_are = weaker_such P P' (before OFFSETS) (after OFFSETS) gives_p it.offsets_are;
      topics_are = weaker_such Q Q' (before TOPICS) (after TOPICS) gives_q it.topics_are;
      others = it.others;
    }
