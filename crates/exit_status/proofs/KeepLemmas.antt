-- What a call leaves of the keep, and which status tells why its texts were not loaded.
use Rattle.std.proofs.Common.{◌≡◌, ◌⊎◌, inl, inr, ◌∙◌, ℕ, List, Option, Some, Err, codes, sym, ap, subst, arith}
use Rattle.mq_outside.specs.Files.{Files, At, OldOrNew}
use Rattle.mq_outside.specs.Disk.{DiskState, Rests}
use Rattle.mq_outside.proofs.Moments.{at_end, chained, rests_then, throughout_rests}
use Rattle.broker_model.specs.Tables.{OffsetRow, TopicRow}
use Rattle.config_store.specs.Configs.{OFFSETS, TOPICS, HasConfig, HasOffsets, HasTopics}
use Rattle.config_store.specs.Faults.{IsBadText, OnBadText}
use Rattle.config_store.specs.declared.config.ConfigFault.{ConfigFault}
use Rattle.config_store.specs.declared.config.ConfigFault.TheVariants.{BadText, Failed, Memory}
use Rattle.store_open.specs.Openings.{FORMAT, IsOpened, OpeningCause, PutsOnly, StoreTold, format_after}
use Rattle.store_open.specs.declared.format.AskedSizes.{AskedSizes}
use Rattle.store_open.specs.declared.format.Sizes.{Sizes}
use Rattle.store_open.specs.declared.status.Status.{Status}
use Rattle.exit_status.specs.Statuses.{StatusTellsConfig}
use Rattle.exit_status.specs.Stores.{Misread, StoreOver, store_over}

-- ---- the opening

-- an opening that ended the call has one of these statuses
pub refused_by : (status : Status) (disk disk_then keep keep_then : ℕ) → OpeningCause status disk disk_then keep keep_then
    → (status.code ≡ 5) ⊎ ((status.code ≡ 6) ⊎ ((status.code ≡ 7) ⊎ ((status.code ≡ 10) × (status.name ≡ codes "keep"))))
refused_by status disk disk_then keep keep_then (inl failed) = inl failed.0
refused_by status disk disk_then keep keep_then (inr (inl six)) = inr (inl six)
refused_by status disk disk_then keep keep_then (inr (inr (inl seven))) = inr (inr (inl seven))
refused_by status disk disk_then keep keep_then (inr (inr (inr kept))) = inr (inr (inr (kept.0, kept.1)))

-- the format stands, and stays so in a keep that rests
pub opened_still : (asked : AskedSizes) (sizes : Sizes) (store : StoreTold) (opened loaded : DiskState) → (store.keep → Rests opened loaded)
    → IsOpened asked sizes store opened → IsOpened asked sizes store loaded
opened_still asked sizes store opened loaded rests is = record {
  sizes_are = is.sizes_are;
  own = is.own;
  stands = λ told. subst (λ (f : Files). f FORMAT ≡ Some (format_after (store.texts FORMAT) sizes)) (sym (rests told).same) (is.stands told);
  stays = λ told after image.
      let rest = rests told in
      is.stays told after (rest.quiet.each loaded.moment after rest.quiet.later (omega arith) image) ∙ ap (λ (f : Files). f FORMAT) (sym rest.same);
}

-- ---- from before the opening on

-- a keep that rests once the format was put
pub puts_still : (format : List ℕ) (old opened loaded : DiskState) → PutsOnly format old opened → Rests opened loaded → PutsOnly format old loaded
puts_still format old opened loaded puts rests = record {
  reads = subst (λ (files : Files). At FORMAT (OldOrNew format) old.reads files) (sym rests.same) puts.reads;
  at_each = chained puts.at_each (throughout_rests rests (at_end puts.at_each));
}

-- what the kept files had, seen from before the format was put
pub config_before : (format : List ℕ) (old opened : DiskState) (offsets : List OffsetRow) (topics : List TopicRow) → PutsOnly format old opened → HasConfig opened.reads offsets topics → HasConfig old.reads offsets topics
config_before format old opened offsets topics puts has = record {
  offsets_are = subst (λ (o : Option (List ℕ)). HasOffsets o offsets) (puts.reads.others OFFSETS (λ e. absurd (cc e))) has.offsets_are;
  topics_are = subst (λ (o : Option (List ℕ)). HasTopics o topics) (puts.reads.others TOPICS (λ e. absurd (cc e))) has.topics_are;
}

-- a kept file that isn't of its form was so before the format was put
pub bad_before : (format : List ℕ) (old opened : DiskState) (name : List ℕ) → PutsOnly format old opened → IsBadText opened.reads name → IsBadText old.reads name
bad_before format old opened name puts (inl it) = inl (record {
  named = it.named;
  none = λ rows has. it.none rows (subst (λ (o : Option (List ℕ)). HasOffsets o rows) (sym (puts.reads.others OFFSETS (λ e. absurd (cc e)))) has);
})
bad_before format old opened name puts (inr it) = inr (record {
  named = it.named;
  none = λ rows has. it.none rows (subst (λ (o : Option (List ℕ)). HasTopics o rows) (sym (puts.reads.others TOPICS (λ e. absurd (cc e)))) has);
})

-- ---- kept files that were not loaded

pub misread : (status : Status) (store : StoreOver) (fault : ConfigFault) → StatusTellsConfig status fault → (store.keep_tells → OnBadText {A = Unit {0}} (Err fault) (IsBadText store.keep.reads))
    → (store.disk_tells → Rests store.disk store.disk_then) → Misread status store
misread status store (BadText name) (inl told) bad rests = record {
  why = inl (told.0, told.1, λ tells. subst (λ (n : List ℕ). IsBadText store.keep.reads n) (sym told.2) (bad tells));
  still = rests;
}
misread status store (BadText name) (inr seven) bad rests = record { why = inr (inl seven); still = rests }
misread status store Failed (inl told) bad rests = record { why = inr (inr told); still = rests }
misread status store Failed (inr seven) bad rests = record { why = inr (inl seven); still = rests }
misread status store Memory seven bad rests = record { why = inr (inl seven); still = rests }

-- seen from before the store was opened
misread_why : (status : Status) (format : List ℕ) (tells : Type 0) (keep put : DiskState) → (tells → PutsOnly format keep put)
    → ((status.code ≡ 8) × (status.place ≡ 0) × (tells → IsBadText put.reads status.name)) ⊎ ((status.code ≡ 7) ⊎ ((status.code ≡ 10) × (status.name ≡ codes "keep")))
    → ((status.code ≡ 8) × (status.place ≡ 0) × (tells → IsBadText keep.reads status.name)) ⊎ ((status.code ≡ 7) ⊎ ((status.code ≡ 10) × (status.name ≡ codes "keep")))
misread_why status format tells keep put puts (inl bad) = inl (bad.0, bad.1, λ told. bad_before format keep put status.name (puts told) (bad.2 told))
misread_why status format tells keep put puts (inr other) = inr other

pub misread_before : (status : Status) (format : List ℕ) (disk_tells : Type 0) (disk opened disk_then : DiskState) (keep_tells : Type 0) (keep put keep_then : DiskState)
    → (disk_tells → Rests disk opened) → (keep_tells → PutsOnly format keep put) → Misread status (store_over disk_tells opened disk_then keep_tells put keep_then)
    → Misread status (store_over disk_tells disk disk_then keep_tells keep keep_then)
misread_before status format disk_tells disk opened disk_then keep_tells keep put keep_then rests puts it = record {
  why = misread_why status format keep_tells keep put puts it.why;
  still = λ told. rests_then (rests told) (it.still told);
}
