-- What a run leaves of the kept files, and which status tells it.
use Rattle.std.proofs.Common.{◌≡◌, ◌≢◌, ◌⊎◌, inl, inr, ◌∙◌, sym, ap, subst, arith, codes, ℕ, ◌<◌, List, [], ◌∷◌, All, Option, Some, None, Result, Ok, Err}
use Rattle.mq_outside.specs.Counts.{Rises, CountsDiskFault}
use Rattle.mq_outside.specs.Disk.{DiskState}
use Rattle.mq_outside.specs.Files.{Files, OldOrNew, At}
use Rattle.mq_outside.proofs.Moments.{at_end, weaker, chained}
use Rattle.mq_outside.specs.declared.faults.DiskFault.{DiskFault}
use Rattle.mq_outside.specs.declared.faults.DiskFault.TheVariants as keeper
use Rattle.std.proofs.lemmas.List.Elements.{All-nil, All-cons, All-head, All-tail}
use Rattle.broker_model.specs.Lawful.{IsTopic}
use Rattle.broker_model.specs.State.{State}
use Rattle.core_log.specs.declared.parts.Parts.{Parts}
use Rattle.core_log.specs.Represents.{Represents, IsNamed}
use Rattle.broker_model.specs.Tables.{TopicRow}
use Rattle.config_store.specs.Configs.{OFFSETS, TOPICS, PutsConfig, Replaces}
use Rattle.config_store.specs.Faults.{CountsConfigFault}
use Rattle.config_store.specs.declared.config.ConfigFault.{ConfigFault}
use Rattle.config_store.specs.declared.config.ConfigFault.TheVariants.{BadText, Failed as KeepFailed, Memory as NoMemoryHere}
use Rattle.config_store.specs.Texts.{IsKeptTopic, offsets_text_of, topics_text_of}
use Rattle.store_open.specs.Openings.{FORMAT, StoreTold, PutsOnly, IsOpened}
use Rattle.store_open.specs.declared.format.Sizes.{Sizes}
use Rattle.store_open.specs.declared.format.AskedSizes.{AskedSizes}
use Rattle.store_open.specs.declared.status.Status.{Status}
use Rattle.worker_turns.specs.declared.broken.Broken.{Broken}
use Rattle.worker_turns.specs.declared.broken.Broken.TheVariants as broken
use Rattle.pipe_stream.specs.declared.stop.Halt.{Halt}
use Rattle.pipe_stream.specs.declared.stop.Halt.TheVariants.{BadFrame, Read, Stopped}
use Rattle.pipe_stream.specs.declared.stop.Stop.TheVariants as stops
use Rattle.keeper_turns.specs.Turns.{HasKept}
use Rattle.exit_status.specs.Statuses.{StatusKept, StatusTellsConfig, TellsDevice}
use Rattle.broker_run.specs.Promise.{StatusOf, StatusAfter, AllWell, AllFaults, Causes, before, KeepSeen, ReplacesAll, PutsAll, CanBeKept, KeepsOpen, KeepsState, CountsStatus, CountsEnd}
use Rattle.broker_run.proofs.CauseLemmas.{quiet}
use Rattle.pipe_stream.specs.Telling.{fault_counts}

-- ---- the status

well : {A : Type 0} (status : Status) (ended : Result A Halt) (last : Result (Option ℕ) Broken) → StatusOf status ended last → status.code ≡ 0 → AllWell ended last
well status (Ok done) (Ok None) tells zero = tt
well status (Ok done) (Ok (Some count)) tells zero = omega (arith, tells, zero)
well status (Ok done) (Err broken.Memory) tells zero = omega (arith, tells, zero)
well status (Ok done) (Err broken.Misplaced) tells zero = absurd tells
well status (Err halt) (Err broken.Memory) tells zero = omega (arith, tells, zero)
well status (Err halt) (Err broken.Misplaced) tells zero = absurd tells
well status (Err (BadFrame place)) (Ok last) tells zero = let two = tells.0 in omega (arith, two, zero)
well status (Err Read) (Ok last) tells zero = omega (arith, tells, zero)
well status (Err (Stopped stops.Sink)) (Ok last) tells zero = omega (arith, tells, zero)
well status (Err (Stopped stops.Memory)) (Ok last) tells zero = omega (arith, tells, zero)
well status (Err (Stopped stops.Clock)) (Ok last) (inl ten) zero = let code = ten.0 in omega (arith, code, zero)
well status (Err (Stopped stops.Clock)) (Ok last) (inr seven) zero = omega (arith, seven, zero)
well status (Err (Stopped stops.Misplaced)) (Ok last) tells zero = absurd tells

pub told_after : {A B : Type 0} (status inner : Status) (ended : Result A Halt) (last : Result (Option ℕ) Broken) (kept : Result B DiskFault) → StatusOf inner ended last → StatusKept status inner kept
    → StatusAfter status ended last kept
told_after status inner ended last (Ok done) tells same = subst (λ (s : Status). StatusOf s ended last) (sym same) tells
told_after status inner ended last (Err keeper.Memory) tells seven = seven
told_after status inner ended last (Err keeper.Failed) tells (inl it) = inl (well inner ended last tells it.0, it.1)
told_after status inner ended last (Err keeper.Failed) tells (inr it) =
    inr (subst (λ (s : Status). StatusOf s ended last) (sym it.1) tells, subst (λ (s : Status). s.code ≢ 0) (sym it.1) it.0)

-- ---- the causes

module _ (status : Status) (source source_then sink sink_then disk disk_then clock clock_then keep keep_then : ℕ) where
  same_end : (inner : Status) → status ≡ inner → CountsStatus inner (fault_counts source source_then) (fault_counts sink sink_then) (fault_counts disk disk_then) (fault_counts clock clock_then)
      → CountsEnd status (fault_counts source source_then) (fault_counts sink sink_then) (fault_counts disk disk_then) (fault_counts clock clock_then) (fault_counts keep keep_then)
  same_end inner same counts =
      let it = subst (λ (s : Status). CountsStatus s (fault_counts source source_then) (fault_counts sink sink_then) (fault_counts disk disk_then) (fault_counts clock clock_then)) (sym same) counts in
      record { read = it.read; write = it.write; disk_failed = it.disk_failed; device = λ ten. inl (it.clock_failed ten); known = it.known }

  seven_end : status.code ≡ 7 → CountsEnd status (fault_counts source source_then) (fault_counts sink sink_then) (fault_counts disk disk_then) (fault_counts clock clock_then) (fault_counts keep keep_then)
  seven_end is = record {
    read = λ e. absurd (omega (arith, is, e));
    write = λ e. absurd (omega (arith, is, e));
    disk_failed = λ e. absurd (omega (arith, is, e));
    device = λ e. absurd (omega (arith, is, e));
    known = inr (inr (inr (inr (inr (inl is)))));
  }

  keep_end : Rises keep keep_then → TellsDevice status (codes "keep") → CountsEnd status (fault_counts source source_then) (fault_counts sink sink_then) (fault_counts disk disk_then) (fault_counts clock clock_then) (fault_counts keep keep_then)
  keep_end rises (inl it) =
      let ten = it.0 in
      record {
        read = λ e. absurd (omega (arith, ten, e));
        write = λ e. absurd (omega (arith, ten, e));
        disk_failed = λ e. absurd (omega (arith, ten, e));
        device = λ e. inr (it.1, rises);
        known = inr (inr (inr (inr (inr (inr ten)))));
      }
  keep_end rises (inr seven) = seven_end seven

pub counts_end : {B : Type 0} (status inner : Status) (kept : Result B DiskFault) (source source_then sink sink_then disk disk_then clock clock_then keep keep_then : ℕ) → StatusKept status inner kept
    → CountsDiskFault kept keep keep_then → CountsStatus inner (fault_counts source source_then) (fault_counts sink sink_then) (fault_counts disk disk_then) (fault_counts clock clock_then)
    → CountsEnd status (fault_counts source source_then) (fault_counts sink sink_then) (fault_counts disk disk_then) (fault_counts clock clock_then) (fault_counts keep keep_then)
counts_end status inner (Ok done) source source_then sink sink_then disk disk_then clock clock_then keep keep_then same cause counts =
    same_end status source source_then sink sink_then disk disk_then clock clock_then keep keep_then inner same counts
counts_end status inner (Err keeper.Memory) source source_then sink sink_then disk disk_then clock clock_then keep keep_then seven cause counts =
    seven_end status source source_then sink sink_then disk disk_then clock clock_then keep keep_then seven
counts_end status inner (Err keeper.Failed) source source_then sink sink_then disk disk_then clock clock_then keep keep_then (inl it) cause counts =
    keep_end status source source_then sink sink_then disk disk_then clock clock_then keep keep_then cause it.1
counts_end status inner (Err keeper.Failed) source source_then sink sink_then disk disk_then clock clock_then keep keep_then (inr it) cause counts =
    same_end status source source_then sink sink_then disk disk_then clock clock_then keep keep_then inner it.1 counts

-- ---- what the kept files have at the end

kept_topics : (rows : List TopicRow) → All IsTopic rows → All IsNamed rows → All IsKeptTopic rows
kept_topics [] are named = All-nil IsKeptTopic
kept_topics (row ∷ rows) are named =
    let is = All-head IsTopic row rows are in
    All-cons IsKeptTopic row rows (record { plain = (All-head IsNamed row rows named, is.plain); some = is.some; few = is.few })
    (kept_topics rows (All-tail IsTopic row rows are) (All-tail IsNamed row rows named))

-- what a core represents can be kept
pub can_keep : (core : Parts) (s : State) → Represents core s → CanBeKept s
can_keep core s is = (is.kept, kept_topics s.topics is.state.topics is.names)

pub ends_kept : (status inner : Status) (keep : KeepSeen) (s : State) (kept : Result (Unit {0}) DiskFault) → HasKept keep.tells s kept keep.old keep.new → StatusKept status inner kept
    → CountsDiskFault kept keep.failed keep.failed_then → CanBeKept s → KeepsOpen status keep s
ends_kept status inner keep s (Ok done) has same cause formed = record {
  formed = formed;
  puts = has.puts;
  ends = record { done = λ told memory failed. has.done told; well = λ told zero. has.done told };
}
ends_kept status inner keep s (Err keeper.Memory) has seven cause formed = record {
  formed = formed;
  puts = has.puts;
  ends = record { done = λ told memory failed. absurd (memory seven); well = λ told zero. absurd (omega (arith, seven, zero)) };
}
ends_kept status inner keep s (Err keeper.Failed) has tells cause formed = record {
  formed = formed;
  puts = has.puts;
  ends = record { done = λ told memory failed. absurd (failed cause); well = λ told zero. absurd (never status inner tells zero) };
}
  where
    never : (status inner : Status) → ((inner.code ≡ 0) × TellsDevice status (codes "keep")) ⊎ ((inner.code ≢ 0) × (status ≡ inner)) → status.code ≡ 0 → ⊥
    never status inner (inl (zero, inl (ten, named))) none = omega (arith, ten, none)
    never status inner (inl (zero, inr seven)) none = omega (arith, seven, none)
    never status inner (inr (some, same)) none = some (sym (ap (λ (s : Status). s.code) same) ∙ none)

-- ---- from before the opening on

-- the two files as they were, and the format put or not
format_alone : (format offsets topics : List ℕ) (old new : Files) → At FORMAT (OldOrNew format) old new → ReplacesAll format offsets topics old new
format_alone format offsets topics old new opened = record {
  format_is = opened.here;
  offsets_are = inl (opened.others OFFSETS (λ e. absurd (cc e)));
  topics_are = inl (opened.others TOPICS (λ e. absurd (cc e)));
  others = λ name not_format not_offsets not_topics. opened.others name not_format;
}

-- and then replaced or not
then_replaced : (format offsets topics : List ℕ) (old mid new : Files) → At FORMAT (OldOrNew format) old mid → Replaces offsets topics mid new → ReplacesAll format offsets topics old new
then_replaced format offsets topics old mid new opened replaced = record {
  format_is = subst (λ (o : Option (List ℕ)). OldOrNew format (old FORMAT) o) (sym (replaced.others FORMAT (λ e. absurd (cc e)) (λ e. absurd (cc e)))) opened.here;
  offsets_are = subst (λ (o : Option (List ℕ)). OldOrNew offsets o (new OFFSETS)) (opened.others OFFSETS (λ e. absurd (cc e))) replaced.offsets_are;
  topics_are = subst (λ (o : Option (List ℕ)). OldOrNew topics o (new TOPICS)) (opened.others TOPICS (λ e. absurd (cc e))) replaced.topics_are;
  others = λ name not_format not_offsets not_topics. replaced.others name not_offsets not_topics ∙ opened.others name not_format;
}

pub puts_all : (format offsets topics : List ℕ) (old opened new : DiskState) → PutsOnly format old opened → PutsConfig offsets topics opened new → PutsAll format offsets topics old new
puts_all format offsets topics old opened new puts replaced =
    let images = at_end puts.at_each in
    record {
      reads = then_replaced format offsets topics old.reads opened.reads new.reads puts.reads replaced.reads;
      at_each = chained
          (weaker puts.at_each (λ files image. (image.0, image.1, format_alone format offsets topics image.0 files image.2)))
          (weaker replaced.at_each (λ files image.
          let before = images.at image.0 image.1 in
          (before.0, before.1, then_replaced format offsets topics before.0 image.0 files before.2 image.2)));
    }

-- ---- the opening

-- the format stands, and stays so where the kept files are replaced
pub opened_kept : (asked : AskedSizes) (sizes : Sizes) (store : StoreTold) (offsets topics : List ℕ) (opened new : DiskState) → (store.keep → PutsConfig offsets topics opened new)
    → IsOpened asked sizes store opened → IsOpened asked sizes store new
opened_kept asked sizes store offsets topics opened new puts is = record {
  sizes_are = is.sizes_are;
  own = is.own;
  stands = λ told. (puts told).reads.others FORMAT (λ e. absurd (cc e)) (λ e. absurd (cc e)) ∙ is.stands told;
  stays = λ told after image.
      let put = puts told in
      let found = put.at_each.each new.moment after put.at_each.later (omega arith) image in
      found.2.others FORMAT (λ e. absurd (cc e)) (λ e. absurd (cc e)) ∙ is.stays told found.0 found.1 ∙ sym (put.reads.others FORMAT (λ e. absurd (cc e)) (λ e. absurd (cc e)));
}

-- what is said of the kept files, seen from before the opening
pub kept_from : (format : List ℕ) (status : Status) (keep : KeepSeen) (opened : DiskState) (failed : ℕ) (s : State) → failed ≡ keep.failed → (keep.tells → PutsOnly format keep.old opened)
    → KeepsOpen status (record { tells = keep.tells; old = opened; new = keep.new; failed = failed; failed_then = keep.failed_then }) s → KeepsState format status keep s
kept_from format status keep opened failed s same puts it = record {
  puts = λ told. puts_all format (offsets_text_of s.offsets) (topics_text_of s.topics) keep.old opened keep.new (puts told) (it.puts told);
  ends = record {
    done = λ told memory quiet. it.ends.done told memory (λ rises. quiet (subst (λ (n : ℕ). Rises n keep.failed_then) same rises));
    well = it.ends.well;
  };
  formed = it.formed;
}

-- a config that wasn't loaded has its cause
pub config_causes : (status : Status) (fault : ConfigFault) (old new : AllFaults) → StatusTellsConfig status fault → CountsConfigFault {A = Unit {0}} (Err fault) old.keep new.keep → Causes status old new
config_causes status (BadText name) old new (inl told) counts =
    quiet status 8 old new told.0 (omega arith) (λ e. omega (arith, e)) (λ e. omega (arith, e)) (λ e. omega (arith, e))
config_causes status (BadText name) old new (inr seven) counts =
    quiet status 7 old new seven (omega arith) (λ e. omega (arith, e)) (λ e. omega (arith, e)) (λ e. omega (arith, e))
config_causes status KeepFailed old new (inl told) counts =
    let ten = told.0 in
    record {
      read = λ e. absurd (omega (arith, ten, e));
      write = λ e. absurd (omega (arith, ten, e));
      disk_failed = λ e. absurd (omega (arith, ten, e));
      device = λ e. inr (told.1, counts);
      known = inr ten;
    }
config_causes status KeepFailed old new (inr seven) counts =
    quiet status 7 old new seven (omega arith) (λ e. omega (arith, e)) (λ e. omega (arith, e)) (λ e. omega (arith, e))
config_causes status NoMemoryHere old new seven counts =
    quiet status 7 old new seven (omega arith) (λ e. omega (arith, e)) (λ e. omega (arith, e)) (λ e. omega (arith, e))

-- its status is none of words that don't fit, nor of a foreign store
pub not_of_config : (status : Status) (fault : ConfigFault) (code : ℕ) → code < 7 → StatusTellsConfig status fault → status.code ≢ code
not_of_config status (BadText name) code low (inl told) same = let eight = told.0 in omega (arith, low, eight, same)
not_of_config status (BadText name) code low (inr seven) same = omega (arith, low, seven, same)
not_of_config status KeepFailed code low (inl told) same = let ten = told.0 in omega (arith, low, ten, same)
not_of_config status KeepFailed code low (inr seven) same = omega (arith, low, seven, same)
not_of_config status NoMemoryHere code low seven same = omega (arith, low, seven, same)
