-- What a run leaves, put together from its parts.
use Rattle.std.proofs.Common.{◌≡◌, ◌≢◌, ◌⊎◌, inl, inr, refl, sym, ap, subst, ◌∙◌, arith, ℕ, List, Option, Some, None, IfSome, Result, OnOk}
use Rattle.std.specs.Prelude.{IfNone}
use Rattle.mq_outside.specs.Files.{Files, OldOrNew, At}
use Rattle.mq_outside.specs.Disk.{DiskState, IsCrashImage, Rests}
use Rattle.mq_outside.specs.declared.faults.DiskFault.{DiskFault}
use Rattle.mq_outside.proofs.Moments.{at_end, weaker, chained, rests_then}
use Rattle.log_model.specs.Bases.{whole}
use Rattle.broker_model.specs.State.{Saved}
use Rattle.broker_model.specs.Tables.{OffsetRow, TopicRow}
use Rattle.broker_events.specs.declared.event.Setup.{Setup}
use Rattle.core_log.specs.declared.parts.Parts.{Parts}
use Rattle.config_store.specs.Configs.{OFFSETS, TOPICS, HasConfig}
use Rattle.config_store.specs.Texts.{offsets_text_of, topics_text_of}
use Rattle.keeper_turns.specs.Puts.{HasSuch, ReplacesBy, PutsBy, KeepsBy}
use Rattle.keeper_turns.specs.Turns.{IsOffsetsOf, IsTopicsOf}
use Rattle.keeper_turns.proofs.PutLemmas.{puts_rested}
use Rattle.worker_turns.specs.Acts.{Place, change_of, place_of}
use Rattle.log_opening.specs.Opens.{OpensLogWith, OpensKeptWith, saved_as}
use Rattle.log_opening.specs.declared.opening.Opened.{Opened}
use Rattle.loop_threads.specs.Kept.{KeepOver, keep_over}
use Rattle.serve_threads.specs.Kept.{IsTextAlong}
use Rattle.serve_threads.specs.Served.{IsLeft, Views}
use Rattle.store_open.specs.Openings.{FORMAT, StoreTold, IsOpened, PutsOnly, own_format, store_told}
use Rattle.store_open.specs.ServeWords.{IsServeCommand}
use Rattle.store_open.specs.declared.format.AskedSizes.{AskedSizes}
use Rattle.store_open.specs.declared.format.Sizes.{Sizes}
use Rattle.store_open.specs.declared.serve_words.ServeCommand.{ServeCommand}
use Rattle.store_open.specs.declared.status.Status.{Status}
use Rattle.exit_status.specs.Stores.{Misread, store_over}
use Rattle.exit_status.proofs.KeepLemmas.{config_before, puts_still}
use Rattle.broker_serve.specs.Serves.{BeginsOn, EndsOver, HasServed, IsAlike, CountsReads, LeavesCore, PutsAllAlong, PutsAllBy, ReplacesAllBy, RunOver, ServesLog, ServesStore}
use Rattle.broker_serve.specs.Serves.{before, behind, run_over, setup_by, store_of}
use Rattle.worker_turns.specs.declared.flush.FlushEnd.{FlushEnd}
use Rattle.event_loops.specs.declared.event_loop.LoopEnd.{LoopEnd}
use Rattle.broker_serve.specs.Statuses.{ShutOut, StatusLeft}
use Rattle.broker_serve.specs.Unserved.{LeavesLog, ServesNobody}
use Rattle.broker_serve.proofs.Storing.{alike_start, alike_then, begins_before, begins_then, ours_before, stores_left}
use Rattle.broker_serve.proofs.Telling.{none_of, zero_kept}
use Rattle.broker_serve.proofs.Unserving.{unserved_before, unused}

-- ---- links that were served, or not

module _ {D : Type 0} (views : Views D) where
  pub ends_unserved : (opened : Opened) (left : Option Parts) (run : RunOver D) → left ≡ None → (views.disk.tells → Rests (before views run) (behind views run))
      → (run.keep.tells → Rests run.keep.old run.keep.new) → EndsOver views opened left run
  ends_unserved opened left run none disk keep = subst (λ o. EndsOver views opened o run) (sym none) (disk, keep)

  -- from the disk before the run on
  pub ends_served : (opened : Opened) (left : Option Parts) (run : RunOver D) (core : Parts) (stopped : LoopEnd) (last : FlushEnd) (kept : Result (Unit {0}) DiskFault) (ended : Place D) (failures : ℕ × ℕ)
      → left ≡ Some core → StatusLeft run.status stopped last kept → IsAlike views.disk ended.disk run.disk_then → CountsReads run failures ended.disk
      → IsLeft views failures (change_of opened.core (place_of opened.flusher.file run.disk) core ended) run.keep kept → EndsOver views opened left run
  ends_served opened left run core stopped last kept ended failures some tells back counted is =
      subst (λ o. EndsOver views opened o run) (sym some) (
        record {
          stopped = stopped;
          last = last;
          kept = kept;
          tells = tells;
          began = run.disk;
          ended = ended;
          back = back;
          failures = failures;
          counted = counted;
          left = is;
        },
        alike_start views.disk run.disk,
      )

  -- seen from before, whatever the disk was then
  abbrev ends_with : (reads : D → ℕ) (opened : Opened) (core : Parts) (status : Status) (disk other disk_then : D) (keep : KeepOver) → LeavesCore views opened core (run_over status disk disk_then reads keep)
      → LeavesCore views opened core (run_over status other disk_then reads keep)
  ends_with reads opened core status disk other disk_then keep ends = record {
    stopped = ends.stopped;
    last = ends.last;
    kept = ends.kept;
    tells = ends.tells;
    began = ends.began;
    ended = ends.ended;
    back = ends.back;
    failures = ends.failures;
    counted = ends.counted;
    left = ends.left;
  }

  -- from before the disk was lent
  pub ends_lent : (reads : D → ℕ) (opened : Opened) (left : Option Parts) (status : Status) (disk lent disk_then : D) (keep : KeepOver) → IsAlike views.disk disk lent
      → EndsOver views opened left (run_over status lent disk_then reads keep) → EndsOver views opened left (run_over status disk disk_then reads keep)
  ends_lent reads opened None status disk lent disk_then keep alike ends = (λ told. rests_then (alike.rests told) (ends.0 told), ends.1)
  ends_lent reads opened (Some core) status disk lent disk_then keep alike ends =
      (ends_with reads opened core status lent disk disk_then keep ends.0, alike_then views.disk disk lent ends.0.began alike ends.1)

module _ {D : Type 0} (views : Views D) (setup : Setup) where
  pub log_unserved : (saved : Saved) (left : Option Parts) (run : RunOver D) → left ≡ None → (run.keep.tells → Rests run.keep.old run.keep.new)
      → IfNone left (LeavesLog (whole setup.segment) views.disk.tells run.status (before views run) (behind views run)) → ServesLog views setup saved left run
  log_unserved saved left run none rests unserved = record { still = λ is. rests; unserved = unserved; served = none_of _ left none }

  log_served : (reads : D → ℕ) (saved : Saved) (left : Option Parts) (status : Status) (disk on disk_then : D) (keep : KeepOver) (opened : Opened) (failed failed_then : ℕ)
      → (views.disk.tells → IsCrashImage (views.disk.state disk) (views.disk.state disk).reads) → OpensLogWith setup saved opened
      → (views.disk.tells → OpensKeptWith setup saved (views.disk.state disk).reads opened) → BeginsOn setup saved opened views.disk disk on
      → IfNone left (ShutOut status failed failed_then) → EndsOver views opened left (run_over status on disk_then reads keep)
      → ServesLog views setup saved left (run_over status disk disk_then reads keep)
  log_served reads saved None status disk on disk_then keep opened failed failed_then image over kept begins why ends = record {
    still = λ is. ends.1;
    unserved = inr (unused setup saved views.disk opened status disk on disk_then failed failed_then image kept begins why ends.0);
    served = tt;
  }
  log_served reads saved (Some core) status disk on disk_then keep opened failed failed_then image over kept begins why ends =
      let left = ends_with views reads opened core status on disk disk_then keep ends.0 in
      let from = begins_then setup saved opened views.disk disk on left.began begins ends.1 in
      record {
        still = λ is. absurd (cc is);
        unserved = tt;
        served = (opened, over, kept, stores_left views setup saved opened core (run_over status disk disk_then reads keep) left from, left, from);
      }

  -- the same with the rows as they were given
  pub log_served_with : (reads : D → ℕ) (offsets given_offsets : List OffsetRow) (topics given_topics : List TopicRow) (left : Option Parts) (status : Status) (disk on disk_then : D) (keep : KeepOver) (opened : Opened)
      (failed failed_then : ℕ) → given_offsets ≡ offsets → given_topics ≡ topics → (views.disk.tells → IsCrashImage (views.disk.state disk) (views.disk.state disk).reads)
      → OpensLogWith setup (saved_as given_offsets given_topics) opened → (views.disk.tells → OpensKeptWith setup (saved_as given_offsets given_topics) (views.disk.state disk).reads opened)
      → BeginsOn setup (saved_as given_offsets given_topics) opened views.disk disk on → IfNone left (ShutOut status failed failed_then)
      → EndsOver views opened left (run_over status on disk_then reads keep) → ServesLog views setup (saved_as offsets topics) left (run_over status disk disk_then reads keep)
  log_served_with reads offsets given_offsets topics given_topics left status disk on disk_then keep opened failed failed_then offsets_are topics_are image over kept begins why ends =
      subst (λ (o : List OffsetRow). ServesLog views setup (saved_as o topics) left (run_over status disk disk_then reads keep)) offsets_are
      (subst (λ (t : List TopicRow). ServesLog views setup (saved_as given_offsets t) left (run_over status disk disk_then reads keep)) topics_are
      (log_served reads (saved_as given_offsets given_topics) left status disk on disk_then keep opened failed failed_then image over kept begins why ends))

  pub store_unserved : (left : Option Parts) (run : RunOver D) → left ≡ None → (run.keep.tells → Rests run.keep.old run.keep.new)
      → IfNone left (Misread run.status (store_of views run) ⊎ LeavesLog (whole setup.segment) views.disk.tells run.status (before views run) (behind views run))
      → ServesStore views setup left run
  store_unserved left run none rests unserved = record { still = λ is. rests; unserved = unserved; served = none_of _ left none }

  -- with what was loaded, which changed nothing
  pub store_served : (reads : D → ℕ) (left : Option Parts) (offsets : List OffsetRow) (topics : List TopicRow) (status : Status) (disk disk_then : D) (told : Type 0) (old loaded new : DiskState) → (told → Rests old loaded)
      → (told → HasConfig old.reads offsets topics) → ServesLog views setup (saved_as offsets topics) left (run_over status disk disk_then reads (keep_over told loaded new))
      → ServesStore views setup left (run_over status disk disk_then reads (keep_over told old new))
  store_served reads None offsets topics status disk disk_then told old loaded new rests config it =
      record { still = λ is t. rests_then (rests t) (it.still refl t); unserved = inr it.unserved; served = tt }
  store_served reads (Some core) offsets topics status disk disk_then told old loaded new rests config it =
      let opened = it.served.0 in
      let over = it.served.1 in
      let kept = it.served.2 in
      let stores = it.served.3 in
      let ends = it.served.4 in
      let begins = it.served.5 in
      let left = ends.left in
      record {
        still = λ is. absurd (cc is);
        unserved = tt;
        served = record {
          offsets = offsets;
          topics = topics;
          config = config;
          opened = opened;
          over = over;
          kept = kept;
          history = left.history;
          stands = left.stands;
          began = ends.began;
          begins = begins;
          ended = ends.ended;
          back = ends.back;
          failures = ends.failures;
          counted = ends.counted;
          made = left.made;
          stores = stores;
          put = λ t. puts_rested (IsTextAlong (λ s. offsets_text_of s.offsets) opened.core left.history) (IsTextAlong (λ s. topics_text_of s.topics) opened.core left.history)
              old loaded new (rests t) (left.puts t);
          stopped = ends.stopped;
          last = ends.last;
          replaced = ends.kept;
          tells = ends.tells;
          done = left.done;
          ends = λ t zero. subst (λ (r : Result (Unit {0}) DiskFault). OnOk r (KeepsBy (IsOffsetsOf core) (IsTopicsOf core) new))
              (zero_kept status ends.stopped ends.last ends.kept ends.tells zero) (left.done t);
        };
      }

  -- no other text of the keep changed
  pub store_others : (left : Option Parts) (run : RunOver D) → ServesStore views setup left run → run.keep.tells
      → (name : List ℕ) → name ≢ OFFSETS → name ≢ TOPICS → run.keep.new.reads name ≡ run.keep.old.reads name
  store_others None run it told name not_offsets not_topics = ap (λ (f : Files). f name) (it.still refl told).same
  store_others (Some core) run it told name not_offsets not_topics = (it.served.put told).reads.others name not_offsets not_topics

-- ---- from before the opening on

-- the format put or not, and then the two files replaced or not
then_replaced : (format : List ℕ) (P Q : List ℕ → Type 0) (old mid new : Files) → At FORMAT (OldOrNew format) old mid → ReplacesBy P Q mid new → ReplacesAllBy format P Q old new
then_replaced format P Q old mid new opened replaced = record {
  format_is = subst (λ (o : Option (List ℕ)). OldOrNew format (old FORMAT) o) (sym (replaced.others FORMAT (λ e. absurd (cc e)) (λ e. absurd (cc e)))) opened.here;
  offsets_are = subst (λ (o : Option (List ℕ)). (new OFFSETS ≡ o) ⊎ HasSuch P (new OFFSETS)) (opened.others OFFSETS (λ e. absurd (cc e))) replaced.offsets_are;
  topics_are = subst (λ (o : Option (List ℕ)). (new TOPICS ≡ o) ⊎ HasSuch Q (new TOPICS)) (opened.others TOPICS (λ e. absurd (cc e))) replaced.topics_are;
  others = λ name not_format not_offsets not_topics. replaced.others name not_offsets not_topics ∙ opened.others name not_format;
}

-- the format alone
format_alone : (format : List ℕ) (P Q : List ℕ → Type 0) (old new : Files) → At FORMAT (OldOrNew format) old new → ReplacesAllBy format P Q old new
format_alone format P Q old new opened = record {
  format_is = opened.here;
  offsets_are = inl (opened.others OFFSETS (λ e. absurd (cc e)));
  topics_are = inl (opened.others TOPICS (λ e. absurd (cc e)));
  others = λ name not_format not_offsets not_topics. opened.others name not_format;
}

puts_all : (format : List ℕ) (P Q : List ℕ → Type 0) (old opened new : DiskState) → PutsOnly format old opened → PutsBy P Q opened new → PutsAllBy format P Q old new
puts_all format P Q old opened new puts replaced =
    let images = at_end puts.at_each in
    record {
      reads = then_replaced format P Q old.reads opened.reads new.reads puts.reads replaced.reads;
      at_each = chained
          (weaker puts.at_each (λ files image. (image.0, image.1, format_alone format P Q image.0 files image.2)))
          (weaker replaced.at_each (λ files image.
          let before = images.at image.0 image.1 in
          (before.0, before.1, then_replaced format P Q before.0 image.0 files before.2 image.2)));
    }

-- the format stands, and stays so
opened_kept : (P Q : List ℕ → Type 0) (asked : AskedSizes) (sizes : Sizes) (store : StoreTold) (opened new : DiskState) → (store.keep → PutsBy P Q opened new)
    → IsOpened asked sizes store opened → IsOpened asked sizes store new
opened_kept P Q asked sizes store opened new puts is = record {
  sizes_are = is.sizes_are;
  own = is.own;
  stands = λ told. (puts told).reads.others FORMAT (λ e. absurd (cc e)) (λ e. absurd (cc e)) ∙ is.stands told;
  stays = λ told after image.
      let put = puts told in
      let found = put.at_each.each new.moment after put.at_each.later (omega arith) image in
      found.2.others FORMAT (λ e. absurd (cc e)) (λ e. absurd (cc e)) ∙ is.stays told found.0 found.1 ∙ sym (put.reads.others FORMAT (λ e. absurd (cc e)) (λ e. absurd (cc e)));
}

-- a run over a store that was opened so
pub run_served : {D : Type 0} (reads : D → ℕ) (views : Views D) (left : Option Parts) (words : List (List ℕ)) (command : ServeCommand) (sizes : Sizes) (status : Status) (first disk disk_then : D) (told : Type 0)
    (old opened new : DiskState) → (views.disk.tells → Rests (views.disk.state first) (views.disk.state disk)) → views.disk.faults disk ≡ views.disk.faults first → IsServeCommand words command
    → IsOpened command.sizes sizes (store_told views.disk.tells (views.disk.state first).reads told old.reads) opened
    → (told → PutsOnly (own_format (old.reads FORMAT) command.sizes) old opened) → ServesStore views (setup_by command sizes.segment) left (run_over status disk disk_then reads (keep_over told opened new))
    → IfSome left (λ core. (c : ServeCommand) × (s : Sizes) × (IsServeCommand words c × IsOpened c.sizes s (store_told views.disk.tells (views.disk.state first).reads told old.reads) new)
    × HasServed views (setup_by c s.segment) (run_over status first disk_then reads (keep_over told old new)) (λ start history. PutsAllAlong (own_format (old.reads FORMAT) c.sizes) start history old new) core)
run_served reads views None words command sizes status first disk disk_then told old opened new rests same asked is puts it = tt
run_served reads views (Some core) words command sizes status first disk disk_then told old opened new rests same asked is puts it =
    let run = it.served in
    let setup = setup_by command sizes.segment in
    let saved = saved_as run.offsets run.topics in
    let P = IsTextAlong (λ s. offsets_text_of s.offsets) run.opened.core run.history in
    let Q = IsTextAlong (λ s. topics_text_of s.topics) run.opened.core run.history in
    let format = own_format (old.reads FORMAT) command.sizes in (
      command,
      sizes,
      (asked, opened_kept P Q command.sizes sizes (store_told views.disk.tells (views.disk.state first).reads told old.reads) opened new run.put is),
      record {
        offsets = run.offsets;
        topics = run.topics;
        config = λ t. config_before format old opened run.offsets run.topics (puts t) (run.config t);
        opened = run.opened;
        over = run.over;
        kept = λ t. subst (λ (f : Files). OpensKeptWith setup saved f run.opened) (rests t).same (run.kept t);
        history = run.history;
        stands = run.stands;
        began = run.began;
        begins = begins_before setup saved run.opened views.disk first disk run.began rests same run.begins;
        ended = run.ended;
        back = run.back;
        failures = run.failures;
        counted = run.counted;
        made = run.made;
        stores = λ t. ours_before sizes.segment (views.disk.state first) (views.disk.state disk) core (views.disk.state disk_then) (rests t) (run.stores t);
        put = λ t. puts_all format P Q old opened new (puts t) (run.put t);
        stopped = run.stopped;
        last = run.last;
        replaced = run.replaced;
        tells = run.tells;
        done = run.done;
        ends = run.ends;
      },
    )

-- where no links were served
pub run_unserved : {D : Type 0} (reads : D → ℕ) (views : Views D) (left : Option Parts) (words : List (List ℕ)) (command : ServeCommand) (sizes : Sizes) (status : Status) (first disk disk_then : D) (told : Type 0)
    (old opened new : DiskState) → (views.disk.tells → Rests (views.disk.state first) (views.disk.state disk)) → IsServeCommand words command
    → IsOpened command.sizes sizes (store_told views.disk.tells (views.disk.state first).reads told old.reads) opened
    → (told → PutsOnly (own_format (old.reads FORMAT) command.sizes) old opened) → ServesStore views (setup_by command sizes.segment) left (run_over status disk disk_then reads (keep_over told opened new))
    → IfNone left (ServesNobody words status (store_over views.disk.tells (views.disk.state first) (views.disk.state disk_then) told old new))
run_unserved reads views None words command sizes status first disk disk_then told old opened new rests asked is puts it =
    let format = own_format (old.reads FORMAT) command.sizes in
    inr (
      command,
      asked,
      record {
        why = inr (unserved_before command.sizes sizes status format views.disk.tells (views.disk.state first) (views.disk.state disk) (views.disk.state disk_then) told old opened new rests
            is puts (it.still refl) it.unserved);
        puts = λ t. puts_still format old opened new (puts t) (it.still refl t);
      },
    )
run_unserved reads views (Some core) words command sizes status first disk disk_then told old opened new rests asked is puts it = tt
