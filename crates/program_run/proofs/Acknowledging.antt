-- What was answered with 0 to a link was found on the disk, and stands there.
use Rattle.std.proofs.Common.{◌≡◌, ℕ, ◌+◌, ◌<◌, ◌≤◌, List, ◌∷◌, ◌++◌, length, take, drop, pos, true, Option, Some, None, IfSome, refl, sym, ap, ◌∙◌, subst, arith, length-take, take-append-drop}
use Rattle.mq_outside.specs.Disk.{DiskState, Rests}
use Rattle.mq_outside.specs.Files.{Files}
use Rattle.mq_outside.proofs.Moments.{weaker}
use Rattle.record_codec.specs.Entry.{Entry}
use Rattle.log_model.specs.Bases.{Geometry, geometry, whole}
use Rattle.log_model.specs.Log.{IsWellFormed}
use Rattle.log_model.specs.Numbered.{Log}
use Rattle.log_model.specs.Store.{StoresLog}
use Rattle.log_model.specs.Stored.{FlushTurn, HasFirst, KeepsAtLeast, stored, turned_by, turned_in}
use Rattle.log_model.proofs.StoredLemmas.{has_less, keeps_then}
use Rattle.segment_files.specs.Turn.{IsReady, growing}
use Rattle.segment_files.proofs.Ready.{ready_first_records}
use Rattle.request_fields.specs.Requests.{SendSaid}
use Rattle.reply_fields.specs.Parts.{ReplyParts}
use Rattle.broker_model.specs.Run.{opened}
use Rattle.broker_model.specs.Sends.{kept_props, waits}
use Rattle.broker_model.specs.State.{State, Saved, Setup as ModelSetup}
use Rattle.broker_events.specs.declared.event.Event.TheVariants as events
use Rattle.broker_events.specs.declared.event.Setup.{Setup}
use Rattle.broker_events.specs.declared.said.Said.{Said}
use Rattle.broker_events.specs.declared.said.Said.TheVariants as said
use Rattle.broker_events.specs.declared.said.Awaited.TheVariants.{Flushed}
use Rattle.core_log.specs.Loads.{whole_log}
use Rattle.core_log.specs.Represents.{setup_of}
use Rattle.core_log.specs.declared.parts.Parts.{Parts}
use Rattle.flush_story.specs.Story as stories
use Rattle.flush_story.specs.Story.{Reaches, span_of}
use Rattle.flush_story.specs.Keeping.{AreInOrder, flushed_in, geometry_of, log_in}
use Rattle.flush_story.proofs.Keeps.{keeps_stores, reaches_grows, story_reaches}
use Rattle.flush_story.proofs.Turns.{order_on, turned_most}
use Rattle.log_opening.specs.Opens.{OpensOursWith, saved_as}
use Rattle.log_opening.specs.declared.opening.Opened.{Opened}
use Rattle.session.specs.Serving.{Made}
use Rattle.worker_turns.specs.Acts.{Place, change_of, growing_at, place_of}
use Rattle.store_open.specs.Openings.{FORMAT, IsOpened, own_format, store_told}
use Rattle.store_open.specs.ServeWords.{IsServeCommand}
use Rattle.store_open.specs.declared.format.Sizes.{Sizes}
use Rattle.store_open.specs.declared.serve_words.ServeCommand.{ServeCommand}
use Rattle.store_open.specs.declared.status.Status.{Status}
use Rattle.exit_status.proofs.LogLemmas.{stores_rests}
use Rattle.serve_threads.specs.Links.{first_links, second_links}
use Rattle.serve_threads.specs.Served.{IsMadeBy, Views}
use Rattle.broker_serve.specs.Serves.{HasServed, PutsAllAlong, run_over, setup_by}
use Rattle.broker_serve.proofs.Storing.{open_for}
use Rattle.program_run.specs.Acknowledged.{IsAcknowledged, IsPast, KeepsServed, Past, flushed_by, last_moment}
use Rattle.program_run.specs.Runs.{ServeSeen}
use Rattle.program_run.proofs.Histories.{IsIn, counts_of, flushed_append, flushed_there, step_in, story_counts}
use Rattle.program_run.proofs.LinkReplies.{Knows, links_stand}
use Rattle.program_run.proofs.LinkSteps.{each_at}
use Rattle.program_run.proofs.OnDisk.{turned_keeps, turned_stands}
use Rattle.program_run.proofs.SendAnswers.{is_message, record_for}
use Rattle.program_run.proofs.SendSteps.{IsAtOnce, found_by, once_code, sends, waiting_appended}
use Rattle.program_run.proofs.Sent.{appended_stands}

-- ---- a history over a disk

-- A run of the model along the history, in sync mode. Its flush turns ended from this moment on, one behind the other; and at each
-- moment since a crash of the disk leaves the first records of its log, so many as were flushed by then. The disk stores the log.
record HistoryOver (S : Geometry) (history : Made) (began : ℕ) (disk : DiskState) : Type 0 where
  first : State
  last : State
  turns : List FlushTurn
  flushed : ℕ
  steps : Reaches first history last
  counts : counts_of turns ≡ flushed_by history
  sync : first.setup.sync ≡ true
  base : first.log.base.records ≡ 0
  order : AreInOrder began turns disk.moment
  well : IsWellFormed S last.log.records
  leaves : (m : ℕ) (files : Files) → began ≤ m → m ≤ disk.moment → disk.image_at m files → HasFirst S last.log.records (first.flushed + turned_by turns m) files
  stores : StoresLog S last.log.records flushed disk

module _ (S : Geometry) (history : Made) (began : ℕ) (disk : DiskState) (run : HistoryOver S history began disk) where
  abbrev past_of : Past
  past_of = record { geometry = S; history = history; began = began; turns = run.turns; log = run.last.log.records }

  is_past : IsPast past_of disk
  is_past = record { turns = run.counts; order = run.order; flushed = run.flushed; stores = run.stores }

  -- messages are synced before each step, and no record was removed
  synced : (before : Made) (s : State) → Reaches run.first before s → s.setup.sync ≡ true
  synced before s reaches = ap (λ (c : ModelSetup). c.sync) (reaches_grows run.first s before reaches).setup ∙ run.sync

  whole_there : (before : Made) (s : State) → Reaches run.first before s → s.log.base.records ≡ 0
  whole_there before s reaches = ap (λ (l : Log). l.base.records) (reaches_grows run.first s before reaches).log ∙ run.base

  not_at_once : (link : ℕ) (host : List ℕ) (now : ℕ) (send : SendSaid) (what : Option Said) (reply : ReplyParts) → waits (kept_props send.props) ≡ true
      → IsIn history (sends link host now send, what) → IsAtOnce what reply → reply.code ≡ pos 0 → ⊥
  not_at_once link host now send what reply waiting at once code =
      let here = step_in run.first history (sends link host now send, what) run.last run.steps at in
      once_code here.from here.to link host now send what reply (synced here.before here.from here.first) waiting here.made once code

  -- the look found the record that was appended for the message
  acknowledged : (link : ℕ) (host : List ℕ) (now : ℕ) (send : SendSaid) (reply : ReplyParts) (number turn : ℕ) → waits (kept_props send.props) ≡ true
      → IsIn history (sends link host now send, Some (said.After reply number turn)) → IsIn history (events.Look number turn, Some (said.Awaited Flushed))
      → IsAcknowledged past_of disk reply send
  acknowledged link host now send reply number turn waiting asked looked =
      let ask = step_in run.first history (sends link host now send, Some (said.After reply number turn)) run.last run.steps asked in
      let look = step_in run.first history (events.Look number turn, Some (said.Awaited Flushed)) run.last run.steps looked in
      let from : State = ask.from in
      let r : Entry = record_for from host now send in
      let appended = waiting_appended from ask.to link host now send reply number turn (synced ask.before from ask.first) waiting ask.made in
      let is = appended_stands from ask.to run.last host now send reply number (whole_there ask.before from ask.first) appended (reaches_grows ask.to run.last ask.behind ask.later) in
      let rest : Made = (events.Look number turn, Some (said.Awaited Flushed)) ∷ look.behind in
      let counts = run.counts ∙ (ap flushed_by look.is ∙ flushed_append look.before rest) in
      let before : ℕ = length (flushed_by look.before) in
      let first : List FlushTurn = take before run.turns in
      let later : List FlushTurn = drop before run.turns in
      let parts : run.turns ≡ first ++ later = sym (take-append-drop before run.turns) in
      let flushed : number < run.first.flushed + turned_in first = omega (
        arith,
        found_by look.from look.to number turn look.made.answer look.made.says look.made.step,
        flushed_there run.first look.from look.before (flushed_by rest) run.turns look.first counts,
      ) in
      record {
        moment = last_moment began first;
        on_disk = record {
          number = number;
          stands = record {
            r = r;
            is = is;
            stands = turned_stands S run.last.log.records run.first.flushed began run.turns first later disk number r run.well parts run.order run.leaves is flushed;
            kept = turned_keeps S run.last.log.records run.first.flushed began run.turns first later disk number r run.well parts run.order run.leaves is flushed;
          };
          message = is_message from host now send;
          named = appended.named;
        };
        found = record { before = look.before; turn = turn; behind = look.behind; looked = look.is; moment_is = refl };
      }

  known : Knows past_of disk
  known = record { at_once = not_at_once; found = acknowledged }

-- ---- the history of a run of `serve`

module _ {D : Type 0} (views : Views D) (failures : ℕ × ℕ) (history : Made) (setup : Setup) (saved : Saved) (it : Opened) (began : D) (core : Parts) (ended : Place D) (disk : DiskState)
    (log : List Entry) (flushed : ℕ) (sync : setup.sync ≡ true) (told : views.disk.tells) (made : IsMadeBy views failures history (change_of it.core (place_of it.flusher.file began) core ended))
    (rests : Rests (views.disk.state ended.disk) disk) (ours : OpensOursWith setup saved log flushed (views.disk.state began) it) where
  -- from the opening of a log that was stored, and read of honestly, it is a run over the disk behind it
  history_over : HistoryOver (whole setup.segment) history (views.disk.state began).moment disk
  history_over =
      let records : List Entry = take ours.number log in
      let s : State = opened (setup_of setup) (whole_log records) saved in
      let old : DiskState = views.disk.state began in
      let mid : DiskState = views.disk.state ended.disk in
      let long : ours.number ≡ length records = omega (arith, ours.high, length-take ours.number log) in
      let ready = subst (λ (n : ℕ). IsReady (stored (whole setup.segment) records n) 0 (growing it.flusher.file old)) long ours.ready in
      let leads = made.leads s ours.opens.represents in
      let keeps = leads.keeps told (open_for setup saved records (growing it.flusher.file old) ready) in
      let t : State = leads.reached in
      let turns : List FlushTurn = stories.turns_of leads.story in
      let kept_log : List Entry = t.log.records in
      let G : Geometry = geometry_of t in
      let same : G ≡ whole setup.segment = λ i. geometry ((keeps.grows.setup i).segment) ((keeps.grows.log i).base) in
      let all : flushed_in s ≡ s.flushed = omega arith in
      let here = ready_first_records (log_in t) keeps.still_open.behind ended.file mid keeps.still_open.ready in
      let behind : KeepsAtLeast G kept_log (λ m. flushed_in s + turned_by turns m) mid disk = record {
        continues = weaker rests.quiet (λ files image. tt);
        each = λ m files low high image. has_less G kept_log (flushed_in t) (flushed_in s + turned_by turns m) files (omega (arith, keeps.flushed, turned_most turns m))
            (here.at files (rests.quiet.each m files low high image));
      } in
      let kept = keeps_then G kept_log (λ m. flushed_in s + turned_by turns m) old mid disk keeps.kept behind in
      let stores = subst (λ (S : Geometry). StoresLog S kept_log (flushed_in t) mid) same (keeps_stores s t turns (growing it.flusher.file old) (growing ended.file mid) keeps) in
      let place : Place D = place_of it.flusher.file began in
      record {
        first = s;
        last = t;
        turns = turns;
        flushed = flushed_in t;
        steps = subst (λ (l : Made). Reaches s l t) leads.steps (story_reaches views.disk.tells (growing_at views.disk) s t leads.story place ended leads.happens);
        counts = story_counts views.disk.tells (growing_at views.disk) leads.story (span_of s place t ended) leads.happens ∙ ap flushed_by leads.steps;
        sync = sync;
        base = refl;
        order = order_on old.moment mid.moment disk.moment turns rests.quiet.later keeps.order;
        well = stores.at.well_formed;
        leaves = λ m files low high image. subst (λ (S : Geometry). HasFirst S kept_log (s.flushed + turned_by turns m) files) same
            (has_less G kept_log (flushed_in s + turned_by turns m) (s.flushed + turned_by turns m) files (omega (arith, all)) (kept.each m files low high image));
        stores = stores_rests (whole setup.segment) kept_log (flushed_in t) mid disk rests stores;
      }

-- ---- a run

module _ {D : Type 0} (words : List (List ℕ)) (status : Status) (seen : ServeSeen D) where
  -- links were served by this command, in segments of this size
  abbrev pub ServedBy : ServeCommand → Sizes → Parts → Type 0
  ServedBy command sizes left = HasServed seen.views (setup_by command sizes.segment)
      (run_over status seen.old seen.new seen.read_faults seen.keep)
      (λ start history. PutsAllAlong (own_format (seen.keep.old.reads FORMAT) command.sizes) start history seen.keep.old seen.keep.new)
      left

  -- each message that was answered with 0 was found on the disk, and stands there
  keeps_served : (command : ServeCommand) (sizes : Sizes) (left : Parts) → IsServeCommand words command → ServedBy command sizes left → KeepsServed words status seen left
  keeps_served command sizes left asked served = record {
    command = command;
    asked = asked;
    sizes = sizes;
    served = served;
    kept = λ sync told log flushed was honest.
        let S : Geometry = whole sizes.segment in
        let began : ℕ = (seen.views.disk.state served.began).moment in
        let disk : DiskState = seen.views.disk.state seen.new in
        let ours = served.begins.ours told log flushed was honest in
        let run = history_over seen.views served.failures served.history (setup_by command sizes.segment) (saved_as served.offsets served.topics) served.opened served.began left served.ended
        disk log flushed sync told served.made (served.back.rests told) ours in
        let past : Past = past_of S served.history began disk run in
        let knows = known S served.history began disk run in
        let at = served.made.merged.are in (
          past,
          is_past S served.history began disk run,
          refl,
          refl,
          refl,
          λ tells entered. (
            links_stand past disk knows seen.views.gives served.failures.0 (first_links seen.views.links) 0 served.made.put.0 served.made.first tells entered served.made.links.0
                (each_at served.history served.made.merged.first_at served.made.first at.1),
            links_stand past disk knows seen.views.gives served.failures.1 (second_links seen.views.links) 1 served.made.put.1 served.made.second tells entered served.made.links.1
                (each_at served.history served.made.merged.second_at served.made.second at.2),
          ),
        );
  }

  -- the same where a core is left
  pub served_stand : (core : Option Parts) → IfSome core (λ left. (command : ServeCommand) × (sizes : Sizes) × (IsServeCommand words command
      × IsOpened command.sizes sizes
      (store_told seen.views.disk.tells (seen.views.disk.state seen.old).reads seen.keep.tells seen.keep.old.reads) seen.keep.new)
      × ServedBy command sizes left)
      → IfSome core (λ left. KeepsServed words status seen left)
  served_stand None served = tt
  served_stand (Some left) served = keeps_served served.0 served.1 left served.2.0 served.3
