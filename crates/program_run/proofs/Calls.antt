-- What one call of `run_pipe` did: each message that it answered with 0 stands on the disk.
use Rattle.std.proofs.Common.{◌≡◌, ⊎_elim, inl, inr, ℕ, ◌+◌, ◌++◌, List, Option, Result, Ok, Err, take, refl, sym, ap, subst, true, length}
use Rattle.record_codec.specs.Entry.{Entry}
use Rattle.remoting_frame.specs.declared.frame.Frame.{Frame}
use Rattle.log_model.specs.Bases.{Geometry, whole}
use Rattle.log_model.specs.Stored.{stored, turned_in}
use Rattle.broker_model.specs.State.{State}
use Rattle.broker_model.specs.Tables.{OffsetRow, TopicRow}
use Rattle.broker_events.specs.declared.event.Setup.{Setup}
use Rattle.broker_core.specs.declared.alone.Alone.{Alone}
use Rattle.session.specs.Talks.{requests_of}
use Rattle.store_open.specs.Openings.{FORMAT, own_format}
use Rattle.store_open.specs.declared.status.Status.{Status}
use Rattle.store_open.specs.declared.words.Command.{Command}
use Rattle.log_opening.specs.Opens.{saved_as}
use Rattle.flush_story.specs.Leads.{alone}
use Rattle.worker_turns.specs.Acts.{Act, Acts, Change, Place, change_of, turns_of}
use Rattle.worker_turns.specs.declared.broken.Broken.{Broken}
use Rattle.worker_turns.proofs.ActLemmas.{acts_then}
use Rattle.pipe_stream.specs.Serving.{Point, Sides, places_of, point_at, point_of}
use Rattle.pipe_stream.specs.Piping.{RanToEnd, acts_in}
use Rattle.pipe_stream.specs.declared.stop.Halt.{Halt}
use Rattle.pipe_stream.specs.declared.stop.Halt.TheVariants.{BadFrame, Read, Stopped}
use Rattle.broker_run.specs.Closing.{ended_as}
use Rattle.broker_run.specs.Promise.{Call, IsNotServed, KeepSeen, KeepsState, RunFrom, RunsTo, Seen, Served, Survives, before, behind, pipe_setup, sides_for}
use Rattle.program_run.specs.Stand.{AnswersStand, AnswersStandIn, KeepsAnswers}
use Rattle.program_run.proofs.Answers.{AreSent, answers_before, run_stands}

-- the acts for the requests happened
ran_acts : {C D : Type 0} (sides : Sides C D) (ended_by : Result (Unit {0}) Halt) (frames : List Frame) (change : Change C (Point D)) (ran : RanToEnd sides ended_by frames change)
    → Acts sides.makes sides.disk (acts_in sides ended_by frames change ran) (places_of change)
ran_acts sides (Ok done) frames change ran = ran.happened
ran_acts sides (Err (BadFrame place)) frames change ran = ran.happened
ran_acts sides (Err Read) frames change ran = ran.happened
ran_acts sides (Err (Stopped stop)) frames change ran = ran.happened

-- in each run of the model that a call's acts are, where messages are synced, each send that waits and is answered with 0 is in the log
abbrev pub KeepsSent : {D : Type 0} → Seen D → Type 0
KeepsSent {D} seen = (setup : Setup) (offsets : List OffsetRow) (topics : List TopicRow) (log : List Entry) (acts : List Act) (reached : State) (change : Change Alone (Place D))
    → RunsTo setup (saved_as offsets topics) log acts reached → Acts alone seen.disk acts change → setup.sync ≡ true → AreSent seen.gives (length log) reached acts

module _ {D : Type 0} (seen : Seen D) (sends : KeepsSent seen) where
  -- a run from the front of a stored log: what was answered stands
  run_stand : (setup : Setup) (offsets : List OffsetRow) (topics : List TopicRow) (reading : Result (Unit {0}) Halt) (last : Result (Option ℕ) Broken) (S : Geometry) (log first : List Entry) (flushed : ℕ) (kept : State → Type 0) → setup.sync ≡ true
      → RunFrom setup (saved_as offsets topics) first (ended_as reading last) seen
      (λ acts reached. Survives (stored S log flushed) first (turns_of acts) reached.log.records (before seen) (behind seen) × kept reached)
      → AnswersStand S seen
  run_stand setup offsets topics reading last S log first flushed kept sync ran =
      let piped = ran.piped in
      let change : Change Alone (Point D) = change_of ran.calls (point_of ran.place ran.reads seen.taken seen.readings)
      ran.served (point_at ran.mid ran.reads_then seen.taken_then seen.readings_then piped.asked) in
      let acts : List Act = ran.first ++ ran.flushed.acts in
      let served : Acts alone seen.disk ran.first (change_of ran.calls ran.place ran.served ran.mid) =
      subst (λ (l : List Act). Acts alone seen.disk l (change_of ran.calls ran.place ran.served ran.mid)) (sym ran.first_is)
      (ran_acts (sides_for seen) reading piped.frames change piped.ran) in
      let happened = acts_then alone seen.disk ran.first ran.flushed.acts ran.calls ran.served ran.closed ran.place ran.mid ran.final served ran.flushed.happened in
      let survives = ran.done.0 in
      let all = run_stands seen.gives S (length first) survives.opening ran.reached acts (behind seen)
      (sends setup offsets topics first acts ran.reached (change_of ran.calls ran.place ran.closed ran.final) ran.runs happened sync)
      survives.order survives.stores.at.well_formed (λ m files low high image. (survives.after m files low high image).has)
      (sides_for seen) refl piped.frames change reading ran.flushed.acts piped.ran (ap (λ (l : List Act). l ++ ran.flushed.acts) ran.first_is) in
      let on = answers_before seen.gives S ran.reached.log.records survives.opening (before seen).moment (behind seen) (requests_of piped.frames) seen.sink seen.taken seen.taken_then 0 survives.later all in
      record {
        bytes = piped.bytes;
        frames = piped.frames;
        end = piped.at;
        rest = piped.rest;
        answers = on.answers;
        last_asks = on.behind;
        left = on.left;
        log = ran.reached.log.records;
        flushed = length first + turned_in (turns_of acts);
        given = piped.given_is;
        cut = piped.cut;
        asked = on.asked;
        written = on.written;
        taken = on.took;
        stand = on.stand;
        stores = survives.stores;
      }

  -- requests were served: what was answered stands in the store
  served_stand : (command : Command) (status : Status) (keep : KeepSeen) → command.sync ≡ true → seen.disk.tells → Served command status seen keep → AnswersStandIn command seen keep
  served_stand command status keep sync told served = record {
    sizes = served.sizes;
    sizes_are = served.opened_as.sizes_are;
    stand = λ log flushed stores honest.
        let on = served.durable told log flushed stores honest in
        run_stand (pipe_setup command served.sizes) served.offsets served.topics served.ended served.last (whole served.sizes.segment) log (take on.number log) flushed
        (KeepsState (own_format (keep.old.reads FORMAT) command.sizes) status keep) sync on.ran;
  }

  -- what a call answered stands, or it wrote nothing
  pub call_stands : (words : List (List ℕ)) (status : Status) (keep : KeepSeen) → Call words status seen keep → KeepsAnswers words seen keep
  call_stands words status keep call = record {
    command = call.command;
    asked = call.asked;
    kept = λ sync told. ⊎_elim
        (λ (served : Served call.command status seen keep). inr (served_stand call.command status keep sync told served))
        (λ (not_served : IsNotServed call.command status seen keep). inl not_served.untouched.taken_is)
        call.called;
  }
