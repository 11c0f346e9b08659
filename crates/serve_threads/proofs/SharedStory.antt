-- The history of a shared broker is a story of the model and the disk.
use Rattle.std.proofs.Common.{◌≡◌, ⊎_elim, ℕ, zero, suc, ◌<◌, ◌≤◌, List, [], ◌∷◌, ◌++◌, length, Option, Some, Ok, Err, refl, sym, ap, ◌∙◌, subst, arith, append_assoc}
use Rattle.log_model.specs.Stored.{Stored}
use Rattle.log_model.specs.declared.batch.Batch.{Batch}
use Rattle.log_model.specs.declared.batch.Receipt.{Receipt}
use Rattle.segment_files.specs.Turn.{Growing, HasTurned, PlacesOn}
use Rattle.segment_files.specs.declared.last_file.LastFile.{LastFile}
use Rattle.group_flush.specs.declared.flusher.FlushFault.{FlushFault}
use Rattle.broker_model.specs.State.{State}
use Rattle.broker_events.specs.declared.event.Event.{Event}
use Rattle.broker_events.specs.declared.event.Event.TheVariants.{Request, Take, Flushed, FlushFailed, Look, Dispatch, Deliver, Check, Leave}
use Rattle.broker_events.specs.declared.said.Said.{Said}
use Rattle.broker_events.specs.declared.said.Said.TheVariants as said
use Rattle.core_log.specs.Represents.{Represents}
use Rattle.core_log.specs.declared.parts.Parts.{Parts}
use Rattle.mq_outside.specs.Readings.{Giving}
use Rattle.session.specs.Serving.{Made}
use Rattle.worker_turns.specs.Acts as acts
use Rattle.worker_turns.specs.Acts.{Act, Change, Turn, DiskView, Place, growing_at, steps_of, HasWritten, HasMissed, change_of}
use Rattle.flush_story.specs.Story as stories
use Rattle.flush_story.specs.Story.{StepsAs, Happening, Stepped, Ended, Broke, Story, Reaches, IsBetween, AreBetween, span_of}
use Rattle.flush_story.proofs.Keeps.{keeps_start, keeps_story}
use Rattle.spine.specs.Stands.{StepsAlong, Along, Stands}
use Rattle.reply_fields.specs.Parts.{AskParts}
use Rattle.serve_threads.specs.Links.{LoopLinks, AreAnsweredFrom}
use Rattle.flush_rounds.specs.Flushing.{of_anybody, Write}
use Rattle.serve_threads.specs.Served.{AreLooks, IsMerged, LeadsOn}
use Rattle.serve_threads.proofs.Laid.{Laid, laid}

-- ---- one step

step_as : (s t : State) (e : Event) (what : Option Said) → StepsAlong s e what t → StepsAs s e what t
step_as s t e what step = record { answer = step.answer; says = step.says; step = step.step }

between_as : (e : Event) → acts.IsBetween e → IsBetween e
between_as (Request link host now request) between = tt
between_as Take between = tt
between_as (Flushed receipt) between = between
between_as (FlushFailed count) between = tt
between_as (Look number turn) between = tt
between_as (Dispatch most) between = tt
between_as (Deliver now) between = tt
between_as (Check now) between = tt
between_as (Leave link) between = tt

ok_turned : (it : Stored) (behind : ℕ) (batch : Batch) (receipt : Receipt) (old new : Growing) → HasTurned {E = FlushFault} it behind batch (Ok receipt) old new → HasTurned {E = ℕ} it behind batch (Ok receipt) old new
ok_turned it behind batch receipt old new turned = record { any_moment = turned.any_moment; fault = turned.fault; flushed = turned.flushed; exact = turned.exact; ahead = turned.ahead }

err_turned : (it : Stored) (behind : ℕ) (batch : Batch) (count : ℕ) (old new : Growing) → HasTurned {E = FlushFault} it behind batch (Err (record { count = count })) old new
    → HasTurned {E = ℕ} it behind batch (Err count) old new
err_turned it behind batch count old new turned = record { any_moment = turned.any_moment; fault = turned.fault; flushed = turned.flushed; exact = turned.exact; ahead = turned.ahead }

ok_placed : (it : Stored) (batch : Batch) (receipt : Receipt) (new : LastFile) → PlacesOn {E = FlushFault} it batch (Ok receipt) new → PlacesOn {E = ℕ} it batch (Ok receipt) new
ok_placed it batch receipt new places = record { ok = places.ok; err = places.err }

err_placed : (it : Stored) (batch : Batch) (count : ℕ) (new : LastFile) → PlacesOn {E = FlushFault} it batch (Err (record { count = count })) new → PlacesOn {E = ℕ} it batch (Err count) new
err_placed it batch count new places = record { ok = places.ok; err = places.err }

-- ---- while a batch is out

-- the history up to the step that ends the turn, and from there on
record SplitOut (H : Made) (last : Event × Option Said) (more : Made) (m t : State) : Type 0 where
  others : Made
  rest : Made
  full : State
  next : State
  both : H ≡ others ++ last ∷ rest
  between : AreBetween others
  reaches : Reaches m others full
  step : StepsAs full last.0 last.1 next
  along : Along next rest t
  then : Laid rest more
  less : length rest < length H

split_more : (e : Event × Option Said) (H : Made) (last : Event × Option Said) (more : Made) (m n t : State) → IsBetween e.0 → StepsAlong m e.0 e.1 n → SplitOut H last more n t
    → SplitOut (e ∷ H) last more m t
split_more e H last more m n t between step out = record {
  others = e ∷ out.others;
  rest = out.rest;
  full = out.full;
  next = out.next;
  both = ap (λ (l : Made). e ∷ l) out.both;
  between = (between, out.between);
  reaches = (n, step_as m n e.0 e.1 step, out.reaches);
  step = out.step;
  along = out.along;
  then = out.then;
  less = let less = out.less in omega (arith, less);
}

split_here : (e : Event × Option Said) (H : Made) (last : Event × Option Said) (more rest : Made) (m n t : State) → last ∷ more ≡ e ∷ rest → StepsAlong m e.0 e.1 n → Along n H t → Laid H rest
    → SplitOut (e ∷ H) last more m t
split_here e H last more rest m n t is step along laid_rest =
    let same : last ≡ e = cc in
    let tail : more ≡ rest = cc in
    record {
      others = [];
      rest = H;
      full = m;
      next = n;
      both = ap (λ (s : Event × Option Said). s ∷ H) (sym same);
      between = tt;
      reaches = refl;
      step = subst (λ (s : Event × Option Said). StepsAs m s.0 s.1 n) (sym same) (step_as m n e.0 e.1 step);
      along = along;
      then = subst (λ (l : Made). Laid H l) (sym tail) laid_rest;
      less = omega arith;
    }

split_out : (H : Made) (last : Event × Option Said) (more : Made) (m t : State) → Laid H (last ∷ more) → Along m H t → SplitOut H last more m t
split_out [] last more m t is along = let none : last ∷ more ≡ [] = is in cc
split_out (e ∷ H) last more m t is along =
    ⊎_elim (λ other. split_more e H last more m along.0 t other.0 along.1 (split_out H last more along.0 t other.1 along.2))
    (λ own. split_here e H last more own.0 m along.0 t own.1 along.1 along.2 own.2) is

-- ---- the story

module _ {D : Type 0} (view : DiskView D) where
  -- this history is a story from the first state and place to the second
  record Told (H : Made) (s : State) (p : Place D) (t : State) (q : Place D) : Type 0 where
    story : List Happening
    steps : stories.steps_of story ≡ H
    happens : Story view.tells (growing_at view) story (span_of s p t q)

  told_step : (e : Event × Option Said) (H : Made) (s m t : State) (p q : Place D) → IsBetween e.0 → StepsAlong s e.0 e.1 m → Told H m p t q → Told (e ∷ H) s p t q
  told_step e H s m t p q between step rest = record {
    story = Stepped e.0 e.1 ∷ rest.story;
    steps = ap (λ (l : Made). e ∷ l) rest.steps;
    happens = (m, p, record { between = between; made = step_as s m e.0 e.1 step; still = refl }, rest.happens);
  }

  -- the steps of a turn with others between, and what comes then
  turn_steps : (take last : Event × Option Said) (others rest all : Made) → all ≡ rest → (take ∷ others ++ last ∷ []) ++ all ≡ take ∷ (others ++ last ∷ rest)
  turn_steps take last others rest all is = ap (λ (l : Made). take ∷ l) (append_assoc others (last ∷ []) all ∙ ap (λ (l : Made). others ++ last ∷ l) is)

  told_written : (turn : Turn) (H : Made) (s out t : State) (p mid q : Place D) (more : Made) → StepsAs s Take (Some (said.Batch (Some turn.batch))) out
      → (split : SplitOut H (Flushed turn.receipt, Some said.Done) more out t) → HasWritten of_anybody view turn (change_of tt p tt mid) → Told split.rest split.next mid t q
      → Told ((Take, Some (said.Batch (Some turn.batch))) ∷ H) s p t q
  told_written turn H s out t p mid q more taken split wrote rest = record {
    story = Ended (record { batch = turn.batch; others = split.others }) turn.receipt turn.moment ∷ rest.story;
    steps = turn_steps (Take, Some (said.Batch (Some turn.batch))) (Flushed turn.receipt, Some said.Done) split.others split.rest (stories.steps_of rest.story) rest.steps
        ∙ ap (λ (l : Made). (Take, Some (said.Batch (Some turn.batch))) ∷ l) (sym split.both);
    happens = (
      split.next,
      mid,
      record {
        out = out;
        full = split.full;
        taken = taken;
        between = split.between;
        others = split.reaches;
        wrote = λ told it behind can. ok_turned it behind turn.batch turn.receipt (growing_at view p) (growing_at view mid) (wrote.wrote.turned told it behind can);
        places = λ it well is placed. ok_placed it turn.batch turn.receipt mid.file (wrote.wrote.places it well is placed);
        is = wrote.is;
        ended = wrote.ended;
        flushed = split.step;
      },
      rest.happens,
    );
  }

  told_missed : (batch : Batch) (count : ℕ) (H : Made) (s out t : State) (p mid q : Place D) (more : Made) → StepsAs s Take (Some (said.Batch (Some batch))) out
      → (split : SplitOut H (FlushFailed count, Some said.Done) more out t) → HasMissed of_anybody view batch count (change_of tt p tt mid) → Told split.rest split.next mid t q
      → Told ((Take, Some (said.Batch (Some batch))) ∷ H) s p t q
  told_missed batch count H s out t p mid q more taken split missed rest = record {
    story = Broke (record { batch = batch; others = split.others }) count ∷ rest.story;
    steps = turn_steps (Take, Some (said.Batch (Some batch))) (FlushFailed count, Some said.Done) split.others split.rest (stories.steps_of rest.story) rest.steps
        ∙ ap (λ (l : Made). (Take, Some (said.Batch (Some batch))) ∷ l) (sym split.both);
    happens = (
      split.next,
      mid,
      record {
        out = out;
        full = split.full;
        taken = taken;
        between = split.between;
        others = split.reaches;
        wrote = λ told it behind can. err_turned it behind batch count (growing_at view p) (growing_at view mid) (missed.wrote.turned told it behind can);
        places = λ it well is placed. err_placed it batch count mid.file (missed.wrote.places it well is placed);
        failed = split.step;
      },
      rest.happens,
    );
  }

  -- what is known of shorter histories
  abbrev Later : ℕ → State → Place D → Type 0
  Later fuel t q = (H : Made) (turns : List Act) (s : State) (p : Place D) → length H ≤ fuel → Laid H (steps_of turns) → Along s H t → Write view turns p q → Told H s p t q

  -- the next step is the flusher's
  told_own : (fuel : ℕ) (e : Event × Option Said) (H rest : Made) (turns : List Act) (s t : State) (p q : Place D) → Later fuel t q → length H ≤ fuel → steps_of turns ≡ e ∷ rest
      → Laid H rest → Along s (e ∷ H) t → Write view turns p q → Told (e ∷ H) s p t q
  told_own fuel e H rest [] s t p q later few is laid_rest along write = let none : [] ≡ e ∷ rest = is in cc
  told_own fuel e H rest (acts.Made event what ∷ turns) s t p q later few is laid_rest along write =
      let first : (event, what) ≡ e = cc in
      let tail : steps_of turns ≡ rest = cc in
      let between : IsBetween e.0 = subst (λ (x : Event × Option Said). IsBetween x.0) first (between_as event write.2.between) in
      told_step e H s along.0 t p q between along.1
      (later H turns along.0 p few (subst (λ (l : Made). Laid H l) (sym tail) laid_rest) along.2 (subst (λ (r : Place D). Write view turns r q) write.2.still write.3))
  told_own fuel e H rest (acts.Wrote turn ∷ turns) s t p q later few is laid_rest along write =
      let take : Event × Option Said = (Take, Some (said.Batch (Some turn.batch))) in
      let first : take ≡ e = cc in
      let tail : (Flushed turn.receipt, Some said.Done) ∷ steps_of turns ≡ rest = cc in
      let split = split_out H (Flushed turn.receipt, Some said.Done) (steps_of turns) along.0 t (subst (λ (l : Made). Laid H l) (sym tail) laid_rest) along.2 in
      let less = split.less in
      subst (λ (x : Event × Option Said). Told (x ∷ H) s p t q) first
      (told_written turn H s along.0 t p write.1 q (steps_of turns)
      (subst (λ (x : Event × Option Said). StepsAs s x.0 x.1 along.0) (sym first) (step_as s along.0 e.0 e.1 along.1)) split write.2
      (later split.rest turns split.next write.1 (omega (arith, few, less)) split.then split.along write.3))
  told_own fuel e H rest (acts.Missed batch count ∷ turns) s t p q later few is laid_rest along write =
      let take : Event × Option Said = (Take, Some (said.Batch (Some batch))) in
      let first : take ≡ e = cc in
      let tail : (FlushFailed count, Some said.Done) ∷ steps_of turns ≡ rest = cc in
      let split = split_out H (FlushFailed count, Some said.Done) (steps_of turns) along.0 t (subst (λ (l : Made). Laid H l) (sym tail) laid_rest) along.2 in
      let less = split.less in
      subst (λ (x : Event × Option Said). Told (x ∷ H) s p t q) first
      (told_missed batch count H s along.0 t p write.1 q (steps_of turns)
      (subst (λ (x : Event × Option Said). StepsAs s x.0 x.1 along.0) (sym first) (step_as s along.0 e.0 e.1 along.1)) split write.2
      (later split.rest turns split.next write.1 (omega (arith, few, less)) split.then split.along write.3))

  -- no turn is left
  told_end : (turns : List Act) (s t : State) (p q : Place D) → steps_of turns ≡ [] → s ≡ t → Write view turns p q → Told [] s p t q
  told_end [] s t p q none same write = record { story = []; steps = refl; happens = (sym same, write.place) }
  told_end (acts.Made event what ∷ turns) s t p q none same write = let some : (event, what) ∷ steps_of turns ≡ [] = none in cc
  told_end (acts.Wrote turn ∷ turns) s t p q none same write =
      let some : (Take, Some (said.Batch (Some turn.batch))) ∷ (Flushed turn.receipt, Some said.Done) ∷ steps_of turns ≡ [] = none in cc
  told_end (acts.Missed batch count ∷ turns) s t p q none same write =
      let some : (Take, Some (said.Batch (Some batch))) ∷ (FlushFailed count, Some said.Done) ∷ steps_of turns ≡ [] = none in cc

  told_all : (fuel : ℕ) (t : State) (q : Place D) → Later fuel t q
  told_all fuel t q [] turns s p few is along write = told_end turns s t p q is along write
  told_all zero t q (e ∷ H) turns s p few is along write = absurd (omega (arith, few))
  told_all (suc fuel) t q (e ∷ H) turns s p few is along write =
      let less : length H ≤ fuel = omega (arith, few) in
      ⊎_elim
      (λ other. told_step e H s along.0 t p q other.0 along.1 (told_all fuel t q H turns along.0 p less other.1 along.2 write))
      (λ own. told_own fuel e H own.0 turns s t p q (told_all fuel t q) less own.1 own.2 along write) is

  -- the history of the flusher, two loops and the keeper leads on, and every crash leaves what the turns flushed
  pub leads_on : (one other : LoopLinks) (gives : Giving) (failures : ℕ × ℕ) (put : List AskParts × List AskParts) (change : Change Parts (Place D)) (history : Made) (turns : List Act) (first second looks : Made)
      → Stands change.calls history change.calls_then → IsMerged history (steps_of turns) first second looks → AreAnsweredFrom one gives failures.0 0 put.0 first × AreAnsweredFrom other gives failures.1 1 put.1 second → AreLooks looks
      → Write view turns change.place change.place_then → (s : State) → Represents change.calls s → LeadsOn view history change s
  leads_on one other gives failures put change history turns first second looks stands merged links keeper write s are =
      let old = change.place in
      let new = change.place_then in
      let run = stands.runs s are in
      let told = told_all (length history) run.0 new history turns s old (omega arith) (laid one other gives failures put history (steps_of turns) first second looks merged links keeper) run.1 write in
      let low : s.log.base.records ≤ s.flushed = omega (arith, are.state.base, are.state.dispatched) in
      record {
        reached = run.0;
        represents = run.2;
        story = told.story;
        steps = told.steps;
        happens = told.happens;
        keeps = λ tell ready. keeps_story view.tells (growing_at view) tell s s run.0 [] told.story (growing_at view old) old new run.2.state.log low
            (keeps_start s (growing_at view old) ready) told.happens;
      }
