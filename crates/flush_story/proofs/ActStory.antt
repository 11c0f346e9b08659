-- The acts of a broker that one caller has alone are a story of the model and the disk.
use Rattle.std.proofs.Common.{◌≡◌, ◌≢◌, ◌⊎◌, ⊎_elim, ℕ, ◌≤◌, List, [], ◌∷◌, map, Option, Some, Result, Ok, Err, refl, sym, ap, subst, arith}
use Rattle.log_model.specs.Stored.{Stored, FlushTurn}
use Rattle.log_model.specs.declared.batch.Batch.{Batch}
use Rattle.log_model.specs.declared.batch.Receipt.{Receipt}
use Rattle.segment_files.specs.Turn.{Growing, HasTurned, PlacesOn}
use Rattle.segment_files.specs.declared.last_file.LastFile.{LastFile}
use Rattle.group_flush.specs.declared.flusher.FlushFault.{FlushFault}
use Rattle.broker_model.specs.State.{State}
use Rattle.broker_events.specs.declared.event.Event.{Event}
use Rattle.broker_events.specs.declared.event.Event.TheVariants.{Request, Take, Flushed, FlushFailed, Look, Dispatch, Deliver, Check, Leave}
use Rattle.broker_events.specs.declared.said.Said.{Said}
use Rattle.broker_events.specs.declared.said.Said.TheVariants as said
use Rattle.broker_core.specs.Makes.{Makes}
use Rattle.core_log.specs.Represents.{Represents}
use Rattle.broker_core.specs.declared.alone.Alone.{Alone}
use Rattle.core_log.specs.declared.parts.Parts.{Parts}
use Rattle.worker_turns.specs.Turns.{TakesFrom}
use Rattle.worker_turns.specs.Acts.{Act, Made, Wrote, Missed, Acts, Acted, DiskView, Place, growing_at, steps_of, turns_of, IsBetween, IsUnwritten, HasUnwritten, Happens, HasMade, HasWritten, HasMissed, change_of}
use Rattle.flush_story.specs.Story as story
use Rattle.flush_story.specs.Story.{StepsAs, Happening, Stepped, Ended, Broke, Story, Reaches, span_of}
use Rattle.flush_story.specs.Keeping.{IsPlacedFor, Keeps}
use Rattle.flush_story.proofs.Keeps.{keeps_start, keeps_story, story_reaches}
use Rattle.flush_story.proofs.Placing.{placed_story, takes_to_place}
use Rattle.flush_story.specs.Leads.{alone, LeadsTo}

-- ---- an act in a story

-- nobody else makes steps while a batch is out
happening_of : Act → Happening
happening_of (Made e what) = Stepped e what
happening_of (Wrote turn) = Ended (record { batch = turn.batch; others = [] }) turn.receipt turn.moment
happening_of (Missed batch count) = Broke (record { batch = batch; others = [] }) count

steps_same : (acts : List Act) → story.steps_of (map happening_of acts) ≡ steps_of acts
unfolding happening_of
steps_same [] = refl
steps_same (Made e what ∷ acts) = ap (λ (l : List (Event × Option Said)). (e, what) ∷ l) (steps_same acts)
steps_same (Wrote turn ∷ acts) =
    ap (λ (l : List (Event × Option Said)). (Take, Some (said.Batch (Some turn.batch))) ∷ (Flushed turn.receipt, Some said.Done) ∷ l) (steps_same acts)
steps_same (Missed batch count ∷ acts) =
    ap (λ (l : List (Event × Option Said)). (Take, Some (said.Batch (Some batch))) ∷ (FlushFailed count, Some said.Done) ∷ l) (steps_same acts)

turns_same : (acts : List Act) → story.turns_of (map happening_of acts) ≡ turns_of acts
unfolding happening_of
turns_same [] = refl
turns_same (Made e what ∷ acts) = turns_same acts
turns_same (Wrote turn ∷ acts) = ap (λ (l : List FlushTurn). record { count = turn.receipt.count; moment = turn.moment } ∷ l) (turns_same acts)
turns_same (Missed batch count ∷ acts) = turns_same acts

-- ---- its parts

between_as : (e : Event) → IsBetween e → story.IsBetween e
between_as (Request link host now request) between = tt
between_as Take between = tt
between_as (Flushed receipt) between = between
between_as (FlushFailed count) between = tt
between_as (Look number turn) between = tt
between_as (Dispatch most) between = tt
between_as (Deliver now) between = tt
between_as (Check now) between = tt
between_as (Leave link) between = tt

step_as : (s : State) (e : Event) (what : Option Said) (new : Parts) (made : Makes s e what new) → StepsAs s e what made.reached
step_as s e what new made = record { answer = made.answer; says = made.says; step = made.step }

ok_turned : (it : Stored) (behind : ℕ) (batch : Batch) (receipt : Receipt) (old new : Growing) → HasTurned {E = FlushFault} it behind batch (Ok receipt) old new → HasTurned {E = ℕ} it behind batch (Ok receipt) old new
ok_turned it behind batch receipt old new turned = record { any_moment = turned.any_moment; fault = turned.fault; flushed = turned.flushed; exact = turned.exact; ahead = turned.ahead }

err_turned : (it : Stored) (behind : ℕ) (batch : Batch) (count : ℕ) (old new : Growing) → HasTurned {E = FlushFault} it behind batch (Err (record { count = count })) old new
    → HasTurned {E = ℕ} it behind batch (Err count) old new
err_turned it behind batch count old new turned = record { any_moment = turned.any_moment; fault = turned.fault; flushed = turned.flushed; exact = turned.exact; ahead = turned.ahead }

ok_placed : (it : Stored) (batch : Batch) (receipt : Receipt) (new : LastFile) → PlacesOn {E = FlushFault} it batch (Ok receipt) new → PlacesOn {E = ℕ} it batch (Ok receipt) new
ok_placed it batch receipt new places = record { ok = places.ok; err = places.err }

err_placed : (it : Stored) (batch : Batch) (count : ℕ) (new : LastFile) → PlacesOn {E = FlushFault} it batch (Err (record { count = count })) new → PlacesOn {E = ℕ} it batch (Err count) new
err_placed it batch count new places = record { ok = places.ok; err = places.err }

-- ---- acts, one after another

-- from a state that the core represents this happens, up to a state that it represents then
abbrev Goes : {D : Type 0} → DiskView D → Happening → State → Place D → Alone → Place D → Type 0
Goes view it s old y new = (t : State) × Represents y.core t × story.Happens view.tells (growing_at view) it (story.span_of s old t new)

-- each batch that can be taken is written from its place on
pub takes_from : (x : Alone) (s : State) (file : LastFile) → Represents x.core s → IsPlacedFor s file → TakesFrom alone x file
takes_from x s file are here batch y makes =
    let taken = makes.step s are in
    takes_to_place s taken.reached batch file are.state.log (omega (arith, are.state.base, are.state.dispatched)) here
    (step_as s Take (Some (said.Batch (Some batch))) y.core taken)

module _ {D : Type 0} (view : DiskView D) where
  made_goes : (e : Event) (what : Option Said) (s : State) (x y : Alone) (p q : Place D) → Represents x.core s → HasMade alone e what (change_of x p y q) → Goes view (Stepped e what) s p y q
  made_goes e what s x y p q are made =
      let makes = made.made.step s are in
      (makes.reached, makes.represents, record { between = between_as e made.between; made = step_as s e what y.core makes; still = made.still })

  written_goes : (turn : _) (s : State) (x y : Alone) (p q : Place D) → Represents x.core s → HasWritten alone view turn (change_of x p y q)
      → Goes view (Ended (record { batch = turn.batch; others = [] }) turn.receipt turn.moment) s p y q
  written_goes turn s x y p q are wrote =
      let taken = wrote.steps.1.step s are in
      let ends = wrote.steps.2.1.step taken.reached taken.represents in (
        ends.reached,
        subst (λ (w : Alone). Represents w.core ends.reached) wrote.steps.2.2 ends.represents,
        record {
          out = taken.reached;
          full = taken.reached;
          taken = step_as s Take (Some (said.Batch (Some turn.batch))) wrote.steps.0.core taken;
          between = tt;
          others = refl;
          wrote = λ told it behind can. ok_turned it behind turn.batch turn.receipt (growing_at view p) (growing_at view q) (wrote.wrote.turned told it behind can);
          places = λ it well is placed. ok_placed it turn.batch turn.receipt q.file (wrote.wrote.places it well is placed);
          is = wrote.is;
          ended = wrote.ended;
          flushed = step_as taken.reached (Flushed turn.receipt) (Some said.Done) wrote.steps.2.0.core ends;
        },
      )

  missed_goes : (batch : Batch) (count : ℕ) (s : State) (x y : Alone) (p q : Place D) → Represents x.core s → HasMissed alone view batch count (change_of x p y q)
      → Goes view (Broke (record { batch = batch; others = [] }) count) s p y q
  missed_goes batch count s x y p q are missed =
      let taken = missed.steps.1.step s are in
      let ends = missed.steps.2.1.step taken.reached taken.represents in (
        ends.reached,
        subst (λ (w : Alone). Represents w.core ends.reached) missed.steps.2.2 ends.represents,
        record {
          out = taken.reached;
          full = taken.reached;
          taken = step_as s Take (Some (said.Batch (Some batch))) missed.steps.0.core taken;
          between = tt;
          others = refl;
          wrote = λ told it behind can. err_turned it behind batch count (growing_at view p) (growing_at view q) (missed.wrote.turned told it behind can);
          places = λ it well is placed. err_placed it batch count q.file (missed.wrote.places it well is placed);
          failed = step_as taken.reached (FlushFailed count) (Some said.Done) missed.steps.2.0.core ends;
        },
      )

  act_goes : (act : Act) (s : State) (x y : Alone) (p q : Place D) → Represents x.core s → Happens alone view act (change_of x p y q) → Goes view (happening_of act) s p y q
  unfolding happening_of
  act_goes (Made e what) s x y p q are happens = made_goes e what s x y p q are happens
  act_goes (Wrote turn) s x y p q are happens = written_goes turn s x y p q are happens
  act_goes (Missed batch count) s x y p q are happens = missed_goes batch count s x y p q are happens

  acts_story : (acts : List Act) (s : State) (x y : Alone) (p q : Place D) → Represents x.core s → Acts alone view acts (change_of x p y q)
      → (t : State) × Represents y.core t × Story view.tells (growing_at view) (map happening_of acts) (span_of s p t q)
  acts_story [] s x y p q are happened = (s, subst (λ (w : Alone). Represents w.core s) (sym happened.calls) are, (refl, happened.place))
  acts_story (act ∷ acts) s x y p q are happened =
      let one = act_goes act s x happened.0 p happened.1 are happened.2 in
      let rest = acts_story acts one.0 happened.0 y happened.1 q one.1 happened.3 in
      (rest.0, rest.1, (one.0, happened.1, one.2, rest.2))

  -- where the flusher writes behind the flushed records, each batch that is taken is written, or the disk fails
  act_written : (act : Act) (s : State) (x y : Alone) (p q : Place D) → Represents x.core s → IsPlacedFor s p.file → Happens alone view act (change_of x p y q) → IsUnwritten act → ⊥
  act_written (Made e what) s x y p q are here happens takes = happens.apart takes (takes_from x s p.file are here)
  act_written (Wrote turn) s x y p q are here happens takes = takes
  act_written (Missed batch count) s x y p q are here happens takes = takes

  act_placed : (act : Act) (s : State) (x y : Alone) (p q : Place D) → Represents x.core s → IsPlacedFor s p.file → (goes : Goes view (happening_of act) s p y q)
      → IsPlacedFor goes.0 q.file
  act_placed act s x y p q are here goes =
      placed_story view.tells (growing_at view) s goes.0 (happening_of act ∷ []) p q goes.1.state.log (omega (arith, are.state.base, are.state.dispatched)) here
      (goes.0, q, goes.2, (refl, refl))

  pub acts_written : (acts : List Act) (s : State) (x y : Alone) (p q : Place D) → Represents x.core s → IsPlacedFor s p.file → Acts alone view acts (change_of x p y q) → HasUnwritten acts → ⊥
  acts_written [] s x y p q are here happened has = has
  acts_written (act ∷ acts) s x y p q are here happened has =
      let goes = act_goes act s x happened.0 p happened.1 are happened.2 in
      ⊎_elim (λ (this : IsUnwritten act). act_written act s x happened.0 p happened.1 are here happened.2 this)
      (λ (later : HasUnwritten acts). acts_written acts goes.0 happened.0 y happened.1 q goes.1 (act_placed act s x happened.0 p happened.1 are here goes) happened.3 later)
      has

  -- and so every crash leaves what they flushed
  pub acts_lead : (acts : List Act) (s : State) (x y : Alone) (p q : Place D) → Represents x.core s → Acts alone view acts (change_of x p y q) → LeadsTo view acts s p y q
  acts_lead acts s x y p q are happened =
      let it = acts_story acts s x y p q are happened in
      let low : s.log.base.records ≤ s.flushed = omega (arith, are.state.base, are.state.dispatched) in
      record {
        reached = it.0;
        represents = it.1;
        steps = subst (λ (l : List (Event × Option Said)). Reaches s l it.0) (steps_same acts) (story_reaches view.tells (growing_at view) s it.0 (map happening_of acts) p q it.2);
        keeps = λ told first. subst (λ (l : List FlushTurn). Keeps s it.0 l (growing_at view p) (growing_at view q)) (turns_same acts)
            (keeps_story view.tells (growing_at view) told s s it.0 [] (map happening_of acts) (growing_at view p) p q it.1.state.log low (keeps_start s (growing_at view p) first) it.2);
        places = λ here. placed_story view.tells (growing_at view) s it.0 (map happening_of acts) p q it.1.state.log low here it.2;
        written = λ here. acts_written acts s x y p q are here happened;
      }
