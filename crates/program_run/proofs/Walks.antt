-- Acts as a walk of the model: its log grows, and its flushed number counts the flush turns.
use Rattle.std.proofs.Common.{◌≡◌, ◌+◌, List, [], ◌∷◌, ◌++◌, Option, Some, None, refl, sym, ap, ◌∙◌, subst, arith, append_assoc}
use Rattle.std.proofs.lemmas.List.Sums.{sum_by-cons, sum_by-append}
use Rattle.log_model.specs.Stored.{FlushTurn, flush_turn, turned_in}
use Rattle.log_model.specs.declared.batch.Receipt.{Receipt}
use Rattle.broker_model.specs.State.{State}
use Rattle.broker_model.specs.Events as model
use Rattle.broker_model.specs.Run.{Boot, Move, Steps, Run, Goes}
use Rattle.broker_model.specs.Step.{Step}
use Rattle.broker_events.specs.Steps.{event_of, SaysIn}
use Rattle.broker_events.specs.declared.event.Event.{Event}
use Rattle.broker_events.specs.declared.event.Event.TheVariants.{Request, Take, Flushed, FlushFailed, Look, Dispatch, Deliver, Check, Leave}
use Rattle.broker_events.specs.declared.said.Said.{Said}
use Rattle.broker_events.specs.declared.said.Said.TheVariants as said
use Rattle.worker_turns.specs.Turns.{Steps as MakesSteps}
use Rattle.worker_turns.specs.Acts.{Act, Made, Wrote, Missed, Acts, Change, DiskView, Place, Happens, IsBetween, change_of, steps_in, steps_of, turns_in, turns_of}
use Rattle.flush_story.specs.Story as story
use Rattle.flush_story.specs.Story.{StepsAs, Reaches}
use Rattle.flush_story.specs.Keeping.{Grows}
use Rattle.flush_story.proofs.Steps.{step_flushed, step_flushes}
use Rattle.flush_story.proofs.Keeps.{reaches_grows}
use Rattle.broker_run.specs.Promise.{AreMoves}

-- ---- acts behind acts

steps_append : (first later : List Act) → steps_of (first ++ later) ≡ steps_of first ++ steps_of later
steps_append [] later = refl
steps_append (act ∷ first) later =
    ap (λ (l : List (Event × Option Said)). steps_in act ++ l) (steps_append first later) ∙ sym (append_assoc (steps_in act) (steps_of first) (steps_of later))

pub turns_append : (first later : List Act) → turns_of (first ++ later) ≡ turns_of first ++ turns_of later
turns_append [] later = refl
turns_append (act ∷ first) later =
    ap (λ (l : List FlushTurn). turns_in act ++ l) (turns_append first later) ∙ sym (append_assoc (turns_in act) (turns_of first) (turns_of later))

-- the turns of both flush what those of each flush
pub turned_append : (first later : List Act) → turned_in (turns_of (first ++ later)) ≡ turned_in (turns_of first) + turned_in (turns_of later)
turned_append first later =
    ap (λ (l : List FlushTurn). turned_in l) (turns_append first later) ∙ sum_by-append (λ (t : FlushTurn). t.count) (turns_of first) (turns_of later)

turned_cons : (turn : FlushTurn) (turns : List FlushTurn) → turned_in (turn ∷ turns) ≡ turn.count + turned_in turns
turned_cons turn turns = sum_by-cons (λ (t : FlushTurn). t.count) turn turns

-- ---- flushing by turns alone

-- a step that is made by itself flushes no batch
abbrev IsByTurn : Act → Type 0
IsByTurn (Made e what) = story.IsBetween e
IsByTurn (Wrote turn) = Unit {0}
IsByTurn (Missed batch count) = Unit {0}

abbrev pub AreByTurns : List Act → Type 0
AreByTurns [] = Unit {0}
AreByTurns (act ∷ acts) = IsByTurn act × AreByTurns acts

between_as : (e : Event) → IsBetween e → story.IsBetween e
between_as (Request link host now request) between = tt
between_as Take between = tt
between_as (Flushed receipt) between = between
between_as (FlushFailed count) between = tt
between_as (Look number turn) between = tt
between_as (Dispatch most) between = tt
between_as (Deliver now) between = tt
between_as (Check now) between = tt
between_as (Leave link) between = tt

act_by_turn : {C D : Type 0} (makes : MakesSteps C) (view : DiskView D) (act : Act) (change : Change C (Place D)) → Happens makes view act change → IsByTurn act
act_by_turn makes view (Made e what) change happens = between_as e happens.between
act_by_turn makes view (Wrote turn) change happens = tt
act_by_turn makes view (Missed batch count) change happens = tt

-- so it is with acts that happened
pub acts_by_turns : {C D : Type 0} (makes : MakesSteps C) (view : DiskView D) (acts : List Act) (change : Change C (Place D)) → Acts makes view acts change → AreByTurns acts
acts_by_turns makes view [] change happened = tt
acts_by_turns makes view (act ∷ acts) change happened = (
  act_by_turn makes view act (change_of change.calls change.place happened.0 happened.1) happened.2,
  acts_by_turns makes view acts (change_of happened.0 happened.1 change.calls_then change.place_then) happened.3,
)

by_turns_before : (first later : List Act) → AreByTurns (first ++ later) → AreByTurns first
by_turns_before [] later by = tt
by_turns_before (act ∷ first) later by = (by.0, by_turns_before first later by.1)

by_turns_behind : (first later : List Act) → AreByTurns (first ++ later) → AreByTurns later
by_turns_behind [] later by = by
by_turns_behind (act ∷ first) later by = by_turns_behind first later by.1

-- ---- the moves of a run

-- they are steps that lead from its first state to its last
pub moves_reach : (steps : List (Event × Option Said)) (moves : List Move) (b c : Boot) → AreMoves steps moves → Run b moves c → Reaches b.now steps c.now
moves_reach [] [] b c are run = ap (λ (x : Boot). x.now) run
moves_reach [] (move ∷ moves) b c are run = absurd are
moves_reach (it ∷ steps) [] b c are run = absurd are
moves_reach (it ∷ steps) (move ∷ moves) b c are run =
    let goes : Goes b (Steps (event_of it.0) are.0.0) run.0 = subst (λ (m : Move). Goes b m run.0) are.0.1 run.1 in
    (run.0.now, record { answer = are.0.0; says = are.0.2; step = goes.0 }, moves_reach steps moves run.0 c are.1 run.3)

-- ---- walks

-- the acts' steps lead from one state to the other
pub record Walks (s : State) (acts : List Act) (t : State) : Type 0 where
  pub by_turns : AreByTurns acts
  pub steps : Reaches s (steps_of acts) t

-- the acts of a run do
pub run_walks : {C D : Type 0} (makes : MakesSteps C) (view : DiskView D) (acts : List Act) (change : Change C (Place D)) → Acts makes view acts change
    → (b c : Boot) (moves : List Move) (t : State) → AreMoves (steps_of acts) moves → Run b moves c → c.now ≡ t → Walks b.now acts t
run_walks makes view acts change happened b c moves t are run reached = record {
  by_turns = acts_by_turns makes view acts change happened;
  steps = subst (λ (u : State). Reaches b.now (steps_of acts) u) reached (moves_reach (steps_of acts) moves b c are run);
}

-- a walk in two parts
pub record Parted (s : State) (first later : List Act) (t : State) : Type 0 where
  pub mid : State
  pub before : Walks s first mid
  pub behind : Walks mid later t

pub reaches_parted : (first later : List (Event × Option Said)) (s u : State) → Reaches s (first ++ later) u → (t : State) × Reaches s first t × Reaches t later u
reaches_parted [] later s u reaches = (s, refl, reaches)
reaches_parted (it ∷ first) later s u reaches =
    let rest = reaches_parted first later reaches.0 u reaches.2 in
    (rest.0, (reaches.0, reaches.1, rest.1), rest.2)

pub walks_parted : (s : State) (first later : List Act) (t : State) → Walks s (first ++ later) t → Parted s first later t
walks_parted s first later t walks =
    let parts = reaches_parted (steps_of first) (steps_of later) s t (subst (λ (l : List (Event × Option Said)). Reaches s l t) (steps_append first later) walks.steps) in
    record {
      mid = parts.0;
      before = record { by_turns = by_turns_before first later walks.by_turns; steps = parts.1 };
      behind = record { by_turns = by_turns_behind first later walks.by_turns; steps = parts.2 };
    }

-- of one step
pub walks_step : (s : State) (e : Event) (what : Option Said) (t : State) → Walks s (Made e what ∷ []) t → StepsAs s e what t
walks_step s e what t walks = subst (λ (u : State). StepsAs s e what u) (sym walks.steps.2) walks.steps.1

-- the log grows
pub walks_grows : (s : State) (acts : List Act) (t : State) → Walks s acts t → Grows s t
walks_grows s acts t walks = reaches_grows s t (steps_of acts) walks.steps

-- ---- the flushed number

answered_count : (s t : State) (receipt : Receipt) (answer : Option model.Answer) → SaysIn (Some said.Done) answer → Step s (event_of (Flushed receipt)) answer t → t.flushed ≡ s.flushed + receipt.count
answered_count s t receipt None says step = absurd says
answered_count s t receipt (Some answer) says step = step_flushes s t receipt answer step

steps_flushed : (acts : List Act) (s t : State) → AreByTurns acts → Reaches s (steps_of acts) t → t.flushed ≡ s.flushed + turned_in (turns_of acts)
steps_flushed [] s t by reaches = omega (arith, ap (λ (u : State). u.flushed) reaches)
steps_flushed (Made e what ∷ acts) s t by reaches =
    omega (arith, step_flushed s reaches.0 e reaches.1.answer by.0 reaches.1.step, steps_flushed acts reaches.0 t by.1 reaches.2)
steps_flushed (Wrote turn ∷ acts) s t by reaches =
    let taken : reaches.0.flushed ≡ s.flushed = step_flushed s reaches.0 Take reaches.1.answer tt reaches.1.step in
    let ended = reaches.2 in
    let counted = answered_count reaches.0 ended.0 turn.receipt ended.1.answer ended.1.says ended.1.step in
    omega (arith, taken, counted, turned_cons (flush_turn turn.receipt.count turn.moment) (turns_of acts), steps_flushed acts ended.0 t by.1 ended.2)
steps_flushed (Missed batch count ∷ acts) s t by reaches =
    let taken : reaches.0.flushed ≡ s.flushed = step_flushed s reaches.0 Take reaches.1.answer tt reaches.1.step in
    let failed = reaches.2 in
    let same : failed.0.flushed ≡ reaches.0.flushed = step_flushed reaches.0 failed.0 (FlushFailed count) failed.1.answer tt failed.1.step in
    omega (arith, taken, same, steps_flushed acts failed.0 t by.1 failed.2)

-- it rises by what the turns flush
pub walks_flushed : (s : State) (acts : List Act) (t : State) → Walks s acts t → t.flushed ≡ s.flushed + turned_in (turns_of acts)
walks_flushed s acts t walks = steps_flushed acts s t walks.by_turns walks.steps
