-- A history of the model: where a step of it stands, and how many records the flush turns before that had flushed.
use Rattle.std.proofs.Common.{◌≡◌, ℕ, zero, suc, ◌+◌, List, [], ◌∷◌, ◌++◌, length, map, take, slice_get, Option, Some, None, refl, sym, ap, ◌∙◌, subst, arith, append_assoc}
use Rattle.std.proofs.lemmas.List.{map-append}
use Rattle.std.proofs.lemmas.List.Sums.{sum_by-cons}
use Rattle.log_model.specs.Stored.{FlushTurn, turned_in}
use Rattle.log_model.specs.declared.batch.Receipt.{Receipt}
use Rattle.segment_files.specs.Turn.{Growing}
use Rattle.broker_model.specs.State.{State}
use Rattle.broker_model.specs.Events as model
use Rattle.broker_model.specs.Step.{Step}
use Rattle.broker_events.specs.Steps.{event_of}
use Rattle.broker_events.specs.declared.event.Event.{Event}
use Rattle.broker_events.specs.declared.event.Event.TheVariants.{Request, Take, Flushed, FlushFailed, Look, Dispatch, Deliver, Check, Leave}
use Rattle.broker_events.specs.declared.said.Said.{Said}
use Rattle.broker_events.specs.declared.said.Said.TheVariants as said
use Rattle.flush_story.specs.Story.{AreBetween, Broke, Ended, Happening, Happens, IsBetween, Reaches, Span, Stepped, StepsAs, Story, span_of, steps_in, steps_of, turns_in, turns_of}
use Rattle.flush_story.proofs.Steps.{step_flushed, step_flushes}
use Rattle.session.specs.Serving.{Made}
use Rattle.program_run.specs.Acknowledged.{flushed_by, flushed_in}
use Rattle.program_run.proofs.Walks.{reaches_parted}

-- ---- a step of a history

-- the step stands in the history
abbrev pub IsIn : Made → Event × Option Said → Type 0
IsIn history step = (k : ℕ) × (slice_get history k ≡ Some step)

-- what is before it and behind it
record Around (history : Made) (step : Event × Option Said) : Type 0 where
  before : Made
  behind : Made
  is : history ≡ before ++ step ∷ behind

around : (history : Made) (k : ℕ) (step : Event × Option Said) → slice_get history k ≡ Some step → Around history step
around [] k step at = absurd (cc)
around (first ∷ history) zero step at =
    let found : Some first ≡ Some step = at in
    let same : first ≡ step = cc in
    record { before = []; behind = history; is = ap (λ (s : Event × Option Said). s ∷ history) same }
around (first ∷ history) (suc k) step at =
    let there = around history k step at in
    record { before = first ∷ there.before; behind = there.behind; is = ap (λ (l : Made). first ∷ l) there.is }

-- The history leads from the first state to the last: up to the step, by it, and from it on.
pub record StepIn (s : State) (history : Made) (step : Event × Option Said) (t : State) : Type 0 where
  pub before : Made
  pub behind : Made
  pub is : history ≡ before ++ step ∷ behind
  pub from : State
  pub to : State
  pub first : Reaches s before from
  pub made : StepsAs from step.0 step.1 to
  pub later : Reaches to behind t

pub step_in : (s : State) (history : Made) (step : Event × Option Said) (t : State) → Reaches s history t → IsIn history step → StepIn s history step t
step_in s history step t reaches at =
    let here = around history at.0 step at.1 in
    let parts = reaches_parted here.before (step ∷ here.behind) s t (subst (λ (l : Made). Reaches s l t) here.is reaches) in
    record {
      before = here.before;
      behind = here.behind;
      is = here.is;
      from = parts.0;
      to = parts.2.0;
      first = parts.1;
      made = parts.2.1;
      later = parts.2.2;
    }

-- ---- its flush turns

pub flushed_append : (first later : Made) → flushed_by (first ++ later) ≡ flushed_by first ++ flushed_by later
flushed_append [] later = refl
flushed_append (step ∷ first) later =
    ap (λ (l : List ℕ). flushed_in step.0 ++ l) (flushed_append first later) ∙ sym (append_assoc (flushed_in step.0) (flushed_by first) (flushed_by later))

-- a step that flushes nothing
none_in : (e : Event) → IsBetween e → flushed_in e ≡ []
none_in (Request link host now request) between = refl
none_in Take between = refl
none_in (Flushed receipt) between = absurd between
none_in (FlushFailed count) between = refl
none_in (Look number turn) between = refl
none_in (Dispatch most) between = refl
none_in (Deliver now) between = refl
none_in (Check now) between = refl
none_in (Leave link) between = refl

none_by : (steps : Made) → AreBetween steps → flushed_by steps ≡ []
none_by [] between = refl
none_by (step ∷ steps) between = ap (λ (l : List ℕ). l ++ flushed_by steps) (none_in step.0 between.0) ∙ none_by steps between.1

-- how many records each of these turns flushed
abbrev pub counts_of : List FlushTurn → List ℕ
counts_of turns = map (λ turn. turn.count) turns

-- the flush turns of a story are those of its steps
module _ {P : Type 0} (tells : Type 0) (at : P → Growing) where
  happening_counts : (it : Happening) (span : Span P) → Happens tells at it span → counts_of (turns_in it) ≡ flushed_by (steps_in it)
  happening_counts (Stepped e what) span happens = sym (ap (λ (l : List ℕ). l ++ []) (none_in e happens.between))
  happening_counts (Ended turn receipt moment) span happens =
      sym (flushed_append turn.others ((Flushed receipt, Some said.Done) ∷ []) ∙ ap (λ (l : List ℕ). l ++ receipt.count ∷ []) (none_by turn.others happens.between))
  happening_counts (Broke turn count) span happens =
      sym (flushed_append turn.others ((FlushFailed count, Some said.Done) ∷ []) ∙ ap (λ (l : List ℕ). l ++ []) (none_by turn.others happens.between))

  pub story_counts : (story : List Happening) (span : Span P) → Story tells at story span → counts_of (turns_of story) ≡ flushed_by (steps_of story)
  story_counts [] span happened = refl
  story_counts (it ∷ story) span happened =
      map-append (λ (turn : FlushTurn). turn.count) (turns_in it) (turns_of story)
      ∙ (ap (λ (l : List ℕ). l ++ counts_of (turns_of story)) (happening_counts it (span_of span.state span.place happened.0 happened.1) happened.2)
      ∙ (ap (λ (l : List ℕ). flushed_by (steps_in it) ++ l) (story_counts story (span_of happened.0 happened.1 span.state_then span.place_then) happened.3)
      ∙ sym (flushed_append (steps_in it) (steps_of story))))

-- ---- how many records they flushed

abbrev total : List ℕ → ℕ
total [] = 0
total (n ∷ ns) = n + total ns

total_append : (first later : List ℕ) → total (first ++ later) ≡ total first + total later
total_append [] later = omega arith
total_append (n ∷ first) later = omega (arith, total_append first later)

turned_total : (turns : List FlushTurn) → turned_in turns ≡ total (counts_of turns)
turned_total [] = omega arith
turned_total (turn ∷ turns) = omega (arith, turned_total turns, sum_by-cons (λ (t : FlushTurn). t.count) turn turns)

flushes : (s t : State) (receipt : Receipt) (answer : Option model.Answer) → Step s (event_of (Flushed receipt)) answer t → t.flushed ≡ s.flushed + receipt.count
flushes s t receipt None step = absurd step.0
flushes s t receipt (Some answer) step = step_flushes s t receipt answer step

step_total : (s t : State) (e : Event) (answer : Option model.Answer) → Step s (event_of e) answer t → t.flushed ≡ s.flushed + total (flushed_in e)
step_total s t (Request link host now request) answer step = omega (arith, step_flushed s t (Request link host now request) answer tt step)
step_total s t Take answer step = omega (arith, step_flushed s t Take answer tt step)
step_total s t (Flushed receipt) answer step = omega (arith, flushes s t receipt answer step)
step_total s t (FlushFailed count) answer step = omega (arith, step_flushed s t (FlushFailed count) answer tt step)
step_total s t (Look number turn) answer step = omega (arith, step_flushed s t (Look number turn) answer tt step)
step_total s t (Dispatch most) answer step = omega (arith, step_flushed s t (Dispatch most) answer tt step)
step_total s t (Deliver now) answer step = omega (arith, step_flushed s t (Deliver now) answer tt step)
step_total s t (Check now) answer step = omega (arith, step_flushed s t (Check now) answer tt step)
step_total s t (Leave link) answer step = omega (arith, step_flushed s t (Leave link) answer tt step)

reaches_total : (steps : Made) (s t : State) → Reaches s steps t → t.flushed ≡ s.flushed + total (flushed_by steps)
reaches_total [] s t reaches = omega (arith, ap (λ (u : State). u.flushed) reaches)
reaches_total (step ∷ steps) s t reaches = omega (
  arith,
  step_total s reaches.0 step.0 reaches.1.answer reaches.1.step,
  reaches_total steps reaches.0 t reaches.2,
  total_append (flushed_in step.0) (flushed_by steps),
)

-- of turns with these counts the first ones have the first of these
front_counts : (first later : List ℕ) (turns : List FlushTurn) → counts_of turns ≡ first ++ later → counts_of (take (length first) turns) ≡ first
front_counts [] later turns are = refl
front_counts (n ∷ first) later [] are = let none : ◌≡◌ {A = List ℕ} [] (n ∷ (first ++ later)) = are in absurd (cc)
front_counts (n ∷ first) later (turn ∷ turns) are =
    let both : turn.count ∷ counts_of turns ≡ n ∷ (first ++ later) = are in
    let head : turn.count ≡ n = cc in
    let rest : counts_of turns ≡ first ++ later = cc in
    ap (λ (m : ℕ). m ∷ counts_of (take (length first) turns)) head ∙ ap (λ (l : List ℕ). n ∷ l) (front_counts first later turns rest)

-- what is flushed in a state of a history: what was at first, and what the flush turns before it flushed
pub flushed_there : (s t : State) (before : Made) (later : List ℕ) (turns : List FlushTurn) → Reaches s before t → counts_of turns ≡ flushed_by before ++ later
    → t.flushed ≡ s.flushed + turned_in (take (length (flushed_by before)) turns)
flushed_there s t before later turns reaches are =
    let first : List FlushTurn = take (length (flushed_by before)) turns in
    omega (arith, reaches_total before s t reaches, turned_total first, ap (λ (l : List ℕ). total l) (front_counts (flushed_by before) later turns are))
