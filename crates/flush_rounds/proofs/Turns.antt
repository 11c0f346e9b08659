-- The flusher's turns, one after another.
use Rattle.std.proofs.Common.{◌≡◌, ◌≢◌, ℕ, List, [], ◌∷◌, ◌++◌, Option, Some, None, inl, inr, refl, sym, ap, ◌∙◌, subst, append_assoc}
use Rattle.log_model.specs.declared.batch.Receipt.{Receipt}
use Rattle.broker_events.specs.Makes.{Makes}
use Rattle.broker_events.proofs.Makes.{makes_append}
use Rattle.broker_events.specs.declared.event.Event.{Event}
use Rattle.broker_events.specs.declared.event.Event.TheVariants as events
use Rattle.broker_events.specs.declared.said.Said.{Said}
use Rattle.broker_events.specs.declared.said.Said.TheVariants as said
use Rattle.session.specs.Serving.{Made}
use Rattle.event_loops.specs.Timing.{ClockOver, clock_over}
use Rattle.worker_turns.specs.Turns.{Steps, TakesFrom, Writes, HasEnded, WroteNone, CountsEnd}
use Rattle.worker_turns.specs.declared.flush.FlushEnd.{FlushEnd}
use Rattle.worker_turns.specs.declared.flush.FlushEnd.TheVariants.{Idle, Done, Failed, Misplaced, Memory}
use Rattle.worker_turns.specs.Acts as acts
use Rattle.worker_turns.specs.Acts.{Act, DiskView, Place, IsBetween, TakesBatch, Acts, Acted, Happens, steps_in, steps_of, change_of, synced_at}
use Rattle.worker_turns.specs.Turning.{IsTurn, IsDispatch, most_seen}
use Rattle.worker_turns.specs.Due.{acts_of_steps}
use Rattle.worker_turns.proofs.ActLemmas.{IsOther, still, acted_then, acted_as, acted_none, one_step, takes_none, turn_acted}
use Rattle.flush_rounds.specs.Deliveries.{IsOfDuties, AreOfDuties}
use Rattle.flush_rounds.specs.Asking.{Asking, Asks, HasNoneAsked, MakesAsking, asking_of, put_of}
use Rattle.flush_rounds.specs.declared.asks.AskWays.{AskWays}
use Rattle.flush_rounds.specs.Flushing.{IsOfFlusher, AreOfFlusher, ShowsFirst, IsShownBy, ShowsEach, AreFlushing, FlushesBetween, FlushesTo, of_anybody, Write}
use Rattle.flush_rounds.specs.Timing.{AreNotDue, IsAttended}
use Rattle.flush_rounds.proofs.Asking.{asks_still, asks_then, hands_out}
use Rattle.flush_rounds.proofs.Timing.{attends_none, attends_then, not_due_then}

-- ---- events of the flusher

takes : IsOfFlusher events.Take
takes = inl refl

tells : (receipt : Receipt) → IsOfFlusher (events.Flushed receipt)
tells receipt = inr (inl (receipt, refl))

fails : (count : ℕ) → IsOfFlusher (events.FlushFailed count)
fails count = inr (inr (inl (count, refl)))

shows : (most : ℕ) → IsOfFlusher (events.Dispatch most)
shows most = inr (inr (inr (inl (most, refl))))

attends : (event : Event) → IsOfDuties event → IsOfFlusher event
attends event is = inr (inr (inr (inr is)))

flusher_append : (xs ys : Made) → AreOfFlusher xs → AreOfFlusher ys → AreOfFlusher (xs ++ ys)
flusher_append [] ys are more = more
flusher_append (x ∷ xs) ys are more = (are.0, flusher_append xs ys are.1 more)

steps_append : (xs ys : List Act) → steps_of (xs ++ ys) ≡ steps_of xs ++ steps_of ys
steps_append [] ys = refl
steps_append (x ∷ xs) ys = ap (λ (l : Made). steps_in x ++ l) (steps_append xs ys) ∙ sym (append_assoc (steps_in x) (steps_of xs) (steps_of ys))

-- ---- what is flushed is shown

shows_more : (xs ys : Made) → ShowsFirst xs → ShowsFirst (xs ++ ys)
shows_more [] ys shows = absurd shows
shows_more (x ∷ xs) ys shows = shows

shown_more : (event : Event) (xs ys : Made) → IsShownBy event xs → IsShownBy event (xs ++ ys)
shown_more (events.Request link host now request) xs ys shown = tt
shown_more events.Take xs ys shown = tt
shown_more (events.Flushed receipt) xs ys shown = shows_more xs ys shown
shown_more (events.FlushFailed count) xs ys shown = tt
shown_more (events.Look number turn) xs ys shown = tt
shown_more (events.Dispatch most) xs ys shown = tt
shown_more (events.Deliver now) xs ys shown = tt
shown_more (events.Check now) xs ys shown = tt
shown_more (events.Leave link) xs ys shown = tt

shows_append : (xs ys : Made) → ShowsEach xs → ShowsEach ys → ShowsEach (xs ++ ys)
shows_append [] ys shows more = more
shows_append (x ∷ xs) ys shows more = (shown_more x.0 xs ys shows.0, shows_append xs ys shows.1 more)

flushing_append : (xs ys : List Act) → AreFlushing xs → AreFlushing ys → AreFlushing (xs ++ ys)
flushing_append xs ys one other = record {
  are = subst AreOfFlusher (sym (steps_append xs ys)) (flusher_append (steps_of xs) (steps_of ys) one.are other.are);
  shows = subst ShowsEach (sym (steps_append xs ys)) (shows_append (steps_of xs) (steps_of ys) one.shows other.shows);
}

none_flushing : AreFlushing []
none_flushing = record { are = tt; shows = tt }

duties_are : (steps : Made) → AreOfDuties steps → AreOfFlusher (steps_of (acts_of_steps steps))
duties_are [] are = tt
duties_are (step ∷ steps) are = (attends step.0 are.0, duties_are steps are.1)

-- a delivery, a check and a look flush no batch
duties_shown : (event : Event) (steps : Made) → IsOfDuties event → IsShownBy event steps
duties_shown event steps (inl it) = subst (λ (e : Event). IsShownBy e steps) (sym it.1) tt
duties_shown event steps (inr (inl it)) = subst (λ (e : Event). IsShownBy e steps) (sym it.1) tt
duties_shown event steps (inr (inr it)) = subst (λ (e : Event). IsShownBy e steps) (sym it.1) tt

duties_show : (steps : Made) → AreOfDuties steps → ShowsEach (steps_of (acts_of_steps steps))
duties_show [] are = tt
duties_show (step ∷ steps) are = (duties_shown step.0 (steps_of (acts_of_steps steps)) are.0, duties_show steps are.1)

duties_flushing : (steps : Made) → AreOfDuties steps → AreFlushing (acts_of_steps steps)
duties_flushing steps are = record { are = duties_are steps are; shows = duties_show steps are }

duties_steps : (steps : Made) → steps_of (acts_of_steps steps) ≡ steps
duties_steps [] = refl
duties_steps (step ∷ steps) = ap (λ (l : Made). step ∷ l) (duties_steps steps)

-- a delivery, a check and a look have to do with no batch
duties_between : (event : Event) → IsOfDuties event → IsBetween event
duties_between event (inl it) = subst (λ (e : Event). IsBetween e) (sym it.1) tt
duties_between event (inr (inl it)) = subst (λ (e : Event). IsBetween e) (sym it.1) tt
duties_between event (inr (inr it)) = subst (λ (e : Event). IsBetween e) (sym it.1) tt

duties_other : (event : Event) → IsOfDuties event → IsOther event
duties_other event (inl it) = subst (λ (e : Event). IsOther e) (sym it.1) tt
duties_other event (inr (inl it)) = subst (λ (e : Event). IsOther e) (sym it.1) tt
duties_other event (inr (inr it)) = subst (λ (e : Event). IsOther e) (sym it.1) tt

-- ---- turns

-- flush turns and the dispatches behind them, and no delivery or check
pub record AreTurns (turns : List Act) : Type 0 where
  pub flushing : AreFlushing turns
  pub not_due : AreNotDue (steps_of turns)

-- acts of the flusher, which show what is flushed once a dispatch comes directly behind them, and no delivery or check
record BeforeShow (turns : List Act) : Type 0 where
  are : AreOfFlusher (steps_of turns)
  not_due : AreNotDue (steps_of turns)
  shows : (what : Option Said) → ShowsEach (steps_of turns ++ (events.Dispatch most_seen, what) ∷ [])

-- one dispatch, whatever was said to it
Shows : List Act → Type 0
Shows turns = (what : Option Said) × (turns ≡ acts.Made (events.Dispatch most_seen) what ∷ [])

before_shown : (xs ys : List Act) → BeforeShow xs → Shows ys → AreTurns (xs ++ ys)
unfolding Shows
before_shown xs ys before shown =
    let dispatch : Made = (events.Dispatch most_seen, shown.0) ∷ [] in
    let are : steps_of (xs ++ ys) ≡ steps_of xs ++ dispatch = steps_append xs ys ∙ ap (λ (l : List Act). steps_of xs ++ steps_of l) shown.1 in
    record {
      flushing = record {
        are = subst AreOfFlusher (sym are) (flusher_append (steps_of xs) dispatch before.are (shows most_seen, tt));
        shows = subst ShowsEach (sym are) (before.shows shown.0);
      };
      not_due = subst AreNotDue (sym are) (not_due_then (steps_of xs) dispatch before.not_due (tt, tt));
    }

-- nothing was said, so no batch was taken
takes_nothing : TakesBatch events.Take None → ⊥
takes_nothing takes = let is : ◌≡◌ {A = Option Said} None (Some (said.Batch (Some takes.batch))) = takes.said_is in cc

module _ {C D : Type 0} (makes : Steps C) (view : DiskView D) where
  -- a flush turn that found nothing pending
  pub idle_turns : (end : FlushEnd) (x y : C) (old new : Place D) → end ≡ Idle
      → HasEnded makes (Writes view.tells (synced_at view old) (synced_at view new)) x end y
      → (WroteNone end → new ≡ old) → (TakesFrom makes x old.file → end ≢ Misplaced) → CountsEnd end (view.faults old.disk) (view.faults new.disk) → Acted makes view AreTurns (change_of x old y new)
  idle_turns Idle x y old new is ended same placed counts =
      acted_as makes view (IsTurn Idle) AreTurns x y old new
      (λ made is. subst AreTurns (sym is) (record { flushing = record { are = (takes, tt); shows = (tt, tt) }; not_due = (tt, tt) }))
      (turn_acted makes view Idle x y old new ended same placed counts)
  idle_turns Done x y old new is ended same placed counts = absurd (cc is)
  idle_turns (Failed count) x y old new is ended same placed counts = absurd (cc is)
  idle_turns Misplaced x y old new is ended same placed counts = absurd (cc is)
  idle_turns Memory x y old new is ended same placed counts = absurd (cc is)

  -- a flush turn
  ended_turns : (end : FlushEnd) (x y : C) (old new : Place D)
      → HasEnded makes (Writes view.tells (synced_at view old) (synced_at view new)) x end y
      → (WroteNone end → new ≡ old) → (TakesFrom makes x old.file → end ≢ Misplaced) → CountsEnd end (view.faults old.disk) (view.faults new.disk) → Acted makes view BeforeShow (change_of x old y new)
  ended_turns Idle x y old new ended same placed counts =
      acted_as makes view (IsTurn Idle) BeforeShow x y old new (λ made is. subst BeforeShow (sym is) (record { are = (takes, tt); not_due = (tt, tt); shows = λ what. (tt, (tt, tt)) }))
      (turn_acted makes view Idle x y old new ended same placed counts)
  ended_turns Done x y old new ended same placed counts =
      acted_as makes view (IsTurn Done) BeforeShow x y old new
      (λ made is. subst BeforeShow (sym is.1) (record { are = (takes, (tells is.0.receipt, tt)); not_due = (tt, (tt, tt)); shows = λ what. (tt, (refl, (tt, tt))) }))
      (turn_acted makes view Done x y old new ended same placed counts)
  ended_turns (Failed count) x y old new ended same placed counts =
      acted_as makes view (IsTurn (Failed count)) BeforeShow x y old new
      (λ made is. subst BeforeShow (sym is.1) (record { are = (takes, (fails count, tt)); not_due = (tt, (tt, tt)); shows = λ what. (tt, (tt, (tt, tt))) }))
      (turn_acted makes view (Failed count) x y old new ended same placed counts)
  ended_turns Misplaced x y old new ended same placed counts =
      let took : Option Said = Some (said.Batch (Some ended.batch)) in
      let failed = ended.steps.2 in
      record {
        acts = acts.Made events.Take took ∷ acts.Made (events.FlushFailed ended.count) (Some said.Done) ∷ [];
        kind = record { are = (takes, (fails ended.count, tt)); not_due = (tt, (tt, tt)); shows = λ what. (tt, (tt, (tt, tt))) };
        happened = (
          ended.steps.0,
          old,
          record { made = ended.steps.1; between = tt; apart = λ takes from. placed from refl; still = refl },
          one_step makes view (events.FlushFailed ended.count) (Some said.Done) ended.steps.0 y old new tt
              (takes_none (events.FlushFailed ended.count) (Some said.Done) tt)
              (subst (λ (w : C). makes ended.steps.0 (events.FlushFailed ended.count) (Some said.Done) w) failed.2 failed.1) (same tt),
        );
      }
  ended_turns Memory x y old new ended same placed counts = record {
    acts = acts.Made events.Take None ∷ [];
    kind = record { are = (takes, tt); not_due = (tt, tt); shows = λ what. (tt, (tt, tt)) };
    happened = one_step makes view events.Take None x y old new tt takes_nothing (subst (λ (w : C). makes x events.Take None w) ended.2 ended.1) (same tt);
  }

  -- a flush turn, and the dispatch behind it
  pub shown_turns : (end : FlushEnd) (x y z : C) (old new : Place D)
      → HasEnded makes (Writes view.tells (synced_at view old) (synced_at view new)) x end y
      → (WroteNone end → new ≡ old) → (TakesFrom makes x old.file → end ≢ Misplaced) → CountsEnd end (view.faults old.disk) (view.faults new.disk) → IsDispatch makes y z
      → Acted makes view AreTurns (change_of x old z new)
  unfolding Shows
  shown_turns end x y z old new ended same placed counts made =
      let what : Option Said = Some (said.Moved made.0) in
      acted_then makes view BeforeShow Shows AreTurns x y z old new new (ended_turns end x y old new ended same placed counts)
      (record {
        acts = acts.Made (events.Dispatch most_seen) what ∷ [];
        kind = (what, refl);
        happened = one_step makes view (events.Dispatch most_seen) what y z new new tt (takes_none (events.Dispatch most_seen) what tt) made.1 refl;
      })
      before_shown

  -- deliveries, checks and looks, by which the disk stays as it is
  duties_acts : (p : Place D) (steps : Made) (x y : C) → AreOfDuties steps → Makes makes x steps y → Acts makes view (acts_of_steps steps) (change_of x p y p)
  duties_acts p [] x y are made = subst (λ (w : C). Acts makes view [] (change_of x p w p)) made (still makes view x p)
  duties_acts p (step ∷ steps) x y are made = (
    made.0,
    p,
    record {
      made = made.1;
      between = duties_between step.0 are.0;
      apart = λ takes from. takes_none step.0 step.1 (duties_other step.0 are.0) takes;
      still = refl;
    },
    duties_acts p steps made.0 y are.1 made.2,
  )

  pub duties_turns : (clock : ClockOver) (x y : C) (p : Place D) (old new : AskWays) → MakesAsking makes (IsAttended clock) x old y new
      → Acted makes view (FlushesBetween clock (asking_of old) (asking_of new)) (change_of x p y p)
  duties_turns clock x y p old new it = record {
    acts = acts_of_steps it.steps;
    kind = (
      duties_flushing it.steps it.are,
      subst (λ (l : Made). Asks l (asking_of old) (asking_of new)) (sym (duties_steps it.steps)) it.asks,
      subst (λ (l : Made). IsAttended clock l) (sym (duties_steps it.steps)) it.due,
    );
    happened = duties_acts p it.steps x y it.are it.made;
  }

  -- ---- turns by which the flusher goes on asking

  pub no_flushes : (tells : Type 0) (gave : List ℕ) (x : C) (p : Place D) (it : Asking)
      → Acted makes view (FlushesBetween (clock_over tells gave gave) it it) (change_of x p x p)
  no_flushes tells gave x p it =
      acted_none makes view (FlushesBetween (clock_over tells gave gave) it it) x p (none_flushing, asks_still [] it, attends_none tells gave gave [] (λ t. refl) tt)

  -- flush turns and dispatches ask nobody, and read no clock
  pub flushes_still : (tells : Type 0) (gave : List ℕ) (x y : C) (p q : Place D) (it : Asking) → Acted makes view AreTurns (change_of x p y q)
      → Acted makes view (FlushesBetween (clock_over tells gave gave) it it) (change_of x p y q)
  flushes_still tells gave x y p q it acted =
      acted_as makes view AreTurns (FlushesBetween (clock_over tells gave gave) it it) x y p q
      (λ turns are. (are.flushing, asks_still (steps_of turns) it, attends_none tells gave gave (steps_of turns) (λ t. refl) are.not_due)) acted

  pub flushes_then : (tells : Type 0) (gave more all : List ℕ) (x y z : C) (p q r : Place D) (old mid new : Asking)
      → Acted makes view (FlushesBetween (clock_over tells gave more) old mid) (change_of x p y q)
      → Acted makes view (FlushesBetween (clock_over tells more all) mid new) (change_of y q z r)
      → Acted makes view (FlushesBetween (clock_over tells gave all) old new) (change_of x p z r)
  flushes_then tells gave more all x y z p q r old mid new first later =
      acted_then makes view (FlushesBetween (clock_over tells gave more) old mid) (FlushesBetween (clock_over tells more all) mid new)
      (FlushesBetween (clock_over tells gave all) old new) x y z p q r first later
      (λ xs ys one other. (
        flushing_append xs ys one.0 other.0,
        subst (λ (l : Made). Asks l old new) (sym (steps_append xs ys)) (asks_then (steps_of xs) (steps_of ys) old mid new one.1 other.1),
        subst (λ (l : Made). IsAttended (clock_over tells gave all) l) (sym (steps_append xs ys))
            (attends_then tells gave more all (steps_of xs) (steps_of ys) one.2 other.2),
      ))

  -- all of them
  pub flushes_to : (clock : ClockOver) (x y : C) (p q : Place D) (old new : AskWays) → HasNoneAsked old
      → Acted makes view (FlushesBetween clock (asking_of old) (asking_of new)) (change_of x p y q) → Acted makes view (FlushesTo clock (put_of new)) (change_of x p y q)
  flushes_to clock x y p q old new none acted =
      acted_as makes view (FlushesBetween clock (asking_of old) (asking_of new)) (FlushesTo clock (put_of new)) x y p q
      (λ turns are. (are.0, hands_out (steps_of turns) old new none are.1, are.2)) acted

  -- ---- acts, by their steps and by what they did to the disk

  act_makes : (act : Act) (x y : C) (p q : Place D) → Happens makes view act (change_of x p y q) → Makes makes x (steps_in act) y
  act_makes (acts.Made event what) x y p q happens = (y, happens.made, refl)
  act_makes (acts.Wrote turn) x y p q happens = happens.steps
  act_makes (acts.Missed batch count) x y p q happens = happens.steps

  pub acts_make : (turns : List Act) (x y : C) (p q : Place D) → Acts makes view turns (change_of x p y q) → Makes makes x (steps_of turns) y
  acts_make [] x y p q happened = sym happened.calls
  acts_make (act ∷ turns) x y p q happened =
      makes_append makes x (steps_in act) happened.0 (steps_of turns) y (act_makes act x happened.0 p happened.1 happened.2) (acts_make turns happened.0 y happened.1 q happened.3)

  act_writes : (act : Act) (x y : C) (p q : Place D) → Happens makes view act (change_of x p y q) → Happens of_anybody view act (change_of tt p tt q)
  act_writes (acts.Made event what) x y p q happens =
      record { made = tt; between = happens.between; apart = λ takes from. happens.apart takes (λ batch z made. from batch tt tt); still = happens.still }
  act_writes (acts.Wrote turn) x y p q happens =
      record { steps = (tt, tt, (tt, tt, refl)); is = happens.is; wrote = happens.wrote; ended = happens.ended; still = happens.still }
  act_writes (acts.Missed batch count) x y p q happens =
      record { steps = (tt, tt, (tt, tt, refl)); wrote = happens.wrote; rises = happens.rises; count_is = happens.count_is }

  pub acts_write : (turns : List Act) (x y : C) (p q : Place D) → Acts makes view turns (change_of x p y q) → Write view turns p q
  acts_write [] x y p q happened = record { calls = refl; place = happened.place }
  acts_write (act ∷ turns) x y p q happened =
      (tt, happened.1, act_writes act x happened.0 p happened.1 happened.2, acts_write turns happened.0 y happened.1 q happened.3)
