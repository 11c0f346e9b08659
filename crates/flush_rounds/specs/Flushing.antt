-- What the flusher makes, and what of it a loop makes in its place: flush turns, each followed by a dispatch.
use Rattle.std.specs.Prelude.{◌≡◌, ◌⊎◌, ℕ, List, [], ◌∷◌}
use Rattle.log_model.specs.declared.batch.Receipt.{Receipt}
use Rattle.broker_events.specs.declared.event.Event.{Event}
use Rattle.broker_events.specs.declared.event.Event.TheVariants.{Request, Take, Flushed, FlushFailed, Look, Dispatch, Deliver, Check, Leave}
use Rattle.reply_fields.specs.Parts.{AskParts}
use Rattle.session.specs.Serving.{Made}
use Rattle.event_loops.specs.Timing.{ClockOver}
use Rattle.worker_turns.specs.Turns.{Steps}
use Rattle.worker_turns.specs.Turning.{most_seen}
use Rattle.worker_turns.specs.Acts as acts
use Rattle.worker_turns.specs.Acts.{Acts, DiskView, Place, change_of}
use Rattle.flush_rounds.specs.Asking.{HandsOut, Asking, Asks}
use Rattle.flush_rounds.specs.Deliveries.{IsOfDuties}
use Rattle.flush_rounds.specs.Timing.{IsAttended}

-- the event is one of the flusher's: it takes a batch, tells how a flush turn ended, lets consumers see what is flushed, delivers a
-- delayed message, checks a half message, or looks
abbrev pub IsOfFlusher : Event → Type 0
IsOfFlusher event = (event ≡ Take) ⊎ ((receipt : Receipt) × (event ≡ Flushed receipt))
    ⊎ ((count : ℕ) × (event ≡ FlushFailed count)) ⊎ ((most : ℕ) × (event ≡ Dispatch most)) ⊎ IsOfDuties event

-- all of these are the flusher's
abbrev pub AreOfFlusher : Made → Type 0
AreOfFlusher [] = Unit {0}
AreOfFlusher (step ∷ steps) = IsOfFlusher step.0 × AreOfFlusher steps

-- by the first of these steps consumers are let see what is flushed
abbrev pub ShowsFirst : Made → Type 0
ShowsFirst [] = ⊥
ShowsFirst (step ∷ steps) = step.0 ≡ Dispatch most_seen

-- where the event tells that a batch is flushed, the next of these steps does so
abbrev pub IsShownBy : Event → Made → Type 0
IsShownBy (Request link host now request) steps = Unit {0}
IsShownBy Take steps = Unit {0}
IsShownBy (Flushed receipt) steps = ShowsFirst steps
IsShownBy (FlushFailed count) steps = Unit {0}
IsShownBy (Look number turn) steps = Unit {0}
IsShownBy (Dispatch most) steps = Unit {0}
IsShownBy (Deliver now) steps = Unit {0}
IsShownBy (Check now) steps = Unit {0}
IsShownBy (Leave link) steps = Unit {0}

-- directly behind each step that flushed a batch consumers are let see what is flushed
abbrev pub ShowsEach : Made → Type 0
ShowsEach [] = Unit {0}
ShowsEach (step ∷ steps) = IsShownBy step.0 steps × ShowsEach steps

-- acts of the flusher, which lets consumers see each batch once it is flushed
pub record AreFlushing (turns : List acts.Act) : Type 0 where
  pub are : AreOfFlusher (acts.steps_of turns)
  pub shows : ShowsEach (acts.steps_of turns)

-- The same, by which the flusher went on asking from the one to the other. Deliveries and checks are in rounds, each at one reading
-- that this clock gave meanwhile.
abbrev pub FlushesBetween : ClockOver → Asking → Asking → List acts.Act → Type 0
FlushesBetween clock old new turns =
    AreFlushing turns × Asks (acts.steps_of turns) old new × IsAttended clock (acts.steps_of turns)

-- the same, by which check-backs were handed out, of which these were put on the ways to both loops
abbrev pub FlushesTo : ClockOver → List AskParts × List AskParts → List acts.Act → Type 0
FlushesTo clock put turns = AreFlushing turns × HandsOut (acts.steps_of turns) put × IsAttended clock (acts.steps_of turns)

-- steps of anybody
abbrev pub of_anybody : Steps (Unit {0})
of_anybody x event said y = Unit {0}

-- what these acts did to the disk, whoever made their steps
abbrev pub Write : {D : Type 0} → DiskView D → List acts.Act → Place D → Place D → Type 0
Write view turns old new = Acts of_anybody view turns (change_of tt old tt new)
