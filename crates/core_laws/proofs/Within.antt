-- In every state of a run each offset lies within its queue, whatever was saved.
use Rattle.std.proofs.Common.{refl, sym, subst, arith, ℕ, List, [], ◌∷◌, Bool, true, Option, Some, None}
use Rattle.log_model.specs.Numbered.{Log}
use Rattle.request_fields.specs.declared.request.Request.{Request}
use Rattle.request_fields.specs.declared.request.Request.TheVariants.{Pull, SetOffset}
use Rattle.broker_model.specs.Tables.{OffsetRow}
use Rattle.broker_model.specs.State.{State, Saved, Setup}
use Rattle.broker_model.specs.Events
use Rattle.broker_model.specs.Step.{Step, pull_offset}
use Rattle.broker_model.specs.Run.{Boot, Move, Steps, SavesOffsets, SavesTopics, SavesBase, Crashes, Goes, RunWith, IsOpening, opened, cut_offsets, kept_log}
use Rattle.core_laws.specs.Sound.{IsSound, IsSoundBoot}
use Rattle.core_laws.specs.Offsets.{AllRows, IsAllowed, IsWithin, MayStore, RequestStores, EventStores}
use Rattle.core_laws.proofs.Steps.{step_good}
use Rattle.core_laws.proofs.Runs.{goes_good}
use Rattle.core_laws.proofs.QueueEnds.{max_grows, all_seen}
use Rattle.core_laws.proofs.OffsetRows.{rows_weaker, step_rows}

-- a test that all rows pass
abbrev any_row : OffsetRow → Bool
any_row row = true

may_store : (s : State) (group topic : List ℕ) (queue : ℕ) (offset : Option ℕ) → MayStore any_row s group topic queue offset
may_store s group topic queue None = tt
may_store s group topic queue (Some offset) = refl

request_may : (s : State) (r : Request) → RequestStores any_row s r
request_may s (Pull p) = may_store s p.group p.topic p.queue (pull_offset p)
request_may s (SetOffset q) = refl
request_may s _ = tt

event_may : (s : State) (e : Events.Event) → EventStores any_row s e
event_may s (Events.Asks a) = request_may s a.request
event_may s _ = tt

-- a step
step_within : (s t : State) (e : Events.Event) (said : Option Events.Answer) → IsSound s → Step s e said t → AllRows (IsWithin s) s.offsets
    → AllRows (IsWithin t) t.offsets
step_within s t e said sound step all =
    let good = step_good s t e said step sound in
    let here = step_rows any_row s t e said step (event_may s e) (rows_weaker (IsWithin s) (IsAllowed any_row s) s.offsets (λ row is. (refl, is)) all) in
    rows_weaker (IsAllowed any_row s) (IsWithin t) t.offsets (λ row is. omega (arith, is.1, max_grows s t row.topic row.queue sound good.0 good.1)) here.0

-- an opening cuts what was saved
pub opened_within : (setup : Setup) (log : Log) (saved : Saved) (rows : List OffsetRow) → AllRows (IsWithin (opened setup log saved)) (cut_offsets log rows)
opened_within setup log saved [] = tt
opened_within setup log saved (row ∷ rows) =
    (omega (arith, all_seen log row.topic row.queue), opened_within setup log saved rows)

goes_within : (b : Boot) (move : Move) (c : Boot) → IsSoundBoot b → Goes b move c → AllRows (IsWithin b.now) b.now.offsets
    → AllRows (IsWithin c.now) c.now.offsets
goes_within b (Steps e said) c sound goes all = step_within b.now c.now e said sound.state goes.0 all
goes_within b SavesOffsets c sound goes all = subst (λ (x : Boot). AllRows (IsWithin x.now) x.now.offsets) (sym goes.2) all
goes_within b SavesTopics c sound goes all = subst (λ (x : Boot). AllRows (IsWithin x.now) x.now.offsets) (sym goes.2) all
goes_within b (SavesBase base) c sound goes all = subst (λ (x : Boot). AllRows (IsWithin x.now) x.now.offsets) (sym goes.4) all
goes_within b (Crashes k setup) c sound goes all =
    subst (λ (x : Boot). AllRows (IsWithin x.now) x.now.offsets) (sym goes.1)
    (opened_within setup (kept_log b.now k) b.now.saved b.now.saved.offsets)

pub run_within : (P : Boot → Move → Boot → Type 0) (b : Boot) (moves : List Move) (c : Boot) → IsSoundBoot b → AllRows (IsWithin b.now) b.now.offsets
    → RunWith P b moves c → AllRows (IsWithin c.now) c.now.offsets
run_within P b [] c sound all run = subst (λ (x : Boot). AllRows (IsWithin x.now) x.now.offsets) (sym run) all
run_within P b (move ∷ moves) c sound all run =
    run_within P run.0 moves c (goes_good b move run.0 sound run.1).0 (goes_within b move run.0 sound run.1 all) run.3

pub opening_within : (b : Boot) → IsOpening b → AllRows (IsWithin b.now) b.now.offsets
opening_within b opening = subst (λ (s : State). AllRows (IsWithin s) s.offsets) (sym opening.state)
    (opened_within b.now.setup b.now.log b.now.saved b.now.saved.offsets)
