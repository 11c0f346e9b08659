-- Each event as a step of the core, from what its call says.
use Rattle.std.proofs.Common.{◌≡◌, subst, refl, sym, ◌∙◌, ℕ, List, Option, Some, None, Result, Ok, Err, IfOk, OnErr}
use Rattle.log_model.specs.declared.batch.Batch.{Batch}
use Rattle.log_model.specs.declared.batch.Receipt.{Receipt}
use Rattle.log_model.specs.Batches.{IsReceiptFor}
use Rattle.request_fields.specs.declared.request.Request.{Request as ARequest}
use Rattle.pending_log.specs.declared.turn.Out.{Out}
use Rattle.broker_model.specs.State as model
use Rattle.broker_model.specs.State.{State}
use Rattle.broker_model.specs.Events as events
use Rattle.broker_model.specs.Answers.{answer_of}
use Rattle.broker_model.specs.Step as steps
use Rattle.broker_model.specs.Step.{IsPossible, after}
use Rattle.broker_events.specs.declared.event.Event.{Event}
use Rattle.broker_events.specs.declared.event.Event.TheVariants.{Request, Take, Deliver, Check, Flushed, FlushFailed}
use Rattle.broker_events.specs.declared.said.Said.{Said}
use Rattle.broker_events.specs.declared.said.Said.TheVariants as said
use Rattle.broker_events.specs.Shown.{Accepts, IsOut}
use Rattle.broker_events.specs.Steps.{event_of, Says, IsTakenAs, said_in}
use Rattle.core_log.specs.declared.parts.Parts.{Parts}
use Rattle.core_log.specs.Represents.{Represents, AreOut}
use Rattle.core_log.specs.Carries.{Carries, Stays, RepresentsSome}
use Rattle.broker_core.specs.Makes.{Makes}
use Rattle.core_log.specs.Shows.{batch_of, shown_of}

-- the step that a call makes which says what the model answers
pub made : (s : State) (e : Event) (what : Said) (new : Parts) → IsPossible s (event_of e) → Says what (answer_of s (event_of e)) × Represents new (after s (event_of e)) → Makes s e (Some what) new
made s e what new possible does = record {
  answer = Some (answer_of s (event_of e));
  says = does.0;
  reached = after s (event_of e);
  step = (possible, refl, refl);
  represents = does.1;
}

-- no step, where memory ran out
pub unmade : (s : State) (e : Event) (new : Parts) → steps.MayTakeMemory (event_of e) → Represents new s → Makes s e None new
unmade s e new may represents = record { answer = None; says = tt; reached = s; step = (may, refl); represents = represents }

-- a request
pub request_made : {E : Type 0} (old new : Parts) (s : State) (link : ℕ) (host : List ℕ) (now : ℕ) (request : ARequest) (result : Result Said E)
    → IfOk result (λ what. Carries old (events.Asks (record { link = link; host = host; now = now; request = request })) (Says what) new) → OnErr result (Stays old new)
    → Represents old s → Makes s (Request link host now request) (said_in result) new
request_made old new s link host now request (Ok what) carries stays are = made s (Request link host now request) what new tt (carries s are)
request_made old new s link host now request (Err fault) carries stays are = unmade s (Request link host now request) new tt (stays s are)

-- a delivery
pub delivery_made : {E : Type 0} (old new : Parts) (s : State) (now : ℕ) (result : Result Said E)
    → IfOk result (λ what. Carries old (events.Deliver now) (Says what) new) → OnErr result (Stays old new) → Represents old s → Makes s (Deliver now) (said_in result) new
delivery_made old new s now (Ok what) carries stays are = made s (Deliver now) what new tt (carries s are)
delivery_made old new s now (Err fault) carries stays are = unmade s (Deliver now) new tt (stays s are)

-- a check
pub check_made : {E : Type 0} (old new : Parts) (s : State) (now : ℕ) (result : Result Said E)
    → IfOk result (λ what. Carries old (events.Check now) (Says what) new) → OnErr result (Stays old new) → Represents old s → Makes s (Check now) (said_in result) new
check_made old new s now (Ok what) carries stays are = made s (Check now) what new tt (carries s are)
check_made old new s now (Err fault) carries stays are = unmade s (Check now) new tt (stays s are)

-- a turn that begins
pub take_made : (old new : Parts) (s : State) (batch : Option Batch) → Carries old events.Take (IsTakenAs batch) new → Represents old s → Makes s Take (Some (said.Batch batch)) new
take_made old new s batch carries are = made s Take (said.Batch batch) new tt (carries s are)

-- ---- turns that end

out_count : (receipt : Receipt) (p : Option Out) (o : Option model.Out) → AreOut p o → IsOut (batch_of p) (λ batch. IsReceiptFor batch receipt) → steps.IsOut o receipt.count
out_count receipt None o are of = absurd of
out_count receipt (Some turn) None are of = absurd are
out_count receipt (Some turn) (Some out) are of = sym are.0 ∙ sym of.count

out_there : (p : Option Out) (o : Option model.Out) → AreOut p o → IsOut (batch_of p) (λ batch. Unit {0}) → steps.SomeOut o
out_there None o are of = absurd of
out_there (Some turn) None are of = absurd are
out_there (Some turn) (Some out) are of = tt

-- a batch is flushed only while it is out
pub flush_possible : (old : Parts) (s : State) (receipt : Receipt) → Represents old s → Accepts (shown_of old) (Flushed receipt) → IsPossible s (events.Flushed receipt.count)
flush_possible old s receipt are accepted = out_count receipt old.pending.out s.out are.out accepted

-- and a turn fails only then
pub failure_possible : (old : Parts) (s : State) (count : ℕ) → Represents old s → Accepts (shown_of old) (FlushFailed count) → IsPossible s (events.FlushFailed count)
failure_possible old s count are accepted = out_there old.pending.out s.out are.out accepted

-- after a call that may begin a turn it represents a state
pub take_state : {E : Type 0} (old new : Parts) (result : Result (Option Batch) E) → IfOk result (λ batch. Carries old events.Take (IsTakenAs batch) new) → OnErr result (Stays old new)
    → RepresentsSome old → RepresentsSome new
take_state old new (Ok batch) carries stays some = (after some.0 events.Take, (carries some.0 some.1).1)
take_state old new (Err fault) carries stays some = (some.0, stays some.0 some.1)

-- what a request's own call says of it, of the request that was matched
pub carried : {E : Type 0} (old new : Parts) (link : ℕ) (host : List ℕ) (now : ℕ) (request own : ARequest) (result : Result Said E) → request ≡ own
    → IfOk result (λ what. Carries old (events.Asks (record { link = link; host = host; now = now; request = own })) (Says what) new)
    → IfOk result (λ what. Carries old (events.Asks (record { link = link; host = host; now = now; request = request })) (Says what) new)
carried old new link host now request own result same carries =
    subst (λ (r : ARequest). IfOk result (λ what. Carries old (events.Asks (record { link = link; host = host; now = now; request = r })) (Says what) new)) (sym same) carries
