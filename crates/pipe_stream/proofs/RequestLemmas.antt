-- What an event that is a request leaves.
use Rattle.std.proofs.Common.{◌≡◌, Option, refl, subst}
use Rattle.broker_events.specs.declared.event.Event.{Event}
use Rattle.broker_events.specs.Shown.{Shown, moved}
use Rattle.broker_events.specs.declared.event.Event.TheVariants.{Request, Take, Flushed, FlushFailed, Look, Dispatch, Deliver, Check, Leave}
use Rattle.broker_events.specs.declared.said.Said.{Said}
use Rattle.session.specs.Owing.{IsRequest}
use Rattle.worker_turns.specs.Acts.{IsBetween, TakesBatch}

-- a request leaves the batch that is out
pub request_out : (shown : Shown) (e : Event) (what : Option Said) → IsRequest e → (moved shown e what).out ≡ shown.out
request_out shown (Request link host now request) what is = refl
request_out shown Take what is = absurd is
request_out shown (Flushed receipt) what is = absurd is
request_out shown (FlushFailed count) what is = absurd is
request_out shown (Look number turn) what is = absurd is
request_out shown (Dispatch most) what is = absurd is
request_out shown (Deliver now) what is = absurd is
request_out shown (Check now) what is = absurd is
request_out shown (Leave link) what is = absurd is

-- takes none
pub request_takes : (e : Event) (what : Option Said) → IsRequest e → TakesBatch e what → ⊥
request_takes e what is takes = subst (λ (it : Event). IsRequest it) takes.event is

-- and no batch is flushed by it
pub request_between : (e : Event) → IsRequest e → IsBetween e
request_between (Request link host now request) is = tt
request_between Take is = tt
request_between (Flushed receipt) is = is
request_between (FlushFailed count) is = tt
request_between (Look number turn) is = tt
request_between (Dispatch most) is = tt
request_between (Deliver now) is = tt
request_between (Check now) is = tt
request_between (Leave link) is = tt
