-- How a request is given to the broker, and what comes of it.
use Rattle.std.specs.Prelude.{◌≡◌, ◌⊎◌, ℕ, ◌++◌, List, [], ◌∷◌, ℤ, Bool, true, false, pos, codes, Option, Some, None, Result, Ok, Err}
use Rattle.mq_bytes.specs.Decimal.{digits_of}
use Rattle.log_model.specs.declared.batch.Batch.{Batch}
use Rattle.reply_fields.specs.Parts.{ReplyParts, plain}
use Rattle.reply_fields.specs.Refusals.{fault_reply}
use Rattle.request_fields.specs.declared.request.Request.{Request}
use Rattle.request_fields.specs.declared.fault.RequestFault.{RequestFault}
use Rattle.request_fields.specs.declared.fault.RequestFault.TheVariants.{Unsupported}
use Rattle.broker_events.specs.Served.{is_served}
use Rattle.broker_events.specs.declared.event.Event.{Event}
use Rattle.broker_events.specs.declared.event.Event.TheVariants as events
use Rattle.broker_events.specs.declared.said.Said.{Said}
use Rattle.broker_events.specs.declared.said.Said.TheVariants as said
use Rattle.broker_events.specs.declared.said.Awaited.{Awaited}
use Rattle.broker_events.specs.declared.said.Awaited.TheVariants as awaited
use Rattle.session.specs.Owing.{applied_of, not_flushed}
use Rattle.session.specs.declared.owed.Awaits.{Awaits}
use Rattle.session.specs.declared.owed.Applied.TheVariants.{Owes}
use Rattle.worker_turns.specs.Acts.{Turn, Act, Made, Wrote, Missed}
use Rattle.worker_turns.specs.Turning.{AreTurnsAndDispatch, BrokeBy}
use Rattle.worker_turns.specs.declared.broken.Broken.{Broken}
use Rattle.worker_turns.specs.declared.broken.Broken.TheVariants as broken
use Rattle.pipe_stream.specs.declared.answer.Answer.{Answer}

-- ---- one request

-- 127.0.0.1:0, where every sender is
abbrev pub born_host : List ℕ
born_host = 127 ∷ 0 ∷ 0 ∷ 1 ∷ 0 ∷ 0 ∷ 0 ∷ 0 ∷ []

-- the request as an event at this reading of the clock
abbrev pub event_for : ℕ → Request → Event
event_for now request = events.Request 0 born_host now request

-- the broker had no room for the request's record, with the number of the first pending one, and a flush turn made some
pub record Try : Type 0 where
  pub pending : ℕ
  pub turn : Turn

abbrev pub try_of : Event → Try → List Act
try_of event t = Made event (Some (said.Full t.pending)) ∷ Wrote t.turn ∷ []

-- all of them, one after another
abbrev pub tries_of : Event → List Try → List Act
tries_of event [] = []
tries_of event (t ∷ tries) = try_of event t ++ tries_of event tries

-- the answer to a request that found no room, where the disk failed, with its count
abbrev pub no_room : ℕ → Answer
no_room count = record { reply = plain (pos 1) (codes "disk " ++ digits_of count); awaits = None }

-- the answer that is no event's
abbrev pub refusal : RequestFault → Answer
refusal fault = record { reply = fault_reply fault; awaits = None }

-- it was given, and this was said to it
pub record IsSaid (event : Event) (answer : Answer) (acts : List Act) : Type 0 where
  pub what : Option Said
  pub told : applied_of what ≡ Some (Owes answer.reply answer.awaits)
  pub given : acts ≡ Made event what ∷ []

-- there was no room for it, and the flush turn that was to make some failed
pub record IsGivenUp (event : Event) (answer : Answer) (acts : List Act) : Type 0 where
  pub pending : ℕ
  pub batch : Batch
  pub count : ℕ
  pub told : answer ≡ no_room count
  pub given : acts ≡ Made event (Some (said.Full pending)) ∷ Missed batch count ∷ []

-- what came of the last time that it was given
abbrev pub IsLastTry : Event → Answer → List Act → Type 0
IsLastTry event answer acts = IsSaid event answer acts ⊎ IsGivenUp event answer acts

-- a flush turn for room: made, or failed, in which case the request is given up
abbrev pub MakesRoom : Result (Option Answer) Broken → List Act → Type 0
MakesRoom (Ok None) acts = (turn : Turn) × (acts ≡ Wrote turn ∷ [])
MakesRoom (Ok (Some answer)) acts = (batch : Batch) × (count : ℕ) × (answer ≡ no_room count) × (acts ≡ Missed batch count ∷ [])
MakesRoom (Err fault) acts = BrokeBy fault acts

-- the request is given up, unless memory ran out
abbrev pub GivesUp : ℕ → Result (Option Answer) Broken → Type 0
GivesUp count (Ok None) = ⊥
GivesUp count (Ok (Some answer)) = answer ≡ no_room count
GivesUp count (Err fault) = fault ≡ broken.Memory

-- a flush turn made room
abbrev pub IsOneTry : Event → List Act → Type 0
IsOneTry event acts = (t : Try) × (acts ≡ try_of event t)

-- one time: no answer where a flush turn made room
abbrev pub IsTry : Event → Result (Option Answer) Broken → List Act → Type 0
IsTry event (Ok None) acts = IsOneTry event acts
IsTry event (Ok (Some answer)) acts = IsLastTry event answer acts
IsTry event (Err fault) acts = BrokeBy fault acts

-- it was given until it was answered, each time behind a flush turn that made room
pub record IsAsked (event : Event) (answer : Answer) (acts : List Act) : Type 0 where
  pub tries : List Try
  pub last : List Act
  pub ended : IsLastTry event answer last
  pub are_all : acts ≡ tries_of event tries ++ last

-- it was given in vain so often
abbrev pub AreTries : Event → List Act → Type 0
AreTries event acts = (tries : List Try) × (acts ≡ tries_of event tries)

-- the same, unless it broke off
abbrev pub Asks : Event → Result Answer Broken → List Act → Type 0
Asks event (Ok answer) acts = IsAsked event answer acts
Asks event (Err fault) acts = BrokeBy fault acts

-- the answer that is no event's, unless memory ran out
abbrev pub Refuses : RequestFault → Result Answer Broken → Type 0
Refuses fault (Ok answer) = answer ≡ refusal fault
Refuses fault (Err broken_by) = broken_by ≡ broken.Memory

-- nothing was given to the broker
pub record IsRefused (fault : RequestFault) (answer : Answer) (acts : List Act) : Type 0 where
  pub told : answer ≡ refusal fault
  pub none : acts ≡ []

-- the one where it is so, and else the other
abbrev pub Chooses : Bool → Type 0 → Type 0 → Type 0
Chooses true A B = A
Chooses false A B = B

-- What was read of a frame with this code was given to the broker at this reading, or refused. What the broker doesn't answer has
-- no code that is known.
abbrev pub IsGiven : ℤ → ℕ → Result Request RequestFault → Answer → List Act → Type 0
IsGiven code now (Err fault) answer acts = IsRefused fault answer acts
IsGiven code now (Ok request) answer acts =
    Chooses (is_served request) (IsAsked (event_for now request) answer acts) (IsRefused (Unsupported code) answer acts)

abbrev pub Gives : ℤ → ℕ → Result Request RequestFault → Result Answer Broken → List Act → Type 0
Gives code now request (Ok answer) acts = IsGiven code now request answer acts
Gives code now request (Err fault) acts = BrokeBy fault acts

-- ---- its record

-- the reply, by what became of the record that it tells of
abbrev pub IsDue : Awaited → ReplyParts → ReplyParts → Type 0
IsDue awaited.Flushed reply told = told ≡ reply
IsDue (awaited.Failed count) reply told = told ≡ not_flushed reply count
IsDue awaited.NotYet reply told = ⊥

-- flush turns were made and dispatched, and then a look told what became of the record
pub record IsLooked (reply : ReplyParts) (awaits : Awaits) (told : ReplyParts) (acts : List Act) : Type 0 where
  pub turns : List Act
  pub what : Awaited
  pub turned : AreTurnsAndDispatch turns
  pub due : IsDue what reply told
  pub are_all : acts ≡ turns ++ Made (events.Look awaits.number awaits.turn) (Some (said.Awaited what)) ∷ []

abbrev pub Looks : ReplyParts → Awaits → Result ReplyParts Broken → List Act → Type 0
Looks reply awaits (Ok told) acts = IsLooked reply awaits told acts
Looks reply awaits (Err fault) acts = BrokeBy fault acts

-- the reply, by what became of its record, unless memory ran out
abbrev pub Tells : Awaited → ReplyParts → Result ReplyParts Broken → Type 0
Tells what reply (Ok told) = IsDue what reply told
Tells what reply (Err fault) = fault ≡ broken.Memory
