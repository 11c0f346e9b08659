-- How a link's requests are given to the broker, and what is owed for them.
use Rattle.std.specs.Prelude.{◌≡◌, ◌⊎◌, ◌+◌, ◌≤◌, ◌++◌, ℕ, ℤ, List, [], ◌∷◌, true, if◌then◌else◌}
use Rattle.std.specs.Prelude.{Option, Some, None, Result, Ok, Err}
use Rattle.remoting_frame.specs.Held.{Held}
use Rattle.remoting_frame.specs.declared.fault.FrameFault.{FrameFault}
use Rattle.remoting_frame.specs.declared.fault.FrameFault.TheVariants as frames
use Rattle.request_fields.specs.declared.request.Request.{Request}
use Rattle.request_fields.specs.declared.fault.RequestFault.{RequestFault}
use Rattle.request_fields.specs.declared.fault.RequestFault.TheVariants.{Unsupported}
use Rattle.reply_fields.specs.Refusals.{fault_reply}
use Rattle.broker_events.specs.Makes.{Makes}
use Rattle.broker_events.specs.Served.{is_served}
use Rattle.broker_events.specs.declared.event.Event.{Event}
use Rattle.broker_events.specs.declared.event.Event.TheVariants as events
use Rattle.broker_events.specs.declared.said.Said.{Said}
use Rattle.broker_events.specs.declared.said.Awaited.{Awaited}
use Rattle.session.specs.Hearing.{Hears, HearsNext}
use Rattle.session.specs.Owing.{Steps, applied_of, look_for, room_at}
use Rattle.session.specs.declared.heard.Heard.{Heard}
use Rattle.session.specs.declared.caller.Caller.{Caller}
use Rattle.session.specs.declared.owed.Owed.{Owed}
use Rattle.session.specs.declared.owed.Applied.{Applied}
use Rattle.session.specs.declared.owed.Applied.TheVariants.{Owes, Full}
use Rattle.session.specs.declared.room.HeldRequest.{HeldRequest}
use Rattle.session.specs.declared.talk.Talk.{Talk}
use Rattle.session.specs.declared.session.Session.{Session}
use Rattle.session.specs.declared.serving.Step.{Step}
use Rattle.session.specs.declared.serving.Step.TheVariants as steps
use Rattle.session.specs.declared.serving.Halt.{Halt}
use Rattle.session.specs.declared.serving.Halt.TheVariants as halts

-- ---- what stays

-- the link and its host stay
abbrev pub KeepsLink : Session → Session → Type 0
KeepsLink old new = (new.talk.link ≡ old.talk.link) × (new.talk.host ≡ old.talk.host)

-- the bytes that are written stay, how many of them are sent, and how many check-backs were written
abbrev pub KeepsOut : Session → Session → Type 0
KeepsOut old new = (new.out.items ≡ old.out.items) × (new.sent ≡ old.sent) × (new.asked ≡ old.asked)

-- all but the stream stays
pub record KeepsRest (old new : Session) : Type 0 where
  pub link : KeepsLink old new
  pub held : new.held ≡ old.held
  pub owed : new.owed.items ≡ old.owed.items
  pub out : KeepsOut old new

-- all but the stream and the request that found no room stays
pub record KeepsReplies (old new : Session) : Type 0 where
  pub link : KeepsLink old new
  pub owed : new.owed.items ≡ old.owed.items
  pub out : KeepsOut old new

-- ---- steps

-- steps of the broker: events, each with what was said to it
abbrev pub Made : Type 0
Made = List (Event × Option Said)

-- ---- the next request

-- who waits for the reply to it
abbrev pub caller_of : Heard → Caller
caller_of heard = record { form = heard.form; opaque = heard.opaque; one_way = heard.one_way }

-- the next request: the one that found no room, where one is held, else the next that is heard of the stream
abbrev pub IsNext : Option HeldRequest → Heard → Held → Held → Type 0
IsNext None heard old new = HearsNext heard old new
IsNext (Some first) heard old new = (heard ≡ first.heard) × (new ≡ old)

-- why a link ends at a fault of its stream
abbrev pub halt_of : FrameFault → Halt
halt_of (frames.BadLength at) = halts.BadFrame at
halt_of (frames.BadForm at) = halts.BadFrame at
halt_of (frames.BadHeader at) = halts.BadFrame at
halt_of frames.Memory = halts.Memory

-- the stream has no next request but a fault, at which the link ends like this
pub record EndsBy (halt : Halt) (old new : Held) : Type 0 where
  pub fault : FrameFault
  pub is : halt ≡ halt_of fault
  pub hears : Hears old (Err fault) new

-- what is taken as the next request: of the stream only where none found no room
abbrev pub TakesNext : Session → Result (Option Heard) Halt → Session → Type 0
TakesNext old (Ok (Some heard)) new = IsNext old.held heard old.talk.cutter new.talk.cutter
TakesNext old (Ok None) new = (old.held ≡ None) × Hears old.talk.cutter (Ok None) new.talk.cutter
TakesNext old (Err halt) new = (old.held ≡ None) × EndsBy halt old.talk.cutter new.talk.cutter

-- ---- what comes of a request

-- why what was heard is refused without asking the broker: it is no request, or of a kind that is not served
abbrev pub refusal_in : ℤ → Result Request RequestFault → Option RequestFault
refusal_in code (Err fault) = Some fault
refusal_in code (Ok request) = if is_served request then None else Some (Unsupported code)

-- what was heard is refused without asking the broker, and nothing was waited for
pub record IsRefused (heard : Heard) (applied : Applied) (made : Made) : Type 0 where
  pub fault : RequestFault
  pub is : refusal_in heard.code heard.request ≡ Some fault
  pub told : applied ≡ Owes (fault_reply fault) None
  pub none : made ≡ []

-- the broker is asked by one step, and what comes of it is what was said
pub record IsAsked (talk : Talk) (now : ℕ) (heard : Heard) (applied : Applied) (made : Made) : Type 0 where
  pub request : Request
  pub is : heard.request ≡ Ok request
  pub served : is_served request ≡ true
  pub what : Option Said
  pub told : applied_of what ≡ Some applied
  pub one : made ≡ (events.Request talk.link talk.host now request, what) ∷ []

-- what was heard is answered by this: it is refused, or the broker said so
pub record IsAnswered (talk : Talk) (now : ℕ) (heard : Heard) (owed : Owed) (made : Made) : Type 0 where
  pub caller : owed.caller ≡ caller_of heard
  pub comes : IsRefused heard (Owes owed.reply owed.awaits) made ⊎ IsAsked talk now heard (Owes owed.reply owed.awaits) made

-- this is owed behind the others; at `Err` there is no memory for it, and what is owed stays
abbrev pub OwesOne : Owed → Session → Result Step Halt → Session → Type 0
OwesOne owed old (Ok steps.Request) new = new.owed.items ≡ old.owed.items ++ owed ∷ []
OwesOne owed old (Ok steps.Nothing) new = ⊥
OwesOne owed old (Ok steps.Full) new = ⊥
OwesOne owed old (Err (halts.BadFrame at)) new = ⊥
OwesOne owed old (Err halts.Memory) new = new.owed.items ≡ old.owed.items

-- what is owed stays
abbrev pub OwesNone : Result Step Halt → Session → Session → Type 0
OwesNone result old new = (result ≡ Ok steps.Full) × (new.owed.items ≡ old.owed.items)

-- what came of an event is owed to this caller, unless it found no room
abbrev pub OwesWhat : Applied → Caller → Session → Result Step Halt → Session → Type 0
OwesWhat (Owes reply awaits) caller old result new = OwesOne (record { caller = caller; reply = reply; awaits = awaits }) old result new
OwesWhat (Full pending) caller old result new = OwesNone result old new

-- the event is a request, of which this is so
abbrev pub OnRequest : Event → (Request → Type 0) → Type 0
OnRequest (events.Request link host now request) P = P request
OnRequest events.Take P = ⊥
OnRequest (events.Flushed receipt) P = ⊥
OnRequest (events.FlushFailed count) P = ⊥
OnRequest (events.Look number turn) P = ⊥
OnRequest (events.Dispatch most) P = ⊥
OnRequest (events.Deliver now) P = ⊥
OnRequest (events.Check now) P = ⊥
OnRequest (events.Leave link) P = ⊥

-- a request that was heard, by its caller and its code
abbrev pub heard_from : Caller → ℤ → Result Request RequestFault → Heard
heard_from caller code request =
    record { form = caller.form; code = code; opaque = caller.opaque; one_way = caller.one_way; request = request }

-- a request that found no room is held, with what one look said of the first pending record; else none is, and no look was made
abbrev pub HoldsFor : Applied → Heard → Session → Made → Session → Type 0
HoldsFor (Owes reply awaits) heard old made new = (made ≡ []) × (new.held ≡ old.held)
HoldsFor (Full pending) heard old made new = (before : Awaited) × (made ≡ look_for (room_at pending) before ∷ [])
    × (new.held ≡ Some (record { heard = heard; pending = pending; before = before }))

-- What comes of a request that was heard, by these steps: it is owed; or, after one look more, the request is held.
pub record Serves (now : ℕ) (heard : Heard) (old : Session) (made : Made) (result : Result Step Halt) (new : Session) : Type 0 where
  pub applied : Applied
  pub first : Made
  pub more : Made
  pub both : made ≡ first ++ more
  pub comes : IsRefused heard applied first ⊎ IsAsked old.talk now heard applied first
  pub owed : OwesWhat applied (caller_of heard) old result new
  pub held : HoldsFor applied heard old more new

-- some steps lead from x to y, and of them this is so
pub record Leads {C : Type 0} (makes : Steps C) (x y : C) (P : Made → Type 0) : Type 0 where
  pub made : Made
  pub leads : Makes makes x made y
  pub so : P made

-- Some steps lead from x to y, and of them and of so many replies `read N` this is so. From the first of these counts of a reader's
-- failures to the second it failed as often at least.
pub record LeadsReading {C : Type 0} (makes : Steps C) (x y : C) (low high : ℕ) (P : Made → ℕ → Type 0) : Type 0 where
  pub made : Made
  pub leads : Makes makes x made y
  pub reads : ℕ
  pub counted : low + reads ≤ high
  pub so : P made reads

-- ---- the next request is served

-- no step was made, none found no room, and what is owed stays
pub record Rests (old : Session) (made : Made) (new : Session) : Type 0 where
  pub none : made ≡ []
  pub held : (old.held ≡ None) × (new.held ≡ None)
  pub owed : new.owed.items ≡ old.owed.items

-- the next request was answered, and its answer is owed behind the others
pub record Answers (now : ℕ) (old : Session) (made : Made) (new : Session) : Type 0 where
  pub heard : Heard
  pub next : IsNext old.held heard old.talk.cutter new.talk.cutter
  pub owed : Owed
  pub answered : IsAnswered old.talk now heard owed made
  pub held : new.held ≡ None
  pub behind : new.owed.items ≡ old.owed.items ++ owed ∷ []

-- the next request was answered, but for want of memory its answer is not owed
pub record Loses (now : ℕ) (old : Session) (made : Made) (new : Session) : Type 0 where
  pub heard : Heard
  pub next : IsNext old.held heard old.talk.cutter new.talk.cutter
  pub owed : Owed
  pub answered : IsAnswered old.talk now heard owed made
  pub held : new.held ≡ None
  pub same : new.owed.items ≡ old.owed.items

-- The broker was asked, and has no room for the next request. Directly after, the first pending record was looked for, and the request
-- is held with what the look said.
pub record FindsNoRoom (now : ℕ) (old : Session) (made : Made) (new : Session) : Type 0 where
  pub heard : Heard
  pub next : IsNext old.held heard old.talk.cutter new.talk.cutter
  pub pending : ℕ
  pub given : Made
  pub asked : IsAsked old.talk now heard (Full pending) given
  pub before : Awaited
  pub looked : made ≡ given ++ look_for (room_at pending) before ∷ []
  pub held : new.held ≡ Some (record { heard = heard; pending = pending; before = before })
  pub same : new.owed.items ≡ old.owed.items

-- What `serve_next` does, by what it answers. At `Memory` the next request is not heard yet, or it was answered and that is lost.
abbrev pub ServesNext : ℕ → Session → Made → Result Step Halt → Session → Type 0
ServesNext now old made (Ok steps.Request) new = Answers now old made new
ServesNext now old made (Ok steps.Nothing) new = Rests old made new × Hears old.talk.cutter (Ok None) new.talk.cutter
ServesNext now old made (Ok steps.Full) new = FindsNoRoom now old made new
ServesNext now old made (Err (halts.BadFrame at)) new = Rests old made new × EndsBy (halts.BadFrame at) old.talk.cutter new.talk.cutter
ServesNext now old made (Err halts.Memory) new =
    (Rests old made new × EndsBy halts.Memory old.talk.cutter new.talk.cutter) ⊎ Loses now old made new
