-- A request that found no room: by which looks it is given up, and by which steps it was tried before.
use Rattle.std.specs.Prelude.{◌≡◌, ◌==◌, ◌++◌, ℕ, List, [], ◌∷◌, Bool, true, false, pos, codes, if◌then◌else◌}
use Rattle.std.specs.Prelude.{Option, Some, None, Result, Ok, Err}
use Rattle.mq_bytes.specs.Decimal.{digits_of}
use Rattle.reply_fields.specs.Parts.{plain}
use Rattle.broker_events.specs.declared.said.Awaited.{Awaited}
use Rattle.broker_events.specs.declared.said.Awaited.TheVariants.{Flushed, Failed, NotYet}
use Rattle.session.specs.Owing.{look_for, room_at}
use Rattle.session.specs.Serving.{Made, IsAsked, caller_of}
use Rattle.session.specs.declared.caller.Caller.{Caller}
use Rattle.session.specs.declared.heard.Heard.{Heard}
use Rattle.session.specs.declared.owed.Applied.TheVariants.{Full}
use Rattle.session.specs.declared.owed.Owed.{Owed}
use Rattle.session.specs.declared.room.HeldRequest.{HeldRequest}
use Rattle.session.specs.declared.session.Session.{Session}
use Rattle.session.specs.declared.serving.Halt.{Halt}
use Rattle.session.specs.declared.serving.Halt.TheVariants as halts
use Rattle.session.specs.declared.talk.Talk.{Talk}

-- ---- what a look for room says

-- the record is on the disk
abbrev pub is_flushed : Awaited → Bool
is_flushed Flushed = true
is_flushed (Failed count) = false
is_flushed NotYet = false

-- the failure with this count, unless it is the one that a look before told; none where the record was on the disk already
abbrev pub failure_since : Awaited → ℕ → Option ℕ
failure_since Flushed count = None
failure_since (Failed earlier) count = if earlier == count then None else Some count
failure_since NotYet count = Some count

-- the disk's failure that a look tells, where the look before told another one, or that nothing became of the record yet
abbrev pub new_failure : Awaited → Awaited → Option ℕ
new_failure before Flushed = None
new_failure before (Failed count) = failure_since before count
new_failure before NotYet = None

-- ---- one look

-- for which record a request waits, and what was said of it
abbrev pub waiting_of : HeldRequest → ℕ × Awaited
waiting_of held = (held.pending, held.before)

-- the reply to a request that found no room, with the disk's count
abbrev pub no_room : Caller → ℕ → Owed
no_room caller count = record { caller = caller; reply = plain (pos 1) (codes "disk " ++ digits_of count); awaits = None }

-- Nothing where none is held; else the disk's failure is owed for it, unless memory wants.
abbrev pub GivesUp : Option HeldRequest → ℕ → Session → Result Bool Halt → Session → Type 0
GivesUp None count old result new = (result ≡ Ok true) × (new.owed.items ≡ old.owed.items)
GivesUp (Some held) count old (Ok may) new =
    (may ≡ true) × (new.owed.items ≡ old.owed.items ++ no_room (caller_of held.heard) count ∷ [])
GivesUp (Some held) count old (Err halt) new = (halt ≡ halts.Memory) × (new.owed.items ≡ old.owed.items)

-- A new failure, with this count: the request is given up, and not held any more. Else it stays, and is given again where its record is
-- flushed.
abbrev pub AfterLook : Option ℕ → Awaited → HeldRequest → Session → Result Bool Halt → Session → Type 0
AfterLook (Some count) what held old result new = GivesUp (Some held) count old result new × (new.held ≡ None)
AfterLook None what held old result new =
    (result ≡ Ok (is_flushed what)) × (new.held ≡ Some held) × (new.owed.items ≡ old.owed.items)

-- What `look_for_room` does, by what is held: nothing where no request is; else one look, which may say a new failure.
abbrev pub LooksForRoom : Option HeldRequest → Session → Made → Result Bool Halt → Session → Type 0
LooksForRoom None old made result new =
    (made ≡ []) × (result ≡ Ok true) × (new.held ≡ None) × (new.owed.items ≡ old.owed.items)
LooksForRoom (Some held) old made result new = (what : Awaited) × (made ≡ look_for (room_at held.pending) what ∷ [])
    × AfterLook (new_failure held.before what) what held old result new

-- ---- how often a request was tried

-- One time that a request found no room: the step at which it was given to the broker, the first pending record then, what a look for
-- it said directly after, and what later ones said.
pub record Try : Type 0 where
  pub given : Made
  pub pending : ℕ
  pub before : Awaited
  pub later : List Awaited

-- looks for this record, which said this
abbrev pub looks_for : ℕ → List Awaited → Made
looks_for pending [] = []
looks_for pending (what ∷ more) = look_for (room_at pending) what ∷ looks_for pending more

-- the steps of a try, and of several
abbrev pub steps_of_try : Try → Made
steps_of_try try = try.given ++ look_for (room_at try.pending) try.before ∷ looks_for try.pending try.later

abbrev pub steps_of_tries : List Try → Made
steps_of_tries [] = []
steps_of_tries (try ∷ tries) = steps_of_try try ++ steps_of_tries tries

-- none of these looks tells a new failure, by which the request would have been given up
abbrev pub TellNoFailure : Awaited → List Awaited → Type 0
TellNoFailure before [] = Unit {0}
TellNoFailure before (what ∷ more) = (new_failure before what ≡ None) × TellNoFailure before more

-- the request was given to the broker on this link, and found no room; no later look gave it up
pub record IsTry (talk : Talk) (heard : Heard) (try : Try) : Type 0 where
  pub now : ℕ
  pub asked : IsAsked talk now heard (Full try.pending) try.given
  pub waits : TellNoFailure try.before try.later

abbrev pub AreTries : Talk → Heard → List Try → Type 0
AreTries talk heard [] = Unit {0}
AreTries talk heard (try ∷ tries) = IsTry talk heard try × AreTries talk heard tries

-- the last of these tries found this pending record, and the look directly after said this of it
pub record EndsWith (tries : List Try) (pending : ℕ) (before : Awaited) : Type 0 where
  pub first : List Try
  pub last : Try
  pub both : tries ≡ first ++ last ∷ []
  pub pending_is : last.pending ≡ pending
  pub before_is : last.before ≡ before

-- these are the tries of the request that is held; none where none is
abbrev pub AreTriesOf : Talk → Option HeldRequest → List Try → Type 0
AreTriesOf talk None tries = tries ≡ []
AreTriesOf talk (Some held) tries = AreTries talk held.heard tries × EndsWith tries held.pending held.before

-- The request is given up after these tries, by one look more: it tells a failure with this count, which the look directly after the
-- last try did not tell.
pub record IsGivenUp (heard : Heard) (tries : List Try) (made : Made) (owed : Owed) : Type 0 where
  pub pending : ℕ
  pub before : Awaited
  pub last : EndsWith tries pending before
  pub count : ℕ
  pub failed : failure_since before count ≡ Some count
  pub looked : made ≡ look_for (room_at pending) (Failed count) ∷ []
  pub told : owed ≡ no_room (caller_of heard) count
