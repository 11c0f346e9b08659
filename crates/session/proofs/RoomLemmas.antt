-- Looks for room, and the tries of a request that found none.
use Rattle.std.proofs.Common.{◌≡◌, ◌==◌, ℕ, List, [], ◌∷◌, ◌++◌, Bool, true, false, Option, Some, None, refl, sym, ap, ◌∙◌, subst, append_assoc, append-nil}
use Rattle.std.specs.Option.{option_map}
use Rattle.std.specs.Prelude.{Result, if◌then◌else◌}
use Rattle.remoting_frame.specs.Held.{Held}
use Rattle.broker_events.specs.declared.event.Event.TheVariants as events
use Rattle.broker_events.specs.declared.said.Awaited.{Awaited}
use Rattle.broker_events.specs.declared.said.Awaited.TheVariants.{Flushed, Failed, NotYet}
use Rattle.broker_events.specs.declared.said.Said.TheVariants as said
use Rattle.session.specs.Owing.{Steps, look_for, room_at}
use Rattle.session.specs.Room.{AfterLook, AreTries, AreTriesOf, GivesUp, IsTry, LooksForRoom, TellNoFailure, Try, failure_since, looks_for, new_failure, steps_of_tries, steps_of_try, waiting_of}
use Rattle.session.specs.Serving.{IsNext, Leads, Made}
use Rattle.session.specs.Sessions.{applied_in}
use Rattle.session.specs.declared.heard.Heard.{Heard}
use Rattle.session.specs.declared.owed.Applied.TheVariants.{Full}
use Rattle.session.specs.declared.room.HeldRequest.{HeldRequest}
use Rattle.session.specs.declared.serving.Halt.{Halt}
use Rattle.session.specs.declared.session.Session.{Session}
use Rattle.session.specs.declared.talk.Talk.{Talk}
use Rattle.session.proofs.ServingSteps.{asked_on}
use Rattle.session.proofs.SessionParts.{applies_on, had_none, none_applied}

-- ---- what a look says

since_chosen : (b : Bool) (told count : ℕ) → (if b then None else Some told) ≡ Some count → told ≡ count
since_chosen true told count is = cc
since_chosen false told count is = cc

since_is : (before : Awaited) (told count : ℕ) → failure_since before told ≡ Some count → told ≡ count
since_is Flushed told count is = cc
since_is (Failed earlier) told count is = since_chosen (earlier == told) told count is
since_is NotYet told count is = cc

-- a look that tells a new failure says that the disk failed so
pub new_failure_is : (before what : Awaited) (count : ℕ) → new_failure before what ≡ Some count → (what ≡ Failed count) × (failure_since before count ≡ Some count)
new_failure_is before Flushed count is = cc
new_failure_is before (Failed told) count is =
    let same = since_is before told count is in
    (ap (λ (n : ℕ). Failed n) same, subst (λ (n : ℕ). failure_since before n ≡ Some count) same is)
new_failure_is before NotYet count is = cc

-- one look was made for the request that is held, and this came of it
pub looks_by : {C : Type 0} (makes : Steps C) (x y : C) (held : Option HeldRequest) (pending : ℕ) (before what : Awaited) (failure : Option ℕ) (old new : Session)
    (result : Result Bool Halt) → option_map waiting_of held ≡ Some (pending, before) → makes x (events.Look pending 0) (Some (said.Awaited what)) y
    → failure ≡ new_failure before what → ((request : HeldRequest) → held ≡ Some request → AfterLook failure what request old result new)
    → Leads makes x y (λ made. LooksForRoom held old made result new)
looks_by makes x y None pending before what failure old new result waits looked is after = cc
looks_by makes x y (Some request) pending before what failure old new result waits looked is after =
    let both : waiting_of request ≡ (pending, before) = cc in
    let same : failure ≡ new_failure request.before what = is ∙ ap (λ (w : ℕ × Awaited). new_failure w.1 what) (sym both) in
    record {
      made = look_for (room_at request.pending) what ∷ [];
      leads = (y, subst (λ (w : ℕ × Awaited). makes x (events.Look w.0 0) (Some (said.Awaited what)) y) (sym both) looked, refl);
      so = (what, refl, subst (λ (w : Option ℕ). AfterLook w what request old result new) same (after request refl));
    }

-- it is given up
pub gives_up_by : (held : Option HeldRequest) (count : ℕ) (what : Awaited) (old new : Session) (result : Result Bool Halt) → GivesUp held count old result new → new.held ≡ None
    → (request : HeldRequest) → held ≡ Some request → AfterLook (Some count) what request old result new
gives_up_by held count what old new result gives none request is = (subst (λ (w : Option HeldRequest). GivesUp w count old result new) is gives, none)

-- ---- tries

pub tries_append : (first more : List Try) → steps_of_tries (first ++ more) ≡ steps_of_tries first ++ steps_of_tries more
tries_append [] more = refl
tries_append (try ∷ first) more =
    ap (λ (l : Made). steps_of_try try ++ l) (tries_append first more) ∙ sym (append_assoc (steps_of_try try) (steps_of_tries first) (steps_of_tries more))

-- one more behind them
tries_snoc : (first : List Try) (last : Try) → steps_of_tries (first ++ last ∷ []) ≡ steps_of_tries first ++ steps_of_try last
tries_snoc first last = tries_append first (last ∷ []) ∙ ap (λ (l : Made). steps_of_tries first ++ l) (append-nil (steps_of_try last))

are_snoc : (talk : Talk) (heard : Heard) (first : List Try) (last : Try) → AreTries talk heard first → IsTry talk heard last → AreTries talk heard (first ++ last ∷ [])
are_snoc talk heard [] last are is = (is, tt)
are_snoc talk heard (try ∷ first) last are is = (are.0, are_snoc talk heard first last are.1 is)

are_parts : (talk : Talk) (heard : Heard) (first : List Try) (last : Try) → AreTries talk heard (first ++ last ∷ []) → AreTries talk heard first × IsTry talk heard last
are_parts talk heard [] last are = (tt, are.0)
are_parts talk heard (try ∷ first) last are =
    let parts = are_parts talk heard first last are.1 in ((are.0, parts.0), parts.1)

looks_snoc : (pending : ℕ) (later : List Awaited) (what : Awaited) → looks_for pending (later ++ what ∷ []) ≡ looks_for pending later ++ look_for (room_at pending) what ∷ []
looks_snoc pending [] what = refl
looks_snoc pending (said ∷ later) what = ap (λ (l : Made). look_for (room_at pending) said ∷ l) (looks_snoc pending later what)

tell_snoc : (before : Awaited) (later : List Awaited) (what : Awaited) → TellNoFailure before later → new_failure before what ≡ None → TellNoFailure before (later ++ what ∷ [])
tell_snoc before [] what tell none = (none, tt)
tell_snoc before (said ∷ later) what tell none = (tell.0, tell_snoc before later what tell.1 none)

-- the try with one look more
abbrev looked_again : Try → Awaited → Try
looked_again try what = record { given = try.given; pending = try.pending; before = try.before; later = try.later ++ what ∷ [] }

looked_steps : (try : Try) (what : Awaited) → steps_of_try (looked_again try what) ≡ steps_of_try try ++ look_for (room_at try.pending) what ∷ []
looked_steps try what =
    ap (λ (l : Made). try.given ++ look_for (room_at try.pending) try.before ∷ l) (looks_snoc try.pending try.later what)
    ∙ sym (append_assoc try.given (look_for (room_at try.pending) try.before ∷ looks_for try.pending try.later) (look_for (room_at try.pending) what ∷ []))

-- the tries of a request after some steps more
pub record Tried (talk : Talk) (held : HeldRequest) (tried : List Try) (made : Made) : Type 0 where
  pub tries : List Try
  pub are : AreTriesOf talk (Some held) tries
  pub steps : steps_of_tries tried ++ made ≡ steps_of_tries tries

-- a look that told no new failure
pub tried_look : (talk : Talk) (held : HeldRequest) (tried : List Try) (what : Awaited) (made : Made) → AreTriesOf talk (Some held) tried → new_failure held.before what ≡ None
    → made ≡ look_for (room_at held.pending) what ∷ [] → Tried talk held tried made
tried_look talk held tried what made are none looked =
    let first : List Try = are.1.first in
    let last : Try = are.1.last in
    let again : Try = looked_again last what in
    let parts = are_parts talk held.heard first last (subst (λ (l : List Try). AreTries talk held.heard l) are.1.both are.0) in
    let same : look_for (room_at last.pending) what ≡ look_for (room_at held.pending) what = ap (λ (n : ℕ). look_for (room_at n) what) are.1.pending_is in
    let is : IsTry talk held.heard again = record {
      now = parts.1.now;
      asked = parts.1.asked;
      waits = tell_snoc last.before last.later what parts.1.waits (subst (λ (w : Awaited). new_failure w what ≡ None) (sym are.1.before_is) none);
    } in
    record {
      tries = first ++ again ∷ [];
      are = (
        are_snoc talk held.heard first again parts.0 is,
        record { first = first; last = again; both = refl; pending_is = are.1.pending_is; before_is = are.1.before_is },
      );
      steps = ap (λ (l : List Try). steps_of_tries l ++ made) are.1.both ∙ ap (λ (l : Made). l ++ made) (tries_snoc first last)
          ∙ append_assoc (steps_of_tries first) (steps_of_try last) made
          ∙ ap (λ (l : Made). steps_of_tries first ++ (steps_of_try last ++ l)) (looked ∙ ap (λ s. s ∷ []) (sym same))
          ∙ ap (λ (l : Made). steps_of_tries first ++ l) (sym (looked_steps last what)) ∙ sym (tries_snoc first again);
    }

-- the request found no room again, and a look directly after said this
pub tried_again : (talk : Talk) (held : HeldRequest) (tried : List Try) (try : Try) (made : Made) → AreTries talk held.heard tried → IsTry talk held.heard try
    → try.pending ≡ held.pending → try.before ≡ held.before → made ≡ steps_of_try try → Tried talk held tried made
tried_again talk held tried try made are is pending before steps = record {
  tries = tried ++ try ∷ [];
  are = (are_snoc talk held.heard tried try are is, record { first = tried; last = try; both = refl; pending_is = pending; before_is = before });
  steps = ap (λ (l : Made). steps_of_tries tried ++ l) steps ∙ sym (tries_snoc tried try);
}

-- the tries of what was held are those of the next request
pub tries_next : (talk : Talk) (held : Option HeldRequest) (heard : Heard) (old new : Held) (tries : List Try) → IsNext held heard old new → AreTriesOf talk held tries
    → AreTries talk heard tries
tries_next talk None heard old new tries next are = subst (λ (l : List Try). AreTries talk heard l) (sym are) tt
tries_next talk (Some held) heard old new tries next are = subst (λ (h : Heard). AreTries talk h tries) (sym next.0) are.0

-- ---- the same link later

module _ (talk other : Talk) (link : talk.link ≡ other.link) (host : talk.host ≡ other.host) where
  pub tries_on : (heard : Heard) (tries : List Try) → AreTries talk heard tries → AreTries other heard tries
  tries_on heard [] are = tt
  tries_on heard (try ∷ tries) are = (
    record { now = are.0.now; asked = asked_on talk other are.0.now heard (Full try.pending) try.given link host are.0.asked; waits = are.0.waits },
    tries_on heard tries are.1,
  )

  pub tries_of_on : (held : Option HeldRequest) (tries : List Try) → AreTriesOf talk held tries → AreTriesOf other held tries
  tries_of_on None tries are = are
  tries_of_on (Some held) tries are = (tries_on held.heard tries are.0, are.1)

-- ---- what is applied

looks_apply : (pending : ℕ) (later : List Awaited) → applied_in (looks_for pending later) ≡ []
looks_apply pending [] = refl
looks_apply pending (what ∷ later) = looks_apply pending later

try_applies : (talk : Talk) (heard : Heard) (try : Try) → IsTry talk heard try → applied_in (steps_of_try try) ≡ []
try_applies talk heard try is =
    let none : applied_in try.given ≡ [] = ap applied_in is.asked.one
    ∙ none_applied (events.Request talk.link talk.host is.now is.asked.request, is.asked.what) _ (had_none is.asked.what try.pending is.asked.told) in
    applies_on try.given (look_for (room_at try.pending) try.before ∷ looks_for try.pending try.later) [] [] none (looks_apply try.pending try.later)

pub tries_apply : (talk : Talk) (heard : Heard) (tries : List Try) → AreTries talk heard tries → applied_in (steps_of_tries tries) ≡ []
tries_apply talk heard [] are = refl
tries_apply talk heard (try ∷ tries) are =
    applies_on (steps_of_try try) (steps_of_tries tries) [] [] (try_applies talk heard try are.0) (tries_apply talk heard tries are.1)

pub tries_of_apply : (talk : Talk) (held : Option HeldRequest) (tries : List Try) → AreTriesOf talk held tries → applied_in (steps_of_tries tries) ≡ []
tries_of_apply talk None tries are = ap (λ (l : List Try). applied_in (steps_of_tries l)) are
tries_of_apply talk (Some held) tries are = tries_apply talk held.heard tries are.0
