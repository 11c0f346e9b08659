-- What came of the next request, by what `serve_next` answers.
use Rattle.std.proofs.Common.{◌≡◌, ℕ, ◌⊎◌, List, [], ◌∷◌, ◌++◌, Bool, true, false, Some, None, Ok, Err, inl, inr, refl, sym, ap, ◌∙◌, subst, append-nil}
use Rattle.std.specs.Prelude.{Result, ℤ, if◌then◌else◌, Option}
use Rattle.request_fields.specs.declared.request.Request.{Request}
use Rattle.request_fields.specs.declared.fault.RequestFault.{RequestFault}
use Rattle.request_fields.specs.declared.fault.RequestFault.TheVariants.{Unsupported}
use Rattle.reply_fields.specs.Parts.{ReplyParts}
use Rattle.reply_fields.specs.Refusals.{fault_reply}
use Rattle.broker_events.specs.Served.{is_served}
use Rattle.session.specs.Owing.{Steps, applied_of, look_for, room_at}
use Rattle.session.specs.Serving.{KeepsReplies, IsNext, IsRefused, IsAsked, IsAnswered, Made, Leads, Serves, ServesNext, Rests, EndsBy, OwesOne, OwesWhat, HoldsFor, caller_of, heard_from, refusal_in}
use Rattle.session.specs.declared.caller.Caller.{Caller}
use Rattle.session.specs.declared.heard.Heard.{Heard}
use Rattle.session.specs.declared.owed.Awaits.{Awaits}
use Rattle.session.specs.declared.owed.Applied.{Applied}
use Rattle.session.specs.declared.owed.Applied.TheVariants.{Owes, Full}
use Rattle.session.specs.declared.talk.Talk.{Talk}
use Rattle.session.specs.declared.session.Session.{Session}
use Rattle.session.specs.declared.serving.Step.{Step}
use Rattle.session.specs.declared.serving.Step.TheVariants as steps
use Rattle.session.specs.declared.serving.Halt.{Halt}
use Rattle.session.specs.declared.serving.Halt.TheVariants as halts
use Rattle.broker_events.specs.declared.event.Event.TheVariants as events
use Rattle.broker_events.specs.declared.said.Said.{Said}
use Rattle.broker_events.specs.declared.said.Said.TheVariants as said
use Rattle.broker_events.specs.declared.said.Awaited.{Awaited}

-- ---- what came of a request

-- a look for room
pub looked_room : {C : Type 0} (makes : Steps C) (x y : C) (awaits : Awaits) (pending : ℕ) (what : Awaited) → awaits ≡ room_at pending
    → makes x (events.Look awaits.number awaits.turn) (Some (said.Awaited what)) y → makes x (events.Look pending 0) (Some (said.Awaited what)) y
looked_room makes x y awaits pending what is made = subst (λ (w : Awaits). makes x (events.Look w.number w.turn) (Some (said.Awaited what)) y) is made

-- a request of a kind that is not served
pub refuses_unserved : (code : ℤ) (request : Request) → is_served request ≡ false → refusal_in code (Ok request) ≡ Some (Unsupported code)
refuses_unserved code request h = subst (λ (b : Bool). (if b then None else Some (Unsupported code)) ≡ Some (Unsupported code)) (sym h) refl

-- what was refused
pub serves_refused : {C : Type 0} (makes : Steps C) (x : C) (now : ℕ) (heard : Heard) (fault : RequestFault) (old new : Session) (result : Result Step Halt)
    → refusal_in heard.code heard.request ≡ Some fault
    → OwesOne (record { caller = caller_of heard; reply = fault_reply fault; awaits = None }) old result new → new.held ≡ old.held
    → Leads makes x x (λ made. Serves now heard old made result new)
serves_refused makes x now heard fault old new result is owed held = record {
  made = [];
  leads = refl;
  so = record {
    applied = Owes (fault_reply fault) None;
    first = [];
    more = [];
    both = refl;
    comes = inl (record { fault = fault; is = is; told = refl; none = refl });
    owed = owed;
    held = (refl, held);
  };
}

module _ {C : Type 0} (makes : Steps C) (x y : C) (old : Session) (link : ℕ) (host : List ℕ) (now : ℕ) (caller : Caller) (code : ℤ) (request : Request)
    (is_link : link ≡ old.talk.link) (is_host : host ≡ old.talk.host) (served : is_served request ≡ true) (what : Option Said)
    (made : makes x (events.Request link host now request) what y) where
  asked : (applied : Applied) → applied_of what ≡ Some applied
      → IsAsked old.talk now (heard_from caller code (Ok request)) applied ((events.Request link host now request, what) ∷ [])
  asked applied told = record {
    request = request;
    is = refl;
    served = served;
    what = what;
    told = told;
    one = ap (λ (n : ℕ). (events.Request n host now request, what) ∷ []) is_link ∙ ap (λ (l : List ℕ). (events.Request old.talk.link l now request, what) ∷ []) is_host;
  }

  -- a request that found room: its reply is owed, or lost
  pub serves_room : (reply : ReplyParts) (awaits : Option Awaits) (result : Result Step Halt) (new : Session) → applied_of what ≡ Some (Owes reply awaits)
      → OwesOne (record { caller = caller; reply = reply; awaits = awaits }) old result new → new.held ≡ old.held
      → Leads makes x y (λ made. Serves now (heard_from caller code (Ok request)) old made result new)
  serves_room reply awaits result new told owed held = record {
    made = (events.Request link host now request, what) ∷ [];
    leads = (y, made, refl);
    so = record {
      applied = Owes reply awaits;
      first = (events.Request link host now request, what) ∷ [];
      more = [];
      both = refl;
      comes = inr (asked (Owes reply awaits) told);
      owed = owed;
      held = (refl, held);
    };
  }

  -- a request that found none, and a look directly after
  pub serves_full : (pending : ℕ) (before : Awaited) (z : C) (new : Session) → applied_of what ≡ Some (Full pending)
      → makes y (events.Look pending 0) (Some (said.Awaited before)) z
      → new.held ≡ Some (record { heard = heard_from caller code (Ok request); pending = pending; before = before }) → new.owed.items ≡ old.owed.items
      → Leads makes x z (λ made. Serves now (heard_from caller code (Ok request)) old made (Ok steps.Full) new)
  serves_full pending before z new told looked held same = record {
    made = (events.Request link host now request, what) ∷ look_for (room_at pending) before ∷ [];
    leads = (y, made, (z, looked, refl));
    so = record {
      applied = Full pending;
      first = (events.Request link host now request, what) ∷ [];
      more = look_for (room_at pending) before ∷ [];
      both = refl;
      comes = inr (asked (Full pending) told);
      owed = (refl, same);
      held = (before, refl, held);
    };
  }

-- ---- the next request

-- a step is that of each talk with this link and host
pub asked_on : (talk other : Talk) (now : ℕ) (heard : Heard) (applied : Applied) (made : Made) → talk.link ≡ other.link → talk.host ≡ other.host
    → IsAsked talk now heard applied made → IsAsked other now heard applied made
asked_on talk other now heard applied made link host h = record {
  request = h.request;
  is = h.is;
  served = h.served;
  what = h.what;
  told = h.told;
  one = cc (h.one);
}

comes_on : (talk other : Talk) (now : ℕ) (heard : Heard) (applied : Applied) (made : Made) → talk.link ≡ other.link → talk.host ≡ other.host
    → IsRefused heard applied made ⊎ IsAsked talk now heard applied made → IsRefused heard applied made ⊎ IsAsked other now heard applied made
comes_on talk other now heard applied made link host (inl h) = inl h
comes_on talk other now heard applied made link host (inr h) = inr (asked_on talk other now heard applied made link host h)

-- what finds no room was asked
full_is_asked : (talk : Talk) (now : ℕ) (heard : Heard) (pending : ℕ) (made : Made) → IsRefused heard (Full pending) made ⊎ IsAsked talk now heard (Full pending) made
    → IsAsked talk now heard (Full pending) made
full_is_asked talk now heard pending made (inl h) = let told = h.told in cc
full_is_asked talk now heard pending made (inr h) = h

module _ (now : ℕ) (heard : Heard) (old mid new : Session) (made : Made) (next : IsNext old.held heard old.talk.cutter new.talk.cutter)
    (link : mid.talk.link ≡ old.talk.link) (host : mid.talk.host ≡ old.talk.host) (kept : mid.owed.items ≡ old.owed.items) (none : mid.held ≡ None) where
  -- what was answered without a look
  answered_by : (reply : ReplyParts) (awaits : Option Awaits) (first more : Made) → made ≡ first ++ more → more ≡ []
      → IsRefused heard (Owes reply awaits) first ⊎ IsAsked mid.talk now heard (Owes reply awaits) first
      → IsAnswered old.talk now heard (record { caller = caller_of heard; reply = reply; awaits = awaits }) made
  answered_by reply awaits first more both nothing comes =
      let same : made ≡ first = both ∙ ap (λ (l : Made). first ++ l) nothing ∙ append-nil first in
      record {
        caller = refl;
        comes = subst (λ (m : Made). IsRefused heard (Owes reply awaits) m ⊎ IsAsked old.talk now heard (Owes reply awaits) m) (sym same)
            (comes_on mid.talk old.talk now heard (Owes reply awaits) first link host comes);
      }

  served_by : (result : Result Step Halt) (applied : Applied) (first more : Made) → made ≡ first ++ more → IsRefused heard applied first ⊎ IsAsked mid.talk now heard applied first
      → OwesWhat applied (caller_of heard) mid result new → HoldsFor applied heard mid more new → ServesNext now old made result new
  served_by (Ok steps.Request) (Owes reply awaits) first more both comes owed held = record {
    heard = heard;
    next = next;
    owed = record { caller = caller_of heard; reply = reply; awaits = awaits };
    answered = answered_by reply awaits first more both held.0 comes;
    held = held.1 ∙ none;
    behind = rw (← kept) owed;
  }
  served_by (Ok steps.Request) (Full pending) first more both comes owed held = let is = owed.0 in cc
  served_by (Ok steps.Nothing) (Owes reply awaits) first more both comes owed held = absurd owed
  served_by (Ok steps.Nothing) (Full pending) first more both comes owed held = let is = owed.0 in cc
  served_by (Ok steps.Full) (Owes reply awaits) first more both comes owed held = absurd owed
  served_by (Ok steps.Full) (Full pending) first more both comes owed held = record {
    heard = heard;
    next = next;
    pending = pending;
    given = first;
    asked = asked_on mid.talk old.talk now heard (Full pending) first link host (full_is_asked mid.talk now heard pending first comes);
    before = held.0;
    looked = both ∙ ap (λ (l : Made). first ++ l) held.1;
    held = held.2;
    same = owed.1 ∙ kept;
  }
  served_by (Err (halts.BadFrame at)) (Owes reply awaits) first more both comes owed held = absurd owed
  served_by (Err (halts.BadFrame at)) (Full pending) first more both comes owed held = let is = owed.0 in cc
  served_by (Err halts.Memory) (Owes reply awaits) first more both comes owed held = inr (record {
    heard = heard;
    next = next;
    owed = record { caller = caller_of heard; reply = reply; awaits = awaits };
    answered = answered_by reply awaits first more both held.0 comes;
    held = held.1 ∙ none;
    same = owed ∙ kept;
  })
  served_by (Err halts.Memory) (Full pending) first more both comes owed held = let is = owed.0 in cc

-- a request that was taken is served
pub served_next : (now : ℕ) (heard : Heard) (old mid new : Session) (made : Made) (result : Result Step Halt) → IsNext old.held heard old.talk.cutter mid.talk.cutter
    → KeepsReplies old mid → mid.held ≡ None → new.talk ≡ mid.talk → Serves now heard mid made result new → ServesNext now old made result new
served_next now heard old mid new made result next keeps none same h =
    served_by now heard old mid new made (subst (λ (t : Talk). IsNext old.held heard old.talk.cutter t.cutter) (sym same) next) keeps.link.0 keeps.link.1 keeps.owed none
    result h.applied h.first h.more h.both h.comes h.owed h.held

-- a stream that ended in a fault
pub ends_next : (now : ℕ) (old new : Session) (halt : Halt) → Rests old [] new → EndsBy halt old.talk.cutter new.talk.cutter → ServesNext now old [] (Err halt) new
ends_next now old new (halts.BadFrame at) rests ends = (rests, ends)
ends_next now old new halts.Memory rests ends = inl (rests, ends)
