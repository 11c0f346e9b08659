-- Requests are given to the broker at the reading of their pass.
use Rattle.std.proofs.Common.{◌≡◌, ⊎_elim, ℕ, List, [], ◌∷◌, ◌++◌, Bool, Option, Some, None, Result, Ok, Err, refl, sym, subst}
use Rattle.reply_fields.specs.Parts.{ReplyParts}
use Rattle.broker_events.specs.Makes.{Makes}
use Rattle.broker_events.specs.declared.event.Event.{Event}
use Rattle.broker_events.specs.declared.event.Event.TheVariants as events
use Rattle.session.specs.Owing.{Steps, look_for, room_at}
use Rattle.session.specs.Readers.{ReaderView}
use Rattle.session.specs.Room.{LooksForRoom}
use Rattle.session.specs.Serving.{Made, Leads, LeadsReading, IsAsked, IsAnswered, ServesNext}
use Rattle.session.specs.Settling.{IsDueAfter, IsNotYet, Waits, LooksFor, Settles, IsSettled, IsBroken, Stops}
use Rattle.session.specs.declared.heard.Heard.{Heard}
use Rattle.session.specs.declared.owed.Applied.{Applied}
use Rattle.session.specs.declared.owed.Awaits.{Awaits}
use Rattle.session.specs.declared.owed.Owed.{Owed}
use Rattle.session.specs.declared.room.HeldRequest.{HeldRequest}
use Rattle.session.specs.declared.serving.Halt.{Halt}
use Rattle.session.specs.declared.serving.Halt.TheVariants as halts
use Rattle.session.specs.declared.serving.Step.{Step}
use Rattle.session.specs.declared.serving.Step.TheVariants as steps
use Rattle.session.specs.declared.session.Session.{Session}
use Rattle.session.specs.declared.talk.Talk.{Talk}
use Rattle.link_service.specs.Clocks.{IsAt, AreAt, steps_at, at_reading, unasked}

pub at_append : (P : ℕ → Type 0) (xs ys : Made) → AreAt P xs → AreAt P ys → AreAt P (xs ++ ys)
at_append P [] ys are more = more
at_append P (x ∷ xs) ys are more = (are.0, at_append P xs ys are.1 more)

at_none : (P : ℕ → Type 0) (made : Made) → made ≡ [] → AreAt P made
at_none P made none = subst (λ (m : Made). AreAt P m) (sym none) tt

at_both : (P : ℕ → Type 0) (made first last : Made) → made ≡ first ++ last → AreAt P first → AreAt P last → AreAt P made
at_both P made first last both are more = subst (λ (m : Made). AreAt P m) (sym both) (at_append P first last are more)

-- ---- requests

asked_at : (talk : Talk) (now : ℕ) (heard : Heard) (applied : Applied) (made : Made) → IsAsked talk now heard applied made → AreAt (λ at. at ≡ now) made
asked_at talk now heard applied made is = subst (λ (m : Made). AreAt (λ at. at ≡ now) m) (sym is.one) (refl, tt)

answered_at : (talk : Talk) (now : ℕ) (heard : Heard) (owed : Owed) (made : Made) → IsAnswered talk now heard owed made → AreAt (λ at. at ≡ now) made
answered_at talk now heard owed made is =
    ⊎_elim (λ refused. at_none (λ at. at ≡ now) made refused.none) (λ one. asked_at talk now heard _ made one) is.comes

serves_at : (now : ℕ) (old : Session) (made : Made) (result : Result Step Halt) (new : Session) → ServesNext now old made result new → AreAt (λ at. at ≡ now) made
serves_at now old made (Ok steps.Request) new is = answered_at old.talk now is.heard is.owed made is.answered
serves_at now old made (Ok steps.Nothing) new is = at_none (λ at. at ≡ now) made is.0.none
serves_at now old made (Ok steps.Full) new is =
    at_both (λ at. at ≡ now) made is.given (look_for (room_at is.pending) is.before ∷ []) is.looked (asked_at old.talk now is.heard _ is.given is.asked) (tt, tt)
serves_at now old made (Err (halts.BadFrame at)) new is = at_none (λ at. at ≡ now) made is.0.none
serves_at now old made (Err halts.Memory) new is =
    ⊎_elim (λ rests. at_none (λ at. at ≡ now) made rests.0.none) (λ loses. answered_at old.talk now loses.heard loses.owed made loses.answered) is

-- ---- looks

looks_at : (P : ℕ → Type 0) (held : Option HeldRequest) (old : Session) (made : Made) (result : Result Bool Halt) (new : Session) → LooksForRoom held old made result new → AreAt P made
looks_at P None old made result new is = at_none P made is.0
looks_at P (Some held) old made result new is = subst (λ (m : Made). AreAt P m) (sym is.1) (tt, tt)

due_at : (P : ℕ → Type 0) (awaits : Option Awaits) (reply due : ReplyParts) (made : Made) → IsDueAfter awaits reply due made → AreAt P made
due_at P None reply due made is = at_none P made is.1
due_at P (Some awaits) reply due made is = subst (λ (m : Made). AreAt P m) (sym is.2) (tt, tt)

not_yet_at : (P : ℕ → Type 0) (awaits : Option Awaits) (made : Made) → IsNotYet awaits made → AreAt P made
not_yet_at P None made is = absurd is
not_yet_at P (Some awaits) made is = subst (λ (m : Made). AreAt P m) (sym is) (tt, tt)

waits_at : (P : ℕ → Type 0) (owed : List Owed) (made : Made) → Waits owed made → AreAt P made
waits_at P [] made is = at_none P made is
waits_at P (owed ∷ more) made is = not_yet_at P owed.awaits made is

looked_at : (P : ℕ → Type 0) (awaits : Option Awaits) (made : Made) → LooksFor awaits made → AreAt P made
looked_at P None made is = at_none P made is
looked_at P (Some awaits) made is = subst (λ (m : Made). AreAt P m) (sym is.1) (tt, tt)

settles_at : (P : ℕ → Type 0) (reader : ReaderView) (owed : List Owed) (old : List ℕ) (made : Made) (reads : ℕ) (new : List ℕ) → Settles reader owed old made reads new → AreAt P made
settles_at P reader [] old made reads new is = at_none P made is.0
settles_at P reader (owed ∷ more) old made reads new is =
    at_both P made is.1 is.2 is.5 (due_at P owed.awaits owed.reply is.7.due is.1 is.7.is) (settles_at P reader more is.0 is.2 is.4 new is.8)

stops_at : (P : ℕ → Type 0) (session : Session) (made : Made) → Stops session made → AreAt P made
stops_at P session made is = ⊎_elim (λ waits. waits_at P session.owed.items made waits) (λ many. at_none P made many.1) is

settled_at : (P : ℕ → Type 0) (reader : ReaderView) (old : Session) (made : Made) (reads : ℕ) (new : Session) → IsSettled reader old made reads new → AreAt P made
settled_at P reader old made reads new is =
    at_both P made is.first is.last is.both (settles_at P reader is.settled old.out.items is.first reads new.out.items is.puts) (stops_at P new is.last is.stops)

broken_at : (P : ℕ → Type 0) (reader : ReaderView) (old : Session) (made : Made) (reads : ℕ) (new : Session) → IsBroken reader old made reads new → AreAt P made
broken_at P reader old made reads new is =
    at_both P made is.first is.last is.both (settles_at P reader is.settled old.out.items is.first reads new.out.items is.puts) (looked_at P is.lost.awaits is.last is.looked)

is_weaker : (P Q : ℕ → Type 0) → ((n : ℕ) → P n → Q n) → (event : Event) → IsAt P event → IsAt Q event
is_weaker P Q weaker (events.Request link host now request) is = weaker now is
is_weaker P Q weaker events.Take is = tt
is_weaker P Q weaker (events.Flushed receipt) is = tt
is_weaker P Q weaker (events.FlushFailed count) is = tt
is_weaker P Q weaker (events.Look number turn) is = tt
is_weaker P Q weaker (events.Dispatch most) is = tt
is_weaker P Q weaker (events.Deliver now) is = tt
is_weaker P Q weaker (events.Check now) is = tt
is_weaker P Q weaker (events.Leave link) is = tt

pub at_weaker : (P Q : ℕ → Type 0) → ((n : ℕ) → P n → Q n) → (made : Made) → AreAt P made → AreAt Q made
at_weaker P Q weaker [] are = tt
at_weaker P Q weaker (step ∷ more) are = (is_weaker P Q weaker step.0 are.0, at_weaker P Q weaker more are.1)

-- ---- steps that were made

module _ {C : Type 0} (makes : Steps C) where
  pub made_at : (P : ℕ → Type 0) (x : C) (made : Made) (y : C) → Makes makes x made y → AreAt P made → Makes (steps_at P makes) x made y
  made_at P x [] y all are = all
  made_at P x (step ∷ steps) y all are = (all.0, (all.1, are.0), made_at P all.0 steps y all.2 are.1)

  -- whose they are, and at which readings
  pub made_then : (P : ℕ → Type 0) (x : C) (made : Made) (y : C) → Makes (steps_at P makes) x made y → Makes makes x made y × AreAt P made
  made_then P x [] y all = (all, tt)
  made_then P x (step ∷ more) y all =
      let rest = made_then P all.0 more y all.2 in ((all.0, all.1.0, rest.0), (all.1.1, rest.1))

  made_weaker : (P Q : ℕ → Type 0) → ((n : ℕ) → P n → Q n) → (x : C) (made : Made) (y : C) → Makes (steps_at P makes) x made y → Makes (steps_at Q makes) x made y
  made_weaker P Q weaker x made y all =
      let parts = made_then P x made y all in made_at Q x made y parts.0 (at_weaker P Q weaker made parts.1)

  -- steps without a request are at any reading
  pub made_whenever : (now : ℕ) (x : C) (made : Made) (y : C) → Makes (unasked makes) x made y → Makes (at_reading now makes) x made y
  made_whenever now = made_weaker (λ at. ⊥) (λ at. at ≡ now) (λ n no. absurd no)

  -- ---- calls of a session

  pub serves_timed : (now : ℕ) (old new : Session) (x y : C) (result : Result Step Halt) → Leads makes x y (λ made. ServesNext now old made result new)
      → Leads (at_reading now makes) x y (λ made. ServesNext now old made result new)
  serves_timed now old new x y result h =
      record { made = h.made; leads = made_at (λ at. at ≡ now) x h.made y h.leads (serves_at now old h.made result new h.so); so = h.so }

  pub looks_timed : (now : ℕ) (held : Option HeldRequest) (old new : Session) (x y : C) (result : Result Bool Halt) → Leads makes x y (λ made. LooksForRoom held old made result new)
      → Leads (at_reading now makes) x y (λ made. LooksForRoom held old made result new)
  looks_timed now held old new x y result h =
      record { made = h.made; leads = made_at (λ at. at ≡ now) x h.made y h.leads (looks_at (λ at. at ≡ now) held old h.made result new h.so); so = h.so }

  pub settles_unasked : (reader : ReaderView) (old new : Session) (x y : C) (low high : ℕ) → LeadsReading makes x y low high (λ made reads. IsSettled reader old made reads new)
      → LeadsReading (unasked makes) x y low high (λ made reads. IsSettled reader old made reads new)
  settles_unasked reader old new x y low high h = record {
    made = h.made;
    leads = made_at (λ at. ⊥) x h.made y h.leads (settled_at (λ at. ⊥) reader old h.made h.reads new h.so);
    reads = h.reads;
    counted = h.counted;
    so = h.so;
  }

  pub breaks_unasked : (reader : ReaderView) (old new : Session) (x y : C) (low high : ℕ) → LeadsReading makes x y low high (λ made reads. IsBroken reader old made reads new)
      → LeadsReading (unasked makes) x y low high (λ made reads. IsBroken reader old made reads new)
  breaks_unasked reader old new x y low high h = record {
    made = h.made;
    leads = made_at (λ at. ⊥) x h.made y h.leads (broken_at (λ at. ⊥) reader old h.made h.reads new h.so);
    reads = h.reads;
    counted = h.counted;
    so = h.so;
  }
