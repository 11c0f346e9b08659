-- Requests that are given to the broker.
use Rattle.std.proofs.Common.{◌≡◌, inl, inr, ℕ, ℤ, ◌++◌, List, [], ◌∷◌, Bool, true, false, Option, Some, None, Result, Ok, Err, refl, sym, ap, ◌∙◌, subst, append-nil, append_assoc}
use Rattle.std.specs.declared.alloc.AllocError.{AllocError}
use Rattle.request_fields.specs.declared.request.Request.{Request}
use Rattle.request_fields.specs.declared.fault.RequestFault.{RequestFault}
use Rattle.reply_fields.specs.Parts.{ReplyParts}
use Rattle.request_fields.specs.declared.fault.RequestFault.TheVariants.{Unsupported}
use Rattle.broker_events.specs.Served.{is_served}
use Rattle.broker_events.specs.declared.event.Event.{Event}
use Rattle.broker_events.specs.declared.event.Event.TheVariants.{Look}
use Rattle.broker_events.specs.declared.said.Said.{Said}
use Rattle.broker_events.specs.declared.said.Said.TheVariants as said
use Rattle.broker_events.specs.declared.said.Awaited.{Awaited}
use Rattle.session.specs.Owing.{IsRequest, IsApplied, applied_of}
use Rattle.session.specs.declared.owed.Awaits.{Awaits}
use Rattle.session.specs.declared.owed.Applied.TheVariants.{Owes, Full}
use Rattle.worker_turns.specs.Turns.{Steps}
use Rattle.worker_turns.specs.declared.flush.FlushEnd.TheVariants.{Failed}
use Rattle.worker_turns.specs.Acts.{Act, Made, DiskView, Place, Acted, change_of}
use Rattle.worker_turns.specs.Turning.{IsTurn, AreTurnsAndDispatch, BrokeBy}
use Rattle.worker_turns.specs.declared.broken.Broken.{Broken}
use Rattle.pipe_stream.specs.Asking.{Try, IsOneTry, try_of, tries_of, Refuses, IsLastTry, GivesUp, MakesRoom, IsTry, AreTries, IsAsked, Asks, IsRefused, Chooses, Gives, event_for, Looks, Tells}
use Rattle.pipe_stream.specs.declared.answer.Answer.{Answer}
use Rattle.pipe_stream.proofs.RequestLemmas.{request_between, request_takes}
use Rattle.worker_turns.proofs.ActLemmas.{acted_then, acted_as, acted_any, acted_none, one_step, takes_none, broke_behind, memory_broke}

-- what was said where there was no room
full_said : (what : Option Said) (pending : ℕ) → applied_of what ≡ Some (Full pending) → what ≡ Some (said.Full pending)
full_said None pending told = absurd cc
full_said (Some (said.Reply reply)) pending told = absurd cc
full_said (Some (said.After reply number turn)) pending told = absurd cc
full_said (Some (said.Full other)) pending told = cc
full_said (Some (said.Batch batch)) pending told = absurd cc
full_said (Some said.Done) pending told = absurd cc
full_said (Some (said.Awaited what)) pending told = absurd cc
full_said (Some (said.Moved number)) pending told = absurd cc
full_said (Some said.LogEnd) pending told = absurd cc
full_said (Some (said.Delivered what)) pending told = absurd cc
full_said (Some (said.Checked what)) pending told = absurd cc

tries_push : (event : Event) (tries : List Try) (t : Try) → tries_of event (tries ++ t ∷ []) ≡ tries_of event tries ++ try_of event t
tries_push event [] t = append-nil (try_of event t)
tries_push event (first ∷ tries) t = ap (λ (l : List Act). try_of event first ++ l) (tries_push event tries t) ∙ sym (append_assoc (try_of event first) (tries_of event tries) (try_of event t))

module _ {C D : Type 0} (makes : Steps C) (view : DiskView D) where
  -- a step that was made
  step_acted : (x y : C) (p : Place D) (event : Event) (what : Option Said) → IsRequest event → makes x event what y → Acted makes view (λ acts. acts ≡ Made event what ∷ []) (change_of x p y p)
  step_acted x y p event what is made =
      record { acts = Made event what ∷ []; kind = refl; happened = one_step makes view event what x y p p (request_between event is) (request_takes event what is) made refl }

  -- memory ran out for telling what was said
  pub given_err : (x y : C) (p : Place D) (event : Event) (fault : AllocError) → IsRequest event → IsApplied makes x event (Err fault) y
      → Acted makes view (λ acts. Unit {0}) (change_of x p y p)
  given_err x y p event fault is it =
      acted_any makes view (λ acts. acts ≡ Made event it.what ∷ []) x y p p (step_acted x y p event it.what is it.made)

  -- it was answered
  pub given_owes : (x y : C) (p : Place D) (event : Event) (reply : ReplyParts) (awaits : Option Awaits) → IsRequest event
      → IsApplied makes x event (Ok (Owes reply awaits)) y → Acted makes view (IsLastTry event (record { reply = reply; awaits = awaits })) (change_of x p y p)
  given_owes x y p event reply awaits is it =
      acted_as makes view (λ acts. acts ≡ Made event it.what ∷ []) (IsLastTry event (record { reply = reply; awaits = awaits })) x y p p
      (λ acts are. inl (record { what = it.what; told = it.told; given = are })) (step_acted x y p event it.what is it.made)

  -- there was no room, and a flush turn was made
  tried : (event : Event) (pending : ℕ) (result : Result (Option Answer) Broken) (first later : List Act) → first ≡ Made event (Some (said.Full pending)) ∷ [] → MakesRoom result later
      → IsTry event result (first ++ later)
  tried event pending (Ok None) first later is room =
      (record { pending = pending; turn = room.0 }, ap (λ (l : List Act). l ++ later) is ∙ ap (λ (l : List Act). Made event (Some (said.Full pending)) ∷ l) room.1)
  tried event pending (Ok (Some answer)) first later is room = inr (record {
    pending = pending;
    batch = room.0;
    count = room.1;
    told = room.2;
    given = ap (λ (l : List Act). l ++ later) is ∙ ap (λ (l : List Act). Made event (Some (said.Full pending)) ∷ l) room.3;
  })
  tried event pending (Err fault) first later is room = broke_behind fault first later room

  pub given_full : (x y z : C) (p r : Place D) (event : Event) (pending : ℕ) (result : Result (Option Answer) Broken) → IsRequest event
      → IsApplied makes x event (Ok (Full pending)) y → Acted makes view (MakesRoom result) (change_of y p z r) → Acted makes view (IsTry event result) (change_of x p z r)
  given_full x y z p r event pending result is it room =
      let full = full_said it.what pending it.told in
      acted_then makes view (λ acts. acts ≡ Made event (Some (said.Full pending)) ∷ []) (MakesRoom result) (IsTry event result) x y z p p r
      (step_acted x y p event (Some (said.Full pending)) is (subst (λ (w : Option Said). makes x event w y) full it.made)) room (tried event pending result)

  -- the flush turn for room failed
  gave_up : (count : ℕ) (result : Result (Option Answer) Broken) (acts : List Act) → GivesUp count result → IsTurn (Failed count) acts → MakesRoom result acts
  gave_up count (Ok None) acts up is = absurd up
  gave_up count (Ok (Some answer)) acts up is = (is.0, count, up, is.1)
  gave_up count (Err fault) acts up is = memory_broke fault acts up

  pub no_room_made : (count : ℕ) (result : Result (Option Answer) Broken) (x y : C) (p q : Place D) → GivesUp count result → Acted makes view (IsTurn (Failed count)) (change_of x p y q)
      → Acted makes view (MakesRoom result) (change_of x p y q)
  no_room_made count result x y p q up turn = acted_as makes view (IsTurn (Failed count)) (MakesRoom result) x y p q (λ acts is. gave_up count result acts up is) turn

  -- ---- until it is answered

  pub tries_more : (event : Event) (x y z : C) (p q r : Place D) → Acted makes view (AreTries event) (change_of x p y q) → Acted makes view (IsOneTry event) (change_of y q z r)
      → Acted makes view (AreTries event) (change_of x p z r)
  tries_more event x y z p q r first once = acted_then makes view (AreTries event) (IsOneTry event) (AreTries event) x y z p q r first once (λ before later are is.
      (are.0 ++ is.0 ∷ [], ap (λ (l : List Act). l ++ later) are.1 ∙ ap (λ (l : List Act). tries_of event are.0 ++ l) is.1 ∙ sym (tries_push event are.0 is.0)))

  pub tries_answered : (event : Event) (answer : Answer) (x y z : C) (p q r : Place D) → Acted makes view (AreTries event) (change_of x p y q)
      → Acted makes view (IsLastTry event answer) (change_of y q z r) → Acted makes view (IsAsked event answer) (change_of x p z r)
  tries_answered event answer x y z p q r first once = acted_then makes view (AreTries event) (IsLastTry event answer) (IsAsked event answer) x y z p q r first once (λ before later are is.
      record { tries = are.0; last = later; ended = is; are_all = ap (λ (l : List Act). l ++ later) are.1 })

  -- ---- what was read

  chosen : (b c : Bool) (A B : Type 0) → b ≡ c → Chooses c A B → Chooses b A B
  chosen b c A B same it = subst (λ (d : Bool). Chooses d A B) (sym same) it

  given_by : (code : ℤ) (now : ℕ) (request : Request) (result : Result Answer Broken) (acts : List Act) → is_served request ≡ true → Asks (event_for now request) result acts
      → Gives code now (Ok request) result acts
  given_by code now request (Ok answer) acts served asked = chosen (is_served request) true _ _ served asked
  given_by code now request (Err fault) acts served asked = asked

  -- the broker answers it
  pub gives_served : (code : ℤ) (now : ℕ) (request : Request) (result : Result Answer Broken) (x y : C) (p q : Place D) → is_served request ≡ true
      → Acted makes view (Asks (event_for now request) result) (change_of x p y q) → Acted makes view (Gives code now (Ok request) result) (change_of x p y q)
  gives_served code now request result x y p q served asked =
      acted_as makes view (Asks (event_for now request) result) (Gives code now (Ok request) result) x y p q (λ acts is. given_by code now request result acts served is) asked

  -- it doesn't
  pub gives_unserved : (code : ℤ) (now : ℕ) (request : Request) (result : Result Answer Broken) (x : C) (p : Place D) → is_served request ≡ false
      → Refuses (Unsupported code) result → Acted makes view (Gives code now (Ok request) result) (change_of x p x p)
  gives_unserved code now request (Ok answer) x p unserved told =
      acted_none makes view (Gives code now (Ok request) (Ok answer)) x p (chosen (is_served request) false _ _ unserved (record { told = told; none = refl }))
  gives_unserved code now request (Err fault) x p unserved told = acted_none makes view (BrokeBy fault) x p (memory_broke fault [] told)

  -- it is none
  pub gives_fault : (code : ℤ) (now : ℕ) (fault : RequestFault) (result : Result Answer Broken) (x : C) (p : Place D) → Refuses fault result
      → Acted makes view (Gives code now (Err fault) result) (change_of x p x p)
  gives_fault code now fault (Ok answer) x p told = acted_none makes view (IsRefused fault answer) x p (record { told = told; none = refl })
  gives_fault code now fault (Err other) x p told = acted_none makes view (BrokeBy other) x p (memory_broke other [] told)

  -- ---- looks

  looked : (reply : ReplyParts) (awaits : Awaits) (what : Awaited) (result : Result ReplyParts Broken) (first later : List Act) → AreTurnsAndDispatch first
      → later ≡ Made (Look awaits.number awaits.turn) (Some (said.Awaited what)) ∷ [] → Tells what reply result → Looks reply awaits result (first ++ later)
  looked reply awaits what (Ok told) first later turned is tells = record {
    turns = first;
    what = what;
    turned = turned;
    due = tells;
    are_all = ap (λ (l : List Act). first ++ l) is;
  }
  looked reply awaits what (Err fault) first later turned is tells = memory_broke fault (first ++ later) tells

  pub looks_told : (reply : ReplyParts) (awaits : Awaits) (what : Awaited) (result : Result ReplyParts Broken) (x y z : C) (p q : Place D)
      → Acted makes view AreTurnsAndDispatch (change_of x p y q) → makes y (Look awaits.number awaits.turn) (Some (said.Awaited what)) z → Tells what reply result
      → Acted makes view (Looks reply awaits result) (change_of x p z q)
  looks_told reply awaits what result x y z p q first made tells =
      let act : Act = Made (Look awaits.number awaits.turn) (Some (said.Awaited what)) in
      acted_then makes view AreTurnsAndDispatch (λ acts. acts ≡ act ∷ []) (Looks reply awaits result) x y z p q q first
      (record { acts = act ∷ []; kind = refl; happened = one_step makes view (Look awaits.number awaits.turn) (Some (said.Awaited what)) y z q q tt (takes_none (Look awaits.number awaits.turn) (Some (said.Awaited what)) tt) made refl })
      (λ before later are is. looked reply awaits what result before later are is tells)
