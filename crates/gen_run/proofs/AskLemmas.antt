-- Requests, one behind another, and the acts that they are.
use Rattle.std.proofs.Common.{◌≡◌, ℕ, List, [], ◌∷◌, ◌++◌, Option, Some, Result, Ok, Err, refl, ap, ◌∙◌, subst}
use Rattle.reply_fields.specs.Parts.{ReplyParts}
use Rattle.request_fields.specs.declared.request.Request.{Request as Asked}
use Rattle.broker_events.specs.Makes.{Makes}
use Rattle.broker_events.specs.declared.event.Event.{Event}
use Rattle.broker_events.specs.declared.event.Event.TheVariants.{Request, Take, Flushed, FlushFailed, Look, Dispatch, Deliver, Check, Leave}
use Rattle.broker_events.specs.declared.said.Said.{Said}
use Rattle.broker_events.specs.declared.said.Said.TheVariants as said
use Rattle.broker_events.proofs.Makes.{makes_append}
use Rattle.worker_turns.specs.Turns.{Steps}
use Rattle.worker_turns.specs.Acts.{Made, DiskView, Place, Acts, Acted, IsBetween, change_of}
use Rattle.worker_turns.specs.Due.{acts_of_steps}
use Rattle.worker_turns.proofs.ActLemmas.{IsOther, still, one_step, takes_none, acts_then}
use Rattle.gen_run.specs.Items.{kind_at, send_of, time_of, verdict_on, pull_of}
use Rattle.gen_run.specs.Asks.{Asks, AreRequests, IsRequest, HasAsked, answered, asked_at}
use Rattle.gen_run.specs.Asks.{AreOfKind, NamesHalf, IsFoundBy, GivesSend, GivesVerdict, GivesPlain, GivesHalf, GivesPull, GivesItem}
use Rattle.gen_run.specs.Rounds.{GivesSteps}
use Rattle.gen_run.specs.declared.kinds.Kind.{Kind}

requests_append : (first later : List (Event × Option Said)) → AreRequests first → AreRequests later → AreRequests (first ++ later)
requests_append [] later are more = more
requests_append (step ∷ first) later are more = (are.0, requests_append first later are.1 more)

module _ {C : Type 0} (makes : Steps C) where
  -- no request
  pub asked_none : (P : List (Event × Option Said) → Type 0) (x : C) → P [] → HasAsked makes P x x
  asked_none P x none = record { steps = []; kind = none; requests = tt; made = refl }

  -- the same requests, of which something else is said
  pub asked_as : (P Q : List (Event × Option Said) → Type 0) (x y : C) → ((steps : List (Event × Option Said)) → P steps → Q steps) → HasAsked makes P x y → HasAsked makes Q x y
  asked_as P Q x y as_well asked = record { steps = asked.steps; kind = as_well asked.steps asked.kind; requests = asked.requests; made = asked.made }

  -- requests, and others behind them
  pub asked_then : (P Q R : List (Event × Option Said) → Type 0) (x y z : C) → HasAsked makes P x y → HasAsked makes Q y z
      → ((first later : List (Event × Option Said)) → P first → Q later → R (first ++ later)) → HasAsked makes R x z
  asked_then P Q R x y z first later joined = record {
    steps = first.steps ++ later.steps;
    kind = joined first.steps later.steps first.kind later.kind;
    requests = requests_append first.steps later.steps first.requests later.requests;
    made = makes_append makes x first.steps y later.steps z first.made later.made;
  }

  -- a step for a request
  one_asked : (P : List (Event × Option Said) → Type 0) (now : ℕ) (request : Asked) (what : Option Said) (x y : C) → makes x (asked_at now request) what y
      → P ((asked_at now request, what) ∷ []) → HasAsked makes P x y
  one_asked P now request what x y made is = record { steps = (asked_at now request, what) ∷ []; kind = is; requests = (tt, tt); made = (y, made, refl) }

  -- one request, at this time, by this name of it
  pub asked_one : {E : Type 0} (P : Result ReplyParts E → List (Event × Option Said) → Type 0) (now time : ℕ) (request asked : Asked) (result : Result ReplyParts E) (x y : C) → now ≡ time → request ≡ asked
      → ((reply : ReplyParts) → P (Ok reply) (answered time asked reply ∷ [])) → ((fault : E) (steps : List (Event × Option Said)) → P (Err fault) steps)
      → Asks makes (asked_at now request) x result y → HasAsked makes (P result) x y
  asked_one P now time request asked (Ok reply) x y at is good bad made =
      one_asked (P (Ok reply)) time asked (Some (said.Reply reply)) x y
      (subst (λ (n : ℕ). makes x (asked_at n asked) (Some (said.Reply reply)) y) at (subst (λ (r : Asked). makes x (asked_at now r) (Some (said.Reply reply)) y) is made))
      (good reply)
  asked_one P now time request asked (Err fault) x y at is good bad made =
      one_asked (P (Err fault)) now request made.0 x y made.1 (bad fault ((asked_at now request, made.0) ∷ []))

  pub send_asked : {E : Type 0} (start i : ℕ) (kind : Kind) (now : ℕ) (request : Asked) (result : Result ReplyParts E) (x y : C) → now ≡ time_of i → request ≡ send_of start i kind
      → Asks makes (asked_at now request) x result y → HasAsked makes (GivesSend start i kind result) x y
  send_asked start i kind now request result x y at is made =
      asked_one (λ r steps. GivesSend start i kind r steps) now (time_of i) request (send_of start i kind) result x y at is (λ reply. refl) (λ fault steps. tt) made

  pub verdict_asked : {E : Type 0} (i queue_offset place verdict now : ℕ) (request : Asked) (result : Result ReplyParts E) (x y : C) → now ≡ time_of i → request ≡ verdict_on queue_offset place verdict
      → Asks makes (asked_at now request) x result y → HasAsked makes (GivesVerdict i queue_offset place verdict result) x y
  verdict_asked i queue_offset place verdict now request result x y at is made =
      asked_one (λ r steps. GivesVerdict i queue_offset place verdict r steps) now (time_of i) request (verdict_on queue_offset place verdict) result x y at is (λ reply. refl) (λ fault steps. tt) made

  pub pull_found : (E : Type 0) (start i found now : ℕ) (request : Asked) (reply : ReplyParts) (x y : C) → now ≡ time_of i → request ≡ pull_of start i → IsFoundBy reply found
      → makes x (asked_at now request) (Some (said.Reply reply)) y → HasAsked makes (GivesPull {E = E} start i (Ok found)) x y
  pull_found E start i found now request reply x y at is found_is made =
      one_asked (GivesPull {E = E} start i (Ok found)) (time_of i) (pull_of start i) (Some (said.Reply reply)) x y
      (subst (λ (n : ℕ). makes x (asked_at n (pull_of start i)) (Some (said.Reply reply)) y) at (subst (λ (r : Asked). makes x (asked_at now r) (Some (said.Reply reply)) y) is made))
      (record { reply = reply; found_is = found_is; are = refl })

  pub pull_failed : {E : Type 0} (start i now : ℕ) (request : Asked) (fault : E) (x y : C) → Asks {E = E} makes (asked_at now request) x (Err fault) y → HasAsked makes (GivesPull {E = E} start i (Err fault)) x y
  pull_failed start i now request fault x y made = one_asked (GivesPull start i (Err fault)) now request made.0 x y made.1 tt

  -- a send whose reply isn't looked at
  pub plain_asked : {A : Type 0} (E : Type 0) (start i : ℕ) (kind : Kind) (reply : ReplyParts) (done : A) (x y : C) → HasAsked makes (GivesSend {E = E} start i kind (Ok reply)) x y → HasAsked makes (GivesPlain {A = A} {E = E} start i kind (Ok done)) x y
  plain_asked E start i kind reply done x y = asked_as (GivesSend {E = E} start i kind (Ok reply)) (GivesPlain {E = E} start i kind (Ok done)) x y (λ steps are. record { reply = reply; are = are })

  -- a half message that is settled
  pub half_settled : {A : Type 0} (E : Type 0) (start i : ℕ) (kind : Kind) (verdict queue_offset place : ℕ) (sent settled : ReplyParts) (done : A) (x y z : C) → NamesHalf sent queue_offset place
      → HasAsked makes (GivesSend {E = E} start i kind (Ok sent)) x y → HasAsked makes (GivesVerdict {E = E} i queue_offset place verdict (Ok settled)) y z → HasAsked makes (GivesHalf {A = A} {E = E} start i kind verdict (Ok done)) x z
  half_settled E start i kind verdict queue_offset place sent settled done x y z names first later =
      asked_then (GivesSend {E = E} start i kind (Ok sent)) (GivesVerdict {E = E} i queue_offset place verdict (Ok settled)) (GivesHalf {E = E} start i kind verdict (Ok done)) x y z first later
      (λ before behind is are. record {
        sent = sent;
        settled = settled;
        queue_offset = queue_offset;
        place = place;
        names = names;
        are = ap (λ (l : List (Event × Option Said)). l ++ behind) is ∙ ap (λ (l : List (Event × Option Said)). answered (time_of i) (send_of start i kind) sent ∷ l) are;
      })

  -- requests of any kind
  pub asked_any : (P : List (Event × Option Said) → Type 0) (x y : C) → HasAsked makes P x y → HasAsked makes (λ steps. Unit {0}) x y
  asked_any P x y asked = asked_as P (λ steps. Unit {0}) x y (λ steps is. tt) asked

  pub asked_both : (P Q : List (Event × Option Said) → Type 0) (x y z : C) → HasAsked makes P x y → HasAsked makes Q y z → HasAsked makes (λ steps. Unit {0}) x z
  asked_both P Q x y z first later = asked_then P Q (λ steps. Unit {0}) x y z first later (λ before behind is are. tt)

-- ---- acts

request_between : (e : Event) → IsRequest e → IsBetween e
request_between (Request link host now request) is = tt
request_between Take is = absurd is
request_between (Flushed receipt) is = absurd is
request_between (FlushFailed count) is = absurd is
request_between (Look number turn) is = absurd is
request_between (Dispatch most) is = absurd is
request_between (Deliver now) is = absurd is
request_between (Check now) is = absurd is
request_between (Leave link) is = absurd is

request_other : (e : Event) → IsRequest e → IsOther e
request_other (Request link host now request) is = tt
request_other Take is = absurd is
request_other (Flushed receipt) is = absurd is
request_other (FlushFailed count) is = absurd is
request_other (Look number turn) is = absurd is
request_other (Dispatch most) is = absurd is
request_other (Deliver now) is = absurd is
request_other (Check now) is = absurd is
request_other (Leave link) is = absurd is

module _ {C D : Type 0} (makes : Steps C) (view : DiskView D) (p : Place D) where
  requests_acts : (steps : List (Event × Option Said)) (x y : C) → AreRequests steps → Makes makes x steps y → Acts makes view (acts_of_steps steps) (change_of x p y p)
  requests_acts [] x y are made = subst (λ (w : C). Acts makes view [] (change_of x p w p)) made (still makes view x p)
  requests_acts (step ∷ steps) x y are made =
      acts_then makes view (Made step.0 step.1 ∷ []) (acts_of_steps steps) x made.0 y p p p
      (one_step makes view step.0 step.1 x made.0 p p (request_between step.0 are.0) (takes_none step.0 step.1 (request_other step.0 are.0)) made.1 refl)
      (requests_acts steps made.0 y are.1 made.2)

  -- the requests of an item
  pub item_acted : {E : Type 0} (kind : Kind) (start i : ℕ) (result : Result ℕ E) (x y : C) → kind ≡ kind_at i → HasAsked makes (GivesItem kind start i result) x y → Acted makes view (GivesSteps start i result) (change_of x p y p)
  item_acted kind start i (Ok found) x y is asked = record {
    acts = acts_of_steps asked.steps;
    kind = (asked.steps, subst (λ (k : Kind). AreOfKind k start i found asked.steps) is asked.kind, refl);
    happened = requests_acts asked.steps x y asked.requests asked.made;
  }
  item_acted kind start i (Err fault) x y is asked = record {
    acts = acts_of_steps asked.steps;
    kind = tt;
    happened = requests_acts asked.steps x y asked.requests asked.made;
  }
