-- What an item makes of the broker's steps: its requests, each with the reply.
use Rattle.std.specs.Prelude.{◌≡◌, ◌⊎◌, ℕ, List, [], ◌∷◌, codes, pos, Option, Some, Result, Ok, Err}
use Rattle.mq_bytes.specs.Decimal.{decimal_value}
use Rattle.mq_bytes.specs.Ids.{message_id_of}
use Rattle.record_codec.specs.Props.{value_of}
use Rattle.reply_fields.specs.Parts.{ReplyParts}
use Rattle.request_fields.specs.declared.request.Request.{Request as Asked}
use Rattle.broker_events.specs.Makes.{Makes}
use Rattle.broker_events.specs.declared.event.Event.{Event}
use Rattle.broker_events.specs.declared.event.Event.TheVariants.{Request, Take, Flushed, FlushFailed, Look, Dispatch, Deliver, Check, Leave}
use Rattle.broker_events.specs.declared.said.Said.{Said}
use Rattle.broker_events.specs.declared.said.Said.TheVariants as said
use Rattle.worker_turns.specs.Turns.{Steps}
use Rattle.gen_run.specs.declared.kinds.Kind.{Kind}
use Rattle.gen_run.specs.declared.kinds.Kind.TheVariants.{Plain, Commit, RollBack, Pull, Delayed}
use Rattle.gen_run.specs.Items.{time_of, send_of, pull_of, verdict_on}

-- where all requests come from: 127.0.0.1, port 0
abbrev pub born_host : List ℕ
born_host = 127 ∷ 0 ∷ 0 ∷ 1 ∷ 0 ∷ 0 ∷ 0 ∷ 0 ∷ []

-- a request that comes at this time, and a step in which it was answered at once
abbrev pub asked_at : ℕ → Asked → Event
asked_at now request = Request 0 born_host now request

abbrev pub answered : ℕ → Asked → ReplyParts → Event × Option Said
answered now request reply = (asked_at now request, Some (said.Reply reply))

-- one step was made for the request, and it was answered at once, or not
abbrev pub Asks : {C E : Type 0} → Steps C → Event → C → Result ReplyParts E → C → Type 0
Asks makes e x (Ok reply) y = makes x e (Some (said.Reply reply)) y
Asks makes e x (Err fault) y = (what : Option Said) × makes x e what y

-- the reply to the send of a half message names it: its queue offset, and by the message's id its place
pub record NamesHalf (reply : ReplyParts) (queue_offset place : ℕ) : Type 0 where
  pub id : List ℕ
  pub host : List ℕ
  pub number : List ℕ
  pub id_is : value_of (codes "msgId") reply.ext ≡ Some id
  pub place_is : id ≡ message_id_of host place
  pub number_is : value_of (codes "queueOffset") reply.ext ≡ Some number
  pub offset_is : decimal_value number ≡ Some (pos queue_offset)

-- the item's message was sent, and answered
pub record IsSent (start i : ℕ) (kind : Kind) (steps : List (Event × Option Said)) : Type 0 where
  pub reply : ReplyParts
  pub are : steps ≡ answered (time_of i) (send_of start i kind) reply ∷ []

-- its half message was sent, and then this verdict was given on the one that the reply names
pub record IsSettled (start i : ℕ) (kind : Kind) (verdict : ℕ) (steps : List (Event × Option Said)) : Type 0 where
  pub sent : ReplyParts
  pub settled : ReplyParts
  pub queue_offset : ℕ
  pub place : ℕ
  pub names : NamesHalf sent queue_offset place
  pub are : steps ≡ answered (time_of i) (send_of start i kind) sent
      ∷ answered (time_of i) (verdict_on queue_offset place verdict) settled ∷ []

-- 1 where messages were found
abbrev pub IsFoundBy : ReplyParts → ℕ → Type 0
IsFoundBy reply found = ((reply.code ≡ pos 0) × (found ≡ 1)) ⊎ ((reply.code ≡ pos 0 → ⊥) × (found ≡ 0))

-- its queue was pulled, and messages were found, or not
pub record IsPulled (start i found : ℕ) (steps : List (Event × Option Said)) : Type 0 where
  pub reply : ReplyParts
  pub found_is : IsFoundBy reply found
  pub are : steps ≡ answered (time_of i) (pull_of start i) reply ∷ []

-- the steps of an item of this kind, with how many pulls of it found messages
abbrev pub AreOfKind : Kind → ℕ → ℕ → ℕ → List (Event × Option Said) → Type 0
AreOfKind Plain start i found steps = IsSent start i Plain steps × (found ≡ 0)
AreOfKind Commit start i found steps = IsSettled start i Commit 8 steps × (found ≡ 0)
AreOfKind RollBack start i found steps = IsSettled start i RollBack 12 steps × (found ≡ 0)
AreOfKind Pull start i found steps = IsPulled start i found steps
AreOfKind Delayed start i found steps = IsSent start i Delayed steps × (found ≡ 0)

-- each step is a request
abbrev pub IsRequest : Event → Type 0
IsRequest (Request link host now request) = Unit {0}
IsRequest Take = ⊥
IsRequest (Flushed receipt) = ⊥
IsRequest (FlushFailed count) = ⊥
IsRequest (Look number turn) = ⊥
IsRequest (Dispatch most) = ⊥
IsRequest (Deliver now) = ⊥
IsRequest (Check now) = ⊥
IsRequest (Leave link) = ⊥

abbrev pub AreRequests : List (Event × Option Said) → Type 0
AreRequests [] = Unit {0}
AreRequests (step ∷ steps) = IsRequest step.0 × AreRequests steps

-- steps of this kind were made, each a request
pub record HasAsked {C : Type 0} (makes : Steps C) (IsKind : List (Event × Option Said) → Type 0) (x y : C) : Type 0 where
  pub steps : List (Event × Option Said)
  pub kind : IsKind steps
  pub requests : AreRequests steps
  pub made : Makes makes x steps y

-- those of an item, unless memory ran out
abbrev pub GivesItem : {E : Type 0} → Kind → ℕ → ℕ → Result ℕ E → List (Event × Option Said) → Type 0
GivesItem kind start i (Ok found) steps = AreOfKind kind start i found steps
GivesItem kind start i (Err fault) steps = Unit {0}

-- those of a send, of a verdict, and of a half message that was settled
abbrev pub GivesSend : {E : Type 0} → ℕ → ℕ → Kind → Result ReplyParts E → List (Event × Option Said) → Type 0
GivesSend start i kind (Ok reply) steps = steps ≡ answered (time_of i) (send_of start i kind) reply ∷ []
GivesSend start i kind (Err fault) steps = Unit {0}

abbrev pub GivesVerdict : {E : Type 0} → ℕ → ℕ → ℕ → ℕ → Result ReplyParts E → List (Event × Option Said) → Type 0
GivesVerdict i queue_offset place verdict (Ok reply) steps = steps ≡ answered (time_of i) (verdict_on queue_offset place verdict) reply ∷ []
GivesVerdict i queue_offset place verdict (Err fault) steps = Unit {0}

abbrev pub GivesPlain : {A E : Type 0} → ℕ → ℕ → Kind → Result A E → List (Event × Option Said) → Type 0
GivesPlain start i kind (Ok done) steps = IsSent start i kind steps
GivesPlain start i kind (Err fault) steps = Unit {0}

abbrev pub GivesHalf : {A E : Type 0} → ℕ → ℕ → Kind → ℕ → Result A E → List (Event × Option Said) → Type 0
GivesHalf start i kind verdict (Ok done) steps = IsSettled start i kind verdict steps
GivesHalf start i kind verdict (Err fault) steps = Unit {0}

abbrev pub GivesPull : {E : Type 0} → ℕ → ℕ → Result ℕ E → List (Event × Option Said) → Type 0
GivesPull start i (Ok found) steps = IsPulled start i found steps
GivesPull start i (Err fault) steps = Unit {0}
