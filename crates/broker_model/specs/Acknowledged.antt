-- Which requests were answered in a run, which records were acknowledged by that, and which verdicts there were.
use Rattle.std.specs.Prelude.{◌≡◌, ◌⊎◌, ℕ, ◌+◌, ◌<◌, ◌≤◌, ◌==◌, ◌&&◌, not, List, ◌∷◌, ◌++◌, slice_get, Bool, false, Option, Some, None}
use Rattle.record_codec.specs.Entry.{Entry}
use Rattle.log_model.specs.Numbered.{count_of}
use Rattle.request_fields.specs.declared.request.Request.{Request}
use Rattle.request_fields.specs.declared.request.Request.TheVariants.{Send, Pull, Query, OffsetOf, SetOffset, MakeTopic, Search, MaxOffset}
use Rattle.request_fields.specs.declared.request.Request.TheVariants.{MinOffset, ViewById, Beat, Unregister, EndTransaction, Lock, Unlock}
use Rattle.broker_model.specs.State.{State}
use Rattle.broker_model.specs.Events
use Rattle.broker_model.specs.Refusals.{verdict_origin}
use Rattle.broker_model.specs.Appended.{is_refused}
use Rattle.broker_model.specs.Run.{Boot, Move, Steps, Goes, Run, IsOneBoot}

-- ---- records by number

-- the record stands in the log with this number
pub record StandsAt (s : State) (n : ℕ) (r : Entry) : Type 0 where
  pub index : ℕ
  pub number : n ≡ s.log.base.records + index
  pub stands : slice_get s.log.records index ≡ Some r

-- it does, or it was removed with its segment
abbrev pub StandsOrRemoved : State → ℕ → Entry → Type 0
StandsOrRemoved s n r = (n < s.log.base.records) ⊎ StandsAt s n r

-- ---- answers

-- In the run from b to c the event was answered at once with this reply.
pub record AnswersAtOnce (b : Boot) (moves : List Move) (c : Boot) (e : Events.Event) (reply : Events.Reply) : Type 0 where
  pub before : List Move
  pub later : List Move
  pub asked : Boot
  pub heard : Boot
  pub moves_are : moves ≡ before ++ (Steps e (Some (Events.Replies reply)) ∷ later)
  pub first : Run b before asked
  pub asks : Goes asked (Steps e (Some (Events.Replies reply))) heard
  pub rest : Run heard later c

-- In the run from b to c the event's reply had to wait for the record of this number, and a look at it in the same boot, by
-- whomever, found it on the disk. The boots are those when the event came, behind it, before that look and behind it.
pub record AnswersAfter (b : Boot) (moves : List Move) (c : Boot) (e : Events.Event) (reply : Events.Reply) (number : ℕ) : Type 0 where
  pub turn : ℕ
  pub before : List Move
  pub waiting : List Move
  pub later : List Move
  pub asked : Boot
  pub heard : Boot
  pub looked : Boot
  pub answered : Boot
  pub moves_are : moves ≡ before ++ (Steps e (Some (Events.After reply number turn))
      ∷ (waiting ++ (Steps (Events.Look number turn) (Some (Events.Looked Events.IsFlushed)) ∷ later)))
  pub first : Run b before asked
  pub asks : Goes asked (Steps e (Some (Events.After reply number turn))) heard
  pub boot : IsOneBoot waiting
  pub waits : Run heard waiting looked
  pub looks : Goes looked (Steps (Events.Look number turn) (Some (Events.Looked Events.IsFlushed))) answered
  pub rest : Run answered later c

-- the event was answered with this reply, at once or once its last record was on the disk
abbrev pub IsAnswered : Boot → List Move → Boot → Events.Event → Events.Reply → Type 0
IsAnswered b moves c e reply = AnswersAtOnce b moves c e reply ⊎ ((number : ℕ) × AnswersAfter b moves c e reply number)

-- the record with this number is one of those that a step appended, whose last has this number
pub record IsNew (old new : State) (last n : ℕ) (r : Entry) : Type 0 where
  pub low : count_of old.log ≤ n
  pub high : n ≤ last
  pub stands : StandsAt new n r

-- The record was acknowledged in the run: an event that appended it had to wait for its last record, and was answered. What
-- needn't wait is acknowledged by nothing.
pub record IsAcknowledged (b : Boot) (moves : List Move) (c : Boot) (n : ℕ) (r : Entry) : Type 0 where
  pub event : Events.Event
  pub reply : Events.Reply
  pub last : ℕ
  pub answers : AnswersAfter b moves c event reply last
  pub appended : IsNew answers.asked.now answers.heard.now last n r

-- ---- verdicts

-- the origin has this queue offset
abbrev pub is_that_origin : ℕ → Option Entry → Bool
is_that_origin h None = false
is_that_origin h (Some origin) = origin.queue_offset == h

-- the request is this verdict on the origin with this queue offset: 8 for a Commit, 12 for a Rollback
abbrev pub is_request_on : State → ℕ → ℕ → Request → Bool
is_request_on s h verdict (EndTransaction end) = (end.verdict == verdict) && is_that_origin h (verdict_origin s end)
is_request_on s h verdict (Send send) = false
is_request_on s h verdict (Pull p) = false
is_request_on s h verdict (Query q) = false
is_request_on s h verdict (OffsetOf q) = false
is_request_on s h verdict (SetOffset q) = false
is_request_on s h verdict (MakeTopic t) = false
is_request_on s h verdict (Search q) = false
is_request_on s h verdict (MaxOffset q) = false
is_request_on s h verdict (MinOffset q) = false
is_request_on s h verdict (ViewById v) = false
is_request_on s h verdict (Beat beat) = false
is_request_on s h verdict (Unregister u) = false
is_request_on s h verdict (Lock l) = false
is_request_on s h verdict (Unlock l) = false

-- the event is that verdict, and accepted
abbrev pub is_verdict_on : State → ℕ → ℕ → Events.Event → Bool
is_verdict_on s h verdict (Events.Asks a) = is_request_on s h verdict a.request && not (is_refused s (Events.Asks a))
is_verdict_on s h verdict Events.Take = false
is_verdict_on s h verdict (Events.Flushed count) = false
is_verdict_on s h verdict (Events.FlushFailed count) = false
is_verdict_on s h verdict (Events.Look number turn) = false
is_verdict_on s h verdict (Events.Dispatch most) = false
is_verdict_on s h verdict (Events.Deliver now) = false
is_verdict_on s h verdict (Events.Check now) = false
is_verdict_on s h verdict (Events.Leave link) = false
is_verdict_on s h verdict (Events.Trim base) = false
