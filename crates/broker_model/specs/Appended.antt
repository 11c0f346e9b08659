-- Which records an event appends to the log. All that can be said of the log's growth is said here once, for every event.
use Rattle.std.specs.Prelude.{ℕ, ◌+◌, ◌^◌, ◌==◌, ◌&&◌, ◌||◌, not, nat_lt, nat_le, max, List, [], ◌∷◌, length}
use Rattle.std.specs.Prelude.{sum_by, find, Bool, false, is_some, Option, Some, None, if◌then◌else◌}
use Rattle.std.specs.List.{list_any}
use Rattle.record_codec.specs.Entry.{Entry}
use Rattle.record_codec.specs.Layout.{size}
use Rattle.record_codec.specs.declared.draft.Draft.{Draft}
use Rattle.log_model.specs.Numbered.{next_records}
use Rattle.log_model.specs.Transactions.{TransactionState, Open, Committed, RolledBack, Discarded}
use Rattle.log_model.specs.Transactions.{transaction_state, origins, renewals, last_of, is_settled}
use Rattle.log_model.specs.Delays.{due_delayed, progress}
use Rattle.log_model.specs.Drafts.{copy_draft, op_draft, renewal_draft, discard_draft, delivery_draft}
use Rattle.request_fields.specs.declared.request.Request.{Request}
use Rattle.request_fields.specs.declared.request.Request.TheVariants.{Send, Pull, Query, OffsetOf, SetOffset, MakeTopic, Search, MaxOffset}
use Rattle.request_fields.specs.declared.request.Request.TheVariants.{MinOffset, ViewById, Beat, Unregister, EndTransaction, Lock, Unlock}
use Rattle.broker_model.specs.State.{State, pending_bytes}
use Rattle.broker_model.specs.Sends.{send_draft}
use Rattle.broker_model.specs.Events.{Event, Asks, Take, Flushed, FlushFailed, Look, Dispatch, Deliver, Check, Leave, Trim}
use Rattle.broker_model.specs.Refusals.{refusal_of, verdict_origin, named_half}

-- the time of an event: the greater of its reading and the last time
abbrev pub moment : State → Event → ℕ
moment s (Asks a) = max a.now s.now
moment s (Deliver now) = max now s.now
moment s (Check now) = max now s.now
moment s Take = s.now
moment s (Flushed count) = s.now
moment s (FlushFailed count) = s.now
moment s (Look number turn) = s.now
moment s (Dispatch most) = s.now
moment s (Leave link) = s.now
moment s (Trim base) = s.now

-- ---- verdicts

-- the first verdict on an open origin: 8 commits the half message that it names, 12 rolls the origin back
abbrev pub open_verdict : State → ℕ → ℕ → Entry → Entry → List Draft
open_verdict s now verdict half origin =
    if verdict == 8 then copy_draft s.setup.host half ∷ op_draft s.setup.host now origin.queue_offset ∷ []
    else (if verdict == 12 then op_draft s.setup.host now origin.queue_offset ∷ [] else [])

-- a verdict on a settled origin appends nothing
abbrev pub first_verdict : TransactionState → List Draft → List Draft
first_verdict Open drafts = drafts
first_verdict Committed drafts = []
first_verdict RolledBack drafts = []
first_verdict Discarded drafts = []

-- the records of a verdict on a half message and its origin
abbrev pub verdict_drafts : State → ℕ → ℕ → Option Entry → Option Entry → List Draft
verdict_drafts s now verdict None origin = []
verdict_drafts s now verdict (Some half) None = []
verdict_drafts s now verdict (Some half) (Some origin) =
    first_verdict (transaction_state s.log.records origin.queue_offset) (open_verdict s now verdict half origin)

-- ---- check-backs

-- an origin may be asked for from 6,000 ms after its store time on, and from 60,000 ms after its last renewal on
abbrev pub is_asked_at : ℕ → Entry → Option Entry → Bool
is_asked_at now origin None = nat_le (origin.store + 6000) now
is_asked_at now origin (Some renewal) = nat_le (renewal.store + 60000) now

-- an open origin that may be asked for
abbrev pub is_due_origin : List Entry → ℕ → Entry → Bool
is_due_origin log now origin =
    not (is_settled log origin.queue_offset) && is_asked_at now origin (last_of (renewals log origin.queue_offset))

-- the first origin that is due
abbrev pub due_origin : State → ℕ → Option Entry
due_origin s now = find (is_due_origin s.log.records now) (origins s.log.records)

-- a renewal of the origin, or after 15 of them the last one is discarded
abbrev pub next_check : State → ℕ → Entry → List Entry → Option Entry → List Draft
next_check s now origin asked None = renewal_draft s.setup.host 1 origin ∷ []
next_check s now origin asked (Some renewal) =
    if nat_lt (length asked) 15 then renewal_draft s.setup.host (length asked + 1) origin ∷ []
    else discard_draft s.setup.host renewal ∷ op_draft s.setup.host now origin.queue_offset ∷ []

-- the records of a check
abbrev pub check_drafts : State → ℕ → Option Entry → List Draft
check_drafts s now None = []
check_drafts s now (Some origin) =
    let asked = renewals s.log.records origin.queue_offset in next_check s now origin asked (last_of asked)

-- ---- deliveries

-- the record of a delivery: its number is the progress of its level
abbrev pub delivery_drafts : State → Option (ℕ × Entry) → List Draft
delivery_drafts s None = []
delivery_drafts s (Some due) = delivery_draft s.setup.host due.0 (progress s.log due.0) due.1 ∷ []

-- ---- all events

-- the records of a request that came from this host
abbrev pub request_drafts : State → ℕ → List ℕ → Request → List Draft
request_drafts s now host (Send send) = send_draft s.setup.host host send ∷ []
request_drafts s now host (EndTransaction end) = verdict_drafts s now end.verdict (named_half s end) (verdict_origin s end)
request_drafts s now host (Pull p) = []
request_drafts s now host (Query q) = []
request_drafts s now host (OffsetOf q) = []
request_drafts s now host (SetOffset q) = []
request_drafts s now host (MakeTopic t) = []
request_drafts s now host (Search q) = []
request_drafts s now host (MaxOffset q) = []
request_drafts s now host (MinOffset q) = []
request_drafts s now host (ViewById v) = []
request_drafts s now host (Beat b) = []
request_drafts s now host (Unregister u) = []
request_drafts s now host (Lock l) = []
request_drafts s now host (Unlock l) = []

-- what the event writes, each record without its place, where nothing keeps it from being carried out
unfoldable pub drafts_of : State → Event → List Draft
drafts_of s (Asks a) = request_drafts s (max a.now s.now) a.host a.request
drafts_of s (Deliver now) = delivery_drafts s (due_delayed s.log s.dispatched (max now s.now))
drafts_of s (Check now) = check_drafts s (max now s.now) (due_origin s (max now s.now))
drafts_of s Take = []
drafts_of s (Flushed count) = []
drafts_of s (FlushFailed count) = []
drafts_of s (Look number turn) = []
drafts_of s (Dispatch most) = []
drafts_of s (Leave link) = []
drafts_of s (Trim base) = []

-- the same records at their places
abbrev pub made_by : State → Event → List Entry
made_by s e = next_records s.setup.segment (moment s e) s.log (drafts_of s e)

-- one of them would end past 2^62
abbrev pub is_past_end : State → Event → Bool
is_past_end s e = list_any (λ r. nat_lt (2 ^ 62) (r.offset + size r)) (made_by s e)

-- there are some, and with the pending ones they pass the 67,108,864 bytes of the buffer
abbrev pub is_full : State → Event → Bool
is_full s e = nat_lt 0 (length (drafts_of s e)) && nat_lt 67108864 (pending_bytes s + sum_by size (made_by s e))

-- it is a request, and one of the rows holds
abbrev pub is_refused_request : State → Event → Bool
is_refused_request s (Asks a) = is_some (refusal_of s a.request)
is_refused_request s Take = false
is_refused_request s (Flushed count) = false
is_refused_request s (FlushFailed count) = false
is_refused_request s (Look number turn) = false
is_refused_request s (Dispatch most) = false
is_refused_request s (Deliver now) = false
is_refused_request s (Check now) = false
is_refused_request s (Leave link) = false
is_refused_request s (Trim base) = false

-- the event changes nothing, not even the time
unfoldable pub is_refused : State → Event → Bool
is_refused s e = is_refused_request s e || is_past_end s e || is_full s e

-- the records that the event appends to the log
unfoldable pub appended : State → Event → List Entry
appended s e = if is_refused s e then [] else made_by s e
