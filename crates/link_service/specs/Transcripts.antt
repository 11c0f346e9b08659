-- What passes do for a link: the calls of its session, what these heard of the link and sent to it, and the steps of the broker that
-- they made.
use Rattle.std.specs.Prelude.{◌≡◌, ◌⊎◌, ◌<◌, ◌≤◌, ◌++◌, ℕ, List, [], ◌∷◌, Bool, true, false, Err}
use Rattle.mq_outside.specs.Readings.{Giving}
use Rattle.request_fields.specs.declared.request.Request.{Request}
use Rattle.reply_fields.specs.Parts.{AskParts}
use Rattle.broker_events.specs.declared.event.Event.{Event}
use Rattle.broker_events.specs.declared.event.Event.TheVariants as events
use Rattle.session.specs.Asking.{AreFor}
use Rattle.session.specs.Readers.{ReaderView, reader_view}
use Rattle.session.specs.Room.{LooksForRoom}
use Rattle.session.specs.Serving.{Made, KeepsLink, KeepsOut, KeepsRest, ServesNext}
use Rattle.session.specs.Settling.{IsBroken}
use Rattle.session.specs.Sessions.{Call, fed, served, looked, settled, sent, asked, IsCall, IsNew, RepliesInOrder}
use Rattle.session.specs.Sessions.{stream_of, sent_of, made_of, asks_of, read_replies_of}
use Rattle.session.specs.declared.session.Session.{Session}
use Rattle.session.specs.declared.serving.Halt.{Halt}
use Rattle.session.specs.declared.serving.Halt.TheVariants as halts
use Rattle.link_service.specs.declared.linked.Linked.{Linked}

-- ---- a link at one time

-- its session, whether it broke, and what it gave and took so far
pub record Seen : Type 0 where
  pub session : Session
  pub broken : Bool
  pub given : List ℕ
  pub taken : List ℕ

abbrev pub seen_of : {L : Type 0} → (L → List ℕ) → (L → List ℕ) → Linked L → Seen
seen_of given taken linked =
    record { session = linked.session; broken = linked.broken; given = given linked.link; taken = taken linked.link }

-- ---- readers

-- a reader that gives these bytes, whose count of failures rose to this one, and not above; none failed where it is 0
abbrev pub counted_to : Giving → ℕ → ReaderView
counted_to gives most = reader_view gives (λ count. (0 < count) × (count ≤ most))

-- Of a reader that gives these bytes this is so, once it has failed so often; and it stays so, however often it fails later.
abbrev pub ByReader : Giving → ℕ → (ReaderView → Type 0) → Type 0
ByReader gives count P = (most : ℕ) → count ≤ most → P (counted_to gives most)

-- ---- calls

-- What a call that found no memory leaves. Nothing of the piece was fed; the next request is not heard yet, or its answer is lost; what
-- found no room is not answered; or the next reply has left and has no bytes.
abbrev pub FindsNoMemory : ReaderView → Session → Call → Session → Type 0
FindsNoMemory reader old (fed piece) new = (new.talk.cutter ≡ old.talk.cutter) × KeepsRest old new
FindsNoMemory reader old (served now made result) new =
    (result ≡ Err halts.Memory) × ServesNext now old made result new × KeepsLink old new × KeepsOut old new
FindsNoMemory reader old (looked made result) new =
    ((halt : Halt) × (result ≡ Err halt)) × LooksForRoom old.held old made result new × (new.talk ≡ old.talk) × KeepsOut old new
FindsNoMemory reader old (settled made reads) new =
    IsBroken reader old made reads new × (new.held ≡ old.held) × (new.talk ≡ old.talk) × (new.sent ≡ old.sent)
FindsNoMemory reader old (sent count bytes) new = ⊥
FindsNoMemory reader old (asked ask) new = ⊥

-- what a call of a link's session leaves, by whether the link is broken then
abbrev pub IsCallOf : ReaderView → Session → Call → Bool → Session → Type 0
IsCallOf reader old call false new = IsCall reader old call new
IsCallOf reader old call true new = FindsNoMemory reader old call new

-- These calls, in this order, lead from the old session to the new one, and from a link that is broken or not to one that is or not.
-- One that is broken stays so, and makes no call. A call that finds no memory breaks it, and it may break without a call.
abbrev pub AreCallsOf : ReaderView → Bool → Session → List Call → Bool → Session → Type 0
AreCallsOf reader broken old [] breaks new = (new ≡ old) × (broken ≡ true → breaks ≡ true)
AreCallsOf reader broken old (call ∷ calls) breaks new = (broken ≡ false) × (after : Session) × (breaks_at : Bool)
    × IsCallOf reader old call breaks_at after × AreCallsOf reader breaks_at after calls breaks new

-- The link went on by calls of its session, which made these steps and wrote these check-backs, and so many replies `read N`. What they
-- fed is what it gave, and what they sent is what it took, where it tells so.
pub record WentOnWith (tells : Type 0) (reader : ReaderView) (old : Seen) (made : Made) (asks : List AskParts) (reads : ℕ) (new : Seen)
    : Type 0 where
  pub calls : List Call
  pub are : AreCallsOf reader old.broken old.session calls new.broken new.session
  pub steps : made ≡ made_of calls
  pub asked : asks ≡ asks_of calls
  pub read : reads ≡ read_replies_of calls
  pub given : tells → new.given ≡ old.given ++ stream_of calls
  pub taken : tells → new.taken ≡ old.taken ++ sent_of calls

-- the same without a check-back
abbrev pub WentOn : Type 0 → ReaderView → Seen → Made → ℕ → Seen → Type 0
WentOn tells reader old made reads new = WentOnWith tells reader old made [] reads new

-- the check-back, where it was written
abbrev pub if_asked : Bool → AskParts → List AskParts
if_asked true ask = ask ∷ []
if_asked false ask = []

-- none of these calls settled replies
abbrev pub NoneSettled : List Call → Type 0
NoneSettled [] = Unit {0}
NoneSettled (fed piece ∷ calls) = NoneSettled calls
NoneSettled (served now made result ∷ calls) = NoneSettled calls
NoneSettled (looked made result ∷ calls) = NoneSettled calls
NoneSettled (settled made reads ∷ calls) = ⊥
NoneSettled (sent count bytes ∷ calls) = NoneSettled calls
NoneSettled (asked ask ∷ calls) = NoneSettled calls

-- a reader that gives nothing, and never failed
abbrev pub reads_nothing : ReaderView
reads_nothing = reader_view (λ piece at bytes. ⊥) (λ count. ⊥)

-- the same by calls that settled no reply, so that it holds of every reader
pub record WentOnUnread (tells : Type 0) (old : Seen) (made : Made) (new : Seen) : Type 0 where
  pub went : WentOn tells reads_nothing old made 0 new
  pub none : NoneSettled went.calls

-- ---- steps of a link

-- the event is a request of this link, or a look for a record
abbrev pub IsOfLink : ℕ → Event → Type 0
IsOfLink link event = ((host : List ℕ) × (now : ℕ) × (request : Request) × (event ≡ events.Request link host now request))
    ⊎ ((number : ℕ) × (turn : ℕ) × (event ≡ events.Look number turn))

-- all of them are
abbrev pub AreOfLink : ℕ → Made → Type 0
AreOfLink link [] = Unit {0}
AreOfLink link (step ∷ steps) = IsOfLink link step.0 × AreOfLink link steps

-- ---- the transcript of a link

-- nothing came of it yet
pub record IsFresh (tells : Type 0) (number : ℕ) (host : List ℕ) (first : Seen) : Type 0 where
  pub session : IsNew first.session
  pub link : (first.session.talk.link ≡ number) × (first.session.talk.host ≡ host)
  pub whole : first.broken ≡ false
  pub given : tells → first.given ≡ []
  pub taken : tells → first.taken ≡ []

-- no call is left, or one that found no memory, and the link is broken
abbrev pub Ends : ReaderView → Session → List Call → Bool → Session → Type 0
Ends reader last [] broken new = new ≡ last
Ends reader last (call ∷ more) broken new = (more ≡ []) × (broken ≡ true) × FindsNoMemory reader last call new

-- What passes did for a link from its beginning on: calls of its session, and at the end maybe one that found no memory. What it was sent
-- are the replies to the first requests of what it gave, in order, and between them, whole, these check-backs, each for this link; and
-- each step is a request of the link, or a look. So many of the replies that were written are `read N`.
pub record IsTranscript (tells : Type 0) (reader : ReaderView) (number : ℕ) (host : List ℕ) (made : Made) (asks : List AskParts)
    (reads : ℕ) (now : Seen) : Type 0 where
  pub first : Seen
  pub fresh : IsFresh tells number host first
  pub calls : List Call
  pub last : Session
  pub replies : RepliesInOrder reader first.session calls last
  pub end : List Call
  pub ends : Ends reader last end now.broken now.session
  pub steps : made ≡ made_of (calls ++ end)
  pub given : tells → now.given ≡ stream_of (calls ++ end)
  pub taken : tells → now.taken ≡ sent_of calls
  pub of_link : AreOfLink number made
  pub asked : asks ≡ asks_of calls
  pub for_link : AreFor number asks
  pub read : reads ≡ read_replies_of (calls ++ end)
