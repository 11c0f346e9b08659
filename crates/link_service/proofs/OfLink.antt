-- Each step of a link's passes is a request of the link, or a look.
use Rattle.std.proofs.Common.{◌≡◌, ⊎_elim, inl, inr, ℕ, List, [], ◌∷◌, ◌++◌, Bool, true, false, Option, Some, None, Result, Ok, Err, refl, sym, ap, subst}
use Rattle.reply_fields.specs.Parts.{ReplyParts, AskParts}
use Rattle.session.specs.Owing.{look_for, room_at}
use Rattle.session.specs.Readers.{ReaderView}
use Rattle.session.specs.Room.{LooksForRoom}
use Rattle.session.specs.Serving.{Made, IsAsked, IsAnswered, ServesNext}
use Rattle.session.specs.Settling.{IsDueAfter, IsNotYet, Waits, LooksFor, Settles, IsSettled, IsBroken, Stops}
use Rattle.session.specs.Sessions.{Call, fed, served, looked, settled, sent, asked, made_in, made_of}
use Rattle.session.specs.declared.heard.Heard.{Heard}
use Rattle.session.specs.declared.owed.Applied.{Applied}
use Rattle.session.specs.declared.owed.Awaits.{Awaits}
use Rattle.session.specs.declared.owed.Owed.{Owed}
use Rattle.session.specs.declared.room.HeldRequest.{HeldRequest}
use Rattle.session.specs.declared.serving.Halt.{Halt}
use Rattle.session.specs.declared.serving.Halt.TheVariants as halts
use Rattle.session.specs.declared.serving.Step.{Step}
use Rattle.session.specs.declared.serving.Step.TheVariants as steps
use Rattle.session.specs.declared.session.Session.{Session}
use Rattle.session.specs.declared.talk.Talk.{Talk}
use Rattle.link_service.specs.Transcripts.{Seen, AreOfLink, IsCallOf, AreCallsOf, WentOnWith}

of_append : (link : ℕ) (xs ys : Made) → AreOfLink link xs → AreOfLink link ys → AreOfLink link (xs ++ ys)
of_append link [] ys are more = more
of_append link (x ∷ xs) ys are more = (are.0, of_append link xs ys are.1 more)

of_none : (link : ℕ) (made : Made) → made ≡ [] → AreOfLink link made
of_none link made none = subst (λ (m : Made). AreOfLink link m) (sym none) tt

of_both : (link : ℕ) (made first last : Made) → made ≡ first ++ last → AreOfLink link first → AreOfLink link last → AreOfLink link made
of_both link made first last both are more = subst (λ (m : Made). AreOfLink link m) (sym both) (of_append link first last are more)

-- ---- requests

asked_of : (talk : Talk) (now : ℕ) (heard : Heard) (applied : Applied) (made : Made) → IsAsked talk now heard applied made → AreOfLink talk.link made
asked_of talk now heard applied made is = subst (λ (m : Made). AreOfLink talk.link m) (sym is.one) (inl (talk.host, now, is.request, refl), tt)

answered_of : (talk : Talk) (now : ℕ) (heard : Heard) (owed : Owed) (made : Made) → IsAnswered talk now heard owed made → AreOfLink talk.link made
answered_of talk now heard owed made is =
    ⊎_elim (λ refused. of_none talk.link made refused.none) (λ one. asked_of talk now heard _ made one) is.comes

serves_of : (now : ℕ) (old : Session) (made : Made) (result : Result Step Halt) (new : Session) → ServesNext now old made result new → AreOfLink old.talk.link made
serves_of now old made (Ok steps.Request) new is = answered_of old.talk now is.heard is.owed made is.answered
serves_of now old made (Ok steps.Nothing) new is = of_none old.talk.link made is.0.none
serves_of now old made (Ok steps.Full) new is =
    of_both old.talk.link made is.given (look_for (room_at is.pending) is.before ∷ []) is.looked (asked_of old.talk now is.heard _ is.given is.asked) (inr (is.pending, 0, refl), tt)
serves_of now old made (Err (halts.BadFrame at)) new is = of_none old.talk.link made is.0.none
serves_of now old made (Err halts.Memory) new is =
    ⊎_elim (λ rests. of_none old.talk.link made rests.0.none) (λ loses. answered_of old.talk now loses.heard loses.owed made loses.answered) is

-- ---- looks

room_of : (link : ℕ) (held : Option HeldRequest) (old : Session) (made : Made) (result : Result Bool Halt) (new : Session) → LooksForRoom held old made result new → AreOfLink link made
room_of link None old made result new is = of_none link made is.0
room_of link (Some held) old made result new is = subst (λ (m : Made). AreOfLink link m) (sym is.1) (inr (held.pending, 0, refl), tt)

due_of : (link : ℕ) (awaits : Option Awaits) (reply due : ReplyParts) (made : Made) → IsDueAfter awaits reply due made → AreOfLink link made
due_of link None reply due made is = of_none link made is.1
due_of link (Some awaits) reply due made is =
    subst (λ (m : Made). AreOfLink link m) (sym is.2) (inr (awaits.number, awaits.turn, refl), tt)

not_yet_of : (link : ℕ) (awaits : Option Awaits) (made : Made) → IsNotYet awaits made → AreOfLink link made
not_yet_of link None made is = absurd is
not_yet_of link (Some awaits) made is = subst (λ (m : Made). AreOfLink link m) (sym is) (inr (awaits.number, awaits.turn, refl), tt)

waits_of : (link : ℕ) (owed : List Owed) (made : Made) → Waits owed made → AreOfLink link made
waits_of link [] made is = of_none link made is
waits_of link (owed ∷ more) made is = not_yet_of link owed.awaits made is

looked_of : (link : ℕ) (awaits : Option Awaits) (made : Made) → LooksFor awaits made → AreOfLink link made
looked_of link None made is = of_none link made is
looked_of link (Some awaits) made is = subst (λ (m : Made). AreOfLink link m) (sym is.1) (inr (awaits.number, awaits.turn, refl), tt)

settles_of : (link : ℕ) (reader : ReaderView) (owed : List Owed) (old : List ℕ) (made : Made) (reads : ℕ) (new : List ℕ) → Settles reader owed old made reads new → AreOfLink link made
settles_of link reader [] old made reads new is = of_none link made is.0
settles_of link reader (owed ∷ more) old made reads new is =
    of_both link made is.1 is.2 is.5 (due_of link owed.awaits owed.reply is.7.due is.1 is.7.is) (settles_of link reader more is.0 is.2 is.4 new is.8)

stops_of : (link : ℕ) (session : Session) (made : Made) → Stops session made → AreOfLink link made
stops_of link session made is = ⊎_elim (λ waits. waits_of link session.owed.items made waits) (λ many. of_none link made many.1) is

settled_of : (link : ℕ) (reader : ReaderView) (old : Session) (made : Made) (reads : ℕ) (new : Session) → IsSettled reader old made reads new → AreOfLink link made
settled_of link reader old made reads new is =
    of_both link made is.first is.last is.both (settles_of link reader is.settled old.out.items is.first reads new.out.items is.puts) (stops_of link new is.last is.stops)

broken_of : (link : ℕ) (reader : ReaderView) (old : Session) (made : Made) (reads : ℕ) (new : Session) → IsBroken reader old made reads new → AreOfLink link made
broken_of link reader old made reads new is =
    of_both link made is.first is.last is.both (settles_of link reader is.settled old.out.items is.first reads new.out.items is.puts) (looked_of link is.lost.awaits is.last is.looked)

-- ---- calls

-- the steps of a call are the link's, and the link stays
call_of : (reader : ReaderView) (old : Session) (call : Call) (broken : Bool) (new : Session) → IsCallOf reader old call broken new
    → AreOfLink old.talk.link (made_in call) × (new.talk.link ≡ old.talk.link)
call_of reader old (fed piece) false new is = (tt, is.1.link.0)
call_of reader old (fed piece) true new is = (tt, is.1.link.0)
call_of reader old (served now made result) false new is = (serves_of now old made result new is.1, is.2.0)
call_of reader old (served now made result) true new is = (serves_of now old made result new is.1, is.2.0)
call_of reader old (looked made result) false new is = (room_of old.talk.link old.held old made result new is.1, ap (λ (t : Talk). t.link) is.2)
call_of reader old (looked made result) true new is = (room_of old.talk.link old.held old made result new is.1, ap (λ (t : Talk). t.link) is.2)
call_of reader old (settled made reads) false new is = (settled_of old.talk.link reader old made reads new is.0, ap (λ (t : Talk). t.link) is.2)
call_of reader old (settled made reads) true new is = (broken_of old.talk.link reader old made reads new is.0, ap (λ (t : Talk). t.link) is.2)
call_of reader old (sent count bytes) false new is = (tt, ap (λ (t : Talk). t.link) is.3)
call_of reader old (sent count bytes) true new is = absurd is
call_of reader old (asked ask) false new is = (tt, ap (λ (t : Talk). t.link) is.talk)
call_of reader old (asked ask) true new is = absurd is

calls_of : (reader : ReaderView) (broken : Bool) (old : Session) (calls : List Call) (breaks : Bool) (new : Session) → AreCallsOf reader broken old calls breaks new
    → AreOfLink old.talk.link (made_of calls)
calls_of reader broken old [] breaks new are = tt
calls_of reader broken old (call ∷ calls) breaks new are =
    let first = call_of reader old call are.2 are.1 are.3 in
    of_append old.talk.link (made_in call) (made_of calls) first.0
    (subst (λ (link : ℕ). AreOfLink link (made_of calls)) first.1 (calls_of reader are.2 are.1 calls breaks new are.4))

pub went_of_link : (tells : Type 0) (reader : ReaderView) (old : Seen) (made : Made) (asks : List AskParts) (reads : ℕ) (new : Seen)
    → WentOnWith tells reader old made asks reads new → AreOfLink old.session.talk.link made
went_of_link tells reader old made asks reads new went =
    subst (λ (m : Made). AreOfLink old.session.talk.link m) (sym went.steps) (calls_of reader old.broken old.session went.calls new.broken new.session went.are)
