-- What calls of a session have done: the requests that were heard, what was owed for them, and the bytes that left.
use Rattle.std.proofs.Common.{◌≡◌, ◌⊎◌, ◌+◌, ℕ, ◌≤◌, List, [], ◌∷◌, ◌++◌, length, take, drop, Option, Some, None, Ok, Err, inl, inr, refl, sym, ap, ◌∙◌, subst, append_assoc, append-nil}
use Rattle.std.specs.Prelude.{Result, Bool, map}
use Rattle.std.proofs.lemmas.List.{take-append-drop, drop-append-le, map-append}
use Rattle.session.specs.Readers.{ReaderView}
use Rattle.remoting_frame.specs.Held.{Held}
use Rattle.broker_events.specs.declared.said.Awaited.{Awaited}
use Rattle.reply_fields.specs.Parts.{AskParts}
use Rattle.reply_fields.specs.Asks.{ask_bytes}
use Rattle.session.specs.Asking.{Asks, AreFor, opaque_of, count_after}
use Rattle.session.specs.Talks.{HasHeard}
use Rattle.session.specs.Owing.{look_for, room_at}
use Rattle.session.specs.Room.{AfterLook, AreTriesOf, IsGivenUp, LooksForRoom, Try, new_failure, no_room, steps_of_tries}
use Rattle.session.specs.Serving.{Made, KeepsLink, KeepsOut, KeepsRest, IsRefused, IsAsked, IsAnswered, Rests, Answers, FindsNoRoom, ServesNext, caller_of}
use Rattle.session.specs.Settling.{IsSettled, unsent_of}
use Rattle.session.specs.Sessions.{Call, fed, served, looked, settled, sent, asked, HadMemory, LookedWell, IsCall, AreCalls, stream_in, sent_in, made_in, asking_in, settling_in, asks_in, read_replies_in, stream_of, sent_of, made_of, asking_of, settling_of, asks_of, read_replies_of, applied_in, found_in, Answer, IsAnswer, steps_of, held_in, checked, replies_to, owed_among, asks_among, ArePieces, HasServed, IsNew, RepliesInOrder}
use Rattle.session.specs.declared.heard.Heard.{Heard}
use Rattle.session.specs.declared.owed.Owed.{Owed}
use Rattle.session.specs.declared.owed.Applied.{Applied}
use Rattle.session.specs.declared.owed.Applied.TheVariants.{Owes}
use Rattle.session.specs.declared.room.HeldRequest.{HeldRequest}
use Rattle.session.specs.declared.talk.Talk.{Talk}
use Rattle.session.specs.declared.session.Session.{Session}
use Rattle.session.specs.declared.serving.Step.{Step}
use Rattle.session.specs.declared.serving.Step.TheVariants as steps
use Rattle.session.specs.declared.serving.Halt.{Halt}
use Rattle.session.specs.declared.serving.Halt.TheVariants as halts
use Rattle.session.proofs.TalkLaws.{one_answer}
use Rattle.session.proofs.ServingSteps.{asked_on}
use Rattle.session.proofs.RoomLemmas.{new_failure_is, tried_look, tried_again, tries_next, tries_on, tries_of_on, tries_of_apply}
use Rattle.session.proofs.SessionParts.{moves_on, stays, hears_on, hears_fed, takes_one, applied_append, applies_on, finds_on, settles_applies, settles_finds, stops_applies, stops_finds, answers_on, steps_append, puts_replies, owed_among_replies, asks_among_replies, owed_among_append, asks_among_append, for_append, count_append, pieces_on}

-- ---- what is seen of the bytes

unsent_same : (old new : Session) → new.out.items ≡ old.out.items → new.sent ≡ old.sent → unsent_of new ≡ unsent_of old
unsent_same old new out same = rw (out, same) refl

-- bytes that were put behind are to be sent
unsent_more : (old new : Session) (bytes : List ℕ) → new.out.items ≡ old.out.items ++ bytes → new.sent ≡ old.sent → unsent_of old ++ bytes ≡ unsent_of new
unsent_more old new bytes out same =
    let within : old.sent ≤ length old.out.items = old.within in
    sym (ap (λ (l : List ℕ). drop new.sent l) out ∙ ap (λ (n : ℕ). drop n (old.out.items ++ bytes)) same ∙ drop-append-le old.sent old.out.items bytes within)

-- ---- one call

-- nothing is fed, and this much is heard
hears_at : (at : ℕ) (bytes : List ℕ) (heard : List Heard) (new : Held) → HasHeard at bytes heard new → HasHeard at (bytes ++ []) heard new
hears_at at bytes heard new h = subst (λ (l : List ℕ). HasHeard at l heard new) (sym (append-nil bytes)) h

-- what was held is heard no more of the stream
hears_none : (old new : Session) → new.talk ≡ old.talk → HasHeard old.talk.cutter.at (old.talk.cutter.bytes ++ []) [] new.talk.cutter
hears_none old new same = hears_at old.talk.cutter.at old.talk.cutter.bytes [] new.talk.cutter
    (hears_fed old.talk.cutter.at old.talk.cutter.bytes new.talk.cutter (ap (λ (t : Talk). t.cutter.at) same) (ap (λ (t : Talk). t.cutter.bytes) same))

keeps_link : (old new : Session) → new.talk ≡ old.talk → KeepsLink old new
keeps_link old new same = (ap (λ (t : Talk). t.link) same, ap (λ (t : Talk). t.host) same)

-- the tries of what is held still
keeps_tries : (talk : Talk) (old new : Session) (tried : List Try) → new.held ≡ old.held → AreTriesOf talk old.held tried → AreTriesOf talk new.held tried
keeps_tries talk old new tried same are = subst (λ (w : Option HeldRequest). AreTriesOf talk w tried) (sym same) are

module _ (reader : ReaderView) (old new : Session) (tried : List Try) (are : AreTriesOf old.talk old.held tried) where
  did_feed : (piece : List ℕ) → new.talk.cutter ≡ record { at = old.talk.cutter.at; bytes = old.talk.cutter.bytes ++ piece }
      → KeepsRest old new → HasServed reader old tried piece [] [] [] 0 [] new
  did_feed piece cut keeps = record {
    link = keeps.link;
    heard = [];
    hears = hears_fed old.talk.cutter.at (old.talk.cutter.bytes ++ piece) new.talk.cutter (ap (λ (w : Held). w.at) cut) (ap (λ (w : Held). w.bytes) cut);
    answers = [];
    are = tt;
    each = stays (held_in old.held) (held_in new.held) (ap held_in keeps.held);
    tries = tried;
    held = keeps_tries old.talk old new tried keeps.held are;
    served = append-nil (steps_of_tries tried);
    pieces = [];
    asked = refl;
    for_link = tt;
    count = keeps.out.2;
    left = stays old.owed.items new.owed.items keeps.owed;
    looks = [];
    found = refl;
    bytes = [];
    are_pieces = (refl, refl, refl);
    went = stays (unsent_of old) (unsent_of new) (unsent_same old new keeps.out.0 keeps.out.1);
  }

  -- no request was served
  did_rest : (made : Made) → HasHeard old.talk.cutter.at old.talk.cutter.bytes [] new.talk.cutter → Rests old made new
      → KeepsLink old new → KeepsOut old new → HasServed reader old tried [] made [] [] 0 [] new
  did_rest made hears rests link out = record {
    link = link;
    heard = [];
    hears = hears_at old.talk.cutter.at old.talk.cutter.bytes [] new.talk.cutter hears;
    answers = [];
    are = tt;
    each = stays (held_in old.held) (held_in new.held) (ap held_in (rests.held.1 ∙ sym rests.held.0));
    tries = tried;
    held = keeps_tries old.talk old new tried (rests.held.1 ∙ sym rests.held.0) are;
    served = ap (λ (l : Made). steps_of_tries tried ++ l) rests.none ∙ append-nil (steps_of_tries tried);
    pieces = [];
    asked = refl;
    for_link = tt;
    count = out.2;
    left = stays old.owed.items new.owed.items rests.owed;
    looks = [];
    found = refl;
    bytes = [];
    are_pieces = (refl, refl, refl);
    went = stays (unsent_of old) (unsent_of new) (unsent_same old new out.0 out.1);
  }

  -- a request was answered
  did_answer : (now : ℕ) (made : Made) → Answers now old made new → KeepsLink old new → KeepsOut old new → HasServed reader old tried [] made [] [] 0 [] new
  did_answer now made h link out =
      let next = takes_one old.held h.heard old.talk.cutter new.talk.cutter h.next in
      record {
        link = link;
        heard = next.heards;
        hears = hears_at old.talk.cutter.at old.talk.cutter.bytes next.heards new.talk.cutter next.hears;
        answers = record { heard = h.heard; tries = tried; made = made; owed = h.owed } ∷ [];
        are = ((tries_next old.talk old.held h.heard old.talk.cutter new.talk.cutter tried h.next are, inl (now, h.answered)), tt);
        each = next.one ∙ ap (λ (w : Option HeldRequest). h.heard ∷ held_in w) (sym h.held);
        tries = [];
        held = subst (λ (w : Option HeldRequest). AreTriesOf old.talk w []) (sym h.held) refl;
        served = sym (append-nil ((steps_of_tries tried ++ made) ++ []) ∙ append-nil (steps_of_tries tried ++ made));
        pieces = [];
        asked = refl;
        for_link = tt;
        count = out.2;
        left = sym h.behind;
        looks = [];
        found = refl;
        bytes = [];
        are_pieces = (refl, refl, refl);
        went = stays (unsent_of old) (unsent_of new) (unsent_same old new out.0 out.1);
      }

  -- a request found no room
  did_hold : (now : ℕ) (made : Made) → FindsNoRoom now old made new → KeepsLink old new → KeepsOut old new → HasServed reader old tried [] made [] [] 0 [] new
  did_hold now made h link out =
      let next = takes_one old.held h.heard old.talk.cutter new.talk.cutter h.next in
      let request : HeldRequest = record { heard = h.heard; pending = h.pending; before = h.before } in
      let try : Try = record { given = h.given; pending = h.pending; before = h.before; later = [] } in
      let again = tried_again old.talk request tried try made (tries_next old.talk old.held h.heard old.talk.cutter new.talk.cutter tried h.next are)
      (record { now = now; asked = h.asked; waits = tt }) refl refl h.looked in
      record {
        link = link;
        heard = next.heards;
        hears = hears_at old.talk.cutter.at old.talk.cutter.bytes next.heards new.talk.cutter next.hears;
        answers = [];
        are = tt;
        each = next.one ∙ ap held_in (sym h.held);
        tries = again.tries;
        held = subst (λ (w : Option HeldRequest). AreTriesOf old.talk w again.tries) (sym h.held) again.are;
        served = again.steps;
        pieces = [];
        asked = refl;
        for_link = tt;
        count = out.2;
        left = stays old.owed.items new.owed.items h.same;
        looks = [];
        found = refl;
        bytes = [];
        are_pieces = (refl, refl, refl);
        went = stays (unsent_of old) (unsent_of new) (unsent_same old new out.0 out.1);
      }

  did_serve : (now : ℕ) (made : Made) (result : Result Step Halt) → HadMemory result → ServesNext now old made result new → KeepsLink old new
      → KeepsOut old new → HasServed reader old tried [] made [] [] 0 [] new
  did_serve now made (Ok steps.Request) had h link out = did_answer now made h link out
  did_serve now made (Ok steps.Nothing) had h link out = did_rest made (one_answer old.talk.cutter new.talk.cutter (Ok None) h.1) h.0 link out
  did_serve now made (Ok steps.Full) had h link out = did_hold now made h link out
  did_serve now made (Err (halts.BadFrame at)) had h link out = did_rest made (one_answer old.talk.cutter new.talk.cutter (Err h.1.fault) h.1.hears) h.0 link out
  did_serve now made (Err halts.Memory) had h link out = absurd had

  -- a look told no new failure, or none was made
  did_wait : (made : Made) (tries : List Try) → AreTriesOf old.talk old.held tries → steps_of_tries tried ++ made ≡ steps_of_tries tries → new.held ≡ old.held
      → new.owed.items ≡ old.owed.items → new.talk ≡ old.talk → KeepsOut old new → HasServed reader old tried [] made [] [] 0 [] new
  did_wait made tries tries_are steps held same talk out = record {
    link = keeps_link old new talk;
    heard = [];
    hears = hears_none old new talk;
    answers = [];
    are = tt;
    each = stays (held_in old.held) (held_in new.held) (ap held_in held);
    tries = tries;
    held = keeps_tries old.talk old new tries held tries_are;
    served = steps;
    pieces = [];
    asked = refl;
    for_link = tt;
    count = out.2;
    left = stays old.owed.items new.owed.items same;
    looks = [];
    found = refl;
    bytes = [];
    are_pieces = (refl, refl, refl);
    went = stays (unsent_of old) (unsent_of new) (unsent_same old new out.0 out.1);
  }

  -- a look told a new failure
  did_give_up : (request : HeldRequest) (what : Awaited) (count : ℕ) (made : Made) → old.held ≡ Some request → new_failure request.before what ≡ Some count
      → made ≡ look_for (room_at request.pending) what ∷ [] → new.owed.items ≡ old.owed.items ++ no_room (caller_of request.heard) count ∷ []
      → new.held ≡ None → new.talk ≡ old.talk → KeepsOut old new → HasServed reader old tried [] made [] [] 0 [] new
  did_give_up request what count made is failure found behind none talk out =
      let tries : AreTriesOf old.talk (Some request) tried = subst (λ (w : Option HeldRequest). AreTriesOf old.talk w tried) is are in
      let failed = new_failure_is request.before what count failure in
      record {
        link = keeps_link old new talk;
        heard = [];
        hears = hears_none old new talk;
        answers = record { heard = request.heard; tries = tried; made = made; owed = no_room (caller_of request.heard) count } ∷ [];
        are = (
          (
            tries.0,
            inr (record {
              pending = request.pending;
              before = request.before;
              last = tries.1;
              count = count;
              failed = failed.1;
              looked = found ∙ ap (λ (w : Awaited). look_for (room_at request.pending) w ∷ []) failed.0;
              told = refl;
            }),
          ),
          tt,
        );
        each = ap (λ (w : Option HeldRequest). held_in w ++ []) is ∙ ap (λ (w : Option HeldRequest). request.heard ∷ held_in w) (sym none);
        tries = [];
        held = subst (λ (w : Option HeldRequest). AreTriesOf old.talk w []) (sym none) refl;
        served = sym (append-nil ((steps_of_tries tried ++ made) ++ []) ∙ append-nil (steps_of_tries tried ++ made));
        pieces = [];
        asked = refl;
        for_link = tt;
        count = out.2;
        left = sym behind;
        looks = [];
        found = refl;
        bytes = [];
        are_pieces = (refl, refl, refl);
        went = stays (unsent_of old) (unsent_of new) (unsent_same old new out.0 out.1);
      }

  -- a look was made
  did_look_for : (request : HeldRequest) (what : Awaited) (failure : Option ℕ) (made : Made) (may : Bool) → old.held ≡ Some request → new_failure request.before what ≡ failure
      → made ≡ look_for (room_at request.pending) what ∷ [] → AfterLook failure what request old (Ok may) new → new.talk ≡ old.talk → KeepsOut old new
      → HasServed reader old tried [] made [] [] 0 [] new
  did_look_for request what (Some count) made may is failure found h talk out = did_give_up request what count made is failure found h.0.1 h.1 talk out
  did_look_for request what None made may is failure found h talk out =
      let tries : AreTriesOf old.talk (Some request) tried = subst (λ (w : Option HeldRequest). AreTriesOf old.talk w tried) is are in
      let again = tried_look old.talk request tried what made tries failure found in
      did_wait made again.tries (subst (λ (w : Option HeldRequest). AreTriesOf old.talk w again.tries) (sym is) again.are) again.steps (h.1 ∙ sym is) h.2 talk out

  did_look : (held : Option HeldRequest) (made : Made) (result : Result Bool Halt) → old.held ≡ held → LookedWell result → LooksForRoom held old made result new
      → new.talk ≡ old.talk → KeepsOut old new → HasServed reader old tried [] made [] [] 0 [] new
  did_look held made (Err halt) is well h talk out = absurd well
  did_look None made (Ok may) is well h talk out =
      did_wait made tried are (ap (λ (l : Made). steps_of_tries tried ++ l) h.0 ∙ append-nil (steps_of_tries tried)) (h.2 ∙ sym is) h.3 talk out
  did_look (Some request) made (Ok may) is well h talk out = did_look_for request h.0 (new_failure request.before h.0) made may is refl h.1 h.2 talk out

  did_settle : (made : Made) (reads : ℕ) → IsSettled reader old made reads new → new.held ≡ old.held → new.talk ≡ old.talk
      → new.sent ≡ old.sent → new.asked ≡ old.asked → HasServed reader old tried [] [] made [] reads [] new
  did_settle made reads h held same kept still =
      let puts = puts_replies reader old.asked h.settled old.out.items h.first reads new.out.items h.puts in
      record {
        link = keeps_link old new same;
        heard = [];
        hears = hears_none old new same;
        answers = [];
        are = tt;
        each = stays (held_in old.held) (held_in new.held) (ap held_in held);
        tries = tried;
        held = keeps_tries old.talk old new tried held are;
        served = append-nil (steps_of_tries tried);
        pieces = replies_to h.settled;
        left = append-nil old.owed.items ∙ h.left ∙ ap (λ (l : List Owed). l ++ new.owed.items) (sym (owed_among_replies h.settled));
        asked = asks_among_replies h.settled;
        for_link = tt;
        count = still;
        looks = h.first;
        found = ap found_in h.both ∙ finds_on h.first h.last h.first [] (settles_finds reader h.settled old.out.items h.first reads new.out.items h.puts)
            (stops_finds new.owed.items h.last _ h.stops) ∙ append-nil h.first;
        bytes = puts.bytes;
        are_pieces = puts.pieces;
        went = unsent_more old new puts.bytes puts.behind kept;
      }

  did_send : (count : ℕ) (bytes : List ℕ) → bytes ≡ take count (unsent_of old) → unsent_of new ≡ drop count (unsent_of old) → new.held ≡ old.held
      → new.talk ≡ old.talk → new.owed.items ≡ old.owed.items → new.asked ≡ old.asked → HasServed reader old tried [] [] [] [] 0 bytes new
  did_send count bytes is rest held same owed still = record {
    link = keeps_link old new same;
    heard = [];
    hears = hears_none old new same;
    answers = [];
    are = tt;
    each = stays (held_in old.held) (held_in new.held) (ap held_in held);
    tries = tried;
    held = keeps_tries old.talk old new tried held are;
    served = append-nil (steps_of_tries tried);
    pieces = [];
    asked = refl;
    for_link = tt;
    count = still;
    left = stays old.owed.items new.owed.items owed;
    looks = [];
    found = refl;
    bytes = [];
    are_pieces = (refl, refl, refl);
    went = append-nil (unsent_of old) ∙ sym (ap (λ (l : List ℕ). l ++ unsent_of new) is ∙ ap (λ (l : List ℕ). take count (unsent_of old) ++ l) rest
        ∙ take-append-drop count (unsent_of old));
  }

  -- the frame of a check-back was put behind what is to be sent
  did_ask : (ask : AskParts) → Asks old ask new → HasServed reader old tried [] [] [] (ask ∷ []) 0 [] new
  did_ask ask h =
      let frame = ask_bytes (opaque_of old.asked) ask.view in
      record {
        link = keeps_link old new h.talk;
        heard = [];
        hears = hears_none old new h.talk;
        answers = [];
        are = tt;
        each = stays (held_in old.held) (held_in new.held) (ap held_in h.held);
        tries = tried;
        held = keeps_tries old.talk old new tried h.held are;
        served = append-nil (steps_of_tries tried);
        pieces = checked ask ∷ [];
        asked = refl;
        for_link = (h.link, tt);
        count = h.counted;
        left = stays old.owed.items new.owed.items h.owed;
        looks = [];
        found = refl;
        bytes = frame;
        are_pieces = ([], sym (append-nil frame), (refl, refl, refl));
        went = unsent_more old new frame h.put h.sent;
      }

  one_call : (call : Call) → IsCall reader old call new
      → HasServed reader old tried (stream_in call) (asking_in call) (settling_in call) (asks_in call) (read_replies_in call) (sent_in call) new
  one_call (fed piece) h = did_feed piece h.0 h.1
  one_call (served now made result) h = did_serve now made result h.0 h.1 h.2 h.3
  one_call (looked made result) h = did_look old.held made result refl h.0 h.1 h.2 h.3
  one_call (settled made reads) h = did_settle made reads h.0 h.1 h.2 h.3 h.4
  one_call (sent count bytes) h = did_send count bytes h.0 h.1 h.2 h.3 h.4 h.5
  one_call (asked ask) h = did_ask ask h

-- ---- one after another

-- what came of a request on a link
came_on : (talk other : Talk) (now : ℕ) (heard : Heard) (applied : Applied) (made : Made) → other.link ≡ talk.link → other.host ≡ talk.host
    → IsRefused heard applied made ⊎ IsAsked other now heard applied made → IsRefused heard applied made ⊎ IsAsked talk now heard applied made
came_on talk other now heard applied made link host (inl h) = inl h
came_on talk other now heard applied made link host (inr h) = inr (asked_on other talk now heard applied made link host h)

-- an answer on a link is an answer on the same link later
answer_by : (talk other : Talk) → other.link ≡ talk.link → other.host ≡ talk.host → (answer : Answer)
    → ((now : ℕ) × IsAnswered other now answer.heard answer.owed answer.made) ⊎ IsGivenUp answer.heard answer.tries answer.made answer.owed
    → ((now : ℕ) × IsAnswered talk now answer.heard answer.owed answer.made) ⊎ IsGivenUp answer.heard answer.tries answer.made answer.owed
answer_by talk other link host answer (inl h) = inl (
  h.0,
  record {
    caller = h.1.caller;
    comes = came_on talk other h.0 answer.heard (Owes answer.owed.reply answer.owed.awaits) answer.made link host h.1.comes;
  },
)
answer_by talk other link host answer (inr h) = inr h

answer_on : (talk other : Talk) → other.link ≡ talk.link → other.host ≡ talk.host → (answer : Answer) → IsAnswer other answer → IsAnswer talk answer
answer_on talk other link host answer h =
    (tries_on other talk link host answer.heard answer.tries h.0, answer_by talk other link host answer h.1)

served_on : (reader : ReaderView) (old mid new : Session) (tried : List Try) (stream more : List ℕ) (asking later settling rest : Made) (asks wrote : List AskParts)
    (reads further : ℕ) (gone others : List ℕ) → (h : HasServed reader old tried stream asking settling asks reads gone mid)
    → HasServed reader mid h.tries more later rest wrote further others new
    → HasServed reader old tried (stream ++ more) (asking ++ later) (settling ++ rest) (asks ++ wrote) (reads + further) (gone ++ others) new
served_on reader old mid new tried stream more asking later settling rest asks wrote reads further gone others h k = record {
  link = (k.link.0 ∙ h.link.0, k.link.1 ∙ h.link.1);
  heard = h.heard ++ k.heard;
  hears = subst (λ (l : List ℕ). HasHeard old.talk.cutter.at l (h.heard ++ k.heard) new.talk.cutter) (append_assoc old.talk.cutter.bytes stream more)
      (hears_on old.talk.cutter.at (old.talk.cutter.bytes ++ stream) more h.heard k.heard mid.talk.cutter new.talk.cutter h.hears k.hears);
  answers = h.answers ++ k.answers;
  are = answers_on old.talk mid.talk h.answers k.answers (answer_on old.talk mid.talk h.link.0 h.link.1) h.are k.are;
  each = moves_on (held_in old.held) (held_in mid.held) (held_in new.held) h.heard k.heard (map (λ answer. answer.heard) h.answers)
      (map (λ answer. answer.heard) k.answers) h.each k.each
      ∙ ap (λ (l : List Heard). l ++ held_in new.held) (sym (map-append (λ (answer : Answer). answer.heard) h.answers k.answers));
  tries = k.tries;
  held = tries_of_on mid.talk old.talk h.link.0 h.link.1 new.held k.tries k.held;
  served = moves_on (steps_of_tries tried) (steps_of_tries h.tries) (steps_of_tries k.tries) asking later (steps_of h.answers) (steps_of k.answers) h.served k.served
      ∙ ap (λ (l : Made). l ++ steps_of_tries k.tries) (sym (steps_append h.answers k.answers));
  pieces = h.pieces ++ k.pieces;
  asked = asks_among_append h.pieces k.pieces ∙ ap (λ (l : List AskParts). l ++ asks_among k.pieces) h.asked ∙ ap (λ (l : List AskParts). asks ++ l) k.asked;
  for_link = for_append old.talk.link asks wrote h.for_link (subst (λ (n : ℕ). AreFor n wrote) h.link.0 k.for_link);
  count = k.count ∙ ap (λ (n : ℕ). count_after n wrote) h.count ∙ sym (count_append old.asked asks wrote);
  left = ap (λ (l : List Owed). old.owed.items ++ l) (map-append (λ (answer : Answer). answer.owed) h.answers k.answers)
      ∙ moves_on old.owed.items mid.owed.items new.owed.items (map (λ answer. answer.owed) h.answers) (map (λ answer. answer.owed) k.answers)
      (owed_among h.pieces) (owed_among k.pieces) h.left k.left
      ∙ ap (λ (l : List Owed). l ++ new.owed.items) (sym (owed_among_append h.pieces k.pieces));
  looks = h.looks ++ k.looks;
  found = finds_on settling rest h.looks k.looks h.found k.found;
  bytes = h.bytes ++ k.bytes;
  are_pieces = pieces_on reader old.asked mid.asked h.pieces k.pieces h.looks k.looks reads further h.bytes k.bytes
      (h.count ∙ ap (λ (l : List AskParts). count_after old.asked l) (sym h.asked)) h.are_pieces k.are_pieces;
  went = moves_on (unsent_of old) (unsent_of mid) (unsent_of new) h.bytes k.bytes gone others h.went k.went;
}

did_none : (reader : ReaderView) (old : Session) (tried : List Try) → AreTriesOf old.talk old.held tried → HasServed reader old tried [] [] [] [] 0 [] old
did_none reader old tried are = record {
  link = (refl, refl);
  heard = [];
  hears = hears_none old old refl;
  answers = [];
  are = tt;
  each = append-nil (held_in old.held);
  tries = tried;
  held = are;
  served = append-nil (steps_of_tries tried);
  pieces = [];
  asked = refl;
  for_link = tt;
  count = refl;
  left = append-nil old.owed.items;
  looks = [];
  found = refl;
  bytes = [];
  are_pieces = (refl, refl, refl);
  went = append-nil (unsent_of old);
}

pub calls_serve : (reader : ReaderView) (calls : List Call) (old new : Session) (tried : List Try) → AreTriesOf old.talk old.held tried → AreCalls reader old calls new
    → HasServed reader old tried (stream_of calls) (asking_of calls) (settling_of calls) (asks_of calls) (read_replies_of calls) (sent_of calls) new
calls_serve reader [] old new tried are h = subst (λ (s : Session). HasServed reader old tried [] [] [] [] 0 [] s) h (did_none reader old tried are)
calls_serve reader (call ∷ calls) old new tried are h =
    let first = one_call reader old h.0 tried are call h.1 in
    served_on reader old h.0 new tried (stream_in call) (stream_of calls) (asking_in call) (asking_of calls) (settling_in call) (settling_of calls) (asks_in call)
    (asks_of calls) (read_replies_in call) (read_replies_of calls) (sent_in call) (sent_of calls) first
    (calls_serve reader calls h.0 new first.tries (tries_of_on old.talk h.0.talk (sym first.link.0) (sym first.link.1) h.0.held first.tries first.held) h.2)

-- ---- what was applied

-- looks for replies apply nothing
call_applies : (reader : ReaderView) (old : Session) (call : Call) (new : Session) → IsCall reader old call new → applied_in (made_in call) ≡ applied_in (asking_in call)
call_applies reader old (fed piece) new h = refl
call_applies reader old (served now made result) new h = refl
call_applies reader old (looked made result) new h = refl
call_applies reader old (settled made reads) new h =
    ap applied_in h.0.both ∙ applies_on h.0.first h.0.last [] [] (settles_applies reader h.0.settled old.out.items h.0.first reads new.out.items h.0.puts)
    (stops_applies new.owed.items h.0.last _ h.0.stops)
call_applies reader old (sent count bytes) new h = refl
call_applies reader old (asked ask) new h = refl

calls_apply : (reader : ReaderView) (calls : List Call) (old new : Session) → AreCalls reader old calls new → applied_in (made_of calls) ≡ applied_in (asking_of calls)
calls_apply reader [] old new h = refl
calls_apply reader (call ∷ calls) old new h =
    applies_on (made_in call) (made_of calls) (applied_in (asking_in call)) (applied_in (asking_of calls)) (call_applies reader old call h.0 h.1) (calls_apply reader calls h.0 new h.2)
    ∙ sym (applied_append (asking_in call) (asking_of calls))

-- ---- from the beginning

hears_from : (held new : Held) (stream : List ℕ) (heard all : List Heard) → held ≡ record { at = 0; bytes = [] } → heard ≡ all
    → HasHeard held.at (held.bytes ++ stream) heard new → HasHeard 0 stream all new
hears_from held new stream heard all none same h =
    subst (λ (l : List Heard). HasHeard 0 stream l new) same (subst (λ (w : Held). HasHeard w.at (w.bytes ++ stream) heard new) none h)

unsent_none : (session : Session) → session.out.items ≡ [] → session.sent ≡ 0 → unsent_of session ≡ []
unsent_none session out none = rw (out, none) refl

pub replies_in_order : (reader : ReaderView) (old : Session) (calls : List Call) (new : Session) → IsNew old → AreCalls reader old calls new → RepliesInOrder reader old calls new
replies_in_order reader old calls new is h =
    let all = calls_serve reader calls old new [] (subst (λ (w : Option HeldRequest). AreTriesOf old.talk w []) (sym is.none.0) refl) h in
    let heard : all.heard ≡ map (λ answer. answer.heard) all.answers ++ held_in new.held =
    ap (λ (w : Option HeldRequest). held_in w ++ all.heard) (sym is.none.0) ∙ all.each in
    let bytes : all.bytes ≡ sent_of calls ++ unsent_of new =
    ap (λ (l : List ℕ). l ++ all.bytes) (sym (unsent_none old is.none.2 is.none.3)) ∙ all.went in
    record {
      answers = all.answers;
      are = all.are;
      hears = hears_from old.talk.cutter new.talk.cutter (stream_of calls) all.heard (map (λ answer. answer.heard) all.answers ++ held_in new.held) is.held heard all.hears;
      tries = all.tries;
      held = all.held;
      served = all.served;
      applied = calls_apply reader calls old new h ∙ ap applied_in all.served ∙ applied_append (steps_of all.answers) (steps_of_tries all.tries)
          ∙ ap (λ (l : Made). applied_in (steps_of all.answers) ++ l) (tries_of_apply old.talk new.held all.tries all.held) ∙ append-nil (applied_in (steps_of all.answers));
      pieces = all.pieces;
      left = ap (λ (l : List Owed). l ++ map (λ answer. answer.owed) all.answers) (sym is.none.1) ∙ all.left;
      asked = all.asked;
      for_link = all.for_link;
      replies = rw (← bytes, all.found) (subst (λ (n : ℕ). ArePieces reader n all.pieces all.looks (read_replies_of calls) all.bytes) is.asked all.are_pieces);
    }
