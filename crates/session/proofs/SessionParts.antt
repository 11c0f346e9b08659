-- What one call of a session did, and what calls did one after another.
use Rattle.std.proofs.Common.{◌≡◌, ◌⊎◌, ◌+◌, ℕ, List, [], ◌∷◌, ◌++◌, Bool, true, false, Option, Some, None, Ok, inl, inr, refl, sym, ap, ◌∙◌, subst, append_assoc, append-nil, arith}
use Rattle.std.specs.Prelude.{not, if◌then◌else◌}
use Rattle.std.specs.Bool.{MatchBool}
use Rattle.std.proofs.lemmas.List.Elements.{filter-append}
use Rattle.session.specs.Readers.{ReaderView}
use Rattle.remoting_frame.specs.Held.{Held}
use Rattle.remoting_frame.specs.declared.frame.Frame.{Frame}
use Rattle.remoting_frame.proofs.StreamLaws.{begins_more}
use Rattle.reply_fields.specs.Parts.{ReplyParts, AskParts}
use Rattle.reply_fields.specs.Asks.{ask_bytes}
use Rattle.reply_fields.specs.Replies.{reply_bytes}
use Rattle.broker_events.specs.declared.event.Event.{Event}
use Rattle.broker_events.specs.declared.said.Said.{Said}
use Rattle.broker_events.specs.declared.said.Said.TheVariants as said
use Rattle.broker_events.specs.declared.said.Awaited.{Awaited}
use Rattle.broker_events.specs.declared.said.Awaited.TheVariants.{Flushed, Failed, NotYet}
use Rattle.session.specs.Asking.{AreFor, opaque_of, next_count, count_after}
use Rattle.session.specs.Hearing.{is_response}
use Rattle.session.specs.Talks.{HasHeard, AreHeard, requests_of}
use Rattle.session.specs.Owing.{applied_of, look_for, unwritten, IsWritten}
use Rattle.session.specs.Room.{steps_of_tries}
use Rattle.session.specs.Serving.{Made, IsNext}
use Rattle.session.specs.Settling.{IsDueAt, IsDueAfter, IsNotYet, Waits, Settles}
use Rattle.session.specs.Sessions.{applies, applied_in, has_room, finds, found_in, Answer, IsAnswer, AreAnswers, steps_of, held_in, AreReplies, Piece, replied, checked, replies_to, owed_among, asks_among, ArePieces}
use Rattle.session.specs.declared.heard.Heard.{Heard}
use Rattle.session.specs.declared.caller.Caller.{Caller}
use Rattle.session.specs.declared.owed.Awaits.{Awaits}
use Rattle.session.specs.declared.owed.Owed.{Owed}
use Rattle.session.specs.declared.owed.Applied.TheVariants.{Full}
use Rattle.session.specs.declared.room.HeldRequest.{HeldRequest}
use Rattle.session.specs.declared.talk.Talk.{Talk}
use Rattle.session.proofs.TalkLaws.{begins_append, heard_append, one_answer}

-- ---- lists

-- what comes in behind and leaves in front, twice
pub moves_on : {A : Type 0} (a b c x z y w : List A) → a ++ x ≡ y ++ b → b ++ z ≡ w ++ c → a ++ (x ++ z) ≡ (y ++ w) ++ c
moves_on a b c x z y w p q = sym (append_assoc a x z) ∙ ap (λ l. l ++ z) p ∙ append_assoc y b z ∙ ap (λ l. y ++ l) q ∙ sym (append_assoc y w c)

-- nothing comes in or leaves
pub stays : {A : Type 0} (a b : List A) → b ≡ a → a ++ [] ≡ b
stays a b e = append-nil a ∙ sym e

-- ---- what was heard

-- what was heard of a stream, and then of what is fed behind it
pub hears_on : (at : ℕ) (bytes more : List ℕ) (hs ks : List Heard) (mid new : Held) → HasHeard at bytes hs mid → HasHeard mid.at (mid.bytes ++ more) ks new
    → HasHeard at (bytes ++ more) (hs ++ ks) new
hears_on at bytes more hs ks mid new h k = record {
  frames = h.frames ++ k.frames;
  begins = begins_append at (bytes ++ more) h.frames k.frames mid.at (mid.bytes ++ more) new.at new.bytes
      (begins_more at bytes more h.frames mid.at mid.bytes h.begins) k.begins;
  requests = subst (λ (l : List Frame). AreHeard (hs ++ ks) l) (sym (filter-append (λ frame. not (is_response frame.header)) h.frames k.frames))
      (heard_append hs ks (requests_of h.frames) (requests_of k.frames) h.requests k.requests);
}

-- nothing is heard where a piece is fed
pub hears_fed : (at : ℕ) (bytes : List ℕ) (new : Held) → new.at ≡ at → new.bytes ≡ bytes → HasHeard at bytes [] new
hears_fed at bytes new place rest = record { frames = []; begins = (sym place, sym rest); requests = tt }

-- which requests are heard of the stream as the next one is taken
pub record TakesOne (held : Option HeldRequest) (heard : Heard) (old new : Held) : Type 0 where
  pub heards : List Heard
  pub hears : HasHeard old.at old.bytes heards new
  pub one : held_in held ++ heards ≡ heard ∷ []

pub takes_one : (held : Option HeldRequest) (heard : Heard) (old new : Held) → IsNext held heard old new → TakesOne held heard old new
takes_one None heard old new h = record { heards = heard ∷ []; hears = one_answer old new (Ok (Some heard)) h; one = refl }
takes_one (Some first) heard old new h = record {
  heards = [];
  hears = hears_fed old.at old.bytes new (ap (λ (w : Held). w.at) h.1) (ap (λ (w : Held). w.bytes) h.1);
  one = ap (λ (w : Heard). w ∷ []) (sym h.0);
}

-- ---- steps

-- what finds no room says so
pub had_none : (what : Option Said) (pending : ℕ) → applied_of what ≡ Some (Full pending) → has_room what ≡ false
had_none None pending h = cc
had_none (Some (said.Reply other)) pending h = cc
had_none (Some (said.After other number turn)) pending h = cc
had_none (Some (said.Full other)) pending h = refl
had_none (Some (said.Batch batch)) pending h = cc
had_none (Some said.Done) pending h = cc
had_none (Some (said.Awaited what)) pending h = cc
had_none (Some (said.Moved number)) pending h = cc
had_none (Some said.LogEnd) pending h = cc
had_none (Some (said.Delivered what)) pending h = cc
had_none (Some (said.Checked what)) pending h = cc

-- a step of which a test does not hold
pub none_applied : (step : Event × Option Said) (b : Bool) → b ≡ false → (if b then step ∷ [] else []) ≡ []
none_applied step b is = subst (λ (w : Bool). (if w then step ∷ [] else []) ≡ []) (sym is) refl

pub applied_append : (made more : Made) → applied_in (made ++ more) ≡ applied_in made ++ applied_in more
applied_append made more = filter-append (λ step. applies step.0 step.1) made more

-- two lists of steps, and what was applied in them
pub applies_on : (made more first rest : Made) → applied_in made ≡ first → applied_in more ≡ rest → applied_in (made ++ more) ≡ first ++ rest
applies_on made more first rest h k = applied_append made more ∙ ap (λ l. l ++ applied_in more) h ∙ ap (λ l. first ++ l) k

found_append : (made more : Made) → found_in (made ++ more) ≡ found_in made ++ found_in more
found_append made more = filter-append (λ step. finds step.0 step.1) made more

pub finds_on : (made more first rest : Made) → found_in made ≡ first → found_in more ≡ rest → found_in (made ++ more) ≡ first ++ rest
finds_on made more first rest h k = found_append made more ∙ ap (λ l. l ++ found_in more) h ∙ ap (λ l. first ++ l) k

-- a look applies nothing, and finds something where a reply is due after it
due_applies : (awaits : Option Awaits) (reply due : ReplyParts) (made : Made) → IsDueAfter awaits reply due made → applied_in made ≡ []
due_applies None reply due made h = ap applied_in h.1
due_applies (Some awaits) reply due made h = ap applied_in h.2

look_finds : (awaits : Awaits) (what : Awaited) (reply due : ReplyParts) → IsDueAt what reply due → found_in (look_for awaits what ∷ []) ≡ look_for awaits what ∷ []
look_finds awaits Flushed reply due h = refl
look_finds awaits (Failed count) reply due h = refl
look_finds awaits NotYet reply due h = absurd h

due_finds : (awaits : Option Awaits) (reply due : ReplyParts) (made : Made) → IsDueAfter awaits reply due made → found_in made ≡ made
due_finds None reply due made h = ap found_in h.1 ∙ sym h.1
due_finds (Some awaits) reply due made h = ap found_in h.2 ∙ look_finds awaits h.0 reply due h.1 ∙ sym h.2

not_yet_applies : (awaits : Option Awaits) (made : Made) → IsNotYet awaits made → applied_in made ≡ []
not_yet_applies None made h = absurd h
not_yet_applies (Some awaits) made h = ap applied_in h

not_yet_finds : (awaits : Option Awaits) (made : Made) → IsNotYet awaits made → found_in made ≡ []
not_yet_finds None made h = absurd h
not_yet_finds (Some awaits) made h = ap found_in h

waits_applies : (owed : List Owed) (made : Made) → Waits owed made → applied_in made ≡ []
waits_applies [] made h = ap applied_in h
waits_applies (owed ∷ more) made h = not_yet_applies owed.awaits made h

waits_finds : (owed : List Owed) (made : Made) → Waits owed made → found_in made ≡ []
waits_finds [] made h = ap found_in h
waits_finds (owed ∷ more) made h = not_yet_finds owed.awaits made h

pub settles_applies : (reader : ReaderView) (settled : List Owed) (old : List ℕ) (made : Made) (reads : ℕ) (new : List ℕ) → Settles reader settled old made reads new → applied_in made ≡ []
settles_applies reader [] old made reads new h = ap applied_in h.0
settles_applies reader (owed ∷ more) old made reads new h =
    ap applied_in h.5 ∙ applies_on h.1 h.2 [] [] (due_applies owed.awaits owed.reply h.7.due h.1 h.7.is) (settles_applies reader more h.0 h.2 h.4 new h.8)

pub settles_finds : (reader : ReaderView) (settled : List Owed) (old : List ℕ) (made : Made) (reads : ℕ) (new : List ℕ) → Settles reader settled old made reads new → found_in made ≡ made
settles_finds reader [] old made reads new h = ap found_in h.0 ∙ sym h.0
settles_finds reader (owed ∷ more) old made reads new h =
    ap found_in h.5 ∙ finds_on h.1 h.2 h.1 h.2 (due_finds owed.awaits owed.reply h.7.due h.1 h.7.is) (settles_finds reader more h.0 h.2 h.4 new h.8) ∙ sym h.5

pub stops_applies : (owed : List Owed) (made : Made) (low : Type 0) → Waits owed made ⊎ (low × (made ≡ [])) → applied_in made ≡ []
stops_applies owed made low (inl h) = waits_applies owed made h
stops_applies owed made low (inr h) = ap applied_in h.1

pub stops_finds : (owed : List Owed) (made : Made) (low : Type 0) → Waits owed made ⊎ (low × (made ≡ [])) → found_in made ≡ []
stops_finds owed made low (inl h) = waits_finds owed made h
stops_finds owed made low (inr h) = ap found_in h.1

-- ---- answers

pub answers_on : (talk other : Talk) (first more : List Answer) → ((answer : Answer) → IsAnswer other answer → IsAnswer talk answer) → AreAnswers talk first
    → AreAnswers other more → AreAnswers talk (first ++ more)
answers_on talk other [] [] same h k = tt
answers_on talk other [] (b ∷ more) same h k = (same b k.0, answers_on talk other [] more same h k.1)
answers_on talk other (a ∷ first) more same h k = (h.0, answers_on talk other first more same h.1 k)

pub steps_append : (first more : List Answer) → steps_of (first ++ more) ≡ steps_of first ++ steps_of more
steps_append [] more = refl
steps_append (a ∷ first) more =
    ap (λ l. (steps_of_tries a.tries ++ a.made) ++ l) (steps_append first more) ∙ sym (append_assoc (steps_of_tries a.tries ++ a.made) (steps_of first) (steps_of more))

-- ---- replies

-- the bytes of one reply
puts_by : (b : Bool) (reader : ReaderView) (caller : Caller) (reply : ReplyParts) (count reads : ℕ) (old new : List ℕ)
    → MatchBool b ((reads ≡ 0) × (new ≡ old)) (IsWritten reader caller reply count reads old new)
    → (piece : List ℕ) × (new ≡ old ++ piece) × MatchBool b ((reads ≡ 0) × (piece ≡ [])) (IsWritten reader caller reply count reads [] piece)
puts_by true reader caller reply count reads old new h = ([], h.1 ∙ sym (append-nil old), (h.0, refl))
puts_by false reader caller reply count reads old new (inl h) =
    (reply_bytes caller.form caller.opaque reply h.1.body, h.1.behind, inl (h.0, record { body = h.1.body; given = h.1.given; behind = refl }))
puts_by false reader caller reply count reads old new (inr h) =
    (reply_bytes caller.form caller.opaque (unwritten h.0 count) h.3.body, h.3.behind, inr (h.0, h.1, h.2, record { body = h.3.body; given = h.3.given; behind = refl }))

-- the bytes of all that is settled, where so many check-backs were written
pub record PutsReplies (reader : ReaderView) (count : ℕ) (settled : List Owed) (made : Made) (reads : ℕ) (old new : List ℕ) : Type 0 where
  pub bytes : List ℕ
  pub behind : new ≡ old ++ bytes
  pub pieces : ArePieces reader count (replies_to settled) made reads bytes

pub puts_replies : (reader : ReaderView) (count : ℕ) (settled : List Owed) (old : List ℕ) (made : Made) (reads : ℕ) (new : List ℕ) → Settles reader settled old made reads new
    → PutsReplies reader count settled made reads old new
puts_replies reader count [] old made reads new h = record { bytes = []; behind = h.2 ∙ sym (append-nil old); pieces = (h.0, h.1, refl) }
puts_replies reader count (owed ∷ more) old made reads new h =
    let one = puts_by owed.caller.one_way reader owed.caller h.7.due h.7.count h.3 old h.0 h.7.put in
    let rest = puts_replies reader count more h.0 h.2 h.4 new h.8 in
    record {
      bytes = one.0 ++ rest.bytes;
      behind = rest.behind ∙ ap (λ l. l ++ rest.bytes) one.1 ∙ append_assoc old one.0 rest.bytes;
      pieces = (h.1, h.2, h.3, h.4, one.0, rest.bytes, h.5, h.6, refl, record { due = h.7.due; is = h.7.is; count = h.7.count; put = one.2 }, rest.pieces);
    }

-- ---- pieces

pub owed_among_replies : (settled : List Owed) → owed_among (replies_to settled) ≡ settled
owed_among_replies [] = refl
owed_among_replies (owed ∷ settled) = ap (λ (l : List Owed). owed ∷ l) (owed_among_replies settled)

pub asks_among_replies : (settled : List Owed) → asks_among (replies_to settled) ≡ []
asks_among_replies [] = refl
asks_among_replies (owed ∷ settled) = asks_among_replies settled

pub owed_among_append : (first more : List Piece) → owed_among (first ++ more) ≡ owed_among first ++ owed_among more
owed_among_append [] more = refl
owed_among_append (replied owed ∷ first) more = ap (λ (l : List Owed). owed ∷ l) (owed_among_append first more)
owed_among_append (checked ask ∷ first) more = owed_among_append first more

pub asks_among_append : (first more : List Piece) → asks_among (first ++ more) ≡ asks_among first ++ asks_among more
asks_among_append [] more = refl
asks_among_append (replied owed ∷ first) more = asks_among_append first more
asks_among_append (checked ask ∷ first) more = ap (λ (l : List AskParts). ask ∷ l) (asks_among_append first more)

pub for_append : (link : ℕ) (first more : List AskParts) → AreFor link first → AreFor link more → AreFor link (first ++ more)
for_append link [] more h k = k
for_append link (ask ∷ first) more h k = (h.0, for_append link first more h.1 k)

pub count_append : (count : ℕ) (first more : List AskParts) → count_after count (first ++ more) ≡ count_after (count_after count first) more
count_append count [] more = refl
count_append count (ask ∷ first) more = count_append (next_count count) first more

-- some pieces, and then others, of which the first check-back is counted behind the last one of those
pub pieces_on : (reader : ReaderView) (count later : ℕ) (first more : List Piece) (made looks : Made) (reads others : ℕ) (bytes rest : List ℕ) → later ≡ count_after count (asks_among first)
    → ArePieces reader count first made reads bytes → ArePieces reader later more looks others rest
    → ArePieces reader count (first ++ more) (made ++ looks) (reads + others) (bytes ++ rest)
pieces_on reader count later [] more made looks reads others bytes rest is h k =
    let same : reads + others ≡ others = omega (arith, h.1) in
    rw (h.0, same, h.2) (subst (λ (n : ℕ). ArePieces reader n more looks others rest) is k)
pieces_on reader count later (replied owed ∷ first) more made looks reads others bytes rest is h k =
    let all : reads + others ≡ h.2 + (h.3 + others) = omega (arith, h.7) in (
      h.0,
      h.1 ++ looks,
      h.2,
      h.3 + others,
      h.4,
      h.5 ++ rest,
      ap (λ l. l ++ looks) h.6 ∙ append_assoc h.0 h.1 looks,
      all,
      ap (λ l. l ++ rest) h.8 ∙ append_assoc h.4 h.5 rest,
      h.9,
      pieces_on reader count later first more h.1 looks h.3 others h.5 rest is h.10 k,
    )
pieces_on reader count later (checked ask ∷ first) more made looks reads others bytes rest is h k = (
  h.0 ++ rest,
  ap (λ l. l ++ rest) h.1 ∙ append_assoc (ask_bytes (opaque_of count) ask.view) h.0 rest,
  pieces_on reader (next_count count) later first more made looks reads others h.0 rest is h.2 k,
)

-- where no check-back is among the pieces they are the replies alone
pub replies_alone : (reader : ReaderView) (count : ℕ) (pieces : List Piece) (made : Made) (reads : ℕ) (bytes : List ℕ) → asks_among pieces ≡ []
    → ArePieces reader count pieces made reads bytes → AreReplies reader (owed_among pieces) made bytes
replies_alone reader count [] made reads bytes none h = (h.0, h.2)
replies_alone reader count (replied owed ∷ pieces) made reads bytes none h =
    (h.0, h.1, h.2, h.4, h.5, h.6, h.8, h.9, replies_alone reader count pieces h.1 h.3 h.5 none h.10)
replies_alone reader count (checked ask ∷ pieces) made reads bytes none h = cc
