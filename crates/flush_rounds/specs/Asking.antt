-- Which check-backs the flusher hands to the loops: those of its own checks whose records it then saw on the disk, each once.
use Rattle.std.specs.Prelude.{◌≡◌, ℕ, ◌<◌, ◌++◌, List, [], ◌∷◌, slice_get, Some}
use Rattle.std.proofs.Common.{ap, sym, ◌∙◌, append_assoc, append-nil}
use Rattle.reply_fields.specs.Parts.{AskParts}
use Rattle.broker_events.specs.declared.event.Event.TheVariants.{Look}
use Rattle.broker_events.specs.declared.said.Said.TheVariants as said
use Rattle.broker_events.specs.declared.said.Checked.{Checked}
use Rattle.broker_events.specs.declared.said.Awaited.TheVariants.{Flushed}
use Rattle.session.specs.Serving.{Made}
use Rattle.event_loops.specs.Tales.{AreSome}
use Rattle.story_lock.specs.Counts.{IsDistinct}
use Rattle.worker_turns.specs.Turns.{Steps}
use Rattle.worker_turns.specs.Checks.{check}
use Rattle.broker_events.specs.Makes.{Makes}
use Rattle.flush_rounds.specs.Ways.{put_by, taken_by, ArePair}
use Rattle.flush_rounds.specs.declared.ways.Sender.{Sender}
use Rattle.flush_rounds.specs.declared.ways.Receiver.{Receiver}
use Rattle.flush_rounds.specs.Deliveries.{AreOfDuties}
use Rattle.flush_rounds.specs.Timing.{AreNotDue}
use Rattle.flush_rounds.specs.declared.asks.AskWays.{AskWays}

-- ---- one check-back

-- the step at this place is a check, whose record has this number and which asks this
pub record IsCheckedAt (steps : Made) (place number : ℕ) (ask : AskParts) : Type 0 where
  pub now : ℕ
  pub done : Checked
  pub at : slice_get steps place ≡ Some (check now done)
  pub number_is : done.number ≡ number
  pub ask_is : done.ask ≡ Some ask

-- and a later step told that the record is on the disk
pub record IsRipeAt (steps : Made) (place : ℕ) (ask : AskParts) : Type 0 where
  pub number : ℕ
  pub checked : IsCheckedAt steps place number ask
  pub later : ℕ
  pub after : place < later
  pub flushed : slice_get steps later ≡ Some (Look number 0, Some (said.Awaited Flushed))

-- ---- many

-- each of these check-backs is of the check at its place, and its record was seen on the disk after that
abbrev pub AreRipeAt : Made → List ℕ → List AskParts → Type 0
AreRipeAt steps [] [] = Unit {0}
AreRipeAt steps [] (ask ∷ asks) = ⊥
AreRipeAt steps (place ∷ places) [] = ⊥
AreRipeAt steps (place ∷ places) (ask ∷ asks) = IsRipeAt steps place ask × AreRipeAt steps places asks

-- each of these, which wait for their records with these numbers, is of the check at its place
abbrev pub AreHeldAt : Made → List ℕ → List (ℕ × AskParts) → Type 0
AreHeldAt steps [] [] = Unit {0}
AreHeldAt steps [] (one ∷ held) = ⊥
AreHeldAt steps (place ∷ places) [] = ⊥
AreHeldAt steps (place ∷ places) (one ∷ held) = IsCheckedAt steps place one.0 one.1 × AreHeldAt steps places held

-- By these steps check-backs were handed out, each of a check of its own and no two of one, whose record was on the disk by then. These
-- two lists have some of them, each at most once.
pub record HandsOut (steps : Made) (put : List AskParts × List AskParts) : Type 0 where
  pub asks : List AskParts
  pub places : List ℕ
  pub ripe : AreRipeAt steps places asks
  pub once : IsDistinct places
  pub first : AreSome put.0 asks
  pub second : AreSome put.1 asks

-- ---- on the way

-- what was put on the ways to both loops, and what waits for its records
pub record Asking : Type 0 where
  pub put : List AskParts × List AskParts
  pub held : List (ℕ × AskParts)

-- after these steps, of which these check-backs are
pub record IsAsking (steps : Made) (asking : Asking) : Type 0 where
  pub asks : List AskParts
  pub places : List ℕ
  pub held_at : List ℕ
  pub ripe : AreRipeAt steps places asks
  pub waits : AreHeldAt steps held_at asking.held
  pub once : IsDistinct (places ++ held_at)
  pub first : AreSome asking.put.0 asks
  pub second : AreSome asking.put.1 asks

-- these steps lead from the one to the other
abbrev pub Asks : Made → Asking → Asking → Type 0
Asks steps old new = (before : Made) → IsAsking before old → IsAsking (before ++ steps) new

-- ---- ways

-- these were taken at one end
pub record HasTaken (old : Receiver AskParts) (taken : List AskParts) (new : Receiver AskParts) : Type 0 where
  pub all : taken_by new ≡ taken_by old ++ taken
  pub same : (sender : Sender AskParts) → ArePair sender old → ArePair sender new

pub taken_none : (end : Receiver AskParts) → HasTaken end [] end
taken_none end = record { all = sym (append-nil (taken_by end)); same = λ sender is. is }

pub taken_more : (old : Receiver AskParts) (first : List AskParts) (mid : Receiver AskParts) (rest : List AskParts)
    (new : Receiver AskParts) → HasTaken old first mid → HasTaken mid rest new → HasTaken old (first ++ rest) new
taken_more old first mid rest new h k = record {
  all = k.all ∙ ap (λ (l : List AskParts). l ++ rest) h.all ∙ append_assoc (taken_by old) first rest;
  same = λ sender is. k.same sender (h.same sender is);
}

-- what was put on both ways so far
abbrev pub put_of : AskWays → List AskParts × List AskParts
put_of it = (put_by it.first, put_by it.second)

-- the flusher's ends of both ways, and what waits for its records
abbrev pub asking_of : AskWays → Asking
asking_of it = record { put = put_of it; held = it.held.items }

-- these are the first of all
abbrev pub IsFrontOf : List AskParts → List AskParts → Type 0
IsFrontOf first all = (rest : List AskParts) × (all ≡ first ++ rest)

-- nothing was put on them, and nothing waits
pub record HasNoneAsked (it : AskWays) : Type 0 where
  pub first : put_by it.first ≡ []
  pub second : put_by it.second ≡ []
  pub held : it.held.items ≡ []

-- they are the ends of the same ways as before
pub record AreSameWays (old new : AskWays) : Type 0 where
  pub first : (receiver : Receiver AskParts) → ArePair old.first receiver → ArePair new.first receiver
  pub second : (receiver : Receiver AskParts) → ArePair old.second receiver → ArePair new.second receiver

-- of these check-backs some were put on the ways, in their order and each once
pub record PutsSome (old : AskWays) (asks : List AskParts) (new : AskWays) : Type 0 where
  pub more : List AskParts × List AskParts
  pub first : AreSome more.0 asks
  pub second : AreSome more.1 asks
  pub put_first : put_by new.first ≡ put_by old.first ++ more.0
  pub put_second : put_by new.second ≡ put_by old.second ++ more.1
  pub still : new.held ≡ old.held
  pub ways : AreSameWays old new

-- Looks were made, one for each that waited. These are ripe then, and whichever of them are put on the ways, it leads on. Nothing was
-- put yet.
pub record Ripens {C : Type 0} (makes : Steps C) (x : C) (old : AskWays) (ripe : List AskParts) (y : C) (new : AskWays) : Type 0 where
  pub steps : Made
  pub are : AreOfDuties steps
  pub due : AreNotDue steps
  pub made : Makes makes x steps y
  pub asks : (more : List AskParts × List AskParts) → AreSome more.0 ripe → AreSome more.1 ripe
      → Asks steps (asking_of old) (record { put = (put_by old.first ++ more.0, put_by old.second ++ more.1); held = new.held.items })
  pub first : new.first ≡ old.first
  pub second : new.second ≡ old.second

-- steps were made that are the flusher's between its flush turns, of which this holds, and they lead from the one to the other
pub record MakesAsking {C : Type 0} (makes : Steps C) (P : Made → Type 0) (x : C) (old : AskWays) (y : C) (new : AskWays) : Type 0 where
  pub steps : Made
  pub are : AreOfDuties steps
  pub due : P steps
  pub made : Makes makes x steps y
  pub asks : Asks steps (asking_of old) (asking_of new)
  pub ways : AreSameWays old new
