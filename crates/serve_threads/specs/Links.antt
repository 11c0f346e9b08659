-- What two loops did for their links, and which links have ended.
use Rattle.std.specs.Prelude.{◌≡◌, ◌⊎◌, ◌<◌, ◌≤◌, ◌+◌, ℕ, List, [], length, slice_get}
use Rattle.std.specs.Prelude.{Option, Some, None, false}
use Rattle.mq_outside.specs.Readings.{Giving}
use Rattle.mq_peers.specs.Ended.{LinkEnd}
use Rattle.reply_fields.specs.Parts.{AskParts}
use Rattle.session.specs.Readers.{ReaderView}
use Rattle.session.specs.Serving.{Made}
use Rattle.link_service.specs.Transcripts.{counted_to}
use Rattle.event_loops.specs.Tales.{Act, steps_of, asks_of, reads_of, made_for, asks_for, reads_for, AreSome, DidNothing, loop_of}
use Rattle.event_loops.specs.Tales.{IsEndOf, IsAnsweredInOrder}
use Rattle.event_loops.specs.Timing.{ClockOver, IsTimed}
use Rattle.event_loops.specs.declared.links.Links.{Links}

-- ---- the links that have ended

-- the links of a run: that they tell what they gave and took, that all that ended are told, and which these are, loop by loop
pub record LinksOver : Type 1 where
  pub tells : Type 0
  pub told : Type 0
  pub first : List LinkEnd
  pub second : List LinkEnd

-- by the ledgers of both loops; none is told where one is missing
abbrev pub told_in : {N : Type 0} → Type 0 → Option (N × N) → Type 0
told_in told None = ⊥
told_in told (Some ends) = told

abbrev pub first_in : {N : Type 0} → (N → List LinkEnd) → Option (N × N) → List LinkEnd
first_in entries None = []
first_in entries (Some ends) = entries ends.0

abbrev pub second_in : {N : Type 0} → (N → List LinkEnd) → Option (N × N) → List LinkEnd
second_in entries None = []
second_in entries (Some ends) = entries ends.1

abbrev pub links_over : {N : Type 0} → Type 0 → Type 0 → (N → List LinkEnd) → Option (N × N) → LinksOver
links_over tells told entries ends =
    record { tells = tells; told = told_in told ends; first = first_in entries ends; second = second_in entries ends }

-- those of one loop
pub record LoopLinks : Type 1 where
  pub tells : Type 0
  pub told : Type 0
  pub ended : List LinkEnd

abbrev pub loop_links : Type 0 → Type 0 → List LinkEnd → LoopLinks
loop_links tells told ended = record { tells = tells; told = told; ended = ended }

abbrev pub first_links : LinksOver → LoopLinks
first_links links = loop_links links.tells links.told links.first

abbrev pub second_links : LinksOver → LoopLinks
second_links links = loop_links links.tells links.told links.second

-- each of these numbers is one from 1 to this one
abbrev pub AreUpTo : ℕ → List LinkEnd → Type 0
AreUpTo most ended = (k : ℕ) (it : LinkEnd) → slice_get ended k ≡ Some it → (0 < it.number) × (it.number ≤ most)

-- Where they are told: as many links have ended as the door gave between these two counts of it, and each had one of the numbers from 1
-- to so many. No two had one number (`AreEntered`), so these are all of them.
abbrev pub AreAllThatCame : ℕ → ℕ → LinksOver → Type 0
AreAllThatCame old new links = links.told → (old + (length links.first + length links.second) ≡ new)
    × AreUpTo (length links.first + length links.second) links.first × AreUpTo (length links.first + length links.second) links.second

-- ---- what was done for them

-- what was done for this link: it falls to this one of the two loops, and was answered in order
abbrev pub WasAnswered : Type 0 → ReaderView → ℕ → List Act → LinkEnd → Type 0
WasAnswered tells reader number acts it = (loop_of 2 it.number ≡ number)
    × IsAnsweredInOrder tells reader it (made_for it.number acts) (asks_for it.number acts) (reads_for it.number acts)

-- Each of these links was answered in order, no two had one number, and for no other number anything was done.
pub record AreEntered (tells : Type 0) (reader : ReaderView) (number : ℕ) (acts : List Act) (ended : List LinkEnd) : Type 0 where
  pub each : (k : ℕ) (it : LinkEnd) → slice_get ended k ≡ Some it → WasAnswered tells reader number acts it
  pub once : (j k link : ℕ) → IsEndOf ended j link → IsEndOf ended k link → j ≡ k
  pub known : (link : ℕ) → DidNothing link acts ⊎ ((k : ℕ) × IsEndOf ended k link)

-- What one of the two loops made: for each of its links its passes, in which each reply is its request's, and behind them its `Leave`,
-- and nothing else. These check-backs were written meanwhile, and replies `read N`: each with a count to which the failures of the loop's
-- reader came, and all together no more than it failed. Where the links that ended are told, it is what was done for them.
pub record AreAnswered (links : LoopLinks) (gives : Giving) (failures : ℕ) (number : ℕ) (steps : Made) (asks : List AskParts)
    : Type 0 where
  pub acts : List Act
  pub all : steps ≡ steps_of acts
  pub asked : asks ≡ asks_of acts
  pub read : reads_of acts ≤ failures
  pub each : (link : ℕ) → DidNothing link acts
      ⊎ ((it : LinkEnd) × (it.number ≡ link) × WasAnswered links.tells (counted_to gives failures) number acts it)
  pub ended : links.told → AreEntered links.tells (counted_to gives failures) number acts links.ended

-- The same, and what was written are some of these check-backs, in their order and each at most once.
abbrev pub AreAnsweredFrom : LoopLinks → Giving → ℕ → ℕ → List AskParts → Made → Type 0
AreAnsweredFrom links gives failures number put steps =
    (asks : List AskParts) × AreSome asks put × AreAnswered links gives failures number steps asks

-- The same in passes, one for each reading that the clock of the loop gave, which gave its requests to the broker at that reading.
pub record WorksFrom (links : LoopLinks) (gives : Giving) (failures : ℕ) (clock : ClockOver) (number : ℕ) (put : List AskParts)
    (steps : Made) : Type 0 where
  pub answered : AreAnsweredFrom links gives failures number put steps
  pub timed : IsTimed clock steps

-- ---- the ledgers

-- Both ledgers have each link of their loops, whose numbers are at most this one, and have so many together, where they tell.
pub record AreWhole {L N : Type 0} (told : Type 0) (entries : N → List LinkEnd) (came : ℕ) (first second : Links L N) (ends : N × N)
    : Type 0 where
  pub are : (ends.0 ≡ first.ledger.ends) × (ends.1 ≡ second.ledger.ends)
  pub known : (first.ledger.lost ≡ false) × (second.ledger.lost ≡ false)
  pub within : (first.newest ≤ came) × (second.newest ≤ came)
  pub many : told → length (entries ends.0) + length (entries ends.1) ≡ came
