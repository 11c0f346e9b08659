-- The rounds of the worker, and all acts of the generator in their order.
use Rattle.std.specs.Prelude.{◌≡◌, ◌⊎◌, ℕ, ◌+◌, ◌%◌, ◌<◌, ◌≤◌, List, [], ◌∷◌, ◌++◌, length, flat_map, Option, Result, Ok, Err}
use Rattle.mq_outside.specs.Counts.{Rises}
use Rattle.reply_fields.specs.Parts.{AskParts}
use Rattle.broker_events.specs.declared.event.Event.{Event}
use Rattle.broker_events.specs.declared.said.Said.{Said}
use Rattle.worker_turns.specs.Acts.{Act, Made, Wrote, Missed}
use Rattle.worker_turns.specs.Due.{AreDueTurns, acts_of_steps}
use Rattle.gen_run.specs.Items.{kind_at, time_of}
use Rattle.gen_run.specs.Asks.{AreOfKind}
use Rattle.gen_run.specs.declared.stop.Stop.{Stop}
use Rattle.gen_run.specs.declared.stop.Stop.TheVariants.{Disk, Memory}

-- no flush turn among the acts failed
abbrev pub IsNoMiss : Act → Type 0
IsNoMiss (Made e what) = Unit {0}
IsNoMiss (Wrote turn) = Unit {0}
IsNoMiss (Missed batch count) = ⊥

abbrev pub NoneMissed : List Act → Type 0
NoneMissed [] = Unit {0}
NoneMissed (act ∷ acts) = IsNoMiss act × NoneMissed acts

-- What is due at this time was delivered, and checked; flush turns followed until nothing was pending, none of which failed; and then
-- consumers see what is flushed.
pub record IsRound (now : ℕ) (acts : List Act) : Type 0 where
  pub asked : List (ℕ × AskParts)
  pub due : AreDueTurns now asked acts
  pub none : NoneMissed acts

-- a round was made, unless it broke off
abbrev pub MakesRound : {A : Type 0} → ℕ → Result A Stop → List Act → Type 0
MakesRound now (Ok done) acts = IsRound now acts
MakesRound now (Err stop) acts = Unit {0}

-- before each thousandth item but the first there is a round
abbrev pub HasRoundBefore : ℕ → Type 0
HasRoundBefore i = (0 < i) × (i % 1000 ≡ 0)

abbrev pub IsBefore : ℕ → List Act → Type 0
IsBefore i acts = (HasRoundBefore i × IsRound (time_of i) acts) ⊎ ((HasRoundBefore i → ⊥) × (acts ≡ []))

-- unless it broke off
abbrev pub GivesBefore : {A : Type 0} → ℕ → Result A Stop → List Act → Type 0
GivesBefore i (Ok done) acts = IsBefore i acts
GivesBefore i (Err stop) acts = Unit {0}

-- the acts of an item, with how many pulls of it found messages: a round, where one is due, and its requests
pub record IsPart (start i found : ℕ) (acts : List Act) : Type 0 where
  pub round : List Act
  pub steps : List (Event × Option Said)
  pub before : IsBefore i round
  pub item : AreOfKind (kind_at i) start i found steps
  pub are : acts ≡ round ++ acts_of_steps steps

-- the acts of its requests alone, unless it broke off
abbrev pub GivesSteps : {E : Type 0} → ℕ → ℕ → Result ℕ E → List Act → Type 0
GivesSteps start i (Ok found) acts = (steps : List (Event × Option Said)) × AreOfKind (kind_at i) start i found steps
    × (acts ≡ acts_of_steps steps)
GivesSteps start i (Err fault) acts = Unit {0}

abbrev pub GivesPart : ℕ → ℕ → Result ℕ Stop → List Act → Type 0
GivesPart start i (Ok found) acts = IsPart start i found acts
GivesPart start i (Err stop) acts = Unit {0}

-- the parts are those of the items from this one on, one for each, and so many pulls found messages
abbrev pub AreParts : ℕ → ℕ → ℕ → List (List Act) → Type 0
AreParts start i found [] = found ≡ 0
AreParts start i found (part ∷ parts) = (these later : ℕ) × IsPart start i these part × AreParts start (i + 1) later parts
    × (found ≡ these + later)

-- the acts of the first so many items
pub record AreItems (start items found : ℕ) (acts : List Act) : Type 0 where
  pub parts : List (List Act)
  pub count : length parts ≡ items
  pub each : AreParts start 0 found parts
  pub are : acts ≡ flat_map (λ part. part) parts

-- The acts of a generator that broke off: those of some of its items, and then more.
pub record AreSomeItems (start items : ℕ) (acts : List Act) : Type 0 where
  pub number : ℕ
  pub found : ℕ
  pub first : List Act
  pub more : List Act
  pub within : number ≤ items
  pub given : AreItems start number found first
  pub are : acts ≡ first ++ more

abbrev pub GivesItems : ℕ → ℕ → Result ℕ Stop → List Act → Type 0
GivesItems start items (Ok found) acts = AreItems start items found acts
GivesItems start items (Err stop) acts = AreSomeItems start items acts

-- when the last rounds are: all that can be due is due then
abbrev pub end_time : ℕ → ℕ
end_time items = 1000 + items + 3600000

-- two rounds then
pub record AreLast (items : ℕ) (acts : List Act) : Type 0 where
  pub first : List Act
  pub second : List Act
  pub first_is : IsRound (end_time items) first
  pub second_is : IsRound (end_time items) second
  pub are : acts ≡ first ++ second

abbrev pub MakesLast : {A : Type 0} → ℕ → Result A Stop → List Act → Type 0
MakesLast items (Ok done) acts = AreLast items acts
MakesLast items (Err stop) acts = Unit {0}

-- All acts of the generator: those of its items, and the last two rounds.
pub record AreAll (start items found : ℕ) (acts : List Act) : Type 0 where
  pub given : List Act
  pub last : List Act
  pub items_are : AreItems start items found given
  pub last_are : AreLast items last
  pub are : acts ≡ given ++ last

abbrev pub GivesAll : ℕ → ℕ → Result ℕ Stop → List Act → Type 0
GivesAll start items (Ok found) acts = AreAll start items found acts
GivesAll start items (Err stop) acts = AreSomeItems start items acts

-- the disk's count rises where a flush turn failed, and never falls
abbrev pub CountsStop : {A : Type 0} → Result A Stop → ℕ → ℕ → Type 0
CountsStop (Ok done) old new = new ≡ old
CountsStop (Err Disk) old new = Rises old new
CountsStop (Err Memory) old new = old ≤ new
