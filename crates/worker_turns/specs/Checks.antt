-- What a check turn is: checks, one after another, until one finds nothing that it may check; and looks for the asks that are held.
use Rattle.std.specs.Prelude.{◌≡◌, ◌⊎◌, ℕ, ◌^◌, ◌-◌, ◌++◌, List, [], ◌∷◌, flat_map, length, map, Option, Some, None, Result, Ok, Err}
use Rattle.std.specs.declared.alloc.AllocError.{AllocError}
use Rattle.reply_fields.specs.Parts.{AskParts}
use Rattle.broker_events.specs.Makes.{Makes}
use Rattle.broker_events.specs.declared.event.Event.{Event}
use Rattle.broker_events.specs.declared.event.Event.TheVariants.{Check, Look}
use Rattle.broker_events.specs.declared.said.Said.{Said}
use Rattle.broker_events.specs.declared.said.Said.TheVariants as said
use Rattle.broker_events.specs.declared.said.Checked.{Checked}
use Rattle.broker_events.specs.declared.said.Awaited.{Awaited}
use Rattle.broker_events.specs.declared.said.Awaited.TheVariants.{Flushed, Failed, NotYet}
use Rattle.worker_turns.specs.Turns.{Steps}

-- ---- checks

-- a check at this reading, and what it did
abbrev pub check : ℕ → Checked → Event × Option Said
check now done = (Check now, Some (said.Checked (Some done)))

-- it is said that nothing was checked: nothing is due, the pending bytes are full, or the log is at its end
abbrev pub ChecksNone : Said → Type 0
ChecksNone (said.Reply reply) = ⊥
ChecksNone (said.After reply number turn) = ⊥
ChecksNone (said.Full pending) = Unit {0}
ChecksNone (said.Batch batch) = ⊥
ChecksNone said.Done = ⊥
ChecksNone (said.Awaited what) = ⊥
ChecksNone (said.Moved number) = ⊥
ChecksNone said.LogEnd = Unit {0}
ChecksNone (said.Delivered what) = ⊥
ChecksNone (said.Checked None) = Unit {0}
ChecksNone (said.Checked (Some done)) = ⊥

-- one event was made, and by its answer an origin was checked, or none was; where memory ran out nothing was said
abbrev pub Checks : {C : Type 0} → Steps C → ℕ → C → Result (Option Checked) AllocError → C → Type 0
Checks makes now x (Ok (Some done)) y = makes x (Check now) (Some (said.Checked (Some done))) y
Checks makes now x (Ok None) y = (what : Said) × ChecksNone what × makes x (Check now) (Some what) y
Checks makes now x (Err fault) y = makes x (Check now) None y

-- how many checks one turn makes at most
abbrev pub most_checked : ℕ
most_checked = 2 ^ 32 - 1

-- behind these checks one more event checked nothing; or they are as many as a turn makes
abbrev pub IsLastCheck : ℕ → List Checked → List (Event × Option Said) → Type 0
IsLastCheck now done last = ((what : Said) × ChecksNone what × (last ≡ (Check now, Some what) ∷ []))
    ⊎ ((length done ≡ most_checked) × (last ≡ []))

-- So many checks were made, until one checked nothing. Where memory ran out nothing was said to the last event, or none was made.
abbrev pub EndsChecking : ℕ → List Checked → Result ℕ AllocError → List (Event × Option Said) → Type 0
EndsChecking now done (Ok count) last = (length done ≡ count) × IsLastCheck now done last
EndsChecking now done (Err fault) last = (last ≡ (Check now, None) ∷ []) ⊎ (last ≡ [])

-- the ask of a check, with the number of its record
abbrev pub held_for : ℕ → Option AskParts → List (ℕ × AskParts)
held_for number None = []
held_for number (Some ask) = (number, ask) ∷ []

abbrev pub held_by : Checked → List (ℕ × AskParts)
held_by done = held_for done.number done.ask

-- the steps of a check turn at this reading, and the asks of its checks, each with the number of its record
pub record AreChecks (now : ℕ) (asked : List (ℕ × AskParts)) (result : Result ℕ AllocError)
    (steps : List (Event × Option Said)) : Type 0 where
  pub done : List Checked
  pub last : List (Event × Option Said)
  pub ends : EndsChecking now done result last
  pub are : steps ≡ map (check now) done ++ last
  pub asks : asked ≡ flat_map held_by done

-- they were made, and the asks are held behind those that were
pub record HasChecked {C : Type 0} (makes : Steps C) (now : ℕ) (x : C) (held : List (ℕ × AskParts)) (result : Result ℕ AllocError)
    (y : C) (held_then : List (ℕ × AskParts)) : Type 0 where
  pub steps : List (Event × Option Said)
  pub asked : List (ℕ × AskParts)
  pub are : AreChecks now asked result steps
  pub made : Makes makes x steps y
  pub holds : held_then ≡ held ++ asked

-- ---- looks

-- an ask that was held, the number of its record, and what a look said of that
pub record Looked : Type 0 where
  pub number : ℕ
  pub ask : AskParts
  pub what : Awaited

abbrev pub held_as : Looked → ℕ × AskParts
held_as it = (it.number, it.ask)

-- the look
abbrev pub look : Looked → Event × Option Said
look it = (Look it.number 0, Some (said.Awaited it.what))

-- it is handed out where its record is flushed
abbrev pub ripe_by : Awaited → AskParts → List AskParts
ripe_by Flushed ask = ask ∷ []
ripe_by (Failed count) ask = []
ripe_by NotYet ask = []

abbrev pub ripe_of : List Looked → List AskParts
ripe_of = flat_map (λ it. ripe_by it.what it.ask)

-- it is held further where that is neither flushed nor held up by a turn that failed
abbrev pub waiting_by : Awaited → ℕ × AskParts → List (ℕ × AskParts)
waiting_by Flushed it = []
waiting_by (Failed count) it = []
waiting_by NotYet it = it ∷ []

abbrev pub waiting_of : List Looked → List (ℕ × AskParts)
waiting_of = flat_map (λ it. waiting_by it.what (held_as it))

-- one look was made for each of the asks, and by what it said the ask was handed out, held or dropped
pub record HasLooked {C : Type 0} (makes : Steps C) (x : C) (asked held : List (ℕ × AskParts)) (out : List AskParts) (y : C)
    (held_then : List (ℕ × AskParts)) (out_then : List AskParts) : Type 0 where
  pub looks : List Looked
  pub are : asked ≡ map held_as looks
  pub made : Makes makes x (map look looks) y
  pub held_is : held_then ≡ held ++ waiting_of looks
  pub out_is : out_then ≡ out ++ ripe_of looks
