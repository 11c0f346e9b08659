-- How what is owed leaves: the replies that are due, in the order of their requests, and their bytes.
use Rattle.std.specs.Prelude.{◌≡◌, ◌⊎◌, ◌+◌, ◌-◌, ◌≤◌, ◌++◌, ◌||◌, ℕ, List, [], ◌∷◌, length, drop, nat_le, nat_lt, Bool, true, false}
use Rattle.std.specs.Prelude.{Option, Some, None, Result, Ok, Err, is_some}
use Rattle.std.specs.Bool.{MatchBool}
use Rattle.std.specs.declared.alloc.AllocError.{AllocError}
use Rattle.reply_fields.specs.Parts.{ReplyParts}
use Rattle.broker_events.specs.declared.said.Awaited.{Awaited}
use Rattle.broker_events.specs.declared.said.Awaited.TheVariants.{Flushed, Failed, NotYet}
use Rattle.session.specs.Owing.{IsWritten, look_for, not_flushed}
use Rattle.session.specs.Readers.{ReaderView}
use Rattle.session.specs.Serving.{Made}
use Rattle.session.specs.declared.caller.Caller.{Caller}
use Rattle.session.specs.declared.owed.Awaits.{Awaits}
use Rattle.session.specs.declared.owed.Owed.{Owed}
use Rattle.session.specs.declared.session.Session.{Session}
use Rattle.session.specs.declared.settling.TheConstants.{OWED_MAX, UNSENT_MAX}

-- ---- what is due

-- one look for the record, where there is one
abbrev pub LooksFor : Option Awaits → Made → Type 0
LooksFor None made = made ≡ []
LooksFor (Some awaits) made = (what : Awaited) × (made ≡ look_for awaits what ∷ [])

-- the reply that is due once this became of its record: itself where it is flushed, the failure where the disk failed
abbrev pub IsDueAt : Awaited → ReplyParts → ReplyParts → Type 0
IsDueAt Flushed reply due = due ≡ reply
IsDueAt (Failed count) reply due = due ≡ not_flushed reply count
IsDueAt NotYet reply due = ⊥

-- what became of the record, by one look; it is as if flushed where there is none
abbrev pub Became : Option Awaits → Awaited → Made → Type 0
Became None what made = (what ≡ Flushed) × (made ≡ [])
Became (Some awaits) what made = made ≡ look_for awaits what ∷ []

-- the reply that is due after a look for its record, where there is one
abbrev pub IsDueAfter : Option Awaits → ReplyParts → ReplyParts → Made → Type 0
IsDueAfter None reply due made = (due ≡ reply) × (made ≡ [])
IsDueAfter (Some awaits) reply due made = (what : Awaited) × IsDueAt what reply due × (made ≡ look_for awaits what ∷ [])

-- the record was looked for, and is pending still
abbrev pub IsNotYet : Option Awaits → Made → Type 0
IsNotYet None made = ⊥
IsNotYet (Some awaits) made = made ≡ look_for awaits NotYet ∷ []

-- the front of what is owed has to wait, or nothing is owed
abbrev pub Waits : List Owed → Made → Type 0
Waits [] made = made ≡ []
Waits (owed ∷ more) made = IsNotYet owed.awaits made

-- the front of what was owed left, and its reply is due to its caller
pub record Leaves (old : Session) (made : Made) (due : Caller × ReplyParts) (new : Session) : Type 0 where
  pub owed : Owed
  pub left : old.owed.items ≡ owed ∷ new.owed.items
  pub caller : due.0 ≡ owed.caller
  pub is : IsDueAfter owed.awaits owed.reply due.1 made

-- the front of what was owed left, and for want of memory no reply is made for it
pub record IsLost (old : Session) (made : Made) (new : Session) : Type 0 where
  pub owed : Owed
  pub left : old.owed.items ≡ owed ∷ new.owed.items
  pub looked : LooksFor owed.awaits made

-- the front left, since this became of its record
abbrev pub TakesDue : {E : Type 0} → Awaited → List Owed → Result (Option (Caller × ReplyParts)) E → List Owed → Type 0
TakesDue what old (Ok (Some due)) new = (owed : Owed) × (old ≡ owed ∷ new) × (due.0 ≡ owed.caller) × IsDueAt what owed.reply due.1
TakesDue what old (Ok None) new = ⊥
TakesDue what old (Err fault) new = (owed : Owed) × (old ≡ owed ∷ new)

-- what `next_due` does, by what it answers
abbrev pub GivesDue : {E : Type 0} → Session → Made → Result (Option (Caller × ReplyParts)) E → Session → Type 0
GivesDue old made (Ok (Some due)) new = Leaves old made due new
GivesDue old made (Ok None) new = Waits old.owed.items made × (new.owed.items ≡ old.owed.items)
GivesDue old made (Err fault) new = IsLost old made new

-- ---- what is written

-- a reply is put behind the bytes before it, unless nobody waits for it; so many replies `read N` were
abbrev pub IsPut : ReaderView → Caller → ReplyParts → ℕ → ℕ → List ℕ → List ℕ → Type 0
IsPut reader caller reply count reads old new =
    MatchBool caller.one_way ((reads ≡ 0) × (new ≡ old)) (IsWritten reader caller reply count reads old new)

-- ---- what is settled

-- the reply that is due for one that is owed is put behind the bytes before, where the reader counts so many faults
pub record SettlesOne (reader : ReaderView) (owed : Owed) (old : List ℕ) (made : Made) (reads : ℕ) (new : List ℕ) : Type 0 where
  pub due : ReplyParts
  pub is : IsDueAfter owed.awaits owed.reply due made
  pub count : ℕ
  pub put : IsPut reader owed.caller due count reads old new

-- each of these is settled, in this order; `reads` of the replies are `read N`
abbrev pub Settles : ReaderView → List Owed → List ℕ → Made → ℕ → List ℕ → Type 0
Settles reader [] old made reads new = (made ≡ []) × (reads ≡ 0) × (new ≡ old)
Settles reader (owed ∷ more) old made reads new = (mid : List ℕ) × (first rest : Made) × (one others : ℕ) × (made ≡ first ++ rest)
    × (reads ≡ one + others) × SettlesOne reader owed old first one mid × Settles reader more mid rest others new

-- why no further reply is settled: none is owed, or its record is pending still, or so many bytes wait
abbrev pub Stops : Session → Made → Type 0
Stops session made = Waits session.owed.items made ⊎ ((UNSENT_MAX ≤ length session.out.items - session.sent) × (made ≡ []))

-- the first of what was owed are settled, and then there is a cause to stop
pub record IsSettled (reader : ReaderView) (old : Session) (made : Made) (reads : ℕ) (new : Session) : Type 0 where
  pub settled : List Owed
  pub left : old.owed.items ≡ settled ++ new.owed.items
  pub first : Made
  pub last : Made
  pub both : made ≡ first ++ last
  pub puts : Settles reader settled old.out.items first reads new.out.items
  pub stops : Stops new last

-- the first of what was owed are settled, and for want of memory the next one left and has no reply
pub record IsBroken (reader : ReaderView) (old : Session) (made : Made) (reads : ℕ) (new : Session) : Type 0 where
  pub settled : List Owed
  pub lost : Owed
  pub left : old.owed.items ≡ settled ++ lost ∷ new.owed.items
  pub first : Made
  pub last : Made
  pub both : made ≡ first ++ last
  pub puts : Settles reader settled old.out.items first reads new.out.items
  pub looked : LooksFor lost.awaits last

-- what `settle` does, by what it answers
abbrev pub SettlesAll : ReaderView → Session → Made → ℕ → Result (Unit {0}) AllocError → Session → Type 0
SettlesAll reader old made reads (Ok done) new = IsSettled reader old made reads new
SettlesAll reader old made reads (Err fault) new = IsBroken reader old made reads new

-- ---- what is seen of it

-- the bytes that are to be sent
abbrev pub unsent_of : Session → List ℕ
unsent_of session = drop session.sent session.out.items

-- a reply waits for its record
abbrev pub front_awaits : List Owed → Bool
front_awaits [] = false
front_awaits (owed ∷ more) = is_some owed.awaits

-- the first reply waits for no record, or for one below this number
abbrev pub is_below : Option Awaits → ℕ → Bool
is_below None flushed = true
is_below (Some awaits) flushed = nat_lt awaits.number flushed

-- a reply is owed, and the first one waits for no record, or for one below this number
abbrev pub front_is_below : List Owed → ℕ → Bool
front_is_below [] flushed = false
front_is_below (owed ∷ more) flushed = is_below owed.awaits flushed

-- a request waits for room, or the first reply for its record
abbrev pub awaits_of : Session → Bool
awaits_of session = is_some session.held || front_awaits session.owed.items

-- so many replies are owed, or so many bytes are to be sent
abbrev pub is_full_of : Session → Bool
is_full_of session = nat_le OWED_MAX (length session.owed.items) || nat_le UNSENT_MAX (length session.out.items - session.sent)

-- the same, or a request waits for room
abbrev pub is_loaded_of : Session → Bool
is_loaded_of session = is_some session.held || is_full_of session
