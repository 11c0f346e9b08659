-- Check-backs to a link: how they are numbered, and what one leaves of a session.
use Rattle.std.specs.Prelude.{◌≡◌, ◌<◌, ℕ, ◌+◌, ◌-◌, ◌%◌, ◌^◌, ◌++◌, ℤ, pos, List, [], ◌∷◌, length, Bool, true, false}
use Rattle.reply_fields.specs.Parts.{AskParts}
use Rattle.reply_fields.specs.Asks.{ask_bytes}
use Rattle.session.specs.Serving.{KeepsRest}
use Rattle.session.specs.declared.session.Session.{Session}
use Rattle.session.specs.declared.settling.TheConstants.{UNSENT_MAX}

-- the opaque of a check-back, before which so many were written: they are counted from 0, and from 0 again after 2^31 - 1
abbrev pub opaque_of : ℕ → ℤ
opaque_of asked = pos (asked % 2 ^ 31)

-- the count behind one more, which begins anew after 2^32 - 1
abbrev pub next_count : ℕ → ℕ
next_count asked = (asked + 1) % 2 ^ 32

-- the count behind these
abbrev pub count_after : ℕ → List AskParts → ℕ
count_after asked [] = asked
count_after asked (ask ∷ asks) = count_after (next_count asked) asks

-- each of these check-backs is for the link with this number
abbrev pub AreFor : ℕ → List AskParts → Type 0
AreFor link [] = Unit {0}
AreFor link (ask ∷ asks) = (ask.link ≡ link) × AreFor link asks

-- The check-back is for this link, of which fewer bytes are unsent than may be, and its frame is put behind them. It is counted,
-- and nothing else changes.
pub record Asks (old : Session) (ask : AskParts) (new : Session) : Type 0 where
  pub link : ask.link ≡ old.talk.link
  pub room : length old.out.items - old.sent < UNSENT_MAX
  pub put : new.out.items ≡ old.out.items ++ ask_bytes (opaque_of old.asked) ask.view
  pub counted : new.asked ≡ next_count old.asked
  pub sent : new.sent ≡ old.sent
  pub talk : new.talk ≡ old.talk
  pub held : new.held ≡ old.held
  pub owed : new.owed.items ≡ old.owed.items

-- what `ask` does, by what it answers
abbrev pub AsksOrNot : Session → AskParts → Bool → Session → Type 0
AsksOrNot old ask true new = Asks old ask new
AsksOrNot old ask false new = (new.talk ≡ old.talk) × KeepsRest old new
