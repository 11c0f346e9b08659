-- What a step may do to the log.
use Rattle.std.specs.Prelude.{◌≡◌, ◌⊎◌, false}
use Rattle.log_model.specs.Numbered.{with_appended, above}
use Rattle.broker_model.specs.State.{State}
use Rattle.broker_model.specs.Events
use Rattle.broker_model.specs.Appended.{is_refused, made_by}

-- the event isn't refused, and what it makes is appended
pub record Appends (s : State) (e : Events.Event) (t : State) : Type 0 where
  pub fine : is_refused s e ≡ false
  pub log : t.log ≡ with_appended s.log (made_by s e)

-- the log begins at the saved base from now on
pub record Removes (s t : State) : Type 0 where
  pub log : t.log ≡ above s.log s.saved.base

-- it stays, grows, or is cut in front
abbrev pub LogStep : State → Events.Event → State → Type 0
LogStep s e t = (t.log ≡ s.log) ⊎ (Appends s e t ⊎ Removes s t)
