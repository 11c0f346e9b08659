-- How the message of a send is kept.
use Rattle.std.specs.Prelude.{ℕ, ◌≤◌, List, Bool, true, false, Option, Some, None}
use Rattle.record_codec.specs.declared.draft.Draft.{Draft}
use Rattle.request_fields.specs.Requests.{SendSaid}
use Rattle.broker_model.specs.Sends.{is_half_send, level_of, half_draft, delayed_draft}
use Rattle.core_log.specs.declared.kind.Kind.{Kind}
use Rattle.core_log.specs.declared.kind.Kind.TheVariants.{Plain, Delayed, Half}

-- by its level, where it has one
abbrev pub kind_by : Option ℕ → Kind
kind_by None = Plain
kind_by (Some level) = Delayed level

-- as a half message, or else by its level
abbrev pub kind_in : Bool → Option ℕ → Kind
kind_in true level = Half
kind_in false level = kind_by level

abbrev pub kind_of : SendSaid → Kind
kind_of send = kind_in (is_half_send send) (level_of send)

-- a level is 1 or more
abbrev pub HasLevel : Kind → Type 0
HasLevel Plain = Unit {0}
HasLevel (Delayed level) = 1 ≤ level
HasLevel Half = Unit {0}

-- the message of this producer group as it is kept
abbrev pub draft_by : Kind → List ℕ → Draft → Draft
draft_by Plain group d = d
draft_by (Delayed level) group d = delayed_draft level d
draft_by Half group d = half_draft group d
