-- What is said of a visitor: by itself, or by how it came from another.
use Rattle.std.specs.Prelude.{◌⊎◌, List, Option, Some, None, Result, Ok, Err}
use Rattle.record_codec.specs.Entry.{Entry}
use Rattle.log_model.specs.Bases.{Base, Geometry}
use Rattle.log_model.specs.Log.{IsWellFormed}
use Rattle.log_recovery.specs.declared.fault.RecoverFault.{RecoverFault}
use Rattle.log_recovery.specs.declared.fault.RecoverFault.TheVariants.{Damaged, Failed, Memory}
use Rattle.log_recovery.specs.declared.visitor.Visit.{Ghosts}

-- it came from this one by being handed these records
abbrev pub GoesOn : {V : Type 0} → Ghosts V → V → V → List Entry → Type 0
GoesOn it first each records = it.goes first records each

-- it stands for these records of a log that begins at this base, or came from this one by being handed them
abbrev pub WasHanded : {V : Type 0} → Ghosts V → Base → Option V → V → List Entry → Type 0
WasHanded it base None each records = it.stands base each records
WasHanded it base (Some first) each records = it.goes first records each

-- the records that were handed on are a log
pub record IsGiven (S : Geometry) (handed_on : List Entry → Type 0) : Type 0 where
  pub records : List Entry
  pub lawful : IsWellFormed S records
  pub handed : handed_on records

-- What holds where the reading ended early: all that was read was handed on, or out of memory it was not.
abbrev pub OnStop : {A : Type 0} → Result A RecoverFault → Type 0 → Type 0 → Type 0
OnStop (Ok _) given refused = Unit {0}
OnStop (Err (Damaged place name)) given refused = given
OnStop (Err Failed) given refused = given
OnStop (Err Memory) given refused = given ⊎ refused
