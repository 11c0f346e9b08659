-- What is said of a visitor as it is handed one record after another.
use Rattle.std.proofs.Common.{◌≡◌, inl, inr, ◌++◌, ◌∷◌, [], List, Option, Some, None, Result, Ok, Err, sym, subst}
use Rattle.std.specs.Prelude.{IsErrAnd}
use Rattle.record_codec.specs.Entry.{Entry}
use Rattle.log_model.specs.Bases.{Geometry}
use Rattle.log_model.specs.Log.{Follows, IsGeometry}
use Rattle.log_model.proofs.Places.{empty_well_formed}
use Rattle.log_recovery.specs.declared.fault.RecoverFault.{RecoverFault}
use Rattle.log_recovery.specs.declared.fault.RecoverFault.TheVariants.{Damaged, Failed, Memory}
use Rattle.log_recovery.specs.declared.visitor.Visit.{Ghosts}
use Rattle.log_recovery.specs.declared.tail.LogTail.{LogTail}
use Rattle.log_recovery.specs.Scan.{HandsOn, StandsIn}
use Rattle.log_recovery.specs.Visits.{WasHanded, IsGiven, OnStop}

-- it was handed one more record
pub taken_on : {V : Type 0} (it : Ghosts V) (S : Geometry) (since : Option V) (records : List Entry) (r : Entry) (old new : V)
    → ((S : Geometry) (records : List Entry) → Follows S records r → it.stands S.base old records → it.stands S.base new (records ++ r ∷ []))
    → ((first : V) (records : List Entry) → it.goes first records old → it.goes first (records ++ r ∷ []) new)
    → Follows S records r → WasHanded it S.base since old records → WasHanded it S.base since new (records ++ r ∷ [])
taken_on it S None records r old new stands goes follows before = stands S records follows before
taken_on it S (Some first) records r old new stands goes follows before = goes first records before

-- what was handed on is a log
pub given : (S : Geometry) (tail : LogTail) (P : List Entry → Type 0) → HandsOn S tail P → IsGiven S P
given S tail P it = record { records = it.records; lawful = it.lawful; handed = it.handed }

-- nothing was handed on yet
pub hands_start : (S : Geometry) (tail : LogTail) (P : List Entry → Type 0) → IsGeometry S → StandsIn S tail [] → P [] → HandsOn S tail P
hands_start S tail P segment left handed = record { records = []; lawful = empty_well_formed S segment; left = left; handed = handed }

pub given_start : (S : Geometry) (P : List Entry → Type 0) → IsGeometry S → P [] → IsGiven S P
given_start S P segment handed = record { records = []; lawful = empty_well_formed S segment; handed = handed }

-- where the reading ended early, and all that was read was handed on
pub stop_given : (A : Type 0) (result : Result A RecoverFault) (P Q : Type 0) → P → OnStop result P Q
stop_given A (Ok x) P Q given = tt
stop_given A (Err (Damaged place name)) P Q given = given
stop_given A (Err Failed) P Q given = given
stop_given A (Err Memory) P Q given = inl given

same_stop : (A B : Type 0) (fault : RecoverFault) (P Q : Type 0) → OnStop {A = B} (Err fault) P Q → OnStop {A = A} (Err fault) P Q
same_stop A B (Damaged place name) P Q told = told
same_stop A B Failed P Q told = told
same_stop A B Memory P Q told = told

-- the reading ended early in a call, whose fault is passed on
pub stop_passed : (A B : Type 0) (result : Result A RecoverFault) (fault : RecoverFault) (P Q : Type 0)
    → IsErrAnd result (λ e. e ≡ fault) → OnStop {A = B} (Err fault) P Q → OnStop {A = A} result P Q
stop_passed A B (Ok x) fault P Q is told = absurd is
stop_passed A B (Err e) fault P Q is told = subst (λ (f : RecoverFault). OnStop {A = A} (Err f) P Q) (sym is) (same_stop A B fault P Q told)

-- the visitor took no more
pub stop_refused : (A : Type 0) (result : Result A RecoverFault) (P Q : Type 0)
    → IsErrAnd result (λ e. e ≡ Memory) → Q → OnStop {A = A} result P Q
stop_refused A (Ok x) P Q is refused = absurd is
stop_refused A (Err e) P Q is refused = subst (λ (f : RecoverFault). OnStop {A = A} (Err f) P Q) (sym is) (inr refused)
