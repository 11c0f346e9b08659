-- The first of several faults.
use Rattle.std.proofs.Common.{◌≡◌, Option, Some, None, Result, Ok, Err, sym, ap, refl}
use Rattle.std.specs.Prelude.{IsErrAnd}
use Rattle.request_fields.specs.Faults.{or_later}
use Rattle.request_fields.specs.Gives.{Tells, Gives}
use Rattle.request_fields.specs.Reading.{Reads, faultless}
use Rattle.request_fields.specs.declared.request.Request.{Request}
use Rattle.request_fields.specs.declared.fault.RequestFault.{RequestFault}
use Rattle.request_fields.specs.declared.fault.RequestFault.TheVariants.{Unsupported, Missing, BadNumber, BadBody, Memory}

first_stays : (fault : RequestFault) (first later : Option RequestFault) → first ≡ Some fault → or_later first later ≡ Some fault
unfolding or_later
first_stays fault first later e = rw e refl

-- what is told of the first fault is told of both
pub told_first : (fault : RequestFault) (first later : Option RequestFault) → Tells fault first → Tells fault (or_later first later)
told_first Memory first later h = tt
told_first (Unsupported code) first later h = first_stays _ first later h
told_first (Missing field) first later h = first_stays _ first later h
told_first (BadNumber field) first later h = first_stays _ first later h
told_first BadBody first later h = first_stays _ first later h

-- without a first fault the later one is told
pub told_later : (fault : RequestFault) (first later : Option RequestFault) → first ≡ None → Tells fault later → Tells fault (or_later first later)
unfolding or_later
told_later fault first later e h = rw e h

-- where there is no fault, what is told of none is told
pub told_none : (fault : RequestFault) (there : Option RequestFault) → there ≡ None → Tells fault None → Tells fault there
told_none fault there none told = rw none told

pub none_of_both : (first later : Option RequestFault) → first ≡ None → later ≡ None → or_later first later ≡ None
unfolding or_later
none_of_both first later e f = rw e f

-- the fault that `?` hands on is told as it was
pub handed_on : {X : Type 0} (result : Result X RequestFault) (e : RequestFault) (fault : Option RequestFault) (value : X) → IsErrAnd result (λ x. x ≡ e) → Tells e fault → Gives result fault value
handed_on (Ok x) e fault value h told = absurd h
handed_on (Err x) e fault value h told = rw h told

-- what gives the fields' request or their first fault reads the request
pub reads_given : (result : Result Request RequestFault) (fault : Option RequestFault) (said : Request) → Gives result fault said → Reads result (faultless fault said)
reads_given (Ok request) fault said h = rw h.0 (ap Ok (sym h.1))
reads_given (Err Memory) fault said h = tt
reads_given (Err (Unsupported code)) fault said h = rw h refl
reads_given (Err (Missing field)) fault said h = rw h refl
reads_given (Err (BadNumber field)) fault said h = rw h refl
reads_given (Err BadBody) fault said h = rw h refl
