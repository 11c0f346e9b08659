-- What the readers of fields and bodies gave, against what there is to read.
use Rattle.std.specs.Prelude.{◌≡◌, Option, Some, None, Result, Ok, Err}
use Rattle.request_fields.specs.declared.fault.RequestFault.{RequestFault}
use Rattle.request_fields.specs.declared.fault.RequestFault.TheVariants.{Unsupported, Missing, BadNumber, BadBody, Memory}
use Rattle.request_fields.specs.declared.body_fault.BodyFault.{BodyFault}
use Rattle.request_fields.specs.declared.body_fault.BodyFault.TheVariants as body

-- this fault was told, unless memory ran out
abbrev pub Tells : RequestFault → Option RequestFault → Type 0
Tells Memory fault = Unit {0}
Tells (Unsupported code) fault = fault ≡ Some (Unsupported code)
Tells (Missing field) fault = fault ≡ Some (Missing field)
Tells (BadNumber field) fault = fault ≡ Some (BadNumber field)
Tells BadBody fault = fault ≡ Some BadBody

-- the value where there is no fault, and the fault otherwise
abbrev pub Gives : {X : Type 0} → Result X RequestFault → Option RequestFault → X → Type 0
Gives (Ok x) fault value = (fault ≡ None) × (x ≡ value)
Gives (Err e) fault value = Tells e fault

-- a fault of a body: Memory says nothing, Bad that there is nothing to read
abbrev pub Fails : {Y : Type 0} → BodyFault → Option Y → Type 0
Fails body.Bad there = there ≡ None
Fails body.Memory there = Unit {0}

-- What was returned, seen by view, is what is there, unless memory ran out.
abbrev pub Finds : {X Y : Type 0} → (X → Y) → Result X BodyFault → Option Y → Type 0
Finds view (Ok x) there = there ≡ Some (view x)
Finds view (Err e) there = Fails e there

-- what a fault of a body is as one of a request
abbrev pub request_fault : BodyFault → RequestFault
request_fault body.Bad = BadBody
request_fault body.Memory = Memory
