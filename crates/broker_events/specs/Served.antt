-- Which requests the core answers; its caller tells others that they are not served.
use Rattle.std.specs.Prelude.{Bool, true, false}
use Rattle.request_fields.specs.declared.request.Request.{Request}
use Rattle.request_fields.specs.declared.request.Request.TheVariants.{Send, Pull, Query, OffsetOf, SetOffset, MakeTopic, Search, MaxOffset}
use Rattle.request_fields.specs.declared.request.Request.TheVariants.{MinOffset, ViewById, Beat, Unregister, EndTransaction, Lock, Unlock}

-- the request is of a kind that is answered: each that can be read is
abbrev pub is_served : Request → Bool
is_served (Send send) = true
is_served (Pull p) = true
is_served (Query q) = true
is_served (OffsetOf q) = true
is_served (SetOffset q) = true
is_served (MakeTopic t) = true
is_served (Search q) = true
is_served (MaxOffset q) = true
is_served (MinOffset q) = true
is_served (ViewById v) = true
is_served (Beat b) = true
is_served (Unregister u) = true
is_served (EndTransaction end) = true
is_served (Lock l) = true
is_served (Unlock l) = true
