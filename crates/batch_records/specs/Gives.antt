-- What a reader gave, against what there is to read.
use Rattle.std.specs.Prelude.{◌≡◌, List, Option, Some, None, Result, Ok, Err}
use Rattle.batch_records.specs.declared.message.Message.{Message}
use Rattle.batch_records.specs.declared.message.BatchFault.{BatchFault}
use Rattle.batch_records.specs.declared.message.BatchFault.TheVariants.{Bad, Memory}

-- a fault: Memory says nothing, Bad that there is nothing to read
abbrev pub Fails : {Y : Type 0} → BatchFault → Option Y → Type 0
Fails Bad there = there ≡ None
Fails Memory there = Unit {0}

-- What was returned, seen by view, is what is there, unless memory ran out.
abbrev pub Gives : {X Y : Type 0} → (X → Y) → Result X BatchFault → Option Y → Type 0
Gives view (Ok x) there = there ≡ Some (view x)
Gives view (Err e) there = Fails e there

-- the messages of a body, `Bad` exactly where it is none, or memory ran out
abbrev pub Splits : Option (List Message) → Result (List Message) BatchFault → Type 0
Splits there result = Gives (λ messages. messages) result there
