-- What contracts see of the two ends of a way.
use Rattle.std.specs.Prelude.{List}
use Rattle.rtrb.specs.Ring.{sent, received, IsPair}
use Rattle.flush_rounds.specs.declared.ways.Sender.{Sender}
use Rattle.flush_rounds.specs.declared.ways.Receiver.{Receiver}

module _ {T : Type 0} where
  -- all that was put in so far, in order
  abbrev pub put_by : Sender T → List T
  put_by sender = sent sender.ring

  -- all that was taken out so far, in order
  abbrev pub taken_by : Receiver T → List T
  taken_by receiver = received receiver.ring

  -- the two ends of one way
  abbrev pub ArePair : Sender T → Receiver T → Type 0
  ArePair sender receiver = IsPair sender.ring receiver.ring
