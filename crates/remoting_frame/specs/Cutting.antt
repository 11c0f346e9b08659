-- What a cutter answers.
use Rattle.std.specs.Prelude.{◌≡◌, ◌+◌, length, Option, Some, None, Result, Ok, Err}
use Rattle.remoting_frame.specs.Held.{Held}
use Rattle.remoting_frame.specs.Frames.{next_of}
use Rattle.remoting_frame.specs.FaultForm.{HasHeader}
use Rattle.remoting_frame.specs.declared.frame.Frame.{Frame}
use Rattle.remoting_frame.specs.declared.fault.FrameFault.{FrameFault}
use Rattle.remoting_frame.specs.declared.fault.FrameFault.TheVariants as faults

-- A frame is taken off the front. Any other answer changes nothing, and is what there is, but that memory may want where
-- a whole header stands.
abbrev pub NextIs : Held → Result (Option Frame) FrameFault → Held → Type 0
NextIs old (Ok (Some frame)) new = (next_of old.at old.bytes ≡ Ok (Some (frame, new.bytes)))
    × (new.at + length new.bytes ≡ old.at + length old.bytes)
NextIs old (Ok None) new = (next_of old.at old.bytes ≡ Ok None) × (new ≡ old)
NextIs old (Err faults.Memory) new = HasHeader old.bytes × (new ≡ old)
NextIs old (Err (faults.BadLength at)) new = (next_of old.at old.bytes ≡ Err (faults.BadLength at)) × (new ≡ old)
NextIs old (Err (faults.BadForm at)) new = (next_of old.at old.bytes ≡ Err (faults.BadForm at)) × (new ≡ old)
NextIs old (Err (faults.BadHeader at)) new = (next_of old.at old.bytes ≡ Err (faults.BadHeader at)) × (new ≡ old)
