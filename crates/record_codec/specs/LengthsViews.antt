-- How contracts see the lengths.
use Rattle.record_codec.specs.declared.lengths.Lengths.{Lengths as KeptLengths}
use Rattle.record_codec.specs.Parsed.{Lengths}

-- the lengths that the code keeps
abbrev pub lengths_view : KeptLengths → Lengths
lengths_view l = record { body = l.body; topic = l.topic; props = l.props }
