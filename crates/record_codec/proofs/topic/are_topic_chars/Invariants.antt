use Rattle.std.proofs.Common.{◌≡◌, drop}
use Rattle.record_codec.specs.Layout.{all_topic_chars}
use Rattle.record_codec.proofs.topic.are_topic_chars.Given as goal

abbrev pub invariant-loop-byte : goal.invariant-loop-byte
invariant-loop-byte l = all_topic_chars (drop l.byte-index l.topic) ≡ all_topic_chars l.topic
