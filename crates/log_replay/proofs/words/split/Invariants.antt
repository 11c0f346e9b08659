use Rattle.std.proofs.Common.{◌≡◌, take, drop}
use Rattle.record_codec.specs.Props.{until}
use Rattle.record_codec.proofs.ScanLemmas.{behind}
use Rattle.log_replay.proofs.words.split.Given as goal

abbrev pub invariant-loop-i : goal.invariant-loop-i
invariant-loop-i l = behind (take l.i l.text) (until 32 (drop l.i l.text)) ≡ until 32 l.text
