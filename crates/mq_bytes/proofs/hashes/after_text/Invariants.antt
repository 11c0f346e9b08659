use Rattle.std.proofs.Common.{◌≡◌, ◌%◌, ◌^◌}
use Rattle.std.specs.List.{flat_map}
use Rattle.std.specs.Int.Digits.{number_from_digits_after}
use Rattle.std.specs.Char.Escape.{encode_utf16}
use Rattle.mq_bytes.proofs.hashes.after_text.Given as goal

abbrev pub invariant-loop-c : goal.invariant-loop-c
invariant-loop-c l = l.hash ≡ number_from_digits_after 31 l.start (flat_map encode_utf16 l.yielded) % 2 ^ 32
