-- The words so far, with those of the rest, are those of the text.
use Rattle.std.proofs.Common.{◌≡◌, ◌++◌, length, map}
use Rattle.mq_bytes.specs.Hashes.{java_hash}
use Rattle.std.specs.Str.{IsUtf8}
use Rattle.log_model.specs.Pulls.{words_in}
use Rattle.queue_view.proofs.tags.hash_words.Given as goal

abbrev pub invariant-loop-word : goal.invariant-loop-word
invariant-loop-word l = IsUtf8 l.rest × (l.codes.items ++ map java_hash (words_in l.rest) ≡ l.fn.codes.items ++ map java_hash (words_in l.fn.text))

abbrev pub decreases-loop-word : goal.decreases-loop-word
decreases-loop-word l = length l.rest
