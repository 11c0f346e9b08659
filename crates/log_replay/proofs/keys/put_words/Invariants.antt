-- The hashes so far and those of the words that are left are all.
use Rattle.std.proofs.Common.{◌≡◌, ◌++◌, length, map}
use Rattle.std.specs.Str.{IsUtf8}
use Rattle.log_model.specs.Keys.{hash_of}
use Rattle.log_replay.proofs.WordLemmas.{words_in}
use Rattle.log_replay.proofs.keys.put_words.Given as goal

abbrev pub invariant-loop-word : goal.invariant-loop-word
invariant-loop-word l = record {
  utf8 : IsUtf8 l.rest;
  hashes : l.hashes.items ++ map (hash_of l.topic) (words_in l.rest) ≡ l.initial.hashes.items ++ map (hash_of l.topic) (words_in l.text);
}

abbrev pub decreases-loop-word : goal.decreases-loop-word
decreases-loop-word l = length l.rest
