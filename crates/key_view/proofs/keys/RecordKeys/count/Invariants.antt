-- The keys that were counted and the words of the rest are all.
use Rattle.std.proofs.Common.{◌≡◌, ◌+◌, ◌≤◌, ◌^◌, length}
use Rattle.std.specs.Str.{IsUtf8}
use Rattle.log_replay.proofs.WordLemmas.{words_in}
use Rattle.key_view.proofs.keys.RecordKeys.count.Given as goal

abbrev pub invariant-loop-behind : goal.invariant-loop-behind
invariant-loop-behind l = record {
  utf8 : IsUtf8 l.rest;
  counted : l.count + length (words_in l.rest) ≡ length l.self;
  small : l.count + length l.rest ≤ 2 ^ 63;
}

abbrev pub decreases-loop-behind : goal.decreases-loop-behind
decreases-loop-behind l = length l.rest
