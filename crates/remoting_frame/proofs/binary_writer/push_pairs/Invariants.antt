use Rattle.std.proofs.Common.{◌≡◌, ◌++◌, take}
use Rattle.std.specs.List.{AllByRecursion}
use Rattle.remoting_frame.specs.BinaryText.{pairs_text, IsPairOfTexts}
use Rattle.remoting_frame.proofs.binary_writer.push_pairs.Given as goal

abbrev pub invariant-loop-index : goal.invariant-loop-index
invariant-loop-index l = record { so_far : l.out.items ≡ l.initial.out.items ++ pairs_text (take l.index l.pairs); texts : AllByRecursion IsPairOfTexts (take l.index l.pairs) }
