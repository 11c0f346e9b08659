use Rattle.std.proofs.Common.{◌≡◌, ◌++◌, ◌∷◌, take}
use Rattle.json.specs.Token.{begin_object}
use Rattle.remoting_frame.proofs.HeaderTokens.{pair_tokens}
use Rattle.remoting_frame.proofs.json_writer.put_texts.Given as goal

abbrev pub invariant-loop-index : goal.invariant-loop-index
invariant-loop-index l = (l.out.before ≡ l.fn.out.before) × (l.out.tokens ≡ l.fn.out.tokens ++ begin_object ∷ pair_tokens (take l.index l.pairs))
