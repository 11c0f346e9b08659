use Rattle.std.proofs.Common.{◌≡◌, ℕ, List, drop, length, sym, subst, ◌∙◌, arith}
use Rattle.std.proofs.lemmas.Bool.{eqb-true}
use Rattle.json.specs.Lex.{lex, between}
use Rattle.remoting_frame.proofs.ScannerSteps.{nothing_left}
use Rattle.remoting_frame.proofs.scanner.Scanner.is_over.Goals as goal

pub returns : goal.returns
returns c = λ over.
    let text = c.self.inside.text.now in
    let at = c.past_spaces.result in
    let same = subst (λ (t : List ℕ). lex between (drop at t) ≡ lex between (drop c.self.inside.at t)) c.as_bytes.ensures.value c.past_spaces.ensures.same in
    let past : at ≡ length text = eqb-true at (length text) over in
    sym c.self.view_is ∙ nothing_left c.self.inside.is_behind text c.self.inside.at at same (omega arith)
