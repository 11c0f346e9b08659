use Rattle.std.proofs.Common.{◌≡◌, ℕ, ℤ, List, ◌∷◌, true, drop, ap, sym, subst, ◌∙◌}
use Rattle.std.specs.Int.{w32}
use Rattle.std.proofs.lemmas.Int.{to_z-of_z}
use Rattle.json.specs.Lex.{lex, between}
use Rattle.json.specs.Token.{number}
use Rattle.mq_bytes.specs.Decimal.{decimal}
use Rattle.remoting_frame.specs.Scanning.{tokens_from}
use Rattle.remoting_frame.proofs.ScannerSteps.{number_first}
use Rattle.remoting_frame.proofs.scanner.Scanner.number.Goals as goal

pub returns-clause-value : goal.returns-clause-value
returns-clause-value c =
    let text = c.self.inside.text.now in
    let from = c.past_spaces-from.result in
    let same = subst (λ (t : List ℕ). lex between (drop from t) ≡ lex between (drop c.self.inside.at t)) c.as_bytes.ensures.value c.past_spaces-from.ensures.same in
    sym c.self.view_is
    ∙ number_first c.self.inside.is_behind (drop c.self.inside.at text) (drop from text) (decimal c.in_ok-value.value) (drop c.in_ok-value.end text)
    c.if-self.false same c.in_ok-value.ensures.value
    ∙ ap (λ (z : ℤ). number (decimal z) ∷ tokens_from true (drop c.in_ok-value.end text)) (sym (to_z-of_z w32 c.in_ok-value.value c.in_ok-value.ensures.fits))
