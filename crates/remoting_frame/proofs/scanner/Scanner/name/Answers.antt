use Rattle.std.proofs.Common.{◌≡◌, ℕ, ◌+◌, List, drop, get_or, ap, sym, subst, ◌∙◌}
use Rattle.json.specs.Json.{read_key}
use Rattle.json.specs.Lex.{lex, between}
use Rattle.remoting_frame.proofs.ScannerSteps.{closed, first_named, next_named}
use Rattle.remoting_frame.proofs.scanner.Scanner.name.Goals as goal
use Rattle.remoting_frame.proofs.scanner.Scanner.name.Goals.{then-self+else-first-ne44, else-self}

pub returns-then-first-eq125 : goal.returns-then-first-eq125
returns-then-first-eq125 c =
    let text = c.self.inside.text.now in
    let at = c.past_spaces-at.result in
    let is = c.as_bytes-bytes.ensures.value in
    let same = subst (λ (t : List ℕ). lex between (drop at t) ≡ lex between (drop c.self.inside.at t)) is c.past_spaces-at.ensures.same in
    let first = ap (λ (t : List ℕ). get_or t at 0) (sym is) ∙ sym c.byte_at-first.ensures in
    ap read_key (sym c.self.view_is) ∙ closed c.self.inside.is_behind text c.self.inside.at at same (first ∙ c.if-first-eq125.true)

pub returns : goal.returns
returns c =
    let text = c.self.inside.text.now in
    let at = c.past_spaces-at.result in
    let is = c.as_bytes-bytes.ensures.value in
    let same = subst (λ (t : List ℕ). lex between (drop at t) ≡ lex between (drop c.self.inside.at t)) is c.past_spaces-at.ensures.same in
    let first = ap (λ (t : List ℕ). get_or t at 0) (sym is) ∙ sym c.byte_at-first.ensures in
    let name = c.in_ok-name.name.now in
    let value = drop c.in_ok-name.value text in
    let named = c.in_ok-name.ensures.key in
    ap read_key (sym c.self.view_is) ∙ (elim c.if-self.branch [
      | then-self+else-first-ne44 w ↦
          let quote = w.past_spaces-at-then-self.result in
          let next = subst (λ (t : List ℕ). lex between (drop quote t) ≡ lex between (drop (at + 1) t)) is w.past_spaces-at-then-self.ensures.same in
          next_named c.self.inside.is_behind text c.self.inside.at at name value w.if-self.true same (first ∙ w.if-first-ne44.false)
          (sym next ∙ ap (λ (i : ℕ). lex between (drop i text)) (sym w.at-is) ∙ named)
      | else-self w ↦
          first_named c.self.inside.is_behind (drop c.self.inside.at text) name value w.if-self.false
          (sym same ∙ ap (λ (i : ℕ). lex between (drop i text)) (sym w.at-is) ∙ named)
    ])
