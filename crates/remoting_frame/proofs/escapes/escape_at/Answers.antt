use Rattle.std.proofs.Common.{◌≡◌, ◌∷◌, [], ◌+◌, ◌<◌, length, drop, ℕ, ap, ◌∙◌, arith}
use Rattle.json.specs.Text.{content, plain, prepend}
use Rattle.json.specs.Lex.{lex, in_string}
use Rattle.remoting_frame.proofs.EscapeSteps.{lex_escape, read_u, read_short}
use Rattle.remoting_frame.proofs.escapes.escape_at.Goals as goal

pub returns-then-text-at-eq117-clause-value : goal.returns-then-text-at-eq117-clause-value
returns-then-text-at-eq117-clause-value c =
    let end : c.args.at + 1 + 4 ≡ c.args.at + 5 = omega arith in
    read_u _ c.args.at (omega arith) ∙ c.in_ok-ascii_at.ensures.value ∙ ap (λ (n : ℕ). prepend (c.in_ok-ascii_at.field-0 ∷ []) (content plain (drop n c.args.text.now))) end

pub returns-then-text-at-eq117-clause-rest : goal.returns-then-text-at-eq117-clause-rest
returns-then-text-at-eq117-clause-rest c =
    let within : c.args.at < length c.args.text.now = omega arith in
    let end : c.args.at + 1 + 4 ≡ c.args.at + 5 = omega arith in
    lex_escape _ c.args.at within ∙ c.in_ok-ascii_at.ensures.rest ∙ ap (λ (n : ℕ). lex in_string (drop n c.args.text.now)) end

pub returns-clause-value : goal.returns-clause-value
returns-clause-value c =
    let within : c.args.at < length c.args.text.now = omega arith in
    read_short _ c.args.at _ within c.in_ok-short.ensures.other c.in_ok-short.ensures.value

pub returns-clause-rest : goal.returns-clause-rest
returns-clause-rest c = lex_escape _ c.args.at (omega arith)
