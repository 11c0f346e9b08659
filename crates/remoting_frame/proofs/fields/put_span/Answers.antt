use Rattle.std.proofs.Common.{◌≡◌, ◌∷◌, ◌++◌, ◌<◌, ℕ, suc, length, take, drop, ◌∙◌, ap, arith}
use Rattle.std.proofs.lemmas.List.{set_split}
use Rattle.remoting_frame.proofs.fields.put_span.Goals as goal

pub returns-then-from-to-clause-ok : goal.returns-then-from-to-clause-ok
returns-then-from-to-clause-ok c =
    let spans = c.args.spans.now.items in
    let least = c.if-from-to.true in
    let most = c.requires.1 in
    let end = c.requires.2 in
    let next : suc c.args.from ≡ c.args.to = omega (arith, least, most) in
    let within : c.args.from < length spans = omega (arith, least, end) in
    set_split spans c.args.from c.args.span within ∙ ap (λ (n : ℕ). take c.args.from spans ++ c.args.span ∷ drop n spans) next
