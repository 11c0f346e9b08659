use Rattle.std.proofs.Common.{◌≡◌, ap, sym, subst}
use Rattle.store_open.specs.Formats.{Agrees}
use Rattle.store_open.specs.declared.format.Sizes.{Sizes}
use Rattle.store_open.proofs.ForeignLemmas.{tells_name}
use Rattle.store_open.proofs.opening.kept_sizes.Goals as goal

pub returns-else-agree-clause-other : goal.returns-else-agree-clause-other
returns-else-agree-clause-other c =
    tells_name _ _ _ _ c.named.ensures.code c.named.ensures.name (λ sizes is.
    let read = c.read_format.ensures.exact sizes is.format in
    let there = c.in-Some.is in
    let same : c.in-Some.sizes ≡ sizes = cc in
    let set = c.agree.ensures.1 (subst (λ (s : Sizes). Agrees c.args.asked.now s) (sym same) is.agrees) in
    let clear = c.if-agree.false in
    cc)

pub returns-in-None-clause-other : goal.returns-in-None-clause-other
returns-in-None-clause-other c =
    tells_name _ _ _ _ c.named-in-None.ensures.code c.named-in-None.ensures.name (λ sizes is.
    let read = c.read_format.ensures.exact sizes is.format in
    let gone = c.in-None.is in
    cc)
