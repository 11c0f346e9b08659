use Rattle.std.proofs.Common.{ℕ, drop, take, ap, ◌∙◌, arith, sym}
use Rattle.std.proofs.lemmas.List.{length-take-le, take_at}
use Rattle.record_codec.specs.Layout.{layout, size}
use Rattle.record_codec.proofs.LayoutLengths.{length-layout}
use Rattle.record_codec.proofs.Records.{parsed_takes}
use Rattle.record_codec.proofs.view.front_of.Goals as goal

pub slice_bounds-result-end : goal.slice_bounds-result-end
slice_bounds-result-end c = sym (length-take-le c.args.size c.args.bytes.now c.requires)

pub returns : goal.returns
returns c = λ r read is.
    let b = c.args.bytes.now in
    let stands = (parsed_takes b r (λ i. omega (arith, c.type_inv.bytes i)) read).1 in
    ap (λ (n : ℕ). take n b) is ∙ ap (take (size r)) stands ∙ take_at (layout r) (drop (size r) b) (size r) (length-layout r)
