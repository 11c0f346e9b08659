use Rattle.std.proofs.Common.{◌+◌, ℕ, List, length, Some, sym, ap, ◌∙◌, arith}
use Rattle.std.proofs.lemmas.Str.{IsUtf8-from_is_utf8}
use Rattle.record_codec.specs.Entry.{Entry}
use Rattle.record_codec.specs.Props.{value_of, pairs_in}
use Rattle.record_codec.specs.Parsed.{parsed}
use Rattle.record_codec.specs.Views.{or_blank}
use Rattle.record_codec.proofs.InPlaceLemmas.{part_of}
use Rattle.record_codec.proofs.TextLemmas.{IsUtf8-value}
use Rattle.record_codec.proofs.Views.{shows}
use Rattle.record_codec.proofs.view.View.prop.Goals as goal

pub slice_bounds-text-end : goal.slice_bounds-text-end
slice_bounds-text-end c = let s = shows c.self.inside.bytes.now _ c.self.invariant in omega (arith, s.within)

pub returns-in_err-value : goal.returns-in_err-value
returns-in_err-value c =
    let v = c.self.inside in
    let r = or_blank (parsed v.bytes.now) in
    let s = shows v.bytes.now _ c.self.invariant in
    let pairs = ap (λ (w : List ℕ). pairs_in (length w) w) (part_of v.bytes.now (91 + v.body + v.topic) v.props) ∙ s.pairs in
    let same = ap (λ (n : List ℕ). value_of n r.props) c.as_bytes.ensures.value ∙ ap (λ (r : Entry). value_of c.args.name.now r.props) c.self.view_is in
    rw c.from_residual.ensures (c.in_err-value.ensures r.props pairs ∙ same)

pub unreachable-requires : goal.unreachable-requires
unreachable-requires c =
    let v = c.self.inside in
    let r = or_blank (parsed v.bytes.now) in
    let s = shows v.bytes.now _ c.self.invariant in
    let pairs = ap (λ (w : List ℕ). pairs_in (length w) w) (part_of v.bytes.now (91 + v.body + v.topic) v.props) ∙ s.pairs in
    c.in-Err.ensures.cases.0 (IsUtf8-value c.as_bytes.result.now r.props c.in_ok-value.value.now (IsUtf8-from_is_utf8 _ s.facts.utf8) (sym (c.in_ok-value.ensures r.props pairs)))

pub returns : goal.returns
returns c =
    let v = c.self.inside in
    let r = or_blank (parsed v.bytes.now) in
    let s = shows v.bytes.now _ c.self.invariant in
    let pairs = ap (λ (w : List ℕ). pairs_in (length w) w) (part_of v.bytes.now (91 + v.body + v.topic) v.props) ∙ s.pairs in
    let same = ap (λ (n : List ℕ). value_of n r.props) c.as_bytes.ensures.value ∙ ap (λ (r : Entry). value_of c.args.name.now r.props) c.self.view_is in
    ap (λ (w : List ℕ). Some w) c.in-Ok.ensures.cases.0 ∙ c.in_ok-value.ensures r.props pairs ∙ same
