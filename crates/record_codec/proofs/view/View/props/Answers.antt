use Rattle.std.proofs.Common.{◌+◌, ℕ, List, length, sym, ap, subst, ◌∙◌, arith}
use Rattle.std.proofs.lemmas.Result.{IfOk-weaker}
use Rattle.record_codec.specs.Entry.{Entry}
use Rattle.record_codec.specs.Props.{pairs_in, IsWritten}
use Rattle.record_codec.proofs.InPlaceLemmas.{part_of}
use Rattle.record_codec.proofs.PairTexts.{some_is}
use Rattle.record_codec.proofs.Views.{shows, IsWritten-from}
use Rattle.record_codec.proofs.view.View.props.Goals as goal

pub slice_bounds-of_written-end : goal.slice_bounds-of_written-end
slice_bounds-of_written-end c = let s = shows c.self.inside.bytes.now _ c.self.invariant in omega (arith, s.within)

pub of_written-requires : goal.of_written-requires
of_written-requires c =
    let v = c.self.inside in
    let s = shows v.bytes.now _ c.self.invariant in
    subst IsWritten (sym (part_of v.bytes.now (91 + v.body + v.topic) v.props)) (IsWritten-from v.bytes.now _ _ s)

pub returns : goal.returns
returns c =
    let v = c.self.inside in
    let s = shows v.bytes.now _ c.self.invariant in
    let pairs = ap (λ (w : List ℕ). pairs_in (length w) w) (part_of v.bytes.now (91 + v.body + v.topic) v.props) ∙ s.pairs in
    IfOk-weaker c.of_written.result _ _ (λ props e. some_is _ _ (sym e ∙ pairs) ∙ ap (λ (r : Entry). r.props) c.self.view_is) c.of_written.ensures
