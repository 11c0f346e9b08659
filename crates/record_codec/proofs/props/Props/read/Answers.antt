use Rattle.std.proofs.Common.{ℕ, List, refl, sym, ap, ◌∙◌, arith}
use Rattle.std.proofs.lemmas.List.{nil_from_length}
use Rattle.record_codec.specs.LaxProps.{with_all, read_props}
use Rattle.record_codec.proofs.LaxLemmas.{pairs_of, pairs_of-nil, first_is, with_pair, without_pair, IsUtf8-piece}
use Rattle.record_codec.proofs.props.Props.read.Goals as goal

pub loop-rest-init : goal.loop-rest-init
unfolding read_props
loop-rest-init c = record { all = rw (c.new-props.ensures, c.as_bytes-rest.ensures.value) refl; utf8 = c.as_bytes-rest.ensures.utf8; placed = λ name. rw (c.new-props.ensures, c.new-places.ensures.empty) refl }

pub put_placed-requires-clause-pair : goal.put_placed-requires-clause-pair
put_placed-requires-clause-pair c =
    let first = first_is c.loop-rest.rest.now _ c.first_piece.ensures.split in
    (IsUtf8-piece c.first_piece.result.0.now (c.in-Some.name.now, c.in-Some.value.now) (sym c.in-Some.ensures) (first.utf8 c.loop-rest.invariant.utf8).0).0

pub put_placed-requires-clause-name : goal.put_placed-requires-clause-name
put_placed-requires-clause-name c =
    let first = first_is c.loop-rest.rest.now _ c.first_piece.ensures.split in
    (IsUtf8-piece c.first_piece.result.0.now (c.in-Some.name.now, c.in-Some.value.now) (sym c.in-Some.ensures) (first.utf8 c.loop-rest.invariant.utf8).0).1

pub put_placed-requires-clause-value : goal.put_placed-requires-clause-value
put_placed-requires-clause-value c =
    let first = first_is c.loop-rest.rest.now _ c.first_piece.ensures.split in
    (IsUtf8-piece c.first_piece.result.0.now (c.in-Some.name.now, c.in-Some.value.now) (sym c.in-Some.ensures) (first.utf8 c.loop-rest.invariant.utf8).0).2

pub loop-rest-smaller-in_ok-put_placed : goal.loop-rest-smaller-in_ok-put_placed
loop-rest-smaller-in_ok-put_placed c = (first_is c.loop-rest.rest.now _ c.first_piece.ensures.split).smaller (omega (arith, c.loop-rest-test.true))

pub loop-rest-smaller : goal.loop-rest-smaller
loop-rest-smaller c = (first_is c.loop-rest.rest.now _ c.first_piece.ensures.split).smaller (omega (arith, c.loop-rest-test.true))

pub loop-rest-preserved-in_ok-put_placed : goal.loop-rest-preserved-in_ok-put_placed
loop-rest-preserved-in_ok-put_placed c =
    let first = first_is c.loop-rest.rest.now _ c.first_piece.ensures.split in
    let put = ap (λ (ps : List (List ℕ × List ℕ)). with_all ps (pairs_of c.first_piece.result.1.now)) c.in_ok-put_placed.ensures.ok in
    record { all = put ∙ with_pair _ _ _ _ (c.in-Some.name.now, c.in-Some.value.now) first (sym c.in-Some.ensures) ∙ c.loop-rest.invariant.all; utf8 = (first.utf8 c.loop-rest.invariant.utf8).1; placed = c.in_ok-put_placed.ensures.places }

pub loop-rest-preserved : goal.loop-rest-preserved
loop-rest-preserved c =
    let first = first_is c.loop-rest.rest.now _ c.first_piece.ensures.split in
    record { all = without_pair _ _ _ _ first (sym c.in_default.ensures) ∙ c.loop-rest.invariant.all; utf8 = (first.utf8 c.loop-rest.invariant.utf8).1; placed = c.loop-rest.invariant.placed }

pub returns : goal.returns
returns c =
    let none = nil_from_length c.loop-rest.rest.now (omega (arith, c.loop-rest-test.false)) in
    sym (ap (λ (t : List ℕ). with_all c.loop-rest.props (pairs_of t)) none ∙ ap (with_all c.loop-rest.props) pairs_of-nil) ∙ c.loop-rest.invariant.all
