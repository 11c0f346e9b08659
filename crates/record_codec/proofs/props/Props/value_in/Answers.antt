use Rattle.std.proofs.Common.{◌≡◌, ◌≤◌, [], ◌∷◌, ℕ, List, length, Option, Some, Bor, option_map, true, false, refl, sym, ap, ◌∙◌, arith}
use Rattle.std.specs.Str.{bytes_eq}
use Rattle.std.proofs.lemmas.List.{nil_from_length}
use Rattle.record_codec.specs.Props.{with_prop, value_of}
use Rattle.record_codec.specs.LaxProps.{with_all, read_props}
use Rattle.record_codec.proofs.LastLemmas.{value_of-front}
use Rattle.record_codec.proofs.LaxLemmas.{pairs_of, pairs_of-nil, first_is, with_pair, without_pair, IsUtf8-piece}
use Rattle.record_codec.proofs.props.Props.value_in.Goals as goal

pub loop-rest-init : goal.loop-rest-init
unfolding read_props
loop-rest-init c = record { all = ([], refl, rw c.as_bytes-rest.ensures.value refl); utf8 = c.as_bytes-rest.ensures.utf8; last = tt }

pub loop-rest-smaller-then-eq : goal.loop-rest-smaller-then-eq
loop-rest-smaller-then-eq c = (first_is c.loop-rest.rest.now _ c.first_piece.ensures.split).smaller (omega (arith, c.loop-rest-test.true))

pub loop-rest-smaller-else-eq : goal.loop-rest-smaller-else-eq
loop-rest-smaller-else-eq c = (first_is c.loop-rest.rest.now _ c.first_piece.ensures.split).smaller (omega (arith, c.loop-rest-test.true))

pub loop-rest-smaller : goal.loop-rest-smaller
loop-rest-smaller c = (first_is c.loop-rest.rest.now _ c.first_piece.ensures.split).smaller (omega (arith, c.loop-rest-test.true))

pub loop-rest-preserved-then-eq : goal.loop-rest-preserved-then-eq
loop-rest-preserved-then-eq c =
    let p : List ℕ × List ℕ = (c.in-Some.other.now, c.in-Some.value.now) in
    let so_far = c.loop-rest.invariant.all in
    let first = first_is c.loop-rest.rest.now _ c.first_piece.ensures.split in
    let piece = first.utf8 c.loop-rest.invariant.utf8 in
    let same : bytes_eq c.args.name.now p.0 ≡ true = ap (λ (n : List ℕ). bytes_eq n p.0) (sym c.as_bytes.ensures.value) ∙ sym c.eq.ensures ∙ c.if-eq.true in
    let one : value_of c.args.name.now (p ∷ so_far.0) ≡ Some p.1 = rw same refl in
    record {
      all = (with_prop p.0 p.1 so_far.0, sym (value_of-front c.args.name.now p so_far.0 ∙ one), with_pair _ _ _ _ p first (sym c.in-Some.ensures) ∙ so_far.2);
      utf8 = piece.1;
      last = (IsUtf8-piece c.first_piece.result.0.now p (sym c.in-Some.ensures) piece.0).2;
    }

pub loop-rest-preserved-else-eq : goal.loop-rest-preserved-else-eq
loop-rest-preserved-else-eq c =
    let p : List ℕ × List ℕ = (c.in-Some.other.now, c.in-Some.value.now) in
    let so_far = c.loop-rest.invariant.all in
    let first = first_is c.loop-rest.rest.now _ c.first_piece.ensures.split in
    let other : bytes_eq c.args.name.now p.0 ≡ false = ap (λ (n : List ℕ). bytes_eq n p.0) (sym c.as_bytes.ensures.value) ∙ sym c.eq.ensures ∙ c.if-eq.false in
    let one : value_of c.args.name.now (p ∷ so_far.0) ≡ value_of c.args.name.now so_far.0 = rw other refl in
    record {
      all = (with_prop p.0 p.1 so_far.0, so_far.1 ∙ sym (value_of-front c.args.name.now p so_far.0 ∙ one), with_pair _ _ _ _ p first (sym c.in-Some.ensures) ∙ so_far.2);
      utf8 = (first.utf8 c.loop-rest.invariant.utf8).1;
      last = c.loop-rest.invariant.last;
    }

pub loop-rest-preserved : goal.loop-rest-preserved
loop-rest-preserved c =
    let so_far = c.loop-rest.invariant.all in
    let first = first_is c.loop-rest.rest.now _ c.first_piece.ensures.split in
    record {
      all = (so_far.0, so_far.1, without_pair _ _ _ _ first (sym c.in_default.ensures) ∙ so_far.2);
      utf8 = (first.utf8 c.loop-rest.invariant.utf8).1;
      last = c.loop-rest.invariant.last;
    }

-- no piece is left, so what was seen is all
all_seen : (rest text : List ℕ) (seen : List (List ℕ × List ℕ)) → length rest ≤ 0 → with_all seen (pairs_of rest) ≡ read_props text → seen ≡ read_props text
all_seen rest text seen short all =
    let none = nil_from_length rest (omega arith) in
    sym (ap (λ (t : List ℕ). with_all seen (pairs_of t)) none ∙ ap (with_all seen) pairs_of-nil) ∙ all

pub returns-in_err-last : goal.returns-in_err-last
returns-in_err-last c =
    let so_far = c.loop-rest.invariant.all in
    let all = all_seen c.loop-rest.rest.now c.args.text.now so_far.0 c.loop-rest-test.false so_far.2 in
    rw c.from_residual.ensures (ap (λ (o : Option (Bor (List ℕ))). option_map (λ value. value.now) o) (sym c.in_err-last.was) ∙ so_far.1 ∙ ap (value_of c.args.name.now) all)

pub returns : goal.returns
returns c =
    let so_far = c.loop-rest.invariant.all in
    let all = all_seen c.loop-rest.rest.now c.args.text.now so_far.0 c.loop-rest-test.false so_far.2 in
    ap (λ (v : List ℕ). Some v) c.str_of.ensures ∙ ap (λ (o : Option (Bor (List ℕ))). option_map (λ value. value.now) o) (sym c.in_ok-last.was) ∙ so_far.1 ∙ ap (value_of c.args.name.now) all
