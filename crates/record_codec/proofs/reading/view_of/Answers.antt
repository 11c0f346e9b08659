use Rattle.std.proofs.Common.{◌≡◌, ◌+◌, Option, Some, sym, ap, ◌∙◌, arith}
use Rattle.record_codec.specs.Entry.{Entry}
use Rattle.record_codec.specs.InPlace.{are_props}
use Rattle.record_codec.specs.Views.{or_blank}
use Rattle.record_codec.specs.LengthsViews.{lengths_view}
use Rattle.record_codec.specs.Parsed.{lengths_in}
use Rattle.record_codec.proofs.Records.{lengths_facts}
use Rattle.record_codec.proofs.InPlaceLemmas.{part_of, refused_for_lengths, refused_for_fields, refused_for_spelling, refused_for_props, accepted}
use Rattle.record_codec.proofs.reading.view_of.Goals as goal
use Rattle.record_codec.proofs.reading.view_of.Goals.{then-not-has_fields-via-then-not-has_fields, then-not-has_fields-via-else-not-has_fields+then-not-is_spelled, then-not-has_fields-via-else-not-has_fields+else-not-is_spelled+then-not-are_props}

pub returns-in_err-lengths : goal.returns-in_err-lengths
returns-in_err-lengths c = rw c.from_residual.ensures (sym (refused_for_lengths c.args.bytes.now (sym c.in_err-lengths.ensures)))

pub slice_bounds-text-end : goal.slice_bounds-text-end
slice_bounds-text-end c = let f = lengths_facts c.args.bytes.now _ (sym c.in_ok-lengths.ensures) in omega (arith, f.within)

pub has_fields-requires : goal.has_fields-requires
has_fields-requires c = (lengths_facts c.args.bytes.now _ (sym c.in_ok-lengths.ensures)).within

pub is_spelled-requires : goal.is_spelled-requires
is_spelled-requires c = (lengths_facts c.args.bytes.now _ (sym c.in_ok-lengths.ensures)).within

pub returns-then-not-has_fields : goal.returns-then-not-has_fields
returns-then-not-has_fields c =
    let b = c.args.bytes.now in
    let l = lengths_view c.in_ok-lengths.lengths in
    let lengths : lengths_in b ≡ Some l = sym c.in_ok-lengths.ensures in
    let within = (lengths_facts b l lengths).within in
    let text = ap are_props (part_of b (91 + l.body + l.topic) l.props) in
    elim c.then-not-has_fields.branch [
      | then-not-has_fields-via-then-not-has_fields w ↦ sym (refused_for_fields b l lengths within (sym c.has_fields.ensures ∙ w.if-not-has_fields.true))
      | then-not-has_fields-via-else-not-has_fields+then-not-is_spelled w ↦ sym (refused_for_spelling b l lengths within (sym w.is_spelled.ensures ∙ w.if-not-is_spelled.true))
      | then-not-has_fields-via-else-not-has_fields+else-not-is_spelled+then-not-are_props w ↦ sym (refused_for_props b l lengths within (sym text ∙ sym w.are_props.ensures ∙ w.if-not-are_props.true))
    ]

pub invariant_of-result : goal.invariant_of-result
invariant_of-result c =
    let b = c.args.bytes.now in
    let l = lengths_view c.in_ok-lengths.lengths in
    let lengths : lengths_in b ≡ Some l = sym c.in_ok-lengths.ensures in
    let within = (lengths_facts b l lengths).within in
    let text = ap are_props (part_of b (91 + l.body + l.topic) l.props) in
    record {
      lengths = lengths;
      record_is = accepted b l lengths within (sym c.has_fields.ensures ∙ c.if-not-has_fields.false) (sym c.is_spelled.ensures ∙ c.if-not-is_spelled.false) (sym text ∙ sym c.are_props.ensures ∙ c.if-not-are_props.false);
    }

pub returns : goal.returns
returns c =
    let b = c.args.bytes.now in
    let l = lengths_view c.in_ok-lengths.lengths in
    let lengths : lengths_in b ≡ Some l = sym c.in_ok-lengths.ensures in
    let within = (lengths_facts b l lengths).within in
    let text = ap are_props (part_of b (91 + l.body + l.topic) l.props) in
    let r = accepted b l lengths within (sym c.has_fields.ensures ∙ c.if-not-has_fields.false) (sym c.is_spelled.ensures ∙ c.if-not-is_spelled.false) (sym text ∙ sym c.are_props.ensures ∙ c.if-not-are_props.false) in
    ap (λ (o : Option Entry). Some (or_blank o)) r.1 ∙ sym r.1
