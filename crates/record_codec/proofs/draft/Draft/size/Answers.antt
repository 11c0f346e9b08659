use Rattle.std.proofs.Common.{ℕ, List, length, ap, arith}
use Rattle.record_codec.proofs.DraftLemmas.{HasNoFault-from}
use Rattle.record_codec.proofs.draft.Draft.size.Goals as goal

pub overflow_add-result-in-Some : goal.overflow_add-result-in-Some
overflow_add-result-in-Some c =
    let len-body = ap (λ (w : List ℕ). length w) c.as_slice-body.ensures in
    let len-topic = ap (λ (w : List ℕ). length w) c.as_str-topic.ensures.value in
    let f = HasNoFault-from _ _ c.requires.1 in omega (arith, f.topic, f.body, f.props, c.in-Some.ensures, len-body, len-topic)

pub overflow_add-result-in-Some-2 : goal.overflow_add-result-in-Some-2
overflow_add-result-in-Some-2 c =
    let len-body = ap (λ (w : List ℕ). length w) c.as_slice-body.ensures in
    let len-topic = ap (λ (w : List ℕ). length w) c.as_str-topic.ensures.value in
    let f = HasNoFault-from _ _ c.requires.1 in omega (arith, f.topic, f.body, f.props, c.in-Some.ensures, len-body, len-topic)

pub overflow_cast-result : goal.overflow_cast-result
overflow_cast-result c =
    let len-body = ap (λ (w : List ℕ). length w) c.as_slice-body.ensures in
    let len-topic = ap (λ (w : List ℕ). length w) c.as_str-topic.ensures.value in
    let f = HasNoFault-from _ _ c.requires.1 in omega (arith, f.topic, f.body, f.props, c.in-Some.ensures, len-body, len-topic)

pub unreachable-requires : goal.unreachable-requires
unreachable-requires c = let f = HasNoFault-from _ _ c.requires.1 in c.in-None.ensures f.props
