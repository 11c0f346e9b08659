use Rattle.std.proofs.Common.{◌≡◌, ◌+◌, ◌-◌, ℕ, List, length, ap, ◌∙◌, arith}
use Rattle.std.specs.Int.{w16, to_be_bytes}
use Rattle.record_codec.specs.Drafts.{entry_of}
use Rattle.record_codec.specs.Props.{written}
use Rattle.record_codec.specs.Layout.{front, numbers, numbers_text, fixed, seal_name}
use Rattle.record_codec.proofs.DraftLemmas.{HasNoFault-from}
use Rattle.record_codec.proofs.AppendLemmas.{seven, front_same}
use Rattle.record_codec.proofs.layout.put_front.Goals as goal

pub overflow_cast-topic : goal.overflow_cast-topic
overflow_cast-topic c =
    let f = HasNoFault-from _ _ c.requires.encodable.passes in
    let topic = ap (λ (w : List ℕ). length w) c.as_str.ensures.value in
    omega (arith, f.topic, topic, c.as_bytes-topic.ensures.len)

pub overflow_cast-stored-2 : goal.overflow_cast-stored-2
overflow_cast-stored-2 c =
    let f = HasNoFault-from _ _ c.requires.encodable.passes in
    let topic = ap (λ (w : List ℕ). length w) c.as_str.ensures.value in
    let body = ap (λ (w : List ℕ). length w) c.as_slice-body.ensures in
    omega (arith, f.props, topic, body, c.as_bytes-topic.ensures.len, c.requires.size)

pub returns-clause-items : goal.returns-clause-items
unfolding front
returns-clause-items c =
    let d = c.args.draft.now in
    let o = c.args.out.now.items in
    let f = HasNoFault-from _ _ c.requires.encodable.passes in
    let topic = c.as_bytes-topic.ensures.value ∙ c.as_str.ensures.value in
    let len-topic = ap (λ (w : List ℕ). length w) topic in
    let body = c.as_slice-body.ensures in
    let len-body = ap (λ (w : List ℕ). length w) body in
    let stored : c.args.size - 91 - length c.as_slice-body.result.now - length c.as_bytes-topic.result.now ≡ length (written d.props) + 14 =
    omega (arith, len-topic, len-body, c.requires.size) in
    let made = seven o _ _ _ _ _ _ _ _ _ _ _ _ _ _
    c.put_numbers.ensures.items c.put.ensures.items c.put_byte.ensures.items c.put-2.ensures.items c.put_u16.ensures.items c.put_into.ensures.items c.put-3.ensures.items in
    let same = front_same o (numbers_text fixed (numbers (entry_of d c.args.place.now))) (written d.props) seal_name body len-topic topic (ap (to_be_bytes w16) stored) in
    made ∙ same
