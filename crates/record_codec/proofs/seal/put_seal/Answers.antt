use Rattle.std.proofs.Common.{◌≡◌, ◌++◌, ◌-◌, ℕ, List, length, take, drop, ap, ◌∙◌}
use Rattle.std.proofs.lemmas.List.{take_rest, drop-drop}
use Rattle.mq_bytes.specs.Crc.{crc_of}
use Rattle.record_codec.specs.Layout.{unsealed}
use Rattle.record_codec.proofs.Seals.{finish}
use Rattle.record_codec.proofs.seal.put_seal.Goals as goal

pub sum_with-sum-requires-clause-body : goal.sum_with-sum-requires-clause-body
sum_with-sum-requires-clause-body c =
    let start = c.args.start in
    let n = length c.args.body.now in
    let slice : take (length c.deref.result.now - start) (drop start c.deref.result.now) ≡ drop start c.args.out.now.items =
    take_rest c.deref.result.now start ∙ ap (drop start) c.deref.ensures.value in
    ap (λ (w : List ℕ). take n (drop 88 w)) slice ∙ ap (take n) (drop-drop 88 start c.args.out.now.items) ∙ c.requires.body

pub returns : goal.returns
returns c =
    let s = c.deref.result.now in
    let start = c.args.start in
    let slice : take (length s - start) (drop start s) ≡ drop start s = take_rest s start in
    let sum : c.sum_with-sum.result ≡ crc_of (drop start c.args.out.now.items ++ unsealed) =
    c.sum_with-sum.ensures ∙ ap (λ (w : List ℕ). crc_of (w ++ unsealed)) (slice ∙ ap (drop start) c.deref.ensures.value) in
    rw (c.put.ensures.items, c.seal_end.ensures, sum) (finish c.args.out.now.items start)
