use Rattle.std.proofs.Common.{◌≡◌, ◌+◌, ℕ, List, length, take, drop, ap, ◌∙◌, rules}
use Rattle.record_codec.specs.Drafts.{entry_of}
use Rattle.record_codec.proofs.DraftLemmas.{IsRecord-entry_of}
use Rattle.record_codec.proofs.Seals.{body_at}
use Rattle.record_codec.proofs.layout.encode.Goals as goal

pub returns-clause-a_record : goal.returns-clause-a_record
returns-clause-a_record c = IsRecord-entry_of c.args.draft.now c.args.place.now c.put_front.ensures.ranges c.put_front.ensures.props c.requires

pub put_seal-requires-clause-body : goal.put_seal-requires-clause-body
put_seal-requires-clause-body c =
    let start = c.len-start.result in
    let r = entry_of c.args.draft.now c.args.place.now in
    let o = c.reserve.new.self.items in
    let is : length o ≡ start = search rules in
    ap (λ (w : List ℕ). take (length r.body) (drop (start + 88) w)) c.put_front.ensures.items ∙ body_at o r start is
