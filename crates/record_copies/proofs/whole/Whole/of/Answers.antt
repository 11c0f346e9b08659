use Rattle.record_codec.specs.Drafts.{entry_of}
use Rattle.record_copies.proofs.WholeLemmas.{reads, is_it}
use Rattle.record_copies.proofs.whole.Whole.of.Goals as goal

pub returns : goal.returns
returns c =
    is_it _ (entry_of c.args.draft.now c.args.place.now)
    (reads _ _ (entry_of c.args.draft.now c.args.place.now) c.in_ok-encode.ensures.a_record c.in_ok-encode.ensures.ok c.in_ok-bytes.ensures.items)
