-- A record that has a layout, and a draft without a fault, can be encoded, and is read again.
use Rattle.std.proofs.Common.{◌≡◌, ◌∙◌, ◌^◌, ◌++◌, ap, sym, ℕ, List, [], Some, None}
use Rattle.std.proofs.lemmas.List.{append-nil}
use Rattle.record_codec.specs.Entry.{Entry}
use Rattle.record_codec.specs.Drafts.{entry_of, draft_fault, IsEncodable}
use Rattle.record_codec.specs.Layout.{layout, IsRecord}
use Rattle.record_codec.specs.Parsed.{parsed}
use Rattle.record_codec.specs.declared.draft.Draft.{Draft}
use Rattle.record_codec.specs.declared.draft.Place.{Place}
use Rattle.record_codec.proofs.Records.{said, parsed_again}

pub encodable : (d : Draft) (p : Place) → IsRecord (entry_of d p) → draft_fault (2 ^ 30) d ≡ None → IsEncodable d p
encodable d p is passes =
    let facts = said (entry_of d p) is.entry in
    record {
      passes = passes;
      born = facts.born;
      prepared = facts.prepared;
      queue_offset = facts.queue_offset;
      offset = facts.offset;
      store = facts.store;
      unsealed = facts.no_seal;
    }

-- its bytes are read as it
pub reads : (bytes old : List ℕ) (r : Entry) → IsRecord r → bytes ≡ old ++ layout r → old ≡ [] → parsed bytes ≡ Some r
reads bytes old r is are none = ap parsed (are ∙ ap (λ (xs : List ℕ). xs ++ layout r) none ∙ sym (append-nil (layout r))) ∙ parsed_again r [] is
