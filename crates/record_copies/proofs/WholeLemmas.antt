-- Bytes that are a record's layout are read as it.
use Rattle.std.proofs.Common.{◌≡◌, ◌∙◌, ap, sym, ℕ, List, [], ◌++◌, Option, Some}
use Rattle.std.proofs.lemmas.List.{append-nil}
use Rattle.record_codec.specs.Entry.{Entry}
use Rattle.record_codec.specs.Layout.{layout, IsRecord}
use Rattle.record_codec.specs.Parsed.{parsed}
use Rattle.record_codec.specs.Views.{or_blank}
use Rattle.record_codec.proofs.Records.{parsed_again}

pub reads : (bytes old : List ℕ) (r : Entry) → IsRecord r → bytes ≡ old ++ layout r → old ≡ [] → parsed bytes ≡ Some r
reads bytes old r is are none =
    ap parsed (are ∙ ap (λ (xs : List ℕ). xs ++ layout r) none ∙ sym (append-nil (layout r))) ∙ parsed_again r [] is

pub is_it : (o : Option Entry) (r : Entry) → o ≡ Some r → or_blank o ≡ r
is_it o r is = ap or_blank is
