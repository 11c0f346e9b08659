-- What is read stands in front, and what isn't read is no layout.
use Rattle.std.proofs.Common.{◌≡◌, ℕ, ◌++◌, List, drop, Option, Some, None, sym, ap, ◌∙◌}
use Rattle.std.specs.Prelude.{IfSome, IfNone}
use Rattle.record_codec.specs.Entry.{Entry}
use Rattle.mq_bytes.specs.Bytes.{AreBytes}
use Rattle.record_codec.specs.Layout.{size, layout, IsRecord}
use Rattle.record_codec.specs.Parsed.{parsed}
use Rattle.record_codec.proofs.Records.{parsed_takes, parsed_again}

pub found_by : (b : List ℕ) (o : Option Entry) → AreBytes b → o ≡ parsed b → IfSome o (λ r. IsRecord r × ((rest : List ℕ) × (b ≡ layout r ++ rest)))
found_by b None fits e = tt
found_by b (Some r) fits e = let t = parsed_takes b r fits (sym e) in (t.0, (drop (size r) b, t.1))

none_some : (r : Entry) → None ≡ Some r → ⊥
none_some r e = absurd cc

pub none_by : (b : List ℕ) (o : Option Entry) → o ≡ parsed b → IfNone o ((r : Entry) (rest : List ℕ) → IsRecord r → b ≡ layout r ++ rest → ⊥)
none_by b None e = λ r rest h is. none_some r (e ∙ ap parsed is ∙ parsed_again r rest h)
none_by b (Some r) e = tt
