-- What may stand at the front of bytes: one record, or a blank, and not both.
use Rattle.std.proofs.Common.{◌≡◌, ℕ, ◌+◌, ◌-◌, ◌≤◌, List, [], ◌∷◌, ◌++◌, length, get_or, take, replicate, Some, refl, sym, ◌∙◌, ap, arith, length-append}
use Rattle.std.proofs.lemmas.Option.{same_Some}
use Rattle.std.proofs.lemmas.List.{take_at}
use Rattle.mq_outside.specs.Files.{Files}
use Rattle.record_codec.specs.Entry.{Entry}
use Rattle.record_codec.specs.Layout.{layout, size, front, sealed}
use Rattle.record_codec.specs.Parsed.{parsed}
use Rattle.record_codec.specs.Blanks.{blank_front}
use Rattle.record_codec.proofs.Records.{parsed_again}
use Rattle.record_codec.proofs.LayoutLengths.{length-layout}
use Rattle.log_model.specs.Bases.{Geometry}
use Rattle.log_model.specs.Segments.{layouts, closed, AreClosed, blank_of}
use Rattle.log_model.specs.Store.{StartsWith, EndsInBlank, AreEnded}
use Rattle.log_model.proofs.Places.{AreRoomy}
use Rattle.log_model.proofs.Steps.{length-blank_of}

-- one record at most stands at the front
pub starts_same : (bytes : List ℕ) (a b : Entry) → StartsWith bytes a → StartsWith bytes b → a ≡ b
starts_same bytes a b first second =
    let one : parsed bytes ≡ Some a = ap parsed first.split ∙ parsed_again a first.rest first.is in
    let two : parsed bytes ≡ Some b = ap parsed second.split ∙ parsed_again b second.rest second.is in
    same_Some a b (sym one ∙ two)

-- the layout of a record that stands at the front
pub starts_layout : (bytes : List ℕ) (r : Entry) → StartsWith bytes r → take (size r) bytes ≡ layout r
starts_layout bytes r starts = ap (λ (l : List ℕ). take (size r) l) starts.split ∙ take_at (layout r) starts.rest (size r) (length-layout r)

-- a record has bytes
pub starts_some : (r : Entry) → StartsWith [] r → ⊥
starts_some r starts = omega (arith, ap length starts.split, length-append (layout r) starts.rest, length-layout r)

magic_byte : (r : Entry) (rest : List ℕ) → get_or (layout r ++ rest) 4 0 ≡ 0xDA
unfolding sealed front
magic_byte r rest = refl

blank_byte : (n : ℕ) (rest : List ℕ) → get_or (blank_front n ++ rest) 4 0 ≡ 0xCB
blank_byte n rest = refl

-- a record is no blank
pub starts_no_blank : (bytes : List ℕ) (r : Entry) (n : ℕ) (rest : List ℕ) → StartsWith bytes r → bytes ≡ blank_front n ++ rest → ⊥
starts_no_blank bytes r n rest starts is =
    omega (arith, sym (magic_byte r starts.rest) ∙ sym (ap (λ (l : List ℕ). get_or l 4 0) starts.split) ∙ ap (λ (l : List ℕ). get_or l 4 0) is ∙ blank_byte n rest)

-- a segment that is closed ends in a blank
pub closed_ends : (S : Geometry) (records : List Entry) → length (layouts records) + 8 ≤ S.size → EndsInBlank S records (closed S records)
closed_ends S records room = record {
  rest = replicate (S.size - length (layouts records) - 8) 0;
  split = refl;
  long = omega (arith, length-append (layouts records) (blank_of (S.size - length (layouts records))), length-blank_of (S.size - length (layouts records)) (omega (arith, room)), room);
}

pub closed_ended : (S : Geometry) (older : List (List Entry)) (files : Files) → AreRoomy S older → AreClosed S older files → AreEnded S older files
closed_ended S [] files roomy are = tt
closed_ended S (records ∷ older) files roomy are = ((closed S records, are.0, closed_ends S records roomy.0), closed_ended S older files roomy.1 are.1)
