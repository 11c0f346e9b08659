-- Where the names and values of fields stand in one text.
use Rattle.std.specs.Prelude.{ℕ, ◌+◌, ◌-◌, ◌≤◌, List, length, map, take, drop}
use Rattle.std.specs.Str.{IsCharBoundary}
use Rattle.remoting_frame.specs.declared.fields.Span.{Span}

-- the part of the text from one number of bytes up to another
abbrev pub part : List ℕ → ℕ → ℕ → List ℕ
part text from to = take (to - from) (drop from text)

-- the name and the value at this span
abbrev pub field_at : List ℕ → Span → List ℕ × List ℕ
field_at text p = (part text p.name p.value, part text p.value p.end)

-- the fields at these spans
abbrev pub fields_at : List ℕ → List Span → List (List ℕ × List ℕ)
fields_at text spans = map (field_at text) spans

-- the span of a name and a value behind a text that has so many bytes
abbrev pub span_behind : ℕ → List ℕ → List ℕ → Span
span_behind start name value = record { name = start; value = start + length name; end = start + length name + length value }

-- the name and the value are within the text, and end where a character does
pub record IsSpan (text : List ℕ) (p : Span) : Type 0 where
  pub name : p.name ≤ p.value
  pub value : p.value ≤ p.end
  pub before_name : IsCharBoundary text p.name
  pub before_value : IsCharBoundary text p.value
  pub behind : IsCharBoundary text p.end
