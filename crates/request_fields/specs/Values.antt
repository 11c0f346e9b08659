-- The values of a request's fields.
use Rattle.std.specs.Prelude.{ℕ, List, [], ℤ, option_and_then, unwrap_or}
use Rattle.record_codec.specs.Props.{value_of}
use Rattle.request_fields.specs.Kinds.{i32_in, i64_in, u31_in, time_in, count_in, verdict_in}

-- the text of a field, empty where it is absent
unfoldable pub text_at : List ℕ → List (List ℕ × List ℕ) → List ℕ
text_at name ext = unwrap_or (value_of name ext) []

-- the number of a field, or the default where it is absent
unfoldable pub i32_or : ℤ → List ℕ → List (List ℕ × List ℕ) → ℤ
i32_or default name ext = unwrap_or (option_and_then i32_in (value_of name ext)) default

-- the same for 64 bits
unfoldable pub i64_or : ℤ → List ℕ → List (List ℕ × List ℕ) → ℤ
i64_or default name ext = unwrap_or (option_and_then i64_in (value_of name ext)) default

-- the number of a field, 0 where it is absent
unfoldable pub u31_at : List ℕ → List (List ℕ × List ℕ) → ℕ
u31_at name ext = unwrap_or (option_and_then u31_in (value_of name ext)) 0

-- the same for times, offsets and places
unfoldable pub time_at : List ℕ → List (List ℕ × List ℕ) → ℕ
time_at name ext = unwrap_or (option_and_then time_in (value_of name ext)) 0

-- the same for counts
unfoldable pub count_at : List ℕ → List (List ℕ × List ℕ) → ℕ
count_at name ext = unwrap_or (option_and_then count_in (value_of name ext)) 0

-- the same for verdicts
unfoldable pub verdict_at : List ℕ → List (List ℕ × List ℕ) → ℕ
verdict_at name ext = unwrap_or (option_and_then verdict_in (value_of name ext)) 0
