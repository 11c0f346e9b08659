-- What a pull answers.
use Rattle.std.specs.Prelude.{ℕ, ◌+◌, ◌-◌, ◌==◌, ◌&&◌, ◌||◌, not, nat_lt, nat_le, List, [], ◌∷◌, ◌++◌, map, filter}
use Rattle.std.specs.Prelude.{reverse, drop, length, count_by, sum_by, codes, ℤ, pos, negsuc, Bool, if◌then◌else◌}
use Rattle.std.specs.List.{list_any}
use Rattle.std.specs.Str.{bytes_eq}
use Rattle.std.specs.Ordering.{int_eq}
use Rattle.mq_bytes.specs.Hashes.{java_hash}
use Rattle.record_codec.specs.Entry.{Entry}
use Rattle.record_codec.specs.LaxProps.{in_front}
use Rattle.record_codec.specs.Units.{unit_of}
use Rattle.record_codec.specs.declared.unit.Unit.{Unit as QueueUnit}
use Rattle.log_model.specs.Numbered.{Log, queue_min, records_of}
use Rattle.log_model.specs.Keys.{asked_number}

-- the texts between two bars each
abbrev pub between_bars : List ℕ → List (List ℕ)
between_bars [] = [] ∷ []
between_bars (b ∷ []) = (b ∷ []) ∷ []
between_bars (b ∷ c ∷ text) = if (b == 124) && (c == 124) then [] ∷ between_bars text else in_front b (between_bars (c ∷ text))

-- without the spaces in front
abbrev pub past_spaces : List ℕ → List ℕ
past_spaces [] = []
past_spaces (b ∷ text) = if b == 32 then past_spaces text else b ∷ text

abbrev pub trimmed : List ℕ → List ℕ
trimmed text = reverse (past_spaces (reverse (past_spaces text)))

-- the words of a subscription
abbrev pub words_in : List ℕ → List (List ℕ)
words_in text = filter (λ word. nat_lt 0 (length word)) (map trimmed (between_bars text))

-- an empty subscription, and a star, take all
abbrev pub takes_all : List ℕ → Bool
takes_all text = (length text == 0) || bytes_eq text (codes "*")

-- a subscription takes the unit
abbrev pub takes : List ℕ → QueueUnit → Bool
takes text unit = takes_all text || list_any (λ word. int_eq (java_hash word) unit.tag) (words_in text)

-- Below, what is pulled are units of a queue, or anything that has a unit, such as the records themselves.

-- after the examined ones this one is examined too: fewer than `most` were taken and fewer than 800 examined, and where
-- it is taken as well, the body has room for it
abbrev pub goes_on : {A : Type 0} → (A → QueueUnit) → ℕ → (QueueUnit → Bool) → List A → A → Bool
goes_on unit most test seen x =
    nat_lt (count_by (λ y. test (unit y)) seen) most && nat_lt (length seen) 800
    && (not (test (unit x)) || (count_by (λ y. test (unit y)) seen == 0)
    || nat_le (sum_by (λ y. (unit y).size) (filter (λ y. test (unit y)) seen) + (unit x).size) 262144)

-- the ones that are examined, as long as it goes on
abbrev pub examined : {A : Type 0} → (A → QueueUnit) → ℕ → (QueueUnit → Bool) → List A → List A → List A
examined unit most test seen [] = seen
examined unit most test seen (x ∷ xs) = if goes_on unit most test seen x then examined unit most test (seen ++ x ∷ []) xs else seen

-- a code, the next offset, the bounds of the queue, and what goes into the body
pub record Pulled (A : Type 0) : Type 0 where
  pub code : ℕ
  pub next : ℕ
  pub low : ℕ
  pub high : ℕ
  pub taken : List A

-- nothing is found
abbrev pub nothing : {A : Type 0} → ℕ → ℕ → ℕ → ℕ → Pulled A
nothing code next low high = record { code = code; next = next; low = low; high = high; taken = [] }

-- these were examined from the offset on
abbrev pub after_looking : {A : Type 0} → (A → QueueUnit) → ℕ → ℕ → ℕ → (QueueUnit → Bool) → List A → Pulled A
after_looking unit from low high test seen = record {
  code = if count_by (λ y. test (unit y)) seen == 0 then 20 else 0;
  next = from + length seen;
  low = low;
  high = high;
  taken = filter (λ y. test (unit y)) seen;
}

-- a pull from an offset of a queue, the first of which has the offset `low`
abbrev pub pulled_from : {A : Type 0} → (A → QueueUnit) → ℕ → List A → ℕ → ℕ → (QueueUnit → Bool) → Pulled A
pulled_from unit low queue from most test =
    if (low + length queue == 0) && (from == 0) then nothing 19 0 low (low + length queue)
    else (if nat_lt from low then nothing 21 low low (low + length queue)
    else (if from == low + length queue then nothing 19 (low + length queue) low (low + length queue)
    else (if nat_lt (low + length queue) from then nothing 21 (low + length queue) low (low + length queue)
    else after_looking unit from low (low + length queue) test (examined unit most test [] (drop (from - low) queue)))))

-- an offset below 0 is below each
abbrev pub pulled : {A : Type 0} → (A → QueueUnit) → ℕ → List A → ℤ → ℕ → (QueueUnit → Bool) → Pulled A
pulled unit low queue (pos from) most test = pulled_from unit low queue from most test
pulled unit low queue (negsuc from) most test = nothing 21 low low (low + length queue)

-- a pull of a queue of a log
abbrev pub pull_reply : Log → List ℕ → ℕ → ℤ → ℤ → List ℕ → Pulled Entry
pull_reply log topic queue from most text = pulled unit_of (queue_min log topic queue) (records_of log topic queue) from
    (asked_number 32 most) (takes text)

-- what was pulled, seen as something else
abbrev pub pulled_as : {A B : Type 0} → (A → B) → Pulled A → Pulled B
pulled_as f p = record { code = p.code; next = p.next; low = p.low; high = p.high; taken = map f p.taken }
