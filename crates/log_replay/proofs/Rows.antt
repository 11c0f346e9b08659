-- The queues of a log, one record on, and the counts of a base, one row on.
use Rattle.std.proofs.Common.{◌≡◌, ◌∙◌, ℕ, zero, suc, ◌+◌, ◌<◌, ◌||◌, Bool, true, false, cond, List, [], ◌∷◌, ◌++◌, length, get_or, take, map, refl, sym, ap, arith, append-nil}
use Rattle.std.specs.Prelude.{not, filter, String}
use Rattle.std.specs.List.{list_any}
use Rattle.std.proofs.lemmas.List.{map-append}
use Rattle.std.proofs.lemmas.List.Elements.{filter-append}
use Rattle.record_codec.specs.declared.draft.Record.{Record}
use Rattle.record_codec.specs.Entry.{Entry}
use Rattle.log_model.specs.Queues.{said_by, entries_of}
use Rattle.log_model.specs.Told.{with_count, with_counts, counts_in}
use Rattle.log_replay.specs.Replays.{are_of_one_queue, first_records, row_of}

-- one more, at an index
pub more_in : {A : Type 0} (xs : List A) (i : ℕ) (r : A) → i < length xs → r ≡ get_or xs i r → take (i + 1) xs ≡ take i xs ++ r ∷ []
more_in [] i r low is = absurd (omega (arith, low))
more_in {A = A} (x ∷ xs) zero r low is = ap (λ (y : A). y ∷ []) (sym is)
more_in {A = A} (x ∷ xs) (suc i) r low is =
    let one : suc i + 1 ≡ suc (i + 1) = omega arith in
    ap (λ (n : ℕ). take n (x ∷ xs)) one ∙ ap (λ (l : List A). x ∷ l) (more_in xs i r (omega (arith, low)) is)

-- what the records say, one record on
pub front_more : (log : List Record) (i : ℕ) (r : Record) → i < length log → r ≡ get_or log i r → entries_of (take (i + 1) log) ≡ entries_of (take i log) ++ said_by r ∷ []
front_more log i r low is = ap (λ (l : List Record). map said_by l) (more_in log i r low is) ∙ map-append said_by (take i log) (r ∷ [])

kept : (s a : Bool) (r x : Entry) (firsts : List Entry) (P : Entry → Bool) → P x ≡ not s
    → r ∷ filter P (cond a firsts (firsts ++ x ∷ [])) ≡ cond (s || a) (r ∷ filter P firsts) (r ∷ (filter P firsts ++ x ∷ []))
kept true true r x firsts P is = refl
kept false true r x firsts P is = refl
kept true false r x firsts P is =
    ap (λ (l : List Entry). r ∷ l) (filter-append P firsts (x ∷ []) ∙ ap (λ (b : Bool). filter P firsts ++ cond b (x ∷ []) []) is ∙ append-nil (filter P firsts))
kept false false r x firsts P is =
    ap (λ (l : List Entry). r ∷ l) (filter-append P firsts (x ∷ []) ∙ ap (λ (b : Bool). filter P firsts ++ cond b (x ∷ []) []) is)

pub first_records-more : (log : List Entry) (x : Entry)
    → first_records (log ++ x ∷ []) ≡ cond (list_any (λ (e : Entry). are_of_one_queue e x) log) (first_records log) (first_records log ++ x ∷ [])
first_records-more [] x = refl
first_records-more (r ∷ log) x =
    let P : Entry → Bool = λ later. not (are_of_one_queue r later) in
    ap (λ (l : List Entry). r ∷ filter P l) (first_records-more log x)
    ∙ kept (are_of_one_queue r x) (list_any (λ (e : Entry). are_of_one_queue e x) log) r x (first_records log) P refl

rows_by : {A B : Type 0} (a : Bool) (f : A → B) (xs : List A) (x : A) → cond a (map f xs) (map f xs ++ f x ∷ []) ≡ map f (cond a xs (xs ++ x ∷ []))
rows_by true f xs x = refl
rows_by false f xs x = sym (map-append f xs (x ∷ []))

pub rows_more : (log front : List Entry) (x : Entry)
    → cond (list_any (λ (e : Entry). are_of_one_queue e x) front) (map (row_of log) (first_records front)) (map (row_of log) (first_records front) ++ row_of log x ∷ [])
    ≡ map (row_of log) (first_records (front ++ x ∷ []))
rows_more log front x =
    rows_by (list_any (λ (e : Entry). are_of_one_queue e x) front) (row_of log) (first_records front) x
    ∙ ap (λ (l : List Entry). map (row_of log) l) (sym (first_records-more front x))

with_counts-more : {A : Type 0} (rows : List (String A × ℕ × ℕ)) (row : String A × ℕ × ℕ) (counts : List ℕ → ℕ → ℕ)
    → with_counts (rows ++ row ∷ []) counts ≡ with_count row (with_counts rows counts)
with_counts-more [] row counts = refl
with_counts-more (x ∷ rows) row counts = with_counts-more rows row (with_count x counts)

pub count_more : {A : Type 0} (rows : List (String A × ℕ × ℕ)) (i : ℕ) (row : String A × ℕ × ℕ) (topic : List ℕ) (queue n : ℕ) → i < length rows → row ≡ get_or rows i row
    → n ≡ counts_in (take i rows) topic queue → with_count row (λ t q. n) topic queue ≡ counts_in (take (i + 1) rows) topic queue
count_more {A = A} rows i row topic queue n low is counted =
    ap (λ (k : ℕ). with_count row (λ t q. k) topic queue) counted
    ∙ sym (ap (λ (l : List (String A × ℕ × ℕ)). counts_in l topic queue) (more_in rows i row low is)
    ∙ ap (λ (counts : List ℕ → ℕ → ℕ). counts topic queue) (with_counts-more (take i rows) row (λ t q. 0)))
