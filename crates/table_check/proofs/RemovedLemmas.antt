-- Queues of which records were removed, and which have no table.
use Rattle.std.proofs.Common.{◌≡◌, ◌⊎◌, ⊎_elim, inl, inr, refl, ap, sym, ◌∙◌, arith, ℕ, zero, suc, ◌<◌, ◌==◌, ◌&&◌, ◌||◌, not, Bool, true, false, is_none, List, [], ◌∷◌, length, String, string_bytes, Option, Some, None, if◌then◌else◌}
use Rattle.std.specs.List.{list_any}
use Rattle.std.specs.Str.{bytes_eq}
use Rattle.std.proofs.lemmas.Bool.{cases_Bool, and_parts, or_cases, eqb-true}
use Rattle.std.proofs.lemmas.Slice.Eq.{bytes_eq-Decides}
use Rattle.record_codec.specs.Entry.{Entry}
use Rattle.log_model.specs.Numbered.{queue_max}
use Rattle.log_model.specs.Told.{with_count, with_counts, counts_in}
use Rattle.log_model.specs.declared.base.Base.{Base as Told}
use Rattle.queue_view.specs.Tables.{Table, number_of}
use Rattle.table_check.specs.Beside.{HavePassed, log_from}
use Rattle.table_check.specs.Equal.{AreQueuesOf}

false_or : (a b : Bool) → (a || b) ≡ false → (a ≡ false) × (b ≡ false)
false_or true b e = cc e
false_or false b e = (refl, e)

none_is : {A : Type 0} (o : Option A) → is_none o ≡ true → o ≡ None
none_is None e = refl
none_is (Some x) e = cc e

-- a test that tells a queue tells its names
names_of : (name topic : List ℕ) (number queue : ℕ) → (bytes_eq name topic && (number == queue)) ≡ true → (name ≡ topic) × (number ≡ queue)
names_of name topic number queue both =
    let parts = and_parts (bytes_eq name topic) (number == queue) both in
    ((bytes_eq-Decides name topic).0 parts.0, eqb-true number queue parts.1)

number_as : (tables : List Table) (name topic : List ℕ) (number queue : ℕ) → name ≡ topic → number ≡ queue → number_of tables name number ≡ number_of tables topic queue
number_as tables name topic number queue same_name same_number = ap (λ (t : List ℕ). number_of tables t number) same_name ∙ ap (number_of tables topic) same_number

-- ---- rows

-- the queue of the row has no table, though the rows count records of it
abbrev pub is_lost_row : {A : Type 0} → List Table → List (String A × ℕ × ℕ) → String A × ℕ × ℕ → Bool
is_lost_row tables all row = is_none (number_of tables (string_bytes row.0) row.1) && not (counts_in all (string_bytes row.0) row.1 == 0)

not_true : (b : Bool) → not b ≡ false → b ≡ true
not_true true e = refl
not_true false e = cc e

not_false : (b : Bool) → not b ≡ true → b ≡ false
not_false true e = cc e
not_false false e = refl

and_false : (a b : Bool) → a ≡ true → (a && b) ≡ false → b ≡ false
and_false true b first e = e
and_false false b first e = cc first

positive : (n : ℕ) → (n == 0) ≡ false → 0 < n
positive zero e = cc e
positive (suc n) e = omega arith

-- what these rows add to counts is nothing for a queue without a table, or all rows count none of it
counted : {A : Type 0} (tables : List Table) (all rows : List (String A × ℕ × ℕ)) (counts : List ℕ → ℕ → ℕ) (topic : List ℕ) (queue : ℕ) → list_any (is_lost_row tables all) rows ≡ false → number_of tables topic queue ≡ None
    → (with_counts rows counts topic queue ≡ counts topic queue) ⊎ (counts_in all topic queue ≡ 0)
counted tables all [] counts topic queue none absent = inl refl
counted tables all (row ∷ rows) counts topic queue none absent =
    let parts = false_or (is_lost_row tables all row) (list_any (is_lost_row tables all) rows) none in
    let name = string_bytes row.0 in
    ⊎_elim
    (λ (its : (bytes_eq name topic && (row.1 == queue)) ≡ true).
    let names = names_of name topic row.1 queue its in
    let gone : is_none (number_of tables name row.1) ≡ true = ap is_none (number_as tables name topic row.1 queue names.0 names.1 ∙ absent) in
    let zero_ : (counts_in all name row.1 == 0) ≡ true = not_true (counts_in all name row.1 == 0) (and_false (is_none (number_of tables name row.1)) (not (counts_in all name row.1 == 0)) gone parts.0) in
    inr (ap (λ (t : List ℕ). counts_in all t queue) (sym names.0) ∙ ap (counts_in all name) (sym names.1) ∙ eqb-true (counts_in all name row.1) 0 zero_))
    (λ (other : (bytes_eq name topic && (row.1 == queue)) ≡ false).
    ⊎_elim
    (λ (same : with_counts rows (with_count row counts) topic queue ≡ with_count row counts topic queue). inl (same ∙ ap (λ b. if b then row.2 else counts topic queue) other))
    (λ (nothing : counts_in all topic queue ≡ 0). inr nothing)
    (counted tables all rows (with_count row counts) topic queue parts.1 absent))
    (cases_Bool (bytes_eq name topic && (row.1 == queue)))

pub none_counted : {A : Type 0} (tables : List Table) (rows : List (String A × ℕ × ℕ)) (topic : List ℕ) (queue : ℕ) → list_any (is_lost_row tables rows) rows ≡ false → number_of tables topic queue ≡ None → counts_in rows topic queue ≡ 0
none_counted tables rows topic queue none absent = ⊎_elim
    (λ (same : counts_in rows topic queue ≡ 0). same)
    (λ (nothing : counts_in rows topic queue ≡ 0). nothing)
    (counted tables rows rows (λ t q. 0) topic queue none absent)

-- a queue without a table that is counted
record HasLostRow {A : Type 0} (tables : List Table) (all : List (String A × ℕ × ℕ)) : Type 0 where
  topic : List ℕ
  queue : ℕ
  absent : number_of tables topic queue ≡ None
  some : 0 < counts_in all topic queue

has_lost_row : {A : Type 0} (tables : List Table) (all rows : List (String A × ℕ × ℕ)) → list_any (is_lost_row tables all) rows ≡ true → HasLostRow tables all
has_lost_row tables all [] some = cc some
has_lost_row tables all (row ∷ rows) some = ⊎_elim
    (λ (lost : is_lost_row tables all row ≡ true).
    let name = string_bytes row.0 in
    let parts = and_parts (is_none (number_of tables name row.1)) (not (counts_in all name row.1 == 0)) lost in
    record {
      topic = name;
      queue = row.1;
      absent = none_is (number_of tables name row.1) parts.0;
      some = positive (counts_in all name row.1) (not_false (counts_in all name row.1 == 0) parts.1);
    })
    (λ (later : list_any (is_lost_row tables all) rows ≡ true). has_lost_row tables all rows later)
    (or_cases (is_lost_row tables all row) (list_any (is_lost_row tables all) rows) some)

-- ---- the tables

-- a queue that is counted lacks its table
pub row_differs : (base : Told) (records : List Entry) (tables : List Table) → list_any (is_lost_row tables base.queues.items) base.queues.items ≡ true → AreQueuesOf (log_from base records) tables → ⊥
row_differs base records tables lost are =
    let one = has_lost_row tables base.queues.items base.queues.items lost in
    let none = are.none one.topic one.queue one.absent in
    let some = one.some in
    omega (arith, none, some)

-- and where none lacks one, a queue without a table never had a record
pub none_lost : (base : Told) (records : List Entry) (tables : List Table) (units : List ℕ) → HavePassed records tables units → list_any (is_lost_row tables base.queues.items) base.queues.items ≡ false
    → (topic : List ℕ) (queue : ℕ) → number_of tables topic queue ≡ None → queue_max (log_from base records) topic queue ≡ 0
none_lost base records tables units have counted_ topic queue absent =
    let records_ = ap (λ (rs : List Entry). length rs) (have.none topic queue absent) in
    let removed = none_counted tables base.queues.items topic queue counted_ absent in
    omega (arith, records_, removed)
