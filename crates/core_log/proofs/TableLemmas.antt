-- The tables of queues as those of a log's records, with more room and with a record more.
use Rattle.std.proofs.Common.{◌≡◌, ⊎_elim, refl, ap, sym, ◌∙◌, arith, ℕ, zero, suc, ◌<◌, ◌≤◌, ◌==◌, ◌&&◌, true, false, List, [], ◌∷◌, ◌++◌, length, take, map, slice_get, slice_set, Some, None, Result, Ok, Err, OnOk, OnErr}
use Rattle.std.specs.Str.{bytes_eq}
use Rattle.std.proofs.lemmas.Bool.{cases_Bool, and_parts}
use Rattle.std.proofs.lemmas.Bool.Decides.{Decides-eqb}
use Rattle.std.proofs.lemmas.Slice.Eq.{bytes_eq-Decides}
use Rattle.std.proofs.lemmas.List.{take-map}
use Rattle.std.proofs.lemmas.List.Quantifiers.{position-Some}
use Rattle.std.proofs.lemmas.Option.{get_or_from_slice_get}
use Rattle.record_codec.specs.Entry.{Entry}
use Rattle.record_codec.specs.Units.{unit_of}
use Rattle.log_model.specs.Bases.{Base}
use Rattle.log_model.specs.Queues.{queue_of}
use Rattle.log_model.proofs.Lists.{option_cases}
use Rattle.queue_view.specs.declared.stored.StoredUnit.{StoredUnit}
use Rattle.queue_view.specs.Tables.{Table, is_of, number_of, with_room, empty_table}
use Rattle.queue_view.specs.Added as view
use Rattle.queue_view.specs.Added.{Added, queue_in}
use Rattle.queue_view.proofs.Lists.{some_one}
use Rattle.queue_view.proofs.NumberedLemmas.{number_of-set, number_of-push, number_of-kept, number_within}
use Rattle.pending_log.specs.declared.rows.Row.{Row}
use Rattle.pending_log.specs.Rows.{AreAlike}
use Rattle.core_log.specs.Represents.{stored_unit, AreTablesOf, AreTabled}

-- ---- a log's records as the tables see them

abbrev pub as_added : Entry → Added
as_added r = record { topic = r.topic; queue = r.queue; unit = unit_of r; store = r.store }

pub queue_is : (records : List Entry) (topic : List ℕ) (queue : ℕ) → queue_in (map as_added records) topic queue ≡ map stored_unit (queue_of records topic queue)
queue_is [] topic queue = refl
queue_is (r ∷ records) topic queue = ⊎_elim
    (λ (of_it : (bytes_eq r.topic topic && (r.queue == queue)) ≡ true). rw of_it (ap (λ (us : List StoredUnit). stored_unit r ∷ us) (queue_is records topic queue)))
    (λ (other : (bytes_eq r.topic topic && (r.queue == queue)) ≡ false). rw other (queue_is records topic queue))
    (cases_Bool (bytes_eq r.topic topic && (r.queue == queue)))

-- a queue that has no table has no records
no_records : (tables : List Table) (records : List Entry) (rows : List Row) (topic : List ℕ) (queue : ℕ) → AreAlike rows records → AreTabled tables records rows → number_of tables topic queue ≡ None
    → queue_of records topic queue ≡ []
no_records tables [] rows topic queue alike tabled none = refl
no_records tables (r ∷ records) [] topic queue alike tabled none = absurd alike
no_records tables (r ∷ records) (row ∷ rows) topic queue alike tabled none = ⊎_elim
    (λ (of_it : (bytes_eq r.topic topic && (r.queue == queue)) ≡ true).
    let parts = and_parts (bytes_eq r.topic topic) (r.queue == queue) of_it in
    let bad : None ≡ Some row.table = sym none
    ∙ ap (λ (name : List ℕ). number_of tables name queue) (sym ((bytes_eq-Decides r.topic topic).0 parts.0))
    ∙ ap (λ q. number_of tables r.topic q) (sym ((Decides-eqb r.queue queue).0 parts.1)) ∙ tabled zero r row refl refl in
    cc bad)
    (λ (other : (bytes_eq r.topic topic && (r.queue == queue)) ≡ false). rw other (no_records tables records rows topic queue alike.2 (λ k q x at_q at_x. tabled (suc k) q x at_q at_x) none))
    (cases_Bool (bytes_eq r.topic topic && (r.queue == queue)))

map_length : (rs : List Entry) → length (map stored_unit rs) ≡ length rs
map_length [] = refl
map_length (r ∷ rs) = ap (λ n. suc n) (map_length rs)

pub to_view : (base : Base) (records : List Entry) (n : ℕ) (tables : List Table) (rows : List Row) → AreAlike rows records → AreTabled tables records rows → AreTablesOf base records n tables
    → view.AreTablesOf base.queues (map as_added records) n tables
to_view base records n tables rows alike tabled are = record {
  each = λ k t at.
      let is = are.each k t at in
      record {
        first = is.low;
        units = is.units ∙ sym (queue_is records t.topic t.queue);
        seen = is.seen ∙ sym (ap (λ (rs : List Added). length (queue_in rs t.topic t.queue)) (take-map as_added n records) ∙ ap length (queue_is (take n records) t.topic t.queue)
            ∙ map_length (queue_of (take n records) t.topic t.queue));
      };
  found = are.one;
  none = λ topic queue absent. (are.known topic queue absent, queue_is records topic queue ∙ ap (λ (rs : List Entry). map stored_unit rs) (no_records tables records rows topic queue alike tabled absent));
}

pub from_view : (base : Base) (records : List Entry) (n : ℕ) (tables : List Table) → view.AreTablesOf base.queues (map as_added records) n tables → AreTablesOf base records n tables
from_view base records n tables are = record {
  each = λ k t at.
      let is = are.each k t at in
      record {
        low = is.first;
        units = is.units ∙ queue_is records t.topic t.queue;
        seen = is.seen ∙ ap (λ (rs : List Added). length (queue_in rs t.topic t.queue)) (take-map as_added n records) ∙ ap length (queue_is (take n records) t.topic t.queue)
            ∙ map_length (queue_of (take n records) t.topic t.queue);
      };
  one = are.found;
  known = λ topic queue absent. (are.none topic queue absent).0;
}

pub map_push : {A B : Type 0} (f : A → B) (xs : List A) (x : A) → map f (xs ++ x ∷ []) ≡ map f xs ++ f x ∷ []
map_push f [] x = refl
map_push f (y ∷ xs) x = ap (λ (ys : List _). f y ∷ ys) (map_push f xs x)

-- the table with a queue's number is that queue's
pub is_its_table : (tables : List Table) (topic : List ℕ) (queue k : ℕ) (t : Table) → number_of tables topic queue ≡ Some k → slice_get tables k ≡ Some t → (t.topic ≡ topic) × (t.queue ≡ queue)
is_its_table tables topic queue k t mine at =
    let found = position-Some (is_of topic queue) tables k t mine in
    let passes : is_of topic queue t ≡ true = ap (is_of topic queue) (sym (get_or_from_slice_get tables k t t at)) ∙ found.1 in
    let parts = and_parts (bytes_eq t.topic topic) (t.queue == queue) passes in
    ((bytes_eq-Decides t.topic topic).0 parts.0, (Decides-eqb t.queue queue).0 parts.1)

-- ---- the tables of rows

-- where each queue that had a table has the same one
pub tabled_kept : (old new : List Table) (records : List Entry) (rows : List Row) → ((topic : List ℕ) (queue k : ℕ) → number_of old topic queue ≡ Some k → number_of new topic queue ≡ Some k)
    → AreTabled old records rows → AreTabled new records rows
tabled_kept old new records rows kept are k r row at_r at_row = kept r.topic r.queue row.table (are k r row at_r at_row)

-- with a record and its row
pub tabled_push : (tables : List Table) (records : List Entry) (rows : List Row) (r : Entry) (row : Row) → AreAlike rows records → AreTabled tables records rows → number_of tables r.topic r.queue ≡ Some row.table
    → AreTabled tables (records ++ r ∷ []) (rows ++ row ∷ [])
tabled_push tables [] [] r row alike are mine zero q x at_q at_x =
    let same_record : r ≡ q = some_one at_q in
    let same_row : row ≡ x = some_one at_x in
    ap (λ (e : Entry). number_of tables e.topic e.queue) (sym same_record) ∙ mine ∙ ap (λ (y : Row). Some y.table) same_row
tabled_push tables [] [] r row alike are mine (suc k) q x at_q at_x = cc at_q
tabled_push tables [] (y ∷ rows) r row alike are mine k q x at_q at_x = absurd alike
tabled_push tables (e ∷ records) [] r row alike are mine k q x at_q at_x = absurd alike
tabled_push tables (e ∷ records) (y ∷ rows) r row alike are mine zero q x at_q at_x = are zero q x at_q at_x
tabled_push tables (e ∷ records) (y ∷ rows) r row alike are mine (suc k) q x at_q at_x =
    tabled_push tables records rows r row alike.2 (λ j p z at_p at_z. are (suc j) p z at_p at_z) mine k q x at_q at_x

-- ---- room

set_here : {A : Type 0} (xs : List A) (k : ℕ) (x y : A) → slice_get (slice_set xs k x) k ≡ Some y → y ≡ x
set_here [] k x y e = cc e
set_here (z ∷ xs) zero x y e = cc e
set_here (z ∷ xs) (suc k) x y e = set_here xs k x y e

get_last : {A : Type 0} (xs : List A) (x : A) → slice_get (xs ++ x ∷ []) (length xs) ≡ Some x
get_last [] x = refl
get_last (z ∷ xs) x = get_last xs x

pub there_is : {A : Type 0} (xs : List A) (n : ℕ) → n < length xs → (x : A) × (slice_get xs n ≡ Some x)
there_is [] n h = absurd (let none : ⊥ = omega (arith, h) in none)
there_is (x ∷ xs) zero h = (x, refl)
there_is (x ∷ xs) (suc n) h = there_is xs n (omega (arith, h))

-- room was made for one unit more in the table of a queue that has one
abbrev pub MoreRoom : {A E : Type 0} → Result A E → List Table → List Table → List ℕ → ℕ → Type 0
MoreRoom result old new topic queue = (k : ℕ) (t : Table) → number_of old topic queue ≡ Some k → slice_get old k ≡ Some t
    → (s : ℕ) × (t.spare ≤ s) × (OnOk result (1 ≤ s)) × (new ≡ slice_set old k (with_room t s))

-- or in the table that was made for it
abbrev pub NewTable : {A E : Type 0} → Result A E → List Table → List Table → List ℕ → ℕ → Type 0
NewTable result old new topic queue = number_of old topic queue ≡ None → OnOk result ((s : ℕ) × (1 ≤ s) × (new ≡ old ++ empty_table topic queue 0 s ∷ []))

-- or nothing changed
abbrev pub NoTable : {A E : Type 0} → Result A E → List Table → List Table → List ℕ → ℕ → Type 0
NoTable result old new topic queue = number_of old topic queue ≡ None → OnErr result (new ≡ old)

made_kept : {A E : Type 0} (result : Result A E) (old new : List Table) (topic : List ℕ) (queue : ℕ) → OnOk result ((s : ℕ) × (1 ≤ s) × (new ≡ old ++ empty_table topic queue 0 s ∷ []))
    → OnErr result (new ≡ old) → (name : List ℕ) (q k : ℕ) → number_of old name q ≡ Some k → number_of new name q ≡ Some k
made_kept (Ok a) old new topic queue made same name q k is =
    ap (λ (ts : List Table). number_of ts name q) made.2 ∙ number_of-kept old (empty_table topic queue 0 made.0) name q k is
made_kept (Err e) old new topic queue made same name q k is = ap (λ (ts : List Table). number_of ts name q) same ∙ is

-- each queue that had a table has the same one
pub numbers_kept : {A E : Type 0} (result : Result A E) (old new : List Table) (topic : List ℕ) (queue : ℕ) → MoreRoom result old new topic queue → NewTable result old new topic queue → NoTable result old new topic queue
    → (name : List ℕ) (q k : ℕ) → number_of old name q ≡ Some k → number_of new name q ≡ Some k
numbers_kept result old new topic queue there absent same name q k is = ⊎_elim
    (λ (none : number_of old topic queue ≡ None). made_kept result old new topic queue (absent none) (same none) name q k is)
    (λ (some : (j : ℕ) × (number_of old topic queue ≡ Some j)).
    let t = there_is old some.0 (number_within old topic queue some.0 some.1) in
    let room = there some.0 t.0 some.1 t.1 in
    ap (λ (ts : List Table). number_of ts name q) room.3 ∙ number_of-set old some.0 t.0 (with_room t.0 room.0) t.1 refl refl name q ∙ is)
    (option_cases (number_of old topic queue))

ok_of : {A E P : Type 0} (r : Result A E) (a : A) → r ≡ Ok a → OnOk r P → P
ok_of (Ok b) a e p = p
ok_of (Err x) a e p = cc e

-- the queue's table has room
pub room_made : {E : Type 0} (old new : List Table) (topic : List ℕ) (queue n k : ℕ) (result : Result ℕ E) → result ≡ Ok n → MoreRoom result old new topic queue → NewTable result old new topic queue
    → number_of new topic queue ≡ Some k → (t : Table) → slice_get new k ≡ Some t → 0 < t.spare
room_made old new topic queue n k result is there absent mine t at = ⊎_elim
    (λ (none : number_of old topic queue ≡ None).
    let made = ok_of result n is (absent none) in
    let last : number_of new topic queue ≡ Some (length old) = number_of-push old new (empty_table topic queue 0 made.0) topic queue (length old) refl refl refl made.2 none in
    let at_last : k ≡ length old = some_one (sym mine ∙ last) in
    let is_new : empty_table topic queue 0 made.0 ≡ t = some_one (sym (get_last old (empty_table topic queue 0 made.0)) ∙ ap (λ (ts : List Table). slice_get ts (length old)) (sym made.2) ∙ ap (slice_get new) (sym at_last) ∙ at) in
    let spare : made.0 ≡ t.spare = ap (λ (u : Table). u.spare) is_new in
    let some = made.1 in
    omega (arith, some, spare))
    (λ (some : (j : ℕ) × (number_of old topic queue ≡ Some j)).
    let was = there_is old some.0 (number_within old topic queue some.0 some.1) in
    let room = there some.0 was.0 some.1 was.1 in
    let first : number_of new topic queue ≡ Some some.0 =
    ap (λ (ts : List Table). number_of ts topic queue) room.3 ∙ number_of-set old some.0 was.0 (with_room was.0 room.0) was.1 refl refl topic queue ∙ some.1 in
    let at_it : k ≡ some.0 = some_one (sym mine ∙ first) in
    let got : slice_get (slice_set old some.0 (with_room was.0 room.0)) some.0 ≡ Some t = ap (λ (ts : List Table). slice_get ts some.0) (sym room.3) ∙ ap (slice_get new) (sym at_it) ∙ at in
    let is_it : t ≡ with_room was.0 room.0 = set_here old some.0 (with_room was.0 room.0) t got in
    let spare : t.spare ≡ room.0 = ap (λ (u : Table). u.spare) is_it in
    let enough : 1 ≤ room.0 = ok_of result n is room.2 in
    omega (arith, enough, spare))
    (option_cases (number_of old topic queue))
