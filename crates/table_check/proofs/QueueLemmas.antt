-- The units of the tables of queues, with a record more.
use Rattle.std.proofs.Common.{◌≡◌, ◌≢◌, ⊎_elim, refl, ap, sym, ◌∙◌, subst, arith, ℕ, zero, suc, ◌+◌, ◌-◌, ◌<◌, ◌==◌, ◌&&◌, ◌↔◌, IsTrue, Bool, true, false, cond, List, [], ◌∷◌, ◌++◌, length, map, set, slice_get, get_or, Option, Some, None, eq-eqb, length-append}
use Rattle.std.proofs.lemmas.Bool.{and_parts, false_from_ne_true}
use Rattle.std.proofs.lemmas.Bool.Decides.{Decides-eqb}
use Rattle.std.proofs.lemmas.List.{length-map, map-append}
use Rattle.std.proofs.lemmas.List.Elements.{filter-append}
use Rattle.std.proofs.lemmas.List.Quantifiers.{position-Some}
use Rattle.std.proofs.lemmas.Option.{get_or_from_slice_get}
use Rattle.std.proofs.lemmas.Slice.Eq.{bytes_eq-Decides}
use Rattle.std.specs.Str.{bytes_eq}
use Rattle.record_codec.specs.Entry.{Entry}
use Rattle.log_model.specs.Numbered.{Log}
use Rattle.log_model.specs.Queues.{queue_of}
use Rattle.log_model.specs.Told.{counts_in}
use Rattle.log_model.specs.declared.base.Base.{Base as Told}
use Rattle.queue_view.proofs.Lists.{some_one}
use Rattle.queue_view.specs.Tables.{Table, is_of, number_of}
use Rattle.queue_view.specs.declared.stored.StoredUnit.{StoredUnit}
use Rattle.delay_view.proofs.GrowthLemmas.{get_there, at_set}
use Rattle.table_check.proofs.FrontLemmas.{no_front, next_front, has_next, as_front, whole_front}
use Rattle.table_check.specs.Beside.{HasPassed, HavePassed, log_from}
use Rattle.table_check.specs.Equal.{stored_unit, stored_units, IsQueueOf, AreApart, AreQueuesOf}
use Rattle.table_check.specs.Fronts.{BeginsWith}

-- ---- queues and their tables

-- the test of a queue's records
abbrev is_in : List ℕ → ℕ → Entry → Bool
is_in topic queue r = bytes_eq r.topic topic && (r.queue == queue)

its_own : (r : Entry) (topic : List ℕ) (queue : ℕ) → r.topic ≡ topic → r.queue ≡ queue → is_in topic queue r ≡ true
its_own r topic queue same_topic same_queue = rw ((bytes_eq-Decides r.topic topic).1 same_topic, eq-eqb r.queue queue same_queue) refl

names_of : (r : Entry) (topic : List ℕ) (queue : ℕ) → is_in topic queue r ≡ true → (r.topic ≡ topic) × (r.queue ≡ queue)
names_of r topic queue both =
    let parts = and_parts (bytes_eq r.topic topic) (r.queue == queue) both in
    ((bytes_eq-Decides r.topic topic).0 parts.0, (Decides-eqb r.queue queue).0 parts.1)

pub number_as : (tables : List Table) (name topic : List ℕ) (number queue : ℕ) → name ≡ topic → number ≡ queue → number_of tables name number ≡ number_of tables topic queue
number_as tables name topic number queue same_name same_number = ap (λ (t : List ℕ). number_of tables t number) same_name ∙ ap (number_of tables topic) same_number

-- a table that is found is the queue's
pub record IsFound (tables : List Table) (topic : List ℕ) (queue k : ℕ) : Type 0 where
  pub table : Table
  pub at : slice_get tables k ≡ Some table
  pub topic_is : table.topic ≡ topic
  pub queue_is : table.queue ≡ queue

pub table_found : (tables : List Table) (topic : List ℕ) (queue k : ℕ) → number_of tables topic queue ≡ Some k → IsFound tables topic queue k
table_found [] topic queue k e = cc e
table_found (x ∷ xs) topic queue k e =
    let found = position-Some (is_of topic queue) (x ∷ xs) k x e in
    let there = get_there (x ∷ xs) k found.0 in
    let t = there.0 in
    let is : is_of topic queue t ≡ true = subst (λ (u : Table). is_of topic queue u ≡ true) (get_or_from_slice_get (x ∷ xs) k t x there.1) found.1 in
    let parts = and_parts (bytes_eq t.topic topic) (t.queue == queue) is in
    record {
      table = t;
      at = there.1;
      topic_is = (bytes_eq-Decides t.topic topic).0 parts.0;
      queue_is = (Decides-eqb t.queue queue).0 parts.1;
    }

-- the number at an index, as it is read
pub unit_there : (units : List ℕ) (k n : ℕ) → k < length units → n ≡ get_or units k n → slice_get units k ≡ Some n
unit_there units k n within read =
    let there = get_there units k within in
    there.1 ∙ ap Some (sym (read ∙ get_or_from_slice_get units k there.0 n there.1))

-- ---- a record more in its queue

queue_more : (records : List Entry) (r : Entry) (topic : List ℕ) (queue : ℕ) (b : Bool) → is_in topic queue r ≡ b → queue_of (records ++ r ∷ []) topic queue ≡ queue_of records topic queue ++ cond b (r ∷ []) []
queue_more records r topic queue b is =
    filter-append (λ (x : Entry). bytes_eq x.topic topic && (x.queue == queue)) records (r ∷ [])
    ∙ ap (λ c. queue_of records topic queue ++ cond c (r ∷ []) []) is

append_none : {A : Type 0} (xs : List A) → xs ++ [] ≡ xs
append_none [] = refl
append_none (x ∷ xs) = ap (λ ys. x ∷ ys) (append_none xs)

queue_kept : (records : List Entry) (r : Entry) (topic : List ℕ) (queue : ℕ) → is_in topic queue r ≡ false → queue_of (records ++ r ∷ []) topic queue ≡ queue_of records topic queue
queue_kept records r topic queue other = queue_more records r topic queue false other ∙ append_none (queue_of records topic queue)

units_more : (records : List Entry) (r : Entry) (topic : List ℕ) (queue : ℕ) → is_in topic queue r ≡ true
    → stored_units (records ++ r ∷ []) topic queue ≡ stored_units records topic queue ++ stored_unit r ∷ []
units_more records r topic queue its = ap (map stored_unit) (queue_more records r topic queue true its) ∙ map-append stored_unit (queue_of records topic queue) (r ∷ [])

-- how many units of these records there are
units_count : (records : List Entry) (t : Table) (n : ℕ) → HasPassed records t n → n ≡ length (stored_units records t.topic t.queue)
units_count records t n has = has.count ∙ sym (length-map (queue_of records t.topic t.queue) stored_unit)

count_more : (records : List Entry) (r : Entry) (topic : List ℕ) (queue : ℕ) → is_in topic queue r ≡ true → length (queue_of (records ++ r ∷ []) topic queue) ≡ length (queue_of records topic queue) + 1
count_more records r topic queue its =
    ap (λ (rs : List Entry). length rs) (queue_more records r topic queue true its)
    ∙ length-append (queue_of records topic queue) (r ∷ [])

-- its table has passed one unit more
passed_more : (records : List Entry) (r : Entry) (t : Table) (n : ℕ) → HasPassed records t n → is_in t.topic t.queue r ≡ true → slice_get t.units n ≡ Some (stored_unit r) → HasPassed (records ++ r ∷ []) t (n + 1)
passed_more records r t n has its at = record {
  count = ap (λ m. m + 1) has.count ∙ sym (count_more records r t.topic t.queue its);
  units = subst (λ (us : List StoredUnit). BeginsWith t.units us) (sym (units_more records r t.topic t.queue its))
      (next_front t.units (stored_units records t.topic t.queue) n (stored_unit r) has.units (units_count records t n has) at);
}

-- another table has passed as many as before
passed_same : (records : List Entry) (r : Entry) (t : Table) (n : ℕ) → HasPassed records t n → is_in t.topic t.queue r ≡ false → HasPassed (records ++ r ∷ []) t n
passed_same records r t n has other = record {
  count = has.count ∙ sym (ap (λ (rs : List Entry). length rs) (queue_kept records r t.topic t.queue other));
  units = subst (λ (rs : List Entry). BeginsWith t.units (map stored_unit rs)) (sym (queue_kept records r t.topic t.queue other)) has.units;
}

-- a table with another number is not the record's
other_table : (tables : List Table) (r : Entry) (k j : ℕ) (t : Table) → AreApart tables → number_of tables r.topic r.queue ≡ Some k → slice_get tables j ≡ Some t → j ≢ k → is_in t.topic t.queue r ≡ false
other_table tables r k j t apart told at differs = false_from_ne_true (is_in t.topic t.queue r) (λ its.
    let names = names_of r t.topic t.queue its in
    differs (some_one (sym (apart j t at) ∙ sym (number_as tables r.topic t.topic r.queue t.queue names.0 names.1) ∙ told)))

no_table : (tables : List Table) (r : Entry) (k : ℕ) (topic : List ℕ) (queue : ℕ) → number_of tables r.topic r.queue ≡ Some k → number_of tables topic queue ≡ None → is_in topic queue r ≡ false
no_table tables r k topic queue told none = false_from_ne_true (is_in topic queue r) (λ its.
    let names = names_of r topic queue its in
    let bad : Some k ≡ None = sym told ∙ number_as tables r.topic topic r.queue queue names.0 names.1 ∙ none in cc bad)

length-set : {A : Type 0} (xs : List A) (k : ℕ) (x : A) → length (set xs k x) ≡ length xs
length-set [] k x = refl
length-set (y ∷ xs) zero x = refl
length-set (y ∷ xs) (suc k) x = ap suc (length-set xs k x)

-- all of them
pub units_passed : (records : List Entry) (r : Entry) (tables : List Table) (units : List ℕ) (k n : ℕ) → HavePassed records tables units → number_of tables r.topic r.queue ≡ Some k → slice_get units k ≡ Some n
    → ((t : Table) → slice_get tables k ≡ Some t → slice_get t.units n ≡ Some (stored_unit r)) → HavePassed (records ++ r ∷ []) tables (set units k (n + 1))
units_passed records r tables units k n have told there next = record {
  apart = have.apart;
  all = length-set units k (n + 1) ∙ have.all;
  each = λ j t m at counted. ⊎_elim
      (λ (here : (j ≡ k) × (m ≡ n + 1)).
      let at_k : slice_get tables k ≡ Some t = ap (slice_get tables) (sym here.0) ∙ at in
      let found = table_found tables r.topic r.queue k told in
      let same : found.table ≡ t = some_one (sym found.at ∙ at_k) in
      let its = its_own r t.topic t.queue (sym found.topic_is ∙ ap (λ (u : Table). u.topic) same) (sym found.queue_is ∙ ap (λ (u : Table). u.queue) same) in
      subst (HasPassed (records ++ r ∷ []) t) (sym here.1) (passed_more records r t n (have.each k t n at_k there) its (next t at_k)))
      (λ (other : (j ≢ k) × (slice_get units j ≡ Some m)).
      passed_same records r t m (have.each j t m at other.1) (other_table tables r k j t have.apart told at other.0))
      (at_set units k j (n + 1) m counted);
  none = λ topic queue none. queue_kept records r topic queue (no_table tables r k topic queue told none) ∙ have.none topic queue none;
}

-- ---- a record whose unit is missing

-- all records, of which it is one
queue_parts : (all records more : List Entry) (topic : List ℕ) (queue : ℕ) → all ≡ records ++ more → queue_of all topic queue ≡ queue_of records topic queue ++ queue_of more topic queue
queue_parts all records more topic queue parts =
    ap (λ (rs : List Entry). queue_of rs topic queue) parts
    ∙ filter-append (λ (x : Entry). bytes_eq x.topic topic && (x.queue == queue)) records more

-- its queue has no table
pub lost_differs : (log : Log) (records more : List Entry) (r : Entry) (tables : List Table) → number_of tables r.topic r.queue ≡ None → log.records ≡ (records ++ r ∷ []) ++ more → AreQueuesOf log tables → ⊥
lost_differs log records more r tables none parts are =
    let count = count_more records r r.topic r.queue (its_own r r.topic r.queue refl refl) in
    let split = ap (λ (rs : List Entry). length rs) (queue_parts log.records (records ++ r ∷ []) more r.topic r.queue parts) ∙ length-append (queue_of (records ++ r ∷ []) r.topic r.queue) (queue_of more r.topic r.queue) in
    let empty = are.none r.topic r.queue none in
    omega (arith, count, split, empty)

-- its table has another unit there, or none
pub unit_differs : (log : Log) (records more : List Entry) (r : Entry) (tables : List Table) (units : List ℕ) (k n : ℕ) → HavePassed records tables units → number_of tables r.topic r.queue ≡ Some k → slice_get units k ≡ Some n
    → ((t : Table) → slice_get tables k ≡ Some t → slice_get t.units n ≡ Some (stored_unit r) → ⊥) → log.records ≡ (records ++ r ∷ []) ++ more → AreQueuesOf log tables → ⊥
unit_differs log records more r tables units k n have told there other parts are =
    let found = table_found tables r.topic r.queue k told in
    let t = found.table in
    let its = its_own r t.topic t.queue (sym found.topic_is) (sym found.queue_is) in
    let has = have.each k t n found.at there in
    let units_are : t.units ≡ stored_units (records ++ r ∷ []) t.topic t.queue ++ stored_units more t.topic t.queue =
    (are.each k t found.at).units ∙ ap (map stored_unit) (queue_parts log.records (records ++ r ∷ []) more t.topic t.queue parts)
    ∙ map-append stored_unit (queue_of (records ++ r ∷ []) t.topic t.queue) (queue_of more t.topic t.queue) in
    let begins = subst (λ (us : List StoredUnit). BeginsWith t.units us) (units_more records r t.topic t.queue its)
    (as_front t.units (stored_units (records ++ r ∷ []) t.topic t.queue) (stored_units more t.topic t.queue) units_are) in
    other t found.at (has_next t.units (stored_units records t.topic t.queue) n (stored_unit r) (units_count records t n has) begins)

-- ---- a whole table

pub all_passed : (records : List Entry) (t : Table) (n : ℕ) → HasPassed records t n → length t.units ≡ n → t.units ≡ stored_units records t.topic t.queue
all_passed records t n has long = whole_front t.units (stored_units records t.topic t.queue) has.units (long ∙ units_count records t n has)

pub count_all : (records : List Entry) (t : Table) (n : ℕ) → HasPassed records t n → t.units ≡ stored_units records t.topic t.queue → length t.units ≡ n
count_all records t n has are = ap (λ (us : List StoredUnit). length us) are ∙ sym (units_count records t n has)

-- of no records nothing was passed
pub none_passed : (tables : List Table) (units : List ℕ) → AreApart tables → length units ≡ length tables → ((k n : ℕ) → slice_get units k ≡ Some n → n ≡ 0) → HavePassed [] tables units
none_passed tables units apart all zeros = record {
  apart = apart;
  all = all;
  each = λ k t n at counted. record { count = zeros k n counted; units = no_front t.units };
  none = λ topic queue none. refl;
}

-- ---- one table

-- the table that was found is this one, or not
pub found_as : (o : Option ℕ) (found k : ℕ) → o ≡ Some found → IsTrue (found == k) ↔ (o ≡ Some k)
found_as o found k is = (λ same. is ∙ ap Some ((Decides-eqb found k).0 same), λ told. (Decides-eqb found k).1 (some_one (sym is ∙ told)))

pub found_none : (o : Option ℕ) (k : ℕ) → o ≡ None → IsTrue false ↔ (o ≡ Some k)
found_none o k none = (λ f. cc f, λ told. let bad : None ≡ Some k = sym none ∙ told in cc bad)

-- it begins where the base says: it has what the log says where all its units were passed
pub passed_is : (base : Told) (records : List Entry) (t : Table) (n low added min : ℕ) → low ≡ t.low → added ≡ t.low + length t.units → min ≡ counts_in base.queues.items t.topic t.queue → low ≡ min
    → HasPassed records t n → IsTrue (added - low == n) ↔ IsQueueOf (log_from base records) t
passed_is base records t n low added min low_is added_is min_is same has =
    let long : added - low ≡ length t.units = omega (arith, low_is, added_is) in (
      λ yes. record { low = sym low_is ∙ same ∙ min_is; units = all_passed records t n has (sym long ∙ (Decides-eqb (added - low) n).0 yes) },
      λ is. (Decides-eqb (added - low) n).1 (long ∙ count_all records t n has is.units),
    )

pub low_differs : (base : Told) (records : List Entry) (t : Table) (low min : ℕ) → low ≡ t.low → min ≡ counts_in base.queues.items t.topic t.queue → low ≢ min → IsQueueOf (log_from base records) t → ⊥
low_differs base records t low min low_is min_is differs is = differs (low_is ∙ is.low ∙ sym min_is)

-- the bounds of a queue of a base alone
pub min_of : (base : Told) (topic name : List ℕ) (queue number min : ℕ) → min ≡ counts_in base.queues.items name number → name ≡ topic → number ≡ queue → min ≡ counts_in base.queues.items topic queue
min_of base topic name queue number min is same_topic same_queue = is ∙ ap (λ (t : List ℕ). counts_in base.queues.items t number) same_topic ∙ ap (counts_in base.queues.items topic) same_queue
