-- One record more is loaded.
use Rattle.std.proofs.Common.{◌≡◌, ⊎_elim, refl, ap, sym, ◌∙◌, subst, arith, ℕ, zero, suc, ◌+◌, ◌-◌, ◌<◌, ◌≤◌, ◌^◌, ◌==◌, ◌&&◌, max, min, cond, find, is_some, Bool, true, false, List, [], ◌∷◌, ◌++◌, length, map, codes, slice_get, slice_set, Option, Some, None, Result, Ok, Err, OnOk}
use Rattle.std.specs.Prelude.{ℤ, pos, neg_ℤ, nat_lt, nat_le, drop, if◌then◌else◌}
use Rattle.std.specs.Str.{bytes_eq, all_ascii_digits}
use Rattle.std.proofs.lemmas.Bool.{cases_Bool, false_from_ne_true}
use Rattle.std.specs.Option.{option_map, option_or, unwrap_or}
use Rattle.std.proofs.lemmas.List.{length-map}
use Rattle.std.proofs.lemmas.List.Elements.{All-cons, All-push}
use Rattle.std.proofs.lemmas.Slice.Eq.{bytes_eq-Decides}
use Rattle.std.proofs.Math.Seq.{take-append_seam}
use Rattle.std.specs.Str.Parse.{digits_value, starts_with_minus}
use Rattle.mq_bytes.specs.Decimal.{decimal_value, number_up_to}
use Rattle.record_codec.specs.Entry.{Entry}
use Rattle.record_codec.specs.Layout.{size, is_legal}
use Rattle.record_codec.specs.Props.{value_of}
use Rattle.record_codec.specs.Units.{unit_of}
use Rattle.record_codec.specs.declared.unit.Unit.{Unit as QueueUnit}
use Rattle.log_model.specs.Admissible.{is_system_topic}
use Rattle.log_model.specs.Bases.{no_base, geometry}
use Rattle.log_model.specs.Drafts.{text_in}
use Rattle.log_model.specs.Log.{Follows, IsWellFormed}
use Rattle.log_model.specs.Numbered.{Log, IsLawful, count_of, queue_max, with_appended}
use Rattle.log_model.specs.Queues.{queue_of}
use Rattle.log_model.specs.Transactions.{last_of}
use Rattle.log_model.proofs.Places.{end_of-append, well_formed_take}
use Rattle.half_records.specs.OfLog.{HasHalves}
use Rattle.key_view.specs.Entries.{key_entries}
use Rattle.level_records.specs.OfLog.{HasLevels}
use Rattle.pending_log.specs.Rows.{AreAlike, AreRowsOf}
use Rattle.pending_log.specs.declared.rows.Row.{Row}
use Rattle.pending_log.proofs.TakeLemmas.{rows_end}
use Rattle.queue_view.specs.Added as view
use Rattle.queue_view.specs.Added.{Added, added_to}
use Rattle.queue_view.specs.Tables.{Table, number_of, with_unit, added_of}
use Rattle.queue_view.proofs.Lists.{some_one}
use Rattle.queue_view.proofs.NumberedLemmas.{number_of-set, number_within}
use Rattle.broker_model.specs.Tables.{TopicRow, OffsetRow, queues_in, is_row_of}
use Rattle.broker_model.specs.Lawful.{IsTopic}
use Rattle.broker_model.specs.Run.{store_time, with_queue, with_own_queue, with_real_queue, with_topics_of, cut_offsets}
use Rattle.client_tables.specs.Counts.{queues_of}
use Rattle.group_tables.specs.Held.{lock_of}
use Rattle.group_tables.specs.Offsets.{offset_of, offset_row, HasOffsets, IsOffset}
use Rattle.group_tables.specs.declared.groups.Groups.{Groups}
use Rattle.group_tables.proofs.OffsetLemmas.{in_turn}
use Rattle.core_log.specs.declared.loaded.Loaded.{Loaded}
use Rattle.core_log.specs.Represents.{AreTabled, AreTablesOf, stored_unit, IsNamed}
use Rattle.core_log.specs.Loads.{whole_log, topic_row, known_with, own_with, real_with, AreForLegalTopics, IsForLegalTopic, IsLoadedFrom, IsLoadedWith}
use Rattle.core_log.proofs.TableLemmas.{there_is, as_added, is_its_table, to_view, from_view, map_push, tabled_kept, tabled_push}
use Rattle.core_log.proofs.SeenLemmas.{number_at, none_of}
use Rattle.core_log.proofs.TopicLemmas.{made_count}

-- ---- topics

-- a topic has one queue more
pub queues_with_queue : (topic : List ℕ) (queue : ℕ) (rows : List TopicRow) (other : List ℕ) → queues_in (with_queue topic queue rows) other ≡ known_with (queues_in rows) topic queue other
queues_with_queue topic queue [] other = ⊎_elim
    (λ (its : bytes_eq topic other ≡ true). rw its refl)
    (λ (not_its : bytes_eq topic other ≡ false). rw not_its refl)
    (cases_Bool (bytes_eq topic other))
queues_with_queue topic queue (row ∷ rows) other = ⊎_elim
    (λ (mine : bytes_eq row.topic topic ≡ true).
    let same : row.topic ≡ topic = (bytes_eq-Decides row.topic topic).0 mine in
    let tests : bytes_eq topic other ≡ bytes_eq row.topic other = ap (λ (t : List ℕ). bytes_eq t other) (sym same) in
    ⊎_elim
    (λ (its : bytes_eq row.topic other ≡ true). rw (mine, tests, its) refl)
    (λ (not_its : bytes_eq row.topic other ≡ false). rw (mine, tests, not_its) refl)
    (cases_Bool (bytes_eq row.topic other)))
    (λ (another : bytes_eq row.topic topic ≡ false). ⊎_elim
    (λ (its : bytes_eq row.topic other ≡ true).
    let at : row.topic ≡ other = (bytes_eq-Decides row.topic other).0 its in
    let differs : bytes_eq topic other ≡ false = false_from_ne_true (bytes_eq topic other) (λ eq.
    let bad : false ≡ true = sym another ∙ (bytes_eq-Decides row.topic topic).1 (at ∙ sym ((bytes_eq-Decides topic other).0 eq)) in cc bad) in
    rw (another, differs, its) refl)
    (λ (not_its : bytes_eq row.topic other ≡ false). rw (another, not_its) (queues_with_queue topic queue rows other))
    (cases_Bool (bytes_eq row.topic other)))
    (cases_Bool (bytes_eq row.topic topic))

queues_with_own : (topic : List ℕ) (queue : ℕ) (rows : List TopicRow) (other : List ℕ) → queues_in (with_own_queue topic queue rows) other ≡ own_with (queues_in rows) topic queue other
queues_with_own topic queue rows other = ⊎_elim
    (λ (own : is_system_topic topic ≡ true). rw own refl)
    (λ (plain : is_system_topic topic ≡ false). rw plain (queues_with_queue topic queue rows other))
    (cases_Bool (is_system_topic topic))

queues_with_real : (o : Option (List ℕ)) (r : Entry) (rows : List TopicRow) (other : List ℕ) → queues_in (with_real_queue o r rows) other ≡ real_with (queues_in rows) o r other
queues_with_real None r rows other = refl
queues_with_real (Some topic) r rows other = queues_with_own topic (digits_value 10 (text_in (codes "REAL_QID") r.props)) rows other

-- the topics of one record more
topics_push : (records : List Entry) (r : Entry) (rows : List TopicRow) → with_topics_of (records ++ r ∷ []) rows
    ≡ with_real_queue (value_of (codes "REAL_TOPIC") r.props) r (with_own_queue r.topic r.queue (with_topics_of records rows))
topics_push [] r rows = refl
topics_push (q ∷ records) r rows = topics_push records r (with_real_queue (value_of (codes "REAL_TOPIC") q.props) q (with_own_queue q.topic q.queue rows))

-- two tables of topics that say the same say the same with a queue more
own_same : (some other : List ℕ → Option ℕ) → ((topic : List ℕ) → some topic ≡ other topic) → (topic : List ℕ) (queue : ℕ) (at : List ℕ) → own_with some topic queue at ≡ own_with other topic queue at
own_same some other same topic queue at = rw (same topic, same at) refl

pub real_same : (some other : List ℕ → Option ℕ) → ((topic : List ℕ) → some topic ≡ other topic) → (o : Option (List ℕ)) (r : Entry) (at : List ℕ) → real_with some o r at ≡ real_with other o r at
real_same some other same None r at = same at
real_same some other same (Some topic) r at = own_same some other same topic (digits_value 10 (text_in (codes "REAL_QID") r.props)) at

-- a table of topics that says what the topics of some records are says it with one record more
pub topics_with : (counts : List ℕ → Option ℕ) (records : List Entry) (rows : List TopicRow) (r : Entry) → ((topic : List ℕ) → counts topic ≡ queues_in (with_topics_of records rows) topic)
    → (other : List ℕ) → real_with (own_with counts r.topic r.queue) (value_of (codes "REAL_TOPIC") r.props) r other ≡ queues_in (with_topics_of (records ++ r ∷ []) rows) other
topics_with counts records rows r same other =
    let before = with_topics_of records rows in
    let real = value_of (codes "REAL_TOPIC") r.props in
    real_same (own_with counts r.topic r.queue) (queues_in (with_own_queue r.topic r.queue before))
    (λ topic. own_same counts (queues_in before) same r.topic r.queue topic ∙ sym (queues_with_own r.topic r.queue before topic)) real r other
    ∙ sym (queues_with_real real r (with_own_queue r.topic r.queue before) other)
    ∙ ap (λ (ts : List TopicRow). queues_in ts other) (sym (topics_push records r rows))

-- ---- the queue that a message is for

read_plain : (minus digits : Bool) (x : Option ℤ) (m : ℕ) (n : ℤ) → minus ≡ false → (if minus then x else option_map pos (if digits then Some m else None)) ≡ Some n → n ≡ pos m
read_plain true digits x m n plain is = absurd (cc)
read_plain false true x m n plain is = cc
read_plain false false x m n plain is = absurd (cc)

-- a text without a sign that is read as a number is read as the value of its digits
pub digits_read : (text : List ℕ) (n : ℤ) → starts_with_minus text ≡ false → decimal_value text ≡ Some n → n ≡ pos (digits_value 10 text)
unfolding decimal_value
digits_read text n plain is =
    read_plain (starts_with_minus text) (nat_lt 0 (length text) && all_ascii_digits text && nat_le (digits_value 10 text) (2 ^ 63 - 1))
    (option_map (λ k. neg_ℤ (pos k)) (number_up_to (2 ^ 63) (drop 1 text))) (digits_value 10 text) n plain is

-- ---- lists

pub last_push : (records : List Entry) (r : Entry) → last_of (records ++ r ∷ []) ≡ Some r
last_push [] r = refl
last_push (q ∷ []) r = refl
last_push (q ∷ s ∷ records) r = last_push (s ∷ records) r

real_push : (records : List Entry) (r : Entry) → AreForLegalTopics records → IsForLegalTopic r → AreForLegalTopics (records ++ r ∷ [])
real_push [] r are real zero q at = let same : r ≡ q = some_one at in subst IsForLegalTopic same real
real_push [] r are real (suc k) q at = cc at
real_push (p ∷ records) r are real zero q at = are zero q at
real_push (p ∷ records) r are real (suc k) q at = real_push records r (λ j s there. are (suc j) s there) real k q at

last_at_push : (records : List Entry) (r : Entry) → slice_get (records ++ r ∷ []) (length records) ≡ Some r
last_at_push [] r = refl
last_at_push (q ∷ records) r = last_at_push records r

-- ---- tables

-- a record's unit is added to the table of its queue
pub unit_added : (records : List Entry) (rows : List Row) (r : Entry) (row : Row) (mid new : List Table) (u : QueueUnit) (store : ℕ) → u ≡ unit_of r → store ≡ r.store
    → AreAlike rows records → AreTabled mid records rows → AreTablesOf no_base records 0 mid → number_of mid r.topic r.queue ≡ Some row.table
    → ((t : Table) → slice_get mid row.table ≡ Some t → (s : ℕ) × (t.spare ≤ s + 1) × (new ≡ slice_set mid row.table (with_unit t u store s)))
    → ((low : List ℕ → ℕ → ℕ) (added : List Added) (n : ℕ) (t : Table) → view.AreTablesOf low added n mid → n ≤ length added → slice_get mid row.table ≡ Some t
    → view.AreTablesOf low (added ++ added_to t u store ∷ []) n new)
    → AreTabled new (records ++ r ∷ []) (rows ++ row ∷ []) × AreTablesOf no_base (records ++ r ∷ []) 0 new
unit_added records rows r row mid new u store is_unit is_store alike tabled tables mine put added =
    let t = there_is mid row.table (number_within mid r.topic r.queue row.table mine) in
    let done = put t.0 t.1 in
    let its = is_its_table mid r.topic r.queue row.table t.0 mine t.1 in
    let kept : (topic : List ℕ) (queue k : ℕ) → number_of mid topic queue ≡ Some k → number_of new topic queue ≡ Some k = λ topic queue k is.
    ap (λ (ts : List Table). number_of ts topic queue) done.2 ∙ number_of-set mid row.table t.0 (with_unit t.0 u store done.0) t.1 refl refl topic queue ∙ is in
    let same : added_to t.0 u store ≡ as_added r =
    ap (λ (name : List ℕ). record { topic = name; queue = t.0.queue; unit = u; store = store }) its.0
    ∙ ap (λ (q : ℕ). record { topic = r.topic; queue = q; unit = u; store = store }) its.1
    ∙ ap (λ (v : QueueUnit). record { topic = r.topic; queue = r.queue; unit = v; store = store }) is_unit
    ∙ ap (λ (n : ℕ). record { topic = r.topic; queue = r.queue; unit = unit_of r; store = n }) is_store in
    let before = to_view no_base records 0 mid rows alike tabled tables in
    let none : 0 ≤ length (map as_added records) = omega arith in
    let after = added no_base.queues (map as_added records) 0 t.0 before none t.1 in (
      tabled_push new records rows r row alike (tabled_kept mid new records rows kept tabled) (kept r.topic r.queue row.table mine),
      from_view no_base (records ++ r ∷ []) 0 new
          (subst (λ (xs : List Added). view.AreTablesOf no_base.queues xs 0 new) (sym (map_push as_added records r))
          (subst (λ (a : Added). view.AreTablesOf no_base.queues (map as_added records ++ a ∷ []) 0 new) same after)),
    )

-- ---- all of it

-- a log without its last record is one
lawful_before : (segment : ℕ) (records : List Entry) (r : Entry) → IsLawful segment (whole_log (records ++ r ∷ [])) → IsLawful segment (whole_log records)
lawful_before segment records r lawful =
    let S = geometry segment no_base in
    subst (λ (rs : List Entry). IsWellFormed S rs) (take-append_seam records (r ∷ [])) (well_formed_take S (length records) (records ++ r ∷ []) lawful)

-- and its last record follows it
last_follows : (segment : ℕ) (records : List Entry) (r : Entry) → IsLawful segment (whole_log (records ++ r ∷ [])) → Follows (geometry segment no_base) records r
last_follows segment records r lawful =
    subst (λ (rs : List Entry). Follows (geometry segment no_base) rs r) (take-append_seam records (r ∷ [])) (lawful.each (length records) r (last_at_push records r))

-- what a load of a record did
pub loads : (saved : List TopicRow) (records : List Entry) (r : Entry) (old new : Loaded) (row : Row) → IsLoadedFrom saved records old
    → IsForLegalTopic r
    → AreRowsOf (whole_log (records ++ r ∷ [])) new.rows → new.rows.items ≡ old.rows.items ++ row ∷ []
    → AreTabled new.queues (records ++ r ∷ []) (old.rows.items ++ row ∷ []) × AreTablesOf no_base (records ++ r ∷ []) 0 new.queues
    → ((other : List ℕ) → queues_of new.topics other ≡ real_with (own_with (queues_of old.topics) r.topic r.queue) (value_of (codes "REAL_TOPIC") r.props) r other)
    → ((segment : ℕ) (log : Log) → IsWellFormed (geometry segment log.base) log.records → Follows (geometry segment log.base) log.records r → old.rows.first + length old.rows.items ≡ count_of log
    → HasHalves log old.halves → HasHalves (with_appended log (r ∷ [])) new.halves)
    → ((segment : ℕ) (log : Log) → HasLevels log 0 old.levels → IsLawful segment (with_appended log (r ∷ [])) → HasLevels (with_appended log (r ∷ [])) 0 new.levels)
    → ((log : List Entry) → old.keys.entries ≡ key_entries log → new.keys.entries ≡ key_entries (log ++ r ∷ []))
    → new.end ≡ r.offset + size r → new.store ≡ r.store → new.store < 2 ^ 62 → new.groups ≡ old.groups
    → IsLoadedFrom saved (records ++ r ∷ []) new
loads saved records r old new row is real rows items tables topics halves levels keys end store low groups = record {
  rows = rows;
  tabled = subst (λ (xs : List Row). AreTabled new.queues (records ++ r ∷ []) xs) (sym items) tables.0;
  queues = tables.1;
  topics = λ other. topics other ∙ topics_with (queues_of old.topics) records saved r is.topics other;
  plain = is.plain;
  names = is.names;
  real = real_push records r is.real real;
  halves = λ segment lawful.
      (let before = lawful_before segment records r lawful in
      halves segment (whole_log records) before (last_follows segment records r lawful) (rows_end (whole_log records) old.rows is.rows) (is.halves segment before));
  levels = λ segment lawful. levels segment (whole_log records) (is.levels segment (lawful_before segment records r lawful)) lawful;
  keys = keys records is.keys;
  end = end ∙ sym (end_of-append no_base records r);
  store = store ∙ ap store_time (sym (last_push records r));
  low = low;
  offsets = subst (λ (g : Groups). HasOffsets g []) (sym groups) is.offsets;
  locks = subst (λ (g : Groups). (group topic : List ℕ) (queue : ℕ) → lock_of g group topic queue ≡ None) (sym groups) is.locks;
  rows_kept = is.rows_kept;
}

-- ---- topics of the kept file

or_some : (o other : Option ℕ) → is_some o ≡ true → option_or o other ≡ o
or_some None other some = cc some
or_some (Some n) other some = refl

or_none : (o : Option ℕ) → option_or o None ≡ o
or_none None = refl
or_none (Some n) = refl

is_none : (o : Option ℕ) → is_some o ≡ false → o ≡ None
is_none None none = refl
is_none (Some n) none = cc none

-- rows with one topic more behind them
queues_push : (rows : List TopicRow) (row : TopicRow) (other : List ℕ)
    → queues_in (rows ++ row ∷ []) other ≡ option_or (queues_in rows other) (cond (bytes_eq row.topic other) (Some row.queues) None)
queues_push [] row other = ⊎_elim
    (λ (its : bytes_eq row.topic other ≡ true). rw its refl) (λ (not_its : bytes_eq row.topic other ≡ false). rw not_its refl) (cases_Bool (bytes_eq row.topic other))
queues_push (first ∷ rows) row other = ⊎_elim
    (λ (its : bytes_eq first.topic other ≡ true). rw its refl)
    (λ (not_its : bytes_eq first.topic other ≡ false). rw not_its (queues_push rows row other))
    (cases_Bool (bytes_eq first.topic other))

known_count : (b : Bool) (n : ℕ) (found : Option ℕ) → (b ≡ true → is_some found ≡ true) → found ≡ option_or found (cond b (Some n) None)
known_count true n found known = sym (or_some found (Some n) (known refl))
known_count false n found known = sym (or_none found)

made_new : (b : Bool) (had : Option ℕ) (n : ℕ) (found : Option ℕ) → had ≡ None → (b ≡ true → found ≡ None) → made_count b had n found ≡ option_or found (cond b (Some n) None)
made_new true had n found none same =
    let least : max 0 n ≡ n = omega arith in
    ap (λ (o : Option ℕ). Some (max (unwrap_or o 0) n)) none ∙ ap (λ (k : ℕ). Some k) least ∙ sym (ap (λ (o : Option ℕ). option_or o (Some n)) (same refl))
made_new false had n found none same = sym (or_none found)

-- a topic that was loaded already stays
pub loads_known : (saved : List TopicRow) (old : Loaded) (topic : List ℕ) (n : ℕ) → IsLoadedFrom saved [] old → IsTopic (topic_row topic n) → is_legal topic ≡ true → is_some (queues_of old.topics topic) ≡ true
    → IsLoadedFrom (saved ++ topic_row topic n ∷ []) [] old
loads_known saved old topic n is plain legal known = record {
  rows = is.rows;
  tabled = is.tabled;
  queues = is.queues;
  topics = λ other.
      let found : queues_of old.topics other ≡ option_or (queues_of old.topics other) (cond (bytes_eq topic other) (Some n) None) =
      known_count (bytes_eq topic other) n (queues_of old.topics other)
      (λ b. ap (λ (t : List ℕ). is_some (queues_of old.topics t)) (sym ((bytes_eq-Decides topic other).0 b)) ∙ known) in
      found ∙ ap (λ (o : Option ℕ). option_or o (cond (bytes_eq topic other) (Some n) None)) (is.topics other) ∙ sym (queues_push saved (topic_row topic n) other);
  plain = All-push IsTopic saved (topic_row topic n) is.plain plain;
  names = All-push IsNamed saved (topic_row topic n) is.names legal;
  real = is.real;
  halves = is.halves;
  levels = is.levels;
  keys = is.keys;
  end = is.end;
  store = is.store;
  low = is.low;
  offsets = is.offsets;
  locks = is.locks;
  rows_kept = is.rows_kept;
}

-- another one was loaded
pub loads_topic : (saved : List TopicRow) (old new : Loaded) (topic : List ℕ) (n : ℕ) → IsLoadedFrom saved [] old → IsTopic (topic_row topic n) → is_legal topic ≡ true → is_some (queues_of old.topics topic) ≡ false
    → new ≡ record old { topics = new.topics } → ((other : List ℕ) → queues_of new.topics other ≡ made_count (bytes_eq topic other) (queues_of old.topics topic) n (queues_of old.topics other))
    → IsLoadedFrom (saved ++ topic_row topic n ∷ []) [] new
loads_topic saved old new topic n is plain legal unknown others made =
    let none = is_none (queues_of old.topics topic) unknown in
    subst (λ (l : Loaded). IsLoadedFrom (saved ++ topic_row topic n ∷ []) [] l) (sym others) (record {
      rows = is.rows;
      tabled = is.tabled;
      queues = is.queues;
      topics = λ other. made other
          ∙ made_new (bytes_eq topic other) (queues_of old.topics topic) n (queues_of old.topics other) none
          (λ b. ap (queues_of old.topics) (sym ((bytes_eq-Decides topic other).0 b)) ∙ none)
          ∙ ap (λ (o : Option ℕ). option_or o (cond (bytes_eq topic other) (Some n) None)) (is.topics other)
          ∙ sym (queues_push saved (topic_row topic n) other);
      plain = All-push IsTopic saved (topic_row topic n) is.plain plain;
      names = All-push IsNamed saved (topic_row topic n) is.names legal;
      real = is.real;
      halves = is.halves;
      levels = is.levels;
      keys = is.keys;
      end = is.end;
      store = is.store;
      low = is.low;
      offsets = is.offsets;
      locks = is.locks;
      rows_kept = is.rows_kept;
    })

-- ---- offsets of the kept file

-- a queue's table ends where its records do
pub end_found : (saved : List TopicRow) (records : List Entry) (kept : List OffsetRow) (loaded : Loaded) (topic : List ℕ) (queue k result : ℕ) → IsLoadedWith saved records kept loaded
    → number_of loaded.queues topic queue ≡ Some k → ((t : Table) → slice_get loaded.queues k ≡ Some t → result ≡ added_of t) → result ≡ queue_max (whole_log records) topic queue
end_found saved records kept loaded topic queue k result is at told =
    let there = number_at loaded.queues topic queue k at in
    let t = there.0 in
    let of_it = is.queues.each k t there.1 in
    let named : queue_of records t.topic t.queue ≡ queue_of records topic queue =
    ap (λ (name : List ℕ). queue_of records name t.queue) there.2 ∙ ap (λ q. queue_of records topic q) there.3 in
    told t there.1 ∙ ap (λ n. n + length t.units) of_it.low
    ∙ ap (λ n. 0 + n) (ap length of_it.units ∙ length-map (queue_of records t.topic t.queue) stored_unit ∙ ap length named)

-- a queue without a table has no records
pub end_unknown : (saved : List TopicRow) (records : List Entry) (kept : List OffsetRow) (loaded : Loaded) (topic : List ℕ) (queue : ℕ) → IsLoadedWith saved records kept loaded
    → number_of loaded.queues topic queue ≡ None → 0 ≡ queue_max (whole_log records) topic queue
end_unknown saved records kept loaded topic queue is none =
    ap (λ (rs : List Entry). 0 + length rs) (sym (none_of loaded.queues records loaded.rows.items topic queue is.rows.items is.tabled none))

first_row : (b : Bool) (row : OffsetRow) (o : Option OffsetRow) → cond b (Some row.offset) (option_map (λ r. r.offset) o) ≡ option_map (λ r. r.offset) (cond b (Some row) o)
first_row true row o = refl
first_row false row o = refl

-- an offset that is stored comes before the others
pub offset_first : (old new : Groups) (row : OffsetRow) (rows : List OffsetRow)
    → ((g t : List ℕ) (q : ℕ) → offset_of new g t q ≡ cond (bytes_eq row.group g && (bytes_eq row.topic t && (row.queue == q))) (Some row.offset) (offset_of old g t q))
    → HasOffsets old rows → HasOffsets new (row ∷ rows)
offset_first old new row rows set has g t q =
    set g t q
    ∙ (λ i. cond (in_turn (bytes_eq row.group g) (bytes_eq row.topic t) (row.queue == q) i) (Some row.offset) (has g t q i))
    ∙ first_row (bytes_eq row.group g && bytes_eq row.topic t && (row.queue == q)) row (find (is_row_of g t q) rows)

-- an offset was loaded
pub loads_offset : {A E : Type 0} (saved : List TopicRow) (records : List Entry) (kept : List OffsetRow) (old : Loaded) (groups : Groups) (group topic : List ℕ) (queue offset end cut : ℕ) (result : Result A E)
    → IsLoadedWith saved records kept old → IsOffset (offset_row group topic queue offset) → end ≡ queue_max (whole_log records) topic queue → cut ≡ min offset end
    → OnOk result ((g t : List ℕ) (q : ℕ) → offset_of groups g t q ≡ cond (bytes_eq group g && (bytes_eq topic t && (queue == q))) (Some cut) (offset_of old.groups g t q))
    → ((g t : List ℕ) (q : ℕ) → lock_of groups g t q ≡ lock_of old.groups g t q)
    → OnOk result (IsLoadedWith saved records (offset_row group topic queue offset ∷ kept) (record old { groups = groups }))
loads_offset saved records kept old groups group topic queue offset end cut (Ok u) is may end_is cut_is set locks =
    let row = offset_row group topic queue cut in
    let low : cut ≡ min offset (queue_max (whole_log records) topic queue) = cut_is ∙ ap (λ n. min offset n) end_is in
    record {
      rows = is.rows;
      tabled = is.tabled;
      queues = is.queues;
      topics = is.topics;
      plain = is.plain;
      names = is.names;
      real = is.real;
      halves = is.halves;
      levels = is.levels;
      keys = is.keys;
      end = is.end;
      store = is.store;
      low = is.low;
      offsets = subst (λ (n : ℕ). HasOffsets groups (offset_row group topic queue n ∷ cut_offsets (whole_log records) kept)) low
          (offset_first old.groups groups row (cut_offsets (whole_log records) kept) set is.offsets);
      locks = λ g t q. locks g t q ∙ is.locks g t q;
      rows_kept = All-cons IsOffset (offset_row group topic queue offset) kept may is.rows_kept;
    }
loads_offset saved records kept old groups group topic queue offset end cut (Err fault) is may end_is cut_is set locks = tt
