-- The state of an opening, and that the parts represent it.
use Rattle.std.proofs.Common.{◌≡◌, ⊎_elim, refl, ap, sym, ◌∙◌, subst, arith, ℕ, zero, suc, ◌+◌, ◌-◌, ◌*◌, ◌<◌, ◌≤◌, ◌^◌, max, true, false, List, [], ◌∷◌, length, take, codes, slice_get, All, IfSome, Option, Some, None}
use Rattle.std.specs.Str.{bytes_eq}
use Rattle.std.proofs.lemmas.Bool.{cases_Bool, and_parts}
use Rattle.std.proofs.lemmas.List.Elements.{All-nil, All-cons, All-head, All-tail, All-map, All-weaker}
use Rattle.std.proofs.Math.Nat.{div-mul-le_self, eq-or-lt_of_le}
use Rattle.std.proofs.Math.Seq.{take-length}
use Rattle.record_codec.specs.Entry.{Entry}
use Rattle.record_codec.specs.Layout.{size, IsHost, is_legal, is_entry, IsRecord}
use Rattle.record_codec.specs.Props.{value_of}
use Rattle.log_model.specs.Admissible.{is_system_topic, level_topic, most_queues, IsAdmissible}
use Rattle.log_model.specs.Bases.{Base, no_base, geometry}
use Rattle.log_model.specs.Drafts.{text_in}
use Rattle.log_model.specs.Log.{end_of}
use Rattle.log_model.specs.Numbered.{Log, IsLawful, count_of, place_end}
use Rattle.log_model.specs.Transactions.{last_of}
use Rattle.log_model.proofs.Lists.{take_get, get_within}
use Rattle.log_model.proofs.Places.{end_low}
use Rattle.pending_log.proofs.Lists.{some_one, get_within as slice_within}
use Rattle.pending_log.proofs.LogLemmas.{ends_with, place_past}
use Rattle.pending_log.proofs.TakeLemmas.{rows_end}
use Rattle.pending_log.specs.Parts.{PendingPart, new_part}
use Rattle.pending_log.specs.Pending.{IsPendingOf}
use Rattle.queue_view.specs.Tables.{Table}
use Rattle.mq_outside.specs.declared.frozen_ranges.FrozenRanges.{FrozenRanges}
use Rattle.broker_events.specs.declared.event.Setup.{Setup}
use Rattle.broker_model.specs.State as model
use Rattle.broker_model.specs.State.{Saved}
use Rattle.broker_model.specs.Tables.{TopicRow, OffsetRow}
use Rattle.broker_model.specs.Lawful.{IsState, IsTopic, IsFailedTurn}
use Rattle.broker_model.specs.Removal.{IsCutAt}
use Rattle.broker_model.specs.Run.{opened, store_time, with_queue, with_own_queue, with_real_queue, with_topics_of, cut_offset, cut_offsets}
use Rattle.std.specs.Option.{option_map, option_to_list}
use Rattle.std.specs.Str.Parse.{digits_value}
use Rattle.client_tables.specs.Held.{HasClients}
use Rattle.client_tables.specs.declared.clients.Clients.{Clients}
use Rattle.broker_model.specs.Clients.{no_clients}
use Rattle.group_tables.specs.Locks.{lock_row}
use Rattle.group_tables.specs.Offsets.{IsOffset}
use Rattle.group_tables.specs.declared.locks.Lock.{Lock}
use Rattle.level_records.specs.OfLog.{HasLevels}
use Rattle.level_records.specs.declared.levels.Levels.{Levels}
use Rattle.core_log.specs.declared.loaded.Loaded.{Loaded}
use Rattle.core_log.specs.Represents.{Represents, AreOut, AreTabled, AreTablesOf, HasRoom, IsNamed, setup_of}
use Rattle.core_log.specs.Loads.{whole_log, AreForLegalTopics, IsForLegalTopic, MayOpen}

-- ---- topics

-- a topic with one queue more is one
grown : (row : TopicRow) (queue : ℕ) → IsTopic row → queue < 1024 → IsTopic (record { topic = row.topic; queues = max row.queues (queue + 1) })
grown row queue is low = let some = is.some in let few = is.few in record { some = omega (arith, some); few = omega (arith, few, low); plain = is.plain }

are_topics : (topic : List ℕ) (queue : ℕ) (rows : List TopicRow) → is_system_topic topic ≡ false → queue < 1024 → All IsTopic rows → All IsTopic (with_queue topic queue rows)
are_topics topic queue [] plain low all =
    All-cons IsTopic (record { topic = topic; queues = max 4 (queue + 1) }) [] (record { some = omega arith; few = omega (arith, low); plain = plain }) (All-nil IsTopic)
are_topics topic queue (row ∷ rows) plain low all = ⊎_elim
    (λ (mine : bytes_eq row.topic topic ≡ true). rw mine
    (All-cons IsTopic (record { topic = row.topic; queues = max row.queues (queue + 1) }) rows (grown row queue (All-head IsTopic row rows all) low) (All-tail IsTopic row rows all)))
    (λ (another : bytes_eq row.topic topic ≡ false). rw another
    (All-cons IsTopic row (with_queue topic queue rows) (All-head IsTopic row rows all) (are_topics topic queue rows plain low (All-tail IsTopic row rows all))))
    (cases_Bool (bytes_eq row.topic topic))

-- a topic of clients may have 1,024 queues
most_own : (topic : List ℕ) → is_system_topic topic ≡ false → most_queues topic ≡ 1024
most_own topic plain = ⊎_elim
    (λ (level : bytes_eq topic level_topic ≡ true). let own : is_system_topic topic ≡ true = rw level refl in let bad : true ≡ false = sym own ∙ plain in cc bad)
    (λ (other : bytes_eq topic level_topic ≡ false). rw (plain, other) refl)
    (cases_Bool (bytes_eq topic level_topic))

are_own_topics : (topic : List ℕ) (queue : ℕ) (rows : List TopicRow) → queue < most_queues topic → All IsTopic rows → All IsTopic (with_own_queue topic queue rows)
are_own_topics topic queue rows low all = ⊎_elim
    (λ (own : is_system_topic topic ≡ true). rw own all)
    (λ (plain : is_system_topic topic ≡ false). rw plain (are_topics topic queue rows plain (subst (λ (n : ℕ). queue < n) (most_own topic plain) low) all))
    (cases_Bool (is_system_topic topic))

-- the same of any topic and a queue that clients' topics may have
are_real_topics : (topic : List ℕ) (queue : ℕ) (rows : List TopicRow) → queue < 1024 → All IsTopic rows → All IsTopic (with_own_queue topic queue rows)
are_real_topics topic queue rows low all = ⊎_elim
    (λ (own : is_system_topic topic ≡ true). rw own all)
    (λ (plain : is_system_topic topic ≡ false). rw plain (are_topics topic queue rows plain low all))
    (cases_Bool (is_system_topic topic))

-- what holds of the topics that are known stays once they are known with the topic that a record is for, where it is for one
module _ (P : TopicRow → Type 0) (r : Entry) (rows : List TopicRow) (real : IsForLegalTopic r) (all : All P rows)
    (more : (topic : List ℕ) (queue : ℕ) → is_legal topic ≡ true → queue < 1024 → All P (with_own_queue topic queue rows)) where
  of_real : (o : Option (List ℕ)) → value_of (codes "REAL_TOPIC") r.props ≡ o → All P (with_real_queue o r rows)
  of_real None named = all
  of_real (Some topic) named = let is = real topic named in more topic (digits_value 10 (text_in (codes "REAL_QID") r.props)) is.0 is.1

-- each record may stand in some log
abbrev AreAdmissible : ℕ → List Entry → Type 0
AreAdmissible segment records = (k : ℕ) (r : Entry) → slice_get records k ≡ Some r → IsAdmissible segment r

known_topics_are : (segment : ℕ) (records : List Entry) (rows : List TopicRow) → AreForLegalTopics records → AreAdmissible segment records → All IsTopic rows → All IsTopic (with_topics_of records rows)
known_topics_are segment [] rows real are all = all
known_topics_are segment (r ∷ records) rows real are all =
    let named = value_of (codes "REAL_TOPIC") r.props in
    let is = are zero r refl in
    let with_r = are_own_topics r.topic r.queue rows is.queue all in
    let before = with_own_queue r.topic r.queue rows in
    known_topics_are segment records (with_real_queue named r before) (λ k q at. real (suc k) q at) (λ k q at. are (suc k) q at)
    (of_real IsTopic r before (real zero r refl) with_r (λ topic queue legal low. are_real_topics topic queue before low with_r) named refl)

named_queue : (topic : List ℕ) (queue : ℕ) (rows : List TopicRow) → is_legal topic ≡ true → All IsNamed rows → All IsNamed (with_queue topic queue rows)
named_queue topic queue [] legal all = All-cons IsNamed (record { topic = topic; queues = max 4 (queue + 1) }) [] legal (All-nil IsNamed)
named_queue topic queue (row ∷ rows) legal all = ⊎_elim
    (λ (mine : bytes_eq row.topic topic ≡ true). rw mine
    (All-cons IsNamed (record { topic = row.topic; queues = max row.queues (queue + 1) }) rows (All-head IsNamed row rows all) (All-tail IsNamed row rows all)))
    (λ (another : bytes_eq row.topic topic ≡ false). rw another
    (All-cons IsNamed row (with_queue topic queue rows) (All-head IsNamed row rows all) (named_queue topic queue rows legal (All-tail IsNamed row rows all))))
    (cases_Bool (bytes_eq row.topic topic))

named_own : (topic : List ℕ) (queue : ℕ) (rows : List TopicRow) → is_legal topic ≡ true → All IsNamed rows → All IsNamed (with_own_queue topic queue rows)
named_own topic queue rows legal all = ⊎_elim
    (λ (own : is_system_topic topic ≡ true). rw own all)
    (λ (plain : is_system_topic topic ≡ false). rw plain (named_queue topic queue rows legal all))
    (cases_Bool (is_system_topic topic))

known_names : (records : List Entry) (rows : List TopicRow) → AreForLegalTopics records
    → ((k : ℕ) (r : Entry) → slice_get records k ≡ Some r → is_legal r.topic ≡ true) → All IsNamed rows → All IsNamed (with_topics_of records rows)
known_names [] rows real legal all = all
known_names (r ∷ records) rows real legal all =
    let named = value_of (codes "REAL_TOPIC") r.props in
    let with_r = named_own r.topic r.queue rows (legal zero r refl) all in
    let before = with_own_queue r.topic r.queue rows in
    known_names records (with_real_queue named r before) (λ k q at. real (suc k) q at) (λ k q at. legal (suc k) q at)
    (of_real IsNamed r before (real zero r refl) with_r (λ topic queue is low. named_own topic queue before is with_r) named refl)

-- a record that has a layout has a topic with a legal name
legal_topic : (r : Entry) → IsRecord r → is_legal r.topic ≡ true
unfolding is_entry
legal_topic r is = (and_parts _ _ (and_parts _ _ (and_parts _ _ (and_parts _ _ (and_parts _ _ (and_parts _ _ is.entry).0).0).0).0).0).0

-- ---- stored offsets

cut_kept : (log : Log) (row : OffsetRow) → IsOffset row → IsOffset (cut_offset log row)
cut_kept log row is = let low = is.offset in record { topic = is.topic; group = is.group; text = is.text; queue = is.queue; offset = omega (arith, low) }

all_cut : (log : Log) (rows : List OffsetRow) → All IsOffset rows → All IsOffset (cut_offsets log rows)
all_cut log rows all = All-map IsOffset (cut_offset log) rows (All-weaker IsOffset (λ row. IsOffset (cut_offset log row)) (λ row is. cut_kept log row is) rows all)

-- ---- numbers

-- a record has 91 bytes and more
few_until : (segment : ℕ) (records : List Entry) → IsLawful segment (whole_log records) → (n : ℕ) → n ≤ length records → 91 * n ≤ end_of no_base (take n records)
few_until segment records lawful zero within = omega arith
few_until segment records lawful (suc n) within =
    let there = get_within records n (let low = within in omega (arith, low)) in
    let follows = lawful.each n there.0 there.1 in
    let before = few_until segment records lawful n (omega (arith, within)) in
    let ends = ends_with no_base records n there.0 there.1 in
    let place = follows.place in
    let segment_low = lawful.segment.low in
    let past = place_past segment (end_of no_base (take n records)) (size there.0) (omega (arith, segment_low)) in
    let sized : 105 ≤ size there.0 = omega arith in
    omega (arith, before, ends, place, past, sized)

few_records : (segment : ℕ) (records : List Entry) → IsLawful segment (whole_log records) → 91 * count_of (whole_log records) ≤ place_end (whole_log records)
few_records segment records lawful =
    let few = few_until segment records lawful (length records) (omega arith) in
    let all = ap (end_of no_base) (take-length records) in
    omega (arith, few, all)

-- the last of some records
last_at : (records : List Entry) (n : ℕ) (r : Entry) → slice_get records n ≡ Some r → suc n ≡ length records → last_of records ≡ Some r
last_at [] n r at is = cc at
last_at (q ∷ []) zero r at is = at
last_at (q ∷ []) (suc n) r at is = cc at
last_at (q ∷ s ∷ records) zero r at is = absurd (let none : ⊥ = omega (arith, is) in none)
last_at (q ∷ s ∷ records) (suc n) r at is = last_at (s ∷ records) n r at (omega (arith, is))

-- no record was stored later than the last
latest : (segment : ℕ) (records : List Entry) → IsLawful segment (whole_log records) → (k : ℕ) (r : Entry) → slice_get records k ≡ Some r → r.store ≤ store_time (last_of records)
latest segment records lawful k r at =
    let within = slice_within records k r at in
    let n = length records - 1 in
    let last = get_within records n (omega (arith, within)) in
    let is_last : last_of records ≡ Some last.0 = last_at records n last.0 last.1 (omega (arith, within)) in
    let time : store_time (last_of records) ≡ last.0.store = ap store_time is_last in
    ⊎_elim
    (λ (there : k ≡ n).
    let same : r ≡ last.0 = some_one (sym at ∙ (ap (slice_get records) there ∙ last.1)) in
    let stores = ap (λ (e : Entry). e.store) same in
    omega (arith, stores, time))
    (λ (before : k < n). let less = (lawful.each n last.0 last.1).store k r (take_get n k records r before at) in omega (arith, less, time))
    (eq-or-lt_of_le (let low : k ≤ n = omega (arith, within) in low))

-- ---- the state

-- a log may be cut at its begin
no_cut : (segment : ℕ) (records : List Entry) → IsCutAt segment (whole_log records) 0 no_base
no_cut segment records = record {
  long = omega arith;
  counts = record { records = refl; queues = λ topic queue. refl; levels = λ level low high. refl };
  named = λ topic queue. refl;
  begins = omega (arith, div-mul-le_self 0 segment);
  behind = omega arith;
  before = λ r at. omega arith;
  within = omega arith;
}

-- the state of an opening is one
pub opened_state : (setup : model.Setup) (records : List Entry) (saved : Saved) → IsLawful setup.segment (whole_log records) → IsHost setup.host → AreForLegalTopics records → All IsTopic saved.topics
    → saved.base ≡ no_base → store_time (last_of records) < 2 ^ 62 → IsState (opened setup (whole_log records) saved)
opened_state setup records saved lawful host real topics base time = record {
  log = lawful;
  base = omega arith;
  dispatched = omega arith;
  flushed = omega arith;
  out = tt;
  now = latest setup.segment records lawful;
  saved = record { ahead = 0; cut = subst (λ (b : Base). IsCutAt setup.segment (whole_log records) 0 b) (sym base) (no_cut setup.segment records); dispatched = omega arith };
  failed = All-nil (IsFailedTurn (opened setup (whole_log records) saved));
  host = host;
  time = time;
  topics = known_topics_are setup.segment records saved.topics real (λ k r at. (lawful.each k r at).admissible) topics;
  order = λ i j d before within. absurd (let none : ⊥ = omega (arith, before, within) in none);
}

-- ---- the parts

-- the numbers of what was loaded
pub record HasLoaded (segment count end : ℕ) : Type 0 where
  pub some : 0 < segment
  pub segment_low : segment ≤ 2 ^ 30
  pub few : 91 * count ≤ end
  pub low : end ≤ 2 ^ 62

pub count_is : (setup : Setup) (saved : Saved) (records : List Entry) (loaded : Loaded) (stored : FrozenRanges) (count : ℕ) → MayOpen setup saved records loaded stored → count ≡ loaded.rows.first + length loaded.rows.items
    → count ≡ count_of (whole_log records)
count_is setup saved records loaded stored count may is = is ∙ rows_end (whole_log records) loaded.rows may.of_log.rows

pub has_loaded : (setup : Setup) (saved : Saved) (records : List Entry) (loaded : Loaded) (stored : FrozenRanges) (count : ℕ) → MayOpen setup saved records loaded stored → count ≡ loaded.rows.first + length loaded.rows.items
    → HasLoaded setup.segment count loaded.end
has_loaded setup saved records loaded stored count may is =
    let same = count_is setup saved records loaded stored count may is in
    let few = few_records setup.segment records may.lawful in
    let low = end_low (geometry setup.segment no_base) records may.lawful in
    let end = may.of_log.end in
    let least = may.lawful.segment.low in
    record { some = omega (arith, least); segment_low = may.lawful.segment.high; few = omega (arith, same, few, end); low = omega (arith, low, end) }

-- the parts of an opening represent its state
pub represents_opened : (setup : Setup) (saved : Saved) (records : List Entry) (loaded : Loaded) (stored : FrozenRanges) (pending : PendingPart) (levels : Levels) (queues : List Table) (clients : Clients) (count : ℕ)
    → MayOpen setup saved records loaded stored → IsHost setup.host → count ≡ loaded.rows.first + length loaded.rows.items → pending ≡ new_part setup.segment count loaded.end
    → ((log : Log) → count_of log ≡ count → place_end log ≡ loaded.end → IsPendingOf log pending)
    → AreTabled queues records loaded.rows.items × AreTablesOf no_base records (count - 0) queues
    → HasLevels (whole_log records) count levels
    → HasClients clients no_clients
    → Represents (record { setup = setup; rows = loaded.rows; pending = pending; stored = stored; keys = loaded.keys; halves = loaded.halves; levels = levels; queues = queues; topics = loaded.topics; groups = loaded.groups; clients = clients; dispatched = count; now = loaded.store })
    (opened (setup_of setup) (whole_log records) saved)
represents_opened setup saved records loaded stored pending levels queues clients count may host is pending_is is_pending tables has nobody =
    let s = opened (setup_of setup) (whole_log records) saved in
    let same = count_is setup saved records loaded stored count may is in
    let numbers = has_loaded setup saved records loaded stored count may is in
    let store = may.of_log.store in
    let time = may.of_log.low in
    let end = may.of_log.end in
    record {
      state = opened_state (setup_of setup) records saved may.lawful host may.of_log.real may.of_log.plain may.base (omega (arith, store, time));
      numbers = record {
        setup = refl;
        segment = ap (λ (p : PendingPart). p.segment) pending_is;
        flushed = ap (λ (p : PendingPart). p.flushed) pending_is ∙ same;
        dispatched = same;
        turns = ap (λ (p : PendingPart). p.turns) pending_is;
        bounded = omega arith;
        now = store;
        few = few_records setup.segment records may.lawful;
        low = end_low (geometry setup.segment no_base) records may.lawful;
      };
      pending = is_pending (whole_log records) (sym same) (sym end);
      out = subst (λ (p : PendingPart). AreOut p.out None) (sym pending_is) tt;
      failed = ap (λ (p : PendingPart). p.failed) pending_is;
      rows = may.of_log.rows;
      tabled = tables.0;
      queues = subst (λ (n : ℕ). AreTablesOf no_base records (n - 0) queues) same tables.1;
      stored = may.covered;
      room = subst (λ (p : PendingPart). IfSome p.out (λ out. HasRoom stored)) (sym pending_is) tt;
      topics = may.of_log.topics;
      clients = nobody;
      offsets = may.of_log.offsets;
      locks = λ group q. ap (λ (lock : Option Lock). option_to_list (option_map (lock_row group q.topic q.queue) lock)) (sym (may.of_log.locks group q.topic q.queue));
      names = known_names records saved.topics may.of_log.real (λ k r at. legal_topic r (may.lawful.each k r at).layout) may.of_log.names;
      kept = all_cut (whole_log records) saved.offsets may.of_log.rows_kept;
      halves = may.of_log.halves setup.segment may.lawful;
      levels = subst (λ (n : ℕ). HasLevels (whole_log records) n levels) same has;
      keys = may.of_log.keys;
    }
