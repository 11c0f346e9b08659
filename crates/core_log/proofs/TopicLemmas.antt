-- The topics with one more, and the state with it.
use Rattle.std.proofs.Common.{◌≡◌, ⊎_elim, refl, ap, sym, ◌∙◌, subst, arith, ℕ, ◌+◌, ◌<◌, ◌≤◌, ◌^◌, max, Bool, true, false, List, [], ◌∷◌, length, Option, Some, None, All, if◌then◌else◌}
use Rattle.std.specs.Option.{unwrap_or}
use Rattle.std.specs.Str.{bytes_eq}
use Rattle.std.proofs.lemmas.Bool.{cases_Bool, false_from_ne_true}
use Rattle.std.proofs.lemmas.Slice.Eq.{bytes_eq-Decides}
use Rattle.std.proofs.lemmas.List.Elements.{All-nil, All-cons, All-head, All-tail}
use Rattle.record_codec.specs.Layout.{is_legal}
use Rattle.log_model.specs.Admissible.{is_system_topic}
use Rattle.broker_model.specs.Tables.{TopicRow, queues_in, with_topic}
use Rattle.broker_model.specs.State.{State, Out}
use Rattle.broker_model.specs.Step.{with_made}
use Rattle.broker_model.specs.Lawful.{IsState, IsTopic, IsTurn, IfOut}
use Rattle.client_tables.specs.declared.topics.Topics.{Topics}
use Rattle.client_tables.specs.Counts.{queues_of}
use Rattle.core_log.specs.declared.parts.Parts.{Parts}
use Rattle.core_log.specs.Represents.{Represents, HasNumbers, IsNamed}

-- what a table of topics says once one was made
abbrev pub made_count : Bool → Option ℕ → ℕ → Option ℕ → Option ℕ
made_count same had n other = if same then Some (max (unwrap_or had 0) n) else other

pub queues_with : (topic : List ℕ) (n : ℕ) (rows : List TopicRow) (other : List ℕ) → queues_in (with_topic topic n rows) other ≡ made_count (bytes_eq topic other) (queues_in rows topic) n (queues_in rows other)
queues_with topic n [] other = ⊎_elim
    (λ (its : bytes_eq topic other ≡ true). rw its (ap (λ (k : ℕ). Some k) (let least : n ≡ max 0 n = omega arith in least)))
    (λ (not_its : bytes_eq topic other ≡ false). rw not_its refl)
    (cases_Bool (bytes_eq topic other))
queues_with topic n (row ∷ rows) other = ⊎_elim
    (λ (mine : bytes_eq row.topic topic ≡ true).
    let same : row.topic ≡ topic = (bytes_eq-Decides row.topic topic).0 mine in
    let tests : bytes_eq topic other ≡ bytes_eq row.topic other = ap (λ (t : List ℕ). bytes_eq t other) (sym same) in
    ⊎_elim
    (λ (its : bytes_eq row.topic other ≡ true). rw (mine, tests, its) refl)
    (λ (not_its : bytes_eq row.topic other ≡ false). rw (mine, tests, not_its) refl)
    (cases_Bool (bytes_eq row.topic other)))
    (λ (another : bytes_eq row.topic topic ≡ false). ⊎_elim
    (λ (its : bytes_eq row.topic other ≡ true).
    let at : row.topic ≡ other = (bytes_eq-Decides row.topic other).0 its in
    let differs : bytes_eq topic other ≡ false = false_from_ne_true (bytes_eq topic other) (λ eq.
    let bad : false ≡ true = sym another ∙ (bytes_eq-Decides row.topic topic).1 (at ∙ sym ((bytes_eq-Decides topic other).0 eq)) in cc bad) in
    rw (another, differs, its) refl)
    (λ (not_its : bytes_eq row.topic other ≡ false). rw (another, not_its) (queues_with topic n rows other))
    (cases_Bool (bytes_eq row.topic other)))
    (cases_Bool (bytes_eq row.topic topic))

grown : (row : TopicRow) (n : ℕ) → IsTopic row → n ≤ 1024 → IsTopic (record { topic = row.topic; queues = max row.queues n })
grown row n is few = let some = is.some in let least = is.few in record { some = omega (arith, some); few = omega (arith, least, few); plain = is.plain }

topics_with : (topic : List ℕ) (n : ℕ) (rows : List TopicRow) → IsTopic (record { topic = topic; queues = n }) → All IsTopic rows → All IsTopic (with_topic topic n rows)
topics_with topic n [] is all = All-cons IsTopic (record { topic = topic; queues = n }) [] is (All-nil IsTopic)
topics_with topic n (row ∷ rows) is all = ⊎_elim
    (λ (mine : bytes_eq row.topic topic ≡ true). rw mine (All-cons IsTopic (record { topic = row.topic; queues = max row.queues n }) rows (grown row n (All-head IsTopic row rows all) is.few) (All-tail IsTopic row rows all)))
    (λ (another : bytes_eq row.topic topic ≡ false). rw another (All-cons IsTopic row (with_topic topic n rows) (All-head IsTopic row rows all) (topics_with topic n rows is (All-tail IsTopic row rows all))))
    (cases_Bool (bytes_eq row.topic topic))

same_turn : (s : State) (t : State) (out : Option Out) → t.flushed ≡ s.flushed → t.log ≡ s.log → t.failed ≡ s.failed → IfOut out (IsTurn s) → IfOut out (IsTurn t)
same_turn s t None flushed log failed is = is
same_turn s t (Some out) flushed log failed is =
    let few = is.few in
    let held = is.held in
    record {
      some = is.some;
      few = omega (arith, few, flushed);
      held = subst (λ l. out.held ≤ l.base.records + length l.records) (sym log) held;
      grows = subst (λ fs. All (λ f. f.held ≤ out.held) fs) (sym failed) is.grows;
    }

-- at a later time it is a state
pub state_later : (s : State) (now : ℕ) → s.now ≤ now → now < 2 ^ 62 → IsState s → IsState (record s { now = now })
state_later s now later time is = record {
  log = is.log;
  base = is.base;
  dispatched = is.dispatched;
  flushed = is.flushed;
  out = same_turn s (record s { now = now }) s.out refl refl refl is.out;
  now = λ k r at. let low = is.now k r at in omega (arith, low, later);
  saved = record { ahead = is.saved.ahead; cut = is.saved.cut; dispatched = is.saved.dispatched };
  failed = λ k d h. let f = is.failed k d h in record { from = f.from; held = f.held; turn = f.turn };
  host = is.host;
  time = time;
  topics = is.topics;
  order = is.order;
}

-- with a topic more it is a state
pub state_made : (s : State) (topic : List ℕ) (n : ℕ) → IsTopic (record { topic = topic; queues = n }) → IsState s → IsState (with_made s topic n)
state_made s topic n plain is = record {
  log = is.log;
  base = is.base;
  dispatched = is.dispatched;
  flushed = is.flushed;
  out = same_turn s (with_made s topic n) s.out refl refl refl is.out;
  now = is.now;
  saved = record { ahead = is.saved.ahead; cut = is.saved.cut; dispatched = is.saved.dispatched };
  failed = λ k d h. let f = is.failed k d h in record { from = f.from; held = f.held; turn = f.turn };
  host = is.host;
  time = is.time;
  topics = topics_with topic n s.topics plain is.topics;
  order = is.order;
}

-- the parts at a later time
pub represents_later : (old : Parts) (s : State) (now : ℕ) → Represents old s → s.now ≤ now → now < 2 ^ 62 → Represents (record old { now = now }) (record s { now = now })
represents_later old s now are later time =
    let numbers = are.numbers in
    record {
      state = state_later s now later time are.state;
      numbers = record {
        setup = numbers.setup;
        segment = numbers.segment;
        flushed = numbers.flushed;
        dispatched = numbers.dispatched;
        turns = numbers.turns;
        bounded = numbers.bounded;
        now = refl;
        few = numbers.few;
        low = numbers.low;
      };
      pending = are.pending;
      out = are.out;
      failed = are.failed;
      rows = are.rows;
      tabled = are.tabled;
      queues = are.queues;
      stored = are.stored;
      room = are.room;
      topics = are.topics;
      clients = are.clients;
      offsets = are.offsets;
      locks = are.locks;
      names = are.names;
      kept = are.kept;
      halves = are.halves;
      levels = are.levels;
      keys = are.keys;
    }

numbers_topics : (old : Parts) (topics : Topics) (s : State) → HasNumbers old s → HasNumbers (record old { topics = topics }) s
numbers_topics old topics s numbers = record {
  setup = numbers.setup;
  segment = numbers.segment;
  flushed = numbers.flushed;
  dispatched = numbers.dispatched;
  turns = numbers.turns;
  bounded = numbers.bounded;
  now = numbers.now;
  few = numbers.few;
  low = numbers.low;
}

-- the parts with another table of the same topics
pub represents_same_topics : (old : Parts) (topics : Topics) (s : State) → Represents old s → ((topic : List ℕ) → queues_of topics topic ≡ queues_of old.topics topic) → Represents (record old { topics = topics }) s
represents_same_topics old topics s are same = record {
  state = are.state;
  numbers = numbers_topics old topics s are.numbers;
  pending = are.pending;
  out = are.out;
  failed = are.failed;
  rows = are.rows;
  tabled = are.tabled;
  queues = are.queues;
  stored = are.stored;
  room = are.room;
  topics = λ topic. same topic ∙ are.topics topic;
  clients = are.clients;
  offsets = are.offsets;
  locks = are.locks;
  names = are.names;
  kept = are.kept;
  halves = are.halves;
  levels = are.levels;
  keys = are.keys;
}

named_with : (topic : List ℕ) (n : ℕ) (rows : List TopicRow) → is_legal topic ≡ true → All IsNamed rows → All IsNamed (with_topic topic n rows)
named_with topic n [] legal all = All-cons IsNamed (record { topic = topic; queues = n }) [] legal (All-nil IsNamed)
named_with topic n (row ∷ rows) legal all = ⊎_elim
    (λ (mine : bytes_eq row.topic topic ≡ true). rw mine (All-cons IsNamed (record { topic = row.topic; queues = max row.queues n }) rows (All-head IsNamed row rows all) (All-tail IsNamed row rows all)))
    (λ (another : bytes_eq row.topic topic ≡ false). rw another (All-cons IsNamed row (with_topic topic n rows) (All-head IsNamed row rows all) (named_with topic n rows legal (All-tail IsNamed row rows all))))
    (cases_Bool (bytes_eq row.topic topic))

-- the parts with a topic more
pub represents_made : (old : Parts) (topics : Topics) (s : State) (topic : List ℕ) (n : ℕ) → Represents old s → IsTopic (record { topic = topic; queues = n }) → is_legal topic ≡ true
    → ((other : List ℕ) → queues_of topics other ≡ made_count (bytes_eq topic other) (queues_of old.topics topic) n (queues_of old.topics other))
    → Represents (record old { topics = topics }) (with_made s topic n)
represents_made old topics s topic n are plain legal made =
    let numbers = are.numbers in
    record {
      state = state_made s topic n plain are.state;
      numbers = record {
        setup = numbers.setup;
        segment = numbers.segment;
        flushed = numbers.flushed;
        dispatched = numbers.dispatched;
        turns = numbers.turns;
        bounded = numbers.bounded;
        now = numbers.now;
        few = numbers.few;
        low = numbers.low;
      };
      pending = are.pending;
      out = are.out;
      failed = are.failed;
      rows = are.rows;
      tabled = are.tabled;
      queues = are.queues;
      stored = are.stored;
      room = are.room;
      topics = λ other. made other
          ∙ ap (λ had. made_count (bytes_eq topic other) had n (queues_of old.topics other)) (are.topics topic)
          ∙ ap (λ rest. made_count (bytes_eq topic other) (queues_in s.topics topic) n rest) (are.topics other)
          ∙ sym (queues_with topic n s.topics other);
      clients = are.clients;
      offsets = are.offsets;
      locks = are.locks;
      names = named_with topic n s.topics legal are.names;
      kept = are.kept;
      halves = are.halves;
      levels = are.levels;
      keys = are.keys;
    }

pub row_is : (read write : ℕ) → (0 < read) × (read ≤ 1024) → (0 < write) × (write ≤ 1024) → (0 < max read write) × (max read write ≤ 1024)
row_is read write r w = let r0 = r.0 in let r1 = r.1 in let w1 = w.1 in (omega (arith, r0), omega (arith, r1, w1))

-- a topic was made, at some time
pub represents_topic : (old : Parts) (topics : Topics) (s : State) (topic : List ℕ) (read write now : ℕ) → Represents old s → (0 < read) × (read ≤ 1024) → (0 < write) × (write ≤ 1024) → is_legal topic ≡ true → is_system_topic topic ≡ false
    → now < 2 ^ 62 → ((other : List ℕ) → queues_of topics other ≡ made_count (bytes_eq topic other) (queues_of old.topics topic) (max read write) (queues_of old.topics other))
    → Represents (record old { topics = topics; now = max old.now now }) (record (with_made s topic (max read write)) { now = max now s.now })
represents_topic old topics s topic read write now are r w legal own time made =
    let row = row_is read write r w in
    let some = row.0 in
    let same = are.numbers.now in
    let before = are.state.time in
    let is_max : max old.now now ≡ max now s.now = omega (arith, same) in
    subst (λ (n : ℕ). Represents (record old { topics = topics; now = n }) (record (with_made s topic (max read write)) { now = max now s.now })) (sym is_max)
    (represents_later (record old { topics = topics }) (with_made s topic (max read write)) (max now s.now)
    (represents_made old topics s topic (max read write) are (record { some = row.0; few = row.1; plain = own }) legal made) (omega arith) (omega (arith, time, before)))
