-- What consumer groups keep, in the parts and in the state: stored offsets, and locks.
use Rattle.std.proofs.Common.{◌≡◌, refl, ap, sym, ◌∙◌, subst, arith, ℕ, suc, ◌-◌, ◌^◌, ◌<◌, ◌≤◌, max, min, nat_lt, Bool, true, false, cond, List, [], ◌∷◌, length, take, drop, not, filter, All, Some, None, Option, Result, OnOk, OnErr, Ok, Err, length-append}
use Rattle.std.specs.Option.{option_map, option_to_list}
use Rattle.std.specs.Str.{IsUtf8}
use Rattle.std.proofs.lemmas.List.Elements.{All-filter, All-cons, All-head, All-tail}
use Rattle.std.proofs.lemmas.Bool.{and_parts, ltb-true}
use Rattle.request_fields.specs.Clients.{IsName}
use Rattle.request_fields.specs.declared.clients.QueueName.{QueueName}
use Rattle.record_codec.specs.Entry.{Entry}
use Rattle.record_codec.specs.Layout.{is_named, is_legal}
use Rattle.log_model.specs.Numbered.{queue_max}
use Rattle.log_model.specs.Queues.{queue_of}
use Rattle.request_fields.specs.Requests.{LockSaid, IsQueueName, PullSaid, IsFieldName}
use Rattle.request_fields.specs.declared.request.Request.TheVariants as request
use Rattle.broker_model.specs.State.{State, seen}
use Rattle.broker_model.specs.Events as model
use Rattle.broker_model.specs.Lawful.{IsState}
use Rattle.broker_model.specs.Tables.{OffsetRow, LockRow, is_row_of, with_offset, is_same_queue, distinct_queues, is_held_by_other, granted, with_locks, without_locks}
use Rattle.broker_model.specs.Answers.{request_answer, done_reply}
use Rattle.broker_model.specs.Appended.{drafts_of}
use Rattle.broker_model.specs.Refusals.{refusal_of}
use Rattle.broker_model.specs.Step.{changed, request_changed, stored, pull_offset}
use Rattle.group_tables.specs.Held.{lock_of, HasLocks}
use Rattle.group_tables.specs.Locks.{lock_row}
use Rattle.group_tables.specs.Offsets.{offset_of, offset_row, HasOffsets, IsOffset}
use Rattle.group_tables.specs.declared.groups.Groups.{Groups}
use Rattle.group_tables.specs.declared.locks.Lock.{Lock}
use Rattle.reply_fields.specs.Granted.{HasShortNames}
use Rattle.core_log.specs.declared.parts.Parts.{Parts}
use Rattle.core_log.specs.Carries.{Stays}
use Rattle.core_log.specs.Represents.{Represents}
use Rattle.broker_core.proofs.ReadLemmas.{Does, asked_by}
use Rattle.core_log.proofs.SeenLemmas.{queue_parts}
use Rattle.core_log.proofs.StoreLemmas.{offset_low}
use Rattle.broker_core.proofs.StateLemmasReads.{turn_remains}

-- ---- tables that look up the same

pub same_offsets : (old new : Groups) (rows : List OffsetRow) → ((g t : List ℕ) (q : ℕ) → offset_of new g t q ≡ offset_of old g t q) → HasOffsets old rows → HasOffsets new rows
same_offsets old new rows same has g t q = same g t q ∙ has g t q

pub same_locks : (old new : Groups) (rows : List LockRow) → ((g t : List ℕ) (q : ℕ) → lock_of new g t q ≡ lock_of old g t q) → HasLocks old rows → HasLocks new rows
same_locks old new rows same has g q = has g q ∙ ap (λ (lock : Option Lock). option_to_list (option_map (lock_row g q.topic q.queue) lock)) (sym (same g q.topic q.queue))

-- ---- states with other offsets and locks

groups_state : (s : State) (offsets : List OffsetRow) (locks : List LockRow) → IsState s → IsState (record s { offsets = offsets; locks = locks })
groups_state s offsets locks is = record {
  log = is.log;
  base = is.base;
  dispatched = is.dispatched;
  flushed = is.flushed;
  out = turn_remains (record s { offsets = offsets; locks = locks }) s s.out (λ out turn. record { some = turn.some; few = turn.few; held = turn.held; grows = turn.grows }) is.out;
  now = is.now;
  saved = record { ahead = is.saved.ahead; cut = is.saved.cut; dispatched = is.saved.dispatched };
  failed = λ k d h. let f = is.failed k d h in record { from = f.from; held = f.held; turn = f.turn };
  host = is.host;
  time = is.time;
  topics = is.topics;
  order = is.order;
}

-- the parts with other groups
pub represents_groups : (old : Parts) (groups : Groups) (s : State) (offsets : List OffsetRow) (locks : List LockRow) → Represents old s → HasOffsets groups offsets → All IsOffset offsets → HasLocks groups locks
    → Represents (record old { groups = groups }) (record s { offsets = offsets; locks = locks })
represents_groups old groups s offsets locks are has_offsets kept has_locks =
    let n = are.numbers in
    record {
      state = groups_state s offsets locks are.state;
      numbers = record { setup = n.setup; segment = n.segment; flushed = n.flushed; dispatched = n.dispatched; turns = n.turns; bounded = n.bounded; now = n.now; few = n.few; low = n.low };
      pending = are.pending;
      out = are.out;
      failed = are.failed;
      rows = are.rows;
      tabled = are.tabled;
      queues = are.queues;
      stored = are.stored;
      room = are.room;
      topics = are.topics;
      clients = are.clients;
      offsets = has_offsets;
      locks = has_locks;
      names = are.names;
      kept = kept;
      halves = are.halves;
      levels = are.levels;
      keys = are.keys;
    }

-- the parts with groups that keep the same
pub represents_same_groups : (old : Parts) (groups : Groups) (s : State) → Represents old s → ((g t : List ℕ) (q : ℕ) → offset_of groups g t q ≡ offset_of old.groups g t q)
    → ((g t : List ℕ) (q : ℕ) → lock_of groups g t q ≡ lock_of old.groups g t q) → Represents (record old { groups = groups }) s
represents_same_groups old groups s are offsets locks =
    represents_groups old groups s s.offsets s.locks are (same_offsets old.groups groups s.offsets offsets are.offsets) are.kept (same_locks old.groups groups s.locks locks are.locks)

-- ---- offsets

-- consumers see no more of a queue than there is
seen_few : (topic : List ℕ) (queue n : ℕ) (records : List Entry) → length (queue_of (take n records) topic queue) ≤ length (queue_of records topic queue)
seen_few topic queue n records =
    let parts = ap (λ (rs : List Entry). length rs) (queue_parts records n topic queue) in
    let sum = length-append (queue_of (take n records) topic queue) (queue_of (drop n records) topic queue) in
    omega (arith, parts, sum)

-- a group's name in a field is a name
pub name_of_field : (name : List ℕ) → IsFieldName name → IsName name
name_of_field name is = (is.some, is.short)

-- an offset that is at most the queue's end can be kept
can_keep : (core : Parts) (s : State) (group topic : List ℕ) (queue offset : ℕ) → Represents core s → is_legal topic ≡ true → IsName group → IsUtf8 group → queue < 2 ^ 31
    → IsOffset (offset_row group topic queue (min offset (queue_max (seen s) topic queue)))
can_keep core s group topic queue offset are legal name text low =
    let few = seen_few topic queue (s.dispatched - s.log.base.records) s.log.records in
    let end = offset_low core s topic queue are in
    record { topic = legal; group = name; text = text; queue = low; offset = omega (arith, few, end) }

without_row : (p : OffsetRow → Bool) (row : OffsetRow) (rows : List OffsetRow) → IsOffset row → All IsOffset rows → All IsOffset (row ∷ filter p rows)
without_row p row rows is all = All-cons IsOffset row (filter p rows) is (All-filter p IsOffset rows all)

-- an offset was stored, at most the queue's end
pub offset_stored : {A E : Type 0} (old : Parts) (groups : Groups) (group topic : List ℕ) (queue offset end kept : ℕ) (result : Result A E) → ((s : State) → Represents old s → end ≡ queue_max (seen s) topic queue) → kept ≡ min offset end
    → OnOk result ((rows : List OffsetRow) → HasOffsets old.groups rows → HasOffsets groups (with_offset (offset_row group topic queue kept) rows)) → ((g t : List ℕ) (q : ℕ) → lock_of groups g t q ≡ lock_of old.groups g t q)
    → IsName group → IsUtf8 group → queue < 2 ^ 31
    → OnOk result ((s : State) → Represents old s → is_legal topic ≡ true → Represents (record old { groups = groups }) (stored s group topic queue (Some offset)))
offset_stored old groups group topic queue offset end kept (Ok u) end_is kept_is rows locks name text low = λ s are legal.
    let row : kept ≡ min offset (queue_max (seen s) topic queue) = kept_is ∙ ap (λ (n : ℕ). min offset n) (end_is s are) in
    let new = with_offset (offset_row group topic queue (min offset (queue_max (seen s) topic queue))) s.offsets in
    represents_groups old groups s new s.locks are
    (subst (λ (n : ℕ). HasOffsets groups (with_offset (offset_row group topic queue n) s.offsets)) row (rows s.offsets are.offsets))
    (without_row (λ other. not (is_row_of group topic queue other)) (offset_row group topic queue (min offset (queue_max (seen s) topic queue))) s.offsets
    (can_keep old s group topic queue offset are legal name text low) are.kept)
    (same_locks old.groups groups s.locks locks are.locks)
offset_stored old groups group topic queue offset end kept (Err fault) end_is kept_is rows locks name text low = tt

-- none was
pub offset_unstored : {A E : Type 0} (old : Parts) (groups : Groups) (result : Result A E) → OnErr result ((g t : List ℕ) (q : ℕ) → offset_of groups g t q ≡ offset_of old.groups g t q)
    → ((g t : List ℕ) (q : ℕ) → lock_of groups g t q ≡ lock_of old.groups g t q) → OnErr result (Stays old (record old { groups = groups }))
offset_unstored old groups (Ok u) offsets locks = tt
offset_unstored old groups (Err fault) offsets locks = λ s are. represents_same_groups old groups s are offsets locks

-- a pull stored its offset
pub commit_stored : {A E : Type 0} (old new : Parts) (q : PullSaid) (group topic : List ℕ) (queue offset : ℕ) (result : Result A E) → group ≡ q.group → topic ≡ q.topic → queue ≡ q.queue → pull_offset q ≡ Some offset
    → OnOk result ((s : State) → Represents old s → is_legal topic ≡ true → Represents new (stored s group topic queue (Some offset)))
    → OnOk result ((s : State) → Represents old s → is_legal q.topic ≡ true → Represents new (stored s q.group q.topic q.queue (pull_offset q)))
commit_stored old new q group topic queue offset (Ok u) same_group same_topic same_queue is done =
    λ s are legal. subst (λ (t : State). Represents new t) (λ i. stored s (same_group i) (same_topic i) (same_queue i) (sym is i))
    (done s are (subst (λ (t : List ℕ). is_legal t ≡ true) (sym same_topic) legal))
commit_stored old new q group topic queue offset (Err fault) same_group same_topic same_queue is done = tt

-- it stored none
pub commit_none : (old : Parts) (q : PullSaid) (s : State) → pull_offset q ≡ None → Represents old s → Represents old (stored s q.group q.topic q.queue (pull_offset q))
commit_none old q s none are = subst (λ (o : Option ℕ). Represents old (stored s q.group q.topic q.queue o)) (sym none) are

-- ---- locks

pub does_lock : (old : Parts) (link : ℕ) (host : List ℕ) (now : ℕ) (l : LockSaid)
    → Does old (asked_by link host now (request.Lock l)) (λ s. model.Locked (granted now l.group l.client s.locks l.queues))
    (λ s. record s { locks = with_locks now l.group l.client (granted now l.group l.client s.locks l.queues) s.locks })
unfolding drafts_of request_answer changed request_changed refusal_of
does_lock old link host now l = record { none = λ s. refl; answer = λ s. refl; change = λ s. refl; time = λ s. refl; allowed = λ s are. refl }

pub does_unlock : (old : Parts) (link : ℕ) (host : List ℕ) (now : ℕ) (l : LockSaid)
    → Does old (asked_by link host now (request.Unlock l)) (λ s. model.Replies done_reply) (λ s. record s { locks = without_locks l.group l.client l.queues s.locks })
unfolding drafts_of request_answer changed request_changed refusal_of
does_unlock old link host now l = record { none = λ s. refl; answer = λ s. refl; change = λ s. refl; time = λ s. refl; allowed = λ s are. refl }

-- a client got queues
pub lock_done : (old : Parts) (groups : Groups) (s : State) (l : LockSaid) (now : ℕ) (group client : List ℕ) (queues given : List QueueName) → Represents old s → group ≡ l.group → client ≡ l.client
    → queues ≡ l.queues → ((rows : List LockRow) → HasLocks old.groups rows → given ≡ granted now group client rows queues)
    → ((rows : List LockRow) → HasLocks old.groups rows → HasLocks groups (with_locks now group client given rows)) → ((g t : List ℕ) (q : ℕ) → offset_of groups g t q ≡ offset_of old.groups g t q)
    → Represents (record old { groups = groups }) (record s { locks = with_locks now l.group l.client (granted now l.group l.client s.locks l.queues) s.locks })
    × (given ≡ granted now l.group l.client s.locks l.queues)
lock_done old groups s l now group client queues given are same_group same_client same_queues given_is locked offsets =
    let got : given ≡ granted now l.group l.client s.locks l.queues = given_is s.locks are.locks ∙ (λ i. granted now (same_group i) (same_client i) s.locks (same_queues i)) in
    let locks : HasLocks groups (with_locks now l.group l.client (granted now l.group l.client s.locks l.queues) s.locks) =
    subst (λ (rows : List LockRow). HasLocks groups rows) (λ i. with_locks now (same_group i) (same_client i) (got i) s.locks) (locked s.locks are.locks) in
    (represents_groups old groups s s.offsets _ are (same_offsets old.groups groups s.offsets offsets are.offsets) are.kept locks, got)

-- it freed them
pub unlock_done : (old : Parts) (groups : Groups) (s : State) (l : LockSaid) (group client : List ℕ) (queues : List QueueName) → Represents old s → group ≡ l.group → client ≡ l.client → queues ≡ l.queues
    → ((rows : List LockRow) → HasLocks old.groups rows → HasLocks groups (without_locks group client queues rows)) → ((g t : List ℕ) (q : ℕ) → offset_of groups g t q ≡ offset_of old.groups g t q)
    → Represents (record old { groups = groups }) (record s { locks = without_locks l.group l.client l.queues s.locks })
unlock_done old groups s l group client queues are same_group same_client same_queues freed offsets =
    let locks : HasLocks groups (without_locks l.group l.client l.queues s.locks) =
    subst (λ (rows : List LockRow). HasLocks groups rows) (λ i. without_locks (same_group i) (same_client i) (same_queues i) s.locks) (freed s.locks are.locks) in
    represents_groups old groups s s.offsets _ are (same_offsets old.groups groups s.offsets offsets are.offsets) are.kept locks

-- ---- the queues that are granted

all_distinct : (P : QueueName → Type 0) (queues : List QueueName) → All P queues → All P (distinct_queues queues)
all_distinct P [] all = all
all_distinct P (q ∷ queues) all =
    All-cons P q (filter (λ other. not (is_same_queue q other)) (distinct_queues queues)) (All-head P q queues all)
    (All-filter (λ other. not (is_same_queue q other)) P (distinct_queues queues) (all_distinct P queues (All-tail P q queues all)))

shorter : {A : Type 0} (p : A → Bool) (xs : List A) → length (filter p xs) ≤ length xs
shorter p [] = omega arith
shorter p (x ∷ xs) =
    let rest = shorter p xs in
    elim (p x) as (λ b. length (cond b (x ∷ filter p xs) (filter p xs)) ≤ suc (length xs)) [ true ↦ omega (arith, rest) | false ↦ omega (arith, rest) ]

few_distinct : (queues : List QueueName) → length (distinct_queues queues) ≤ length queues
few_distinct [] = omega arith
few_distinct (q ∷ queues) = omega (arith, few_distinct queues, shorter (λ other. not (is_same_queue q other)) (distinct_queues queues))

-- a queue that may be locked has short names
short_names : (q : QueueName) → IsQueueName q → HasShortNames q
short_names q is =
    let parts = and_parts (is_named q.topic) (nat_lt (length q.topic) 128) is.topic in
    let topic = ltb-true (length q.topic) 128 parts.1 in
    let broker = is.broker in
    let queue = is.queue in
    record { topic = omega (arith, topic); broker = broker; queue = omega (arith, queue) }

pub granted_short : (now : ℕ) (group client : List ℕ) (rows : List LockRow) (queues : List QueueName) → All IsQueueName queues → All HasShortNames (granted now group client rows queues)
granted_short now group client rows queues all =
    All-filter (λ q. not (is_held_by_other now group client rows q)) HasShortNames (distinct_queues queues)
    (λ k d h. short_names _ (all_distinct IsQueueName queues all k d h))

pub granted_few : (now : ℕ) (group client : List ℕ) (rows : List LockRow) (queues : List QueueName) → length queues ≤ 4096 → length (granted now group client rows queues) ≤ 4096
granted_few now group client rows queues few = omega (arith, few, few_distinct queues, shorter (λ q. not (is_held_by_other now group client rows q)) (distinct_queues queues))
