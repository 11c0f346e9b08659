-- Rows that are read of members, one member after another.
use Rattle.std.proofs.Common.{◌≡◌, ◌≢◌, ℕ, ◌<◌, ◌^◌, List, [], ◌∷◌, ◌++◌, All, Some, true, refl, sym, ap, ◌∙◌, subst, append_assoc, append-nil, option_and_then, codes, arith, length}
use Rattle.std.proofs.lemmas.List.Elements.{All-nil, All-head, All-tail, All-append, All-cons}
use Rattle.request_fields.specs.Clients.{IsName}
use Rattle.mq_bytes.specs.Decimal.{digits_of}
use Rattle.record_codec.specs.Layout.{is_legal}
use Rattle.broker_model.specs.Tables.{OffsetRow, TopicRow}
use Rattle.serde_json.specs.Data.{Data, object, Members, no_members, member}
use Rattle.serde_json.specs.Find.{get}
use Rattle.serde_json.specs.View.{members_view}
use Rattle.serde_json.proofs.Views.{Entry}
use Rattle.config_store.specs.Texts.{key_of, IsOffset, IsKeptTopic}
use Rattle.config_store.specs.Reads.{number_in, AreQueueRows, AreKeyRows, AreTableRows, AreTopicRows}
use Rattle.config_store.proofs.Keys.{one_key}

-- the rows of some members were added, and these are left
pub record Adds {X : Type 0} (Are : Members → List X → Type 0) (Ok : X → Type 0) (ms left : Members) (old new : List X) : Type 0 where
  pub done : List X
  pub added : new ≡ old ++ done
  pub ok : All Ok done
  pub whole : (rest : List X) → Are left rest → Are ms (done ++ rest)
  pub parts : (more : List X) → Are ms more → All Ok more → (rest : List X) × (Are left rest × All Ok rest)

module _ {X : Type 0} (Are : Members → List X → Type 0) (Ok : X → Type 0) where
  pub adds_none : (ms : Members) (old : List X) → Adds Are Ok ms ms old old
  adds_none ms old = record {
    done = [];
    added = sym (append-nil old);
    ok = All-nil Ok;
    whole = λ rest are. are;
    parts = λ more are ok. (more, (are, ok));
  }

  -- one member more
  pub adds_more : (ms left rest : Members) (old new all more : List X) → Adds Are Ok ms left old new → all ≡ new ++ more → All Ok more
      → ((rows : List X) → Are rest rows → Are left (more ++ rows)) → ((rows : List X) → Are left rows → All Ok rows → (others : List X) × (Are rest others × All Ok others))
      → Adds Are Ok ms rest old all
  adds_more ms left rest old new all more so_far are ok goes comes = record {
    done = so_far.done ++ more;
    added = are ∙ ap (λ (l : List X). l ++ more) so_far.added ∙ append_assoc old so_far.done more;
    ok = All-append Ok so_far.done more so_far.ok ok;
    whole = λ rows is. subst (λ (l : List X). Are ms l) (sym (append_assoc so_far.done more rows)) (so_far.whole (more ++ rows) (goes rows is));
    parts = λ rows is all_ok. let first = so_far.parts rows is all_ok in comes first.0 first.1.0 first.1.1;
  }

  -- no member is left
  pub adds_all : (ms : Members) (old new : List X) → Are no_members [] → Adds Are Ok ms no_members old new → (more : List X) × (new ≡ old ++ more) × Are ms more × All Ok more
  adds_all ms old new none so_far =
      (so_far.done, so_far.added, subst (λ (l : List X). Are ms l) (append-nil so_far.done) (so_far.whole [] none), so_far.ok)

-- ---- the offsets of a group and topic

pub queue_more : (topic group name : List ℕ) (d : Data) (ms rest : Members) (old new all : List OffsetRow) (row : OffsetRow)
    → Adds (AreQueueRows topic group) IsOffset ms (member name d rest) old new → all ≡ new ++ row ∷ []
    → (row.topic ≡ topic) × (row.group ≡ group) × (name ≡ digits_of row.queue) × (number_in d ≡ Some row.offset) × IsOffset row
    → Adds (AreQueueRows topic group) IsOffset ms rest old all
queue_more topic group name d ms rest old new all row so_far are read =
    adds_more (AreQueueRows topic group) IsOffset ms (member name d rest) rest old new all (row ∷ []) so_far are (All-cons IsOffset row [] read.4 (All-nil IsOffset))
    (λ rows is. (
      row.queue,
      row.offset,
      rows,
      read.2,
      read.3,
      ap (λ (r : OffsetRow). r ∷ rows) (ap (λ (g : List ℕ). record { group = g; topic = row.topic; queue = row.queue; offset = row.offset }) read.1
          ∙ ap (λ (t : List ℕ). record { group = group; topic = t; queue = row.queue; offset = row.offset }) read.0),
      is,
    ))
    (λ rows is ok. (is.2, (is.6, All-tail IsOffset (record { group = group; topic = topic; queue = is.0; offset = is.1 }) is.2 (subst (All IsOffset) is.5 ok))))

pub queue_bad : (topic group name : List ℕ) (d : Data) (ms rest : Members) (old new : List OffsetRow) → Adds (AreQueueRows topic group) IsOffset ms (member name d rest) old new
    → ((queue offset : ℕ) → queue < 2 ^ 31 → offset < 2 ^ 62 → name ≡ digits_of queue → number_in d ≡ Some offset → ⊥)
    → (more : List OffsetRow) → AreQueueRows topic group ms more → All IsOffset more → ⊥
queue_bad topic group name d ms rest old new so_far bad more are ok =
    let left = so_far.parts more are ok in
    let it = left.1.0 in
    let first = All-head IsOffset (record { group = group; topic = topic; queue = it.0; offset = it.1 }) it.2 (subst (All IsOffset) it.5 left.1.1) in
    bad it.0 it.1 first.queue first.offset it.3 it.4

-- ---- the table of offsets

all_behind : {X : Type 0} (P : X → Type 0) (xs ys : List X) → All P (xs ++ ys) → All P ys
all_behind P [] ys all = all
all_behind P (x ∷ xs) ys all = all_behind P xs ys (All-tail P x (xs ++ ys) all)

all_front : {X : Type 0} (P : X → Type 0) (xs ys : List X) → All P (xs ++ ys) → All P xs
all_front P [] ys all = All-nil P
all_front P (x ∷ xs) ys all = All-cons P x xs (All-head P x (xs ++ ys) all) (all_front P xs ys (All-tail P x (xs ++ ys) all))

pub key_more : (name : List ℕ) (d : Data) (ms rest : Members) (old new all : List OffsetRow) → Adds AreTableRows IsOffset ms (member name d rest) old new
    → (more : List OffsetRow) × (all ≡ new ++ more) × AreKeyRows name d more × All IsOffset more → Adds AreTableRows IsOffset ms rest old all
key_more name d ms rest old new all so_far read =
    adds_more AreTableRows IsOffset ms (member name d rest) rest old new all read.0 so_far read.1 read.3
    (λ rows is. (read.0, rows, read.2, refl, is))
    (λ rows is ok. (is.1, (is.4, all_behind IsOffset is.0 is.1 (subst (All IsOffset) is.3 ok))))

pub key_bad : (name : List ℕ) (d : Data) (ms rest : Members) (old new : List OffsetRow) → Adds AreTableRows IsOffset ms (member name d rest) old new
    → ((more : List OffsetRow) → AreKeyRows name d more → All IsOffset more → ⊥) → (rows : List OffsetRow) → AreTableRows ms rows → All IsOffset rows → ⊥
key_bad name d ms rest old new so_far bad rows are ok =
    let left = so_far.parts rows are ok in
    let it = left.1.0 in
    bad it.0 it.2 (all_front IsOffset it.0 it.1 (subst (All IsOffset) it.3 left.1.1))

-- ---- one member of the table of offsets

pub some_rows : (topic group : List ℕ) (queues : Members) (rows : List OffsetRow) → queues ≢ no_members → AreQueueRows topic group queues rows → 0 < length rows
some_rows topic group no_members rows some are = absurd (some refl)
some_rows topic group (member name d rest) rows some are = let size = ap length are.5 in omega (arith, size)

pub some_members : (es : List Entry) → 0 < length es → members_view es ≢ no_members
some_members [] some = absurd (omega (arith, some))
some_members (e ∷ es) some = λ same. cc

pub no_members_left : (es : List Entry) → length es ≡ 0 → members_view es ≡ no_members
no_members_left [] none = refl
no_members_left (e ∷ es) none = absurd (omega (arith, none))

pub key_rows : (name : List ℕ) (d : Data) (topic group : List ℕ) (es : List Entry) (rows : List OffsetRow) → name ≡ key_of topic group → d ≡ object (members_view es)
    → 0 < length es → AreQueueRows topic group (members_view es) rows → AreKeyRows name d rows
key_rows name d topic group es rows named table some are = record {
  topic = topic;
  group = group;
  queues = members_view es;
  named = named;
  table = table;
  are = are;
  some = some_rows topic group (members_view es) rows (some_members es some) are;
}

queue_rows_ok : (topic group : List ℕ) (queues : Members) (rows : List OffsetRow) → AreQueueRows topic group queues rows → 0 < length rows → All IsOffset rows
    → (is_legal topic ≡ true) × IsName group
queue_rows_ok topic group no_members rows are some ok = let size = ap length are in absurd (omega (arith, size, some))
queue_rows_ok topic group (member name d rest) rows are some ok =
    let first = All-head IsOffset (record { group = group; topic = topic; queue = are.0; offset = are.1 }) are.2 (subst (All IsOffset) are.5 ok) in
    (first.topic, first.group)

-- a member's rows that can be kept have a legal topic, and a group with a name
pub key_ok : (name : List ℕ) (d : Data) (rows : List OffsetRow) (are : AreKeyRows name d rows) → All IsOffset rows → (is_legal are.topic ≡ true) × IsName are.group
key_ok name d rows are ok = queue_rows_ok are.topic are.group are.queues rows are.are are.some ok

-- they are the rows of this topic and group
pub key_parts : (name : List ℕ) (d : Data) (topic group : List ℕ) (es : List Entry) (rows : List OffsetRow) → name ≡ key_of topic group → is_legal topic ≡ true
    → d ≡ object (members_view es) → AreKeyRows name d rows → All IsOffset rows → AreQueueRows topic group (members_view es) rows
key_parts name d topic group es rows named legal table are ok =
    let it = key_ok name d rows are ok in
    let parts = one_key are.topic are.group topic group it.0 legal (sym are.named ∙ named) in
    let whole : object are.queues ≡ object (members_view es) = sym are.table ∙ table in
    let queues : are.queues ≡ members_view es = cc in
    subst (λ (t : List ℕ). AreQueueRows t group (members_view es) rows) parts.0
    (subst (λ (g : List ℕ). AreQueueRows are.topic g (members_view es) rows) parts.1
    (subst (λ (ms : Members). AreQueueRows are.topic are.group ms rows) queues are.are))

pub key_empty : (name : List ℕ) (d : Data) (rows : List OffsetRow) → d ≡ object no_members → AreKeyRows name d rows → ⊥
key_empty name d rows table are =
    let whole : object are.queues ≡ object no_members = sym are.table ∙ table in
    let queues : are.queues ≡ no_members = cc in
    let none : rows ≡ [] = subst (λ (ms : Members). AreQueueRows are.topic are.group ms rows) queues are.are in
    let size = ap length none in
    let some = are.some in
    omega (arith, size, some)

-- ---- the table of topics

pub topic_more : (name : List ℕ) (d : Data) (ms rest : Members) (old new all : List TopicRow) (row : TopicRow) → Adds AreTopicRows IsKeptTopic ms (member name d rest) old new
    → all ≡ new ++ row ∷ [] → (row.topic ≡ name) × (option_and_then number_in (get (codes "queues") d) ≡ Some row.queues) × IsKeptTopic row
    → Adds AreTopicRows IsKeptTopic ms rest old all
topic_more name d ms rest old new all row so_far are read =
    adds_more AreTopicRows IsKeptTopic ms (member name d rest) rest old new all (row ∷ []) so_far are (All-cons IsKeptTopic row [] read.2 (All-nil IsKeptTopic))
    (λ rows is. (row.queues, rows, read.1, ap (λ (t : List ℕ). record { topic = t; queues = row.queues } ∷ rows) read.0, is))
    (λ rows is ok. (is.1, (is.4, All-tail IsKeptTopic (record { topic = name; queues = is.0 }) is.1 (subst (All IsKeptTopic) is.3 ok))))

pub topic_bad : (name : List ℕ) (d : Data) (ms rest : Members) (old new : List TopicRow) → Adds AreTopicRows IsKeptTopic ms (member name d rest) old new
    → ((row : TopicRow) → row.topic ≡ name → option_and_then number_in (get (codes "queues") d) ≡ Some row.queues → IsKeptTopic row → ⊥)
    → (rows : List TopicRow) → AreTopicRows ms rows → All IsKeptTopic rows → ⊥
topic_bad name d ms rest old new so_far bad rows are ok =
    let left = so_far.parts rows are ok in
    let it = left.1.0 in
    let first = All-head IsKeptTopic (record { topic = name; queues = it.0 }) it.1 (subst (All IsKeptTopic) it.3 left.1.1) in
    bad (record { topic = name; queues = it.0 }) refl it.2 first
