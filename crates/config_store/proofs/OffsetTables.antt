-- The table of offsets: its names stand in order, and it has at a group, topic and queue what the first of its rows says.
use Rattle.std.proofs.Common.{◌≡◌, ◌≢◌, ⊎_elim, ℕ, ◌<◌, ◌^◌, ◌==◌, ◌&&◌, List, [], ◌∷◌, true, false, All}
use Rattle.std.proofs.Common.{Option, Some, None, option_map, option_and_then, refl, ◌∙◌, subst, arith, IsUtf8}
use Rattle.std.specs.Prelude.{unwrap_or}
use Rattle.std.specs.Str.{bytes_eq}
use Rattle.std.proofs.lemmas.Bool.{cases_Bool, and_parts, and_from, eqb-true, eq-eqb}
use Rattle.std.proofs.lemmas.Fmt.{decimal_injective}
use Rattle.std.proofs.lemmas.List.Elements.{All-head, All-tail}
use Rattle.std.proofs.lemmas.Slice.Eq.{bytes_eq-Decides}
use Rattle.request_fields.specs.Clients.{IsName}
use Rattle.mq_bytes.specs.Decimal.{digits_of}
use Rattle.record_codec.specs.Layout.{is_legal}
use Rattle.broker_model.specs.Tables.{OffsetRow, offset_in, is_row_of}
use Rattle.serde_json.specs.Data.{Data, number, unsigned, object, Members, no_members, put}
use Rattle.serde_json.specs.Find.{get_member, as_object}
use Rattle.serde_json.proofs.Views.{get_member-put, get_member-put_other}
use Rattle.config_store.specs.Texts.{IsOffset, key_of, members_at, with_offset_row, offset_members}
use Rattle.config_store.proofs.Sorted.{Ascends, put_ascends, get_has, same_or_other}
use Rattle.config_store.proofs.Keys.{one_key}

-- a member of the offsets of a group and topic: the queue's number and its offset
pub record IsQueueMember (name : List ℕ) (d : Data) : Type 0 where
  pub queue : ℕ
  pub offset : ℕ
  pub named : name ≡ digits_of queue
  pub is : d ≡ number (unsigned offset)
  pub low : queue < 2 ^ 31
  pub small : offset < 2 ^ 62

-- a member of the table: the offsets of a group and topic, one at least
pub record IsKeyMember (name : List ℕ) (d : Data) : Type 0 where
  pub topic : List ℕ
  pub group : List ℕ
  pub queues : Members
  pub legal : is_legal topic ≡ true
  pub group_is : IsName group
  pub text : IsUtf8 group
  pub named : name ≡ key_of topic group
  pub is : d ≡ object queues
  pub all : Ascends IsQueueMember queues
  pub first : List ℕ
  pub value : Data
  pub some : get_member first queues ≡ Some value

-- ---- in order

queues_in_order : (o : Option Data) → ((d : Data) → o ≡ Some d → (queues : Members) × (d ≡ object queues) × Ascends IsQueueMember queues)
    → Ascends IsQueueMember (unwrap_or (option_and_then as_object o) no_members)
queues_in_order None each = tt
queues_in_order (Some d) each = let it = each d refl in rw it.1 it.2

row_in_order : (row : OffsetRow) (ms : Members) → IsOffset row → Ascends IsKeyMember ms → Ascends IsKeyMember (with_offset_row row ms)
row_in_order row ms ok all =
    let key = key_of row.topic row.group in
    let queues = queues_in_order (get_member key ms) (λ d found. let it = get_has IsKeyMember key d ms all found in (it.queues, it.is, it.all)) in
    let name = digits_of row.queue in
    let value = number (unsigned row.offset) in
    put_ascends IsKeyMember key _ ms all (record {
      topic = row.topic;
      group = row.group;
      queues = put name value (members_at key ms);
      legal = ok.topic;
      group_is = ok.group;
      text = ok.text;
      named = refl;
      is = refl;
      all = put_ascends IsQueueMember name value (members_at key ms) queues (record {
        queue = row.queue;
        offset = row.offset;
        named = refl;
        is = refl;
        low = ok.queue;
        small = ok.offset;
      });
      first = name;
      value = value;
      some = get_member-put name value (members_at key ms);
    })

-- the names of the table of some rows stand in order
pub rows_in_order : (rows : List OffsetRow) → All IsOffset rows → Ascends IsKeyMember (offset_members rows)
rows_in_order [] ok = tt
rows_in_order (row ∷ rows) ok = row_in_order row (offset_members rows) (All-head IsOffset row rows ok) (rows_in_order rows (All-tail IsOffset row rows ok))

-- ---- what stands at a group, topic and queue

-- the value at a queue's name, in the object at a key
abbrev pub offset_at : List ℕ → List ℕ → Members → Option Data
offset_at key name ms = get_member name (members_at key ms)

-- the value that an offset has
abbrev pub value_of : Option ℕ → Option Data
value_of o = option_map (λ n. number (unsigned n)) o

-- the row is that of this group, topic and queue
pub is_that : (group topic : List ℕ) (queue : ℕ) (row : OffsetRow) → is_row_of group topic queue row ≡ true
    → (row.group ≡ group) × (row.topic ≡ topic) × (row.queue ≡ queue)
is_that group topic queue row set =
    let parts = and_parts (bytes_eq row.group group && bytes_eq row.topic topic) (row.queue == queue) set in
    let names = and_parts (bytes_eq row.group group) (bytes_eq row.topic topic) parts.0 in
    ((bytes_eq-Decides row.group group).0 names.0, (bytes_eq-Decides row.topic topic).0 names.1, eqb-true row.queue queue parts.1)

that_is : (row : OffsetRow) → is_row_of row.group row.topic row.queue row ≡ true
that_is row = and_from _ _ (and_from _ _ ((bytes_eq-Decides row.group row.group).1 refl) ((bytes_eq-Decides row.topic row.topic).1 refl)) (eq-eqb row.queue row.queue refl)

found_at : (row : OffsetRow) (ms : Members) → offset_at (key_of row.topic row.group) (digits_of row.queue) (with_offset_row row ms) ≡ Some (number (unsigned row.offset))
found_at row ms =
    let key = key_of row.topic row.group in
    let name = digits_of row.queue in
    let value = number (unsigned row.offset) in
    let queues = put name value (members_at key ms) in
    rw (get_member-put key (object queues) ms) (get_member-put name value (members_at key ms))

other_at : (topic group : List ℕ) (queue : ℕ) (row : OffsetRow) (ms : Members) → is_legal topic ≡ true → queue < 2 ^ 64 → IsOffset row
    → is_row_of group topic queue row ≡ false
    → offset_at (key_of topic group) (digits_of queue) (with_offset_row row ms) ≡ offset_at (key_of topic group) (digits_of queue) ms
other_at topic group queue row ms legal small ok clear =
    let key = key_of row.topic row.group in
    let name = digits_of row.queue in
    let value = number (unsigned row.offset) in
    let queues = put name value (members_at key ms) in
    ⊎_elim
    (λ (same : key_of topic group ≡ key).
    let parts = one_key topic group row.topic row.group legal ok.topic same in
    let apart : digits_of queue ≢ name = λ equal.
    let number_is = decimal_injective queue row.queue small (omega (arith, ok.queue)) equal in
    let set = that_is row in
    let topic_is = parts.0 in
    let group_is = parts.1 in
    absurd cc in
    rw (same, get_member-put key (object queues) ms) (get_member-put_other (digits_of queue) name value (members_at key ms) apart))
    (λ (other : key_of topic group ≢ key).
    rw (get_member-put_other (key_of topic group) key (object queues) ms other) refl)
    (same_or_other (key_of topic group) key)

pub lookup : (rows : List OffsetRow) (group topic : List ℕ) (queue : ℕ) → All IsOffset rows → is_legal topic ≡ true → queue < 2 ^ 64
    → offset_at (key_of topic group) (digits_of queue) (offset_members rows) ≡ value_of (offset_in rows group topic queue)
lookup [] group topic queue ok legal small = refl
lookup (row ∷ rows) group topic queue ok legal small = ⊎_elim
    (λ (set : is_row_of group topic queue row ≡ true).
    let that = is_that group topic queue row set in
    let here = found_at row (offset_members rows) in
    let group_is = that.0 in
    let topic_is = that.1 in
    let queue_is = that.2 in
    rw set (subst (λ (g : List ℕ). offset_at (key_of topic g) (digits_of queue) (offset_members (row ∷ rows)) ≡ Some (number (unsigned row.offset))) group_is
    (subst (λ (t : List ℕ). offset_at (key_of t row.group) (digits_of queue) (offset_members (row ∷ rows)) ≡ Some (number (unsigned row.offset))) topic_is
    (subst (λ (q : ℕ). offset_at (key_of row.topic row.group) (digits_of q) (offset_members (row ∷ rows)) ≡ Some (number (unsigned row.offset))) queue_is here))))
    (λ (clear : is_row_of group topic queue row ≡ false).
    rw clear (other_at topic group queue row (offset_members rows) legal small (All-head IsOffset row rows ok) clear
    ∙ lookup rows group topic queue (All-tail IsOffset row rows ok) legal small))
    (cases_Bool (is_row_of group topic queue row))
