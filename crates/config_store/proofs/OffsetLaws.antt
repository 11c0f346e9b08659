-- Rows that say the same have one table, and the other way round.
use Rattle.std.proofs.Common.{◌≡◌, ℕ, List, [], ◌∷◌, true, false, ⊎_elim, All, Option, Some, None, option_and_then, refl, sym, ap, ◌∙◌, subst, arith}
use Rattle.std.specs.Prelude.{unwrap_or}
use Rattle.std.proofs.lemmas.Bool.{cases_Bool}
use Rattle.std.proofs.lemmas.List.Elements.{All-head, All-tail}
use Rattle.mq_bytes.specs.Decimal.{digits_of}
use Rattle.broker_model.specs.Tables.{OffsetRow, offset_in, is_row_of}
use Rattle.serde_json.specs.Data.{Data, number, unsigned, object, Members, no_members}
use Rattle.serde_json.specs.Find.{get_member, as_object}
use Rattle.config_store.specs.Texts.{IsOffset, key_of, members_at, offset_members}
use Rattle.config_store.proofs.Sorted.{get_has, ext, same_answers}
use Rattle.config_store.proofs.OffsetTables.{IsQueueMember, IsKeyMember, rows_in_order, offset_at, value_of, lookup, is_that}

one_value : (a : Option ℕ) (n : ℕ) → value_of a ≡ Some (number (unsigned n)) → a ≡ Some n
one_value None n e = absurd cc
one_value (Some m) n e =
    let same : number (unsigned m) ≡ number (unsigned n) = cc in
    let value : unsigned m ≡ unsigned n = cc in
    cc

-- what a row says can be kept
pub found_ok : (rows : List OffsetRow) (group topic : List ℕ) (queue offset : ℕ) → All IsOffset rows → offset_in rows group topic queue ≡ Some offset
    → IsOffset (record { group = group; topic = topic; queue = queue; offset = offset })
found_ok [] group topic queue offset ok found = absurd cc
found_ok (row ∷ rows) group topic queue offset ok found = ⊎_elim
    (λ (set : is_row_of group topic queue row ≡ true).
    let that = is_that group topic queue row set in
    let group_is = that.0 in
    let topic_is = that.1 in
    let queue_is = that.2 in
    let value : Some row.offset ≡ Some offset = rw set at found in
    let offset_is : row.offset ≡ offset = cc in
    let same : record { group = row.group; topic = row.topic; queue = row.queue; offset = row.offset } ≡ record { group = group; topic = topic; queue = queue; offset = offset } = cc in
    subst IsOffset same (All-head IsOffset row rows ok))
    (λ (clear : is_row_of group topic queue row ≡ false).
    found_ok rows group topic queue offset (All-tail IsOffset row rows ok) (rw clear at found))
    (cases_Bool (is_row_of group topic queue row))

-- ---- from the table to the rows

says : (rows others : List OffsetRow) → All IsOffset rows → All IsOffset others → offset_members rows ≡ offset_members others
    → (group topic : List ℕ) (queue offset : ℕ) → offset_in rows group topic queue ≡ Some offset → offset_in others group topic queue ≡ Some offset
says rows others ok also same group topic queue offset found =
    let it = found_ok rows group topic queue offset ok found in
    let left = lookup rows group topic queue ok it.topic (omega (arith, it.queue)) in
    let right = lookup others group topic queue also it.topic (omega (arith, it.queue)) in
    one_value _ offset (sym right ∙ ap (offset_at (key_of topic group) (digits_of queue)) (sym same) ∙ left ∙ ap value_of found)

pub one_table_offsets : (rows others : List OffsetRow) → All IsOffset rows → All IsOffset others → offset_members rows ≡ offset_members others
    → (group topic : List ℕ) (queue : ℕ) → offset_in rows group topic queue ≡ offset_in others group topic queue
one_table_offsets rows others ok also same group topic queue =
    same_answers _ _ (λ offset found. says rows others ok also same group topic queue offset found)
    (λ offset found. says others rows also ok (sym same) group topic queue offset found)

-- ---- from the rows to the table

-- what stands at a name of a table, in an object at a name
record Stands (rows : List OffsetRow) (key name : List ℕ) (d : Data) : Type 0 where
  group : List ℕ
  topic : List ℕ
  queue : ℕ
  offset : ℕ
  key_is : key ≡ key_of topic group
  name_is : name ≡ digits_of queue
  is : d ≡ number (unsigned offset)
  found : offset_in rows group topic queue ≡ Some offset
  ok : IsOffset (record { group = group; topic = topic; queue = queue; offset = offset })

at_table : (o : Option Data) (name : List ℕ) (d : Data) → get_member name (unwrap_or (option_and_then as_object o) no_members) ≡ Some d → (table : Data) × (o ≡ Some table)
at_table None name d found = absurd cc
at_table (Some table) name d found = (table, refl)

table_of : (o : Option Data) (d : Data) (queues : Members) → o ≡ Some d → d ≡ object queues → unwrap_or (option_and_then as_object o) no_members ≡ queues
table_of o d queues there is = ap (λ (x : Option Data). unwrap_or (option_and_then as_object x) no_members) (there ∙ ap Some is)

stands : (rows : List OffsetRow) (key name : List ℕ) (d : Data) → All IsOffset rows → offset_at key name (offset_members rows) ≡ Some d → Stands rows key name d
stands rows key name d ok found =
    let ms = offset_members rows in
    let table = at_table (get_member key ms) name d found in
    let it = get_has IsKeyMember key table.0 ms (rows_in_order rows ok) table.1 in
    let there = table.1 in
    let queues_are : members_at key ms ≡ it.queues = table_of _ _ _ there it.is in
    let inside : get_member name it.queues ≡ Some d = ap (get_member name) (sym queues_are) ∙ found in
    let member_is = get_has IsQueueMember name d it.queues it.all inside in
    let at_key : offset_at (key_of it.topic it.group) (digits_of member_is.queue) ms ≡ Some d =
    ap (λ (k : List ℕ). offset_at k (digits_of member_is.queue) ms) (sym it.named) ∙ ap (λ (n : List ℕ). offset_at key n ms) (sym member_is.named) ∙ found in
    let looked = lookup rows it.group it.topic member_is.queue ok it.legal (omega (arith, member_is.low)) in
    let row = one_value _ member_is.offset (sym looked ∙ at_key ∙ ap Some member_is.is) in
    record {
      group = it.group;
      topic = it.topic;
      queue = member_is.queue;
      offset = member_is.offset;
      key_is = it.named;
      name_is = member_is.named;
      is = member_is.is;
      found = row;
      ok = found_ok rows it.group it.topic member_is.queue member_is.offset ok row;
    }

module _ (rows others : List OffsetRow) (ok : All IsOffset rows) (also : All IsOffset others)
    (same : (group topic : List ℕ) (queue : ℕ) → offset_in rows group topic queue ≡ offset_in others group topic queue) where
  at_both : (key name : List ℕ) (d : Data) → offset_at key name (offset_members rows) ≡ Some d → offset_at key name (offset_members others) ≡ Some d
  at_both key name d found =
      let it = stands rows key name d ok found in
      let looked = lookup others it.group it.topic it.queue also it.ok.topic (omega (arith, it.ok.queue)) in
      ap (λ (k : List ℕ). offset_at k name (offset_members others)) it.key_is
      ∙ ap (λ (n : List ℕ). offset_at (key_of it.topic it.group) n (offset_members others)) it.name_is
      ∙ looked ∙ ap value_of (sym (same it.group it.topic it.queue) ∙ it.found) ∙ ap Some (sym it.is)

tables_at : (rows others : List OffsetRow) (ok : All IsOffset rows) (also : All IsOffset others)
    → ((group topic : List ℕ) (queue : ℕ) → offset_in rows group topic queue ≡ offset_in others group topic queue)
    → (key : List ℕ) (d : Data) → get_member key (offset_members rows) ≡ Some d → get_member key (offset_members others) ≡ Some d
tables_at rows others ok also same key d there =
    let ms = offset_members rows in
    let ns = offset_members others in
    let it = get_has IsKeyMember key d ms (rows_in_order rows ok) there in
    let queues_are : members_at key ms ≡ it.queues = table_of _ _ _ there it.is in
    let first : offset_at key it.first ms ≡ Some it.value = ap (get_member it.first) queues_are ∙ it.some in
    let second = at_both rows others ok also same key it.first it.value first in
    let table = at_table (get_member key ns) it.first it.value second in
    let that = get_has IsKeyMember key table.0 ns (rows_in_order others also) table.1 in
    let found = table.1 in
    let others_are : members_at key ns ≡ that.queues = table_of _ _ _ found that.is in
    let equal = ext IsQueueMember IsQueueMember it.queues that.queues it.all that.all (λ name. same_answers _ _
    (λ x inside. ap (get_member name) (sym others_are) ∙ at_both rows others ok also same key name x (ap (get_member name) queues_are ∙ inside))
    (λ x inside. ap (get_member name) (sym queues_are)
    ∙ at_both others rows also ok (λ g t q. sym (same g t q)) key name x (ap (get_member name) others_are ∙ inside))) in
    found ∙ ap Some (that.is ∙ ap object (sym equal) ∙ sym it.is)

pub offsets_one_table : (rows others : List OffsetRow) → All IsOffset rows → All IsOffset others
    → ((group topic : List ℕ) (queue : ℕ) → offset_in rows group topic queue ≡ offset_in others group topic queue) → offset_members rows ≡ offset_members others
offsets_one_table rows others ok also same =
    ext IsKeyMember IsKeyMember (offset_members rows) (offset_members others) (rows_in_order rows ok) (rows_in_order others also) (λ key. same_answers _ _
    (λ d there. tables_at rows others ok also same key d there)
    (λ d there. tables_at others rows also ok (λ g t q. sym (same g t q)) key d there))
