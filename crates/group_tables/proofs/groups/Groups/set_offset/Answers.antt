use Rattle.std.proofs.Common.{◌≡◌, ◌∙◌, ◌==◌, ◌&&◌, sym, List, ℕ, Some, cond}
use Rattle.std.specs.Str.{bytes_eq}
use Rattle.broker_model.specs.Tables.{OffsetRow}
use Rattle.group_tables.specs.Offsets.{offset_row, HasOffsets}
use Rattle.group_tables.specs.Table.{in_groups}
use Rattle.group_tables.proofs.TableLemmas.{on_ok}
use Rattle.group_tables.proofs.OffsetLemmas.{in_turn, offset_in-with_offset}
use Rattle.group_tables.proofs.groups.Groups.set_offset.Goals as goal

pub returns-clause-rows : goal.returns-clause-rows
returns-clause-rows c =
    let row = offset_row c.args.group.now c.args.topic.now c.args.queue c.args.offset in
    on_ok c.set_value.result
    (λ (set : (g t : List ℕ) (q : ℕ) → in_groups c.set_value.new.groups g t q
    ≡ cond (bytes_eq row.group g && (bytes_eq row.topic t && (row.queue == q))) (Some row.offset) (in_groups c.args.self.now.offsets g t q)) (rows : List OffsetRow) (has : HasOffsets c.args.self.now rows) (group topic : List ℕ) (queue : ℕ).
    set group topic queue ∙ (λ i. cond (in_turn (bytes_eq row.group group) (bytes_eq row.topic topic) (row.queue == queue) i) (Some row.offset) (has group topic queue i)) ∙ sym (offset_in-with_offset row group topic queue rows))
    c.set_value.ensures.set
