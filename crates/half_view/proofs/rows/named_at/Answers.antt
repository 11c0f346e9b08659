use Rattle.std.proofs.Common.{◌≡◌, ◌≢◌, ◌∙◌, ◌<◌, true, false, List, length, slice_get, Some, rules, nat_lt, sym, ap, subst, arith}
use Rattle.std.specs.List.Sorted.{IsNonDecreasingBy, IsPartitionPoint}
use Rattle.std.proofs.lemmas.List.Sorted.{IsPartitionedBy-ltb, IsPartitionPoint-from_clause}
use Rattle.std.proofs.lemmas.Option.{same_Some}
use Rattle.half_view.specs.declared.row.HalfRow.{HalfRow}
use Rattle.half_view.proofs.ListLemmas.{get_read, get_within}
use Rattle.half_view.proofs.PlaceLemmas.{before_point, behind_point, place_found, place_absent}
use Rattle.half_view.proofs.rows.named_at.Goals.{else-k-len-via-then-k-len+else-index-place, else-k-len-via-else-k-len}
use Rattle.half_view.proofs.rows.named_at.Goals as goal

pub returns-then-index-place : goal.returns-then-index-place
returns-then-index-place c rising =
    let rows = c.args.rows.now.items in
    let xs = c.as_slice.result.now in
    let same = c.as_slice.ensures.value in
    let point : IsPartitionPoint (λ (y : HalfRow). nat_lt y.place c.args.place ≡ true) (λ (y : HalfRow). nat_lt y.place c.args.place ≡ false) xs c.partition_point-k.result =
    IsPartitionPoint-from_clause (λ (row : HalfRow). nat_lt row.place c.args.place) xs c.partition_point-k.result c.partition_point-k.ensures.partitioned
    (IsPartitionedBy-ltb (λ (row : HalfRow). row.place) xs c.args.place (subst (λ (rs : List HalfRow). IsNonDecreasingBy (λ (row : HalfRow). row.place) rs) (sym same) rising))
    (λ a r f' called. search rules) in
    let k = c.partition_point-k.result in
    let row = c.index-then-index-place.result.now in
    let within : k < length rows = (let less = c.if-k-len.true in let size = c.len.ensures in omega (arith, less, size)) in
    let at = get_read rows k row within c.index-then-index-place.ensures in
    let one : c.index.result.now ≡ row = same_Some c.index.result.now row (sym (get_read rows k c.index.result.now within c.index.ensures) ∙ at) in
    place_found rows c.args.place k row (before_point rows xs c.args.place k same point.0) at (ap (λ (x : HalfRow). x.place) (sym one) ∙ c.if-index-place.true)

pub returns-else-k-len : goal.returns-else-k-len
returns-else-k-len c rising =
    let rows = c.args.rows.now.items in
    let xs = c.as_slice.result.now in
    let same = c.as_slice.ensures.value in
    let point : IsPartitionPoint (λ (y : HalfRow). nat_lt y.place c.args.place ≡ true) (λ (y : HalfRow). nat_lt y.place c.args.place ≡ false) xs c.partition_point-k.result =
    IsPartitionPoint-from_clause (λ (row : HalfRow). nat_lt row.place c.args.place) xs c.partition_point-k.result c.partition_point-k.ensures.partitioned
    (IsPartitionedBy-ltb (λ (row : HalfRow). row.place) xs c.args.place (subst (λ (rs : List HalfRow). IsNonDecreasingBy (λ (row : HalfRow). row.place) rs) (sym same) rising))
    (λ a r f' called. search rules) in
    let k = c.partition_point-k.result in
    let not : (x : HalfRow) → slice_get rows k ≡ Some x → x.place ≢ c.args.place = λ x at is. elim c.else-k-len.branch [
      | else-k-len-via-then-k-len+else-index-place w ↦
          (let one : w.index.result.now ≡ x = same_Some w.index.result.now x (sym (get_read rows k w.index.result.now (get_within rows k x at) w.index.ensures) ∙ at) in
          absurd (w.if-index-place.false (ap (λ (y : HalfRow). y.place) one ∙ is)))
      | else-k-len-via-else-k-len w ↦
          (let less = get_within rows k x at in let over = w.if-k-len.false in let size = c.len.ensures in absurd (omega (arith, less, over, size)))
    ] in
    place_absent rows c.args.place k (before_point rows xs c.args.place k same point.0) (behind_point rows xs c.args.place k same point.1 rising not)
