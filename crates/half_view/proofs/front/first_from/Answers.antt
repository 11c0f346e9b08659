use Rattle.std.proofs.Common.{◌≡◌, ◌≤◌, true, false, List, length, rules, nat_lt, sym, subst, arith}
use Rattle.std.specs.List.Sorted.{IsNonDecreasingBy, IsPartitionPoint}
use Rattle.std.proofs.lemmas.List.Sorted.{IsPartitionedBy-ltb, IsPartitionPoint-from_clause}
use Rattle.half_view.specs.declared.row.HalfRow.{HalfRow}
use Rattle.half_view.proofs.PlaceLemmas.{before_place, from_place, first_is, rest_is}
use Rattle.half_view.proofs.front.first_from.Goals as goal

pub returns : goal.returns
returns c =
    let rows = c.args.rows.now.items in
    let xs = c.as_slice.result.now in
    let same = c.as_slice.ensures.value in
    let place = c.args.place in
    let k = c.partition_point.result in
    let point : IsNonDecreasingBy (λ (row : HalfRow). row.place) rows → IsPartitionPoint (λ (y : HalfRow). nat_lt y.place place ≡ true) (λ (y : HalfRow). nat_lt y.place place ≡ false) xs k = λ rising.
    IsPartitionPoint-from_clause (λ (row : HalfRow). nat_lt row.place place) xs k c.partition_point.ensures.partitioned
    (IsPartitionedBy-ltb (λ (row : HalfRow). row.place) xs place (subst (λ (rs : List HalfRow). IsNonDecreasingBy (λ (row : HalfRow). row.place) rs) (sym same) rising))
    (λ a r f' called. search rules) in
    let within : k ≤ length rows = subst (λ (rs : List HalfRow). k ≤ length rs) same c.partition_point.ensures.bound in
    record {
      within = (let low = within in omega (arith, low));
      first = λ rising. first_is place k rows within (before_place rows xs place k same (point rising).0) (from_place rows xs place k same (point rising).1);
      rest = λ rising. rest_is place k rows within (before_place rows xs place k same (point rising).0) (from_place rows xs place k same (point rising).1);
    }
