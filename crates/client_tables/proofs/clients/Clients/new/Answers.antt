use Rattle.std.proofs.Common.{◌≡◌, [], ap, sym, subst, List, map, reverse, ◌≤◌, string_bytes}
use Rattle.std.specs.List.{All}
use Rattle.std.specs.BTreeMap.{is_at}
use Rattle.std.specs.Cmp.Lexicographic.{slice_cmp}
use Rattle.std.specs.Map.{lookup}
use Rattle.std.specs.Ordering.{nat_cmp}
use Rattle.std.proofs.lemmas.List.Elements.{All-nil}
use Rattle.client_tables.specs.Kept.{in_groups, of_group}
use Rattle.client_tables.specs.Table.{client_of, row_of}
use Rattle.client_tables.specs.declared.heard.Said.{Said}
use Rattle.client_tables.proofs.clients.Clients.new.Goals as goal

pub returns : goal.returns
returns c = record {
  clients = ap (map client_of) c.new-clients.ensures.items;
  heard = λ g t.
      let none : in_groups c.new-heard.result g t ≡ [] = ap (λ es. of_group t (lookup (is_at (λ k. slice_cmp nat_cmp g (string_bytes k))) es)) c.new-heard.ensures.empty in (
        ap (λ (l : List Said). reverse (map (row_of g t) l)) none,
        subst (λ (l : List Said). All (λ s. s.beat ≤ 0) l) (sym none) (All-nil (λ (s : Said). s.beat ≤ 0)),
      );
}
