use Rattle.std.proofs.Common.{refl, rules, List, not, filter, string_bytes}
use Rattle.std.specs.BTreeMap.{is_at}
use Rattle.std.specs.Cmp.Lexicographic.{slice_cmp}
use Rattle.std.specs.Ordering.{nat_cmp}
use Rattle.client_tables.specs.Kept.{goes, of_group}
use Rattle.client_tables.specs.declared.heard.Said.{Said}
use Rattle.client_tables.proofs.MapLemmas.{retained}
use Rattle.client_tables.proofs.subscriptions.forget.Goals as goal

pub returns : goal.returns
returns c g t =
    retained (of_group t) (λ (l : List Said). filter (λ said. not (goes c.args.client.now c.args.first c.args.last said)) l) _ _ refl
    (λ k v b w f' call. search rules) _ _ c.retain.ensures.filtered (is_at (λ k. slice_cmp nat_cmp g (string_bytes k)))
