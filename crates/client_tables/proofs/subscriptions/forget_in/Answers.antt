use Rattle.std.proofs.Common.{◌∙◌, refl, sym, ap, rules, List, Option, Some, not, filter}
use Rattle.std.specs.Str.{bytes_eq}
use Rattle.std.proofs.lemmas.Map.Text.{btree_map_updates_text}
use Rattle.client_tables.specs.Kept.{goes, of_group, in_groups}
use Rattle.client_tables.specs.declared.heard.Said.{Said}
use Rattle.client_tables.proofs.MapLemmas.{after_change, gone_if, none_gone}
use Rattle.client_tables.proofs.subscriptions.forget_in.Goals as goal

pub returns-in-Some : goal.returns-in-Some
returns-in-Some c = λ g t.
    let w = c.forget_in_topics.new.topics in
    let test = goes c.args.client.now c.args.first c.args.last in
    after_change (of_group t) c.args.groups.now (c.get_mut.follows.lender w) c.args.group.now w (λ (l : List Said). filter (λ said. not (test said)) l)
    (btree_map_updates_text c.args.group.now c.args.groups.now (c.get_mut.follows.lender w) (Some w) ((c.get_mut.follows.holds w).3 (search rules)))
    (c.forget_in_topics.ensures t ∙ ap (λ (o : Option _). filter (λ said. not (test said)) (of_group t o)) c.in-Some.ensures.value) g
    ∙ gone_if (bytes_eq c.args.group.now g) test (in_groups c.args.groups.now g t)

pub returns-in_default : goal.returns-in_default
returns-in_default c = λ g t.
    ap (λ groups. in_groups groups g t) c.get_mut.follows.holds-at-none
    ∙ none_gone (of_group t) c.args.groups.now c.args.group.now (goes c.args.client.now c.args.first c.args.last) refl (sym c.in_default.ensures.value) g
