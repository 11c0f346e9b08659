use Rattle.std.proofs.Common.{◌∙◌, ap, sym, rules, List, [], ℕ, Option, Some, string_bytes}
use Rattle.std.specs.Option.{unwrap_or}
use Rattle.std.specs.Str.{bytes_eq}
use Rattle.std.specs.BTreeMap.{get_by_text}
use Rattle.std.specs.Map.{update}
use Rattle.std.proofs.lemmas.Map.Text.{btree_map_updates_text}
use Rattle.log_recovery.proofs.CountLemmas.{counted_after, counted_same, on_err}
use Rattle.log_recovery.proofs.counts.set_count.Goals as goal

pub returns-in_err-set-clause-same : goal.returns-in_err-set-clause-same
returns-in_err-set-clause-same c =
    on_err _ (counted_same c.args.counts.now (c.get_mut.follows.lender c.set.new.self) c.args.topic.now c.in-Some.of_topic.now c.set.new.self
    (btree_map_updates_text c.args.topic.now c.args.counts.now (c.get_mut.follows.lender c.set.new.self) (Some c.set.new.self) ((c.get_mut.follows.holds c.set.new.self).3 (search rules)))
    (ap (λ (o : Option (List ℕ)). unwrap_or o []) (sym c.in-Some.ensures.value)) c.in_err-set.ensures.same)

pub returns-in-Some-clause-counted : goal.returns-in-Some-clause-counted
returns-in-Some-clause-counted c =
    counted_after c.args.counts.now (c.get_mut.follows.lender c.set.new.self) c.args.topic.now c.in-Some.of_topic.now c.set.new.self c.args.queue c.args.count
    (btree_map_updates_text c.args.topic.now c.args.counts.now (c.get_mut.follows.lender c.set.new.self) (Some c.set.new.self) ((c.get_mut.follows.holds c.set.new.self).3 (search rules)))
    (ap (λ (o : Option (List ℕ)). unwrap_or o []) (sym c.in-Some.ensures.value)) c.in_ok-set.ensures.set

pub returns-clause-counted : goal.returns-clause-counted
returns-clause-counted c =
    let same = c.get_mut.follows.holds-at-none in
    let updates = btree_map_updates_text (string_bytes c.in_ok-name.name) c.get_mut.follows.lender-at-none c.insert.new.self (Some c.set-2.new.self) c.in_ok-insert.ensures.updates in
    counted_after c.args.counts.now c.insert.new.self c.args.topic.now c.new-of_topic.result c.set-2.new.self c.args.queue c.args.count
    (λ other. updates other ∙ (λ i. update bytes_eq (get_by_text (same i)) (c.in_ok-name.ensures.ok i) (Some c.set-2.new.self) other))
    (ap (λ (o : Option (List ℕ)). unwrap_or o []) (sym c.in_default.ensures.value) ∙ sym c.new-of_topic.ensures) c.in_ok-set-2.ensures.set
