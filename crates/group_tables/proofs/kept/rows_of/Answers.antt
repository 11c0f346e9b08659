use Rattle.std.proofs.Common.{◌≡◌, ◌∙◌, ap, sym, subst, ℕ, List, All, cond, true, None, Some, Option, rules}
use Rattle.std.specs.HashMap.{get}
use Rattle.std.specs.Option.{option_or, option_and_then}
use Rattle.std.specs.Str.{bytes_eq}
use Rattle.std.specs.String.{string_eq}
use Rattle.std.proofs.lemmas.List.Elements.{All-nil, All-head, All-tail, All-append, All-weaker}
use Rattle.broker_model.specs.Tables.{OffsetRow, offset_in}
use Rattle.group_tables.specs.Table.{in_topics, in_groups}
use Rattle.group_tables.specs.Offsets.{IsOfTopics, IsOfGroups}
use Rattle.group_tables.proofs.KeptLemmas.{of_names, AreApart, name_on, apart_tail}
use Rattle.group_tables.proofs.kept.rows_of.Goals as goal

pub loop-group-init : goal.loop-group-init
loop-group-init c =
    let groups = c.args.groups.now in
    let all : c.into_iter-group-iterator.result ≡ groups.entries = search rules in
    record {
      found = λ g t q.
          ap (λ (rows : List OffsetRow). option_or (offset_in rows g t q) (of_names (λ topics. in_topics topics t q) true g c.into_iter-group-iterator.result)) c.new-rows.ensures.items
          ∙ ap (λ es. of_names (λ topics. in_topics topics t q) true g es) all;
      apart = subst (λ es. AreApart es) (sym all) c.iter-group-items.ensures.unique;
      each = subst (λ (rows : List OffsetRow). All (IsOfGroups groups) rows) (sym c.new-rows.ensures.items) (All-nil (IsOfGroups groups));
      left = subst (λ es. All (λ e. get string_eq groups e.0 ≡ Some e.1) es) (sym all) c.iter-group-items.ensures.found;
    }

pub loop-group-preserved : goal.loop-group-preserved
loop-group-preserved c =
    let groups = c.args.groups.now in
    let rest = c.next.new.self in
    let name = c.in-Some.group.now in
    let topics = c.in-Some.topics.now in
    let apart = subst (λ es. AreApart es) c.in-Some.ensures.steps c.loop-group.invariant.apart in
    let left = subst (λ es. All (λ e. get string_eq groups e.0 ≡ Some e.1) es) c.in-Some.ensures.steps c.loop-group.invariant.left in
    let here = All-head (λ e. get string_eq groups e.0 ≡ Some e.1) (name, topics) rest left in
    let group_is = c.as_str.ensures.value in
    let added = c.in_ok-put_topics.ensures.each in
    record {
      found = λ g t q.
          let before = offset_in c.loop-group.rows.items g t q in
          ap (λ (o : Option ℕ). option_or o (of_names (λ topics. in_topics topics t q) true g rest))
          (c.in_ok-put_topics.ensures.found g t q ∙ ap (λ (n : List ℕ). option_or before (cond (bytes_eq n g) (in_topics topics t q) None)) group_is)
          ∙ name_on (λ topics. in_topics topics t q) before true g name topics rest apart
          ∙ ap (λ es. option_or before (of_names (λ topics. in_topics topics t q) true g es)) (sym c.in-Some.ensures.steps)
          ∙ c.loop-group.invariant.found g t q;
      apart = apart_tail name topics rest apart;
      each = subst (All (IsOfGroups groups)) (sym added.1) (All-append (IsOfGroups groups) c.loop-group.rows.items added.0 c.loop-group.invariant.each
          (All-weaker (IsOfTopics c.as_str.result.now topics) (IsOfGroups groups)
          (λ row is. ap (λ (n : List ℕ). in_groups groups n row.topic row.queue) (is.0 ∙ group_is)
          ∙ ap (λ found. option_and_then (λ topics. in_topics topics row.topic row.queue) found) here ∙ is.1)
          added.0 added.2));
      left = All-tail (λ e. get string_eq groups e.0 ≡ Some e.1) (name, topics) rest left;
    }
