use Rattle.std.proofs.Common.{◌≡◌, ◌∙◌, ◌&&◌, ap, sym, subst, ℕ, List, All, cond, None, Some, Option, rules}
use Rattle.std.specs.HashMap.{get}
use Rattle.std.specs.Option.{option_or, option_and_then}
use Rattle.std.specs.Str.{bytes_eq}
use Rattle.std.specs.String.{string_eq}
use Rattle.std.proofs.lemmas.List.Elements.{All-head, All-tail}
use Rattle.broker_model.specs.Tables.{offset_in}
use Rattle.group_tables.specs.Table.{in_queues, in_topics}
use Rattle.group_tables.specs.Offsets.{IsOfQueues, IsOfTopics}
use Rattle.group_tables.proofs.KeptLemmas.{of_names, AreApart, name_on, apart_tail, added_none, added_rows}
use Rattle.group_tables.proofs.kept.put_topics.Goals as goal

pub loop-topic-init : goal.loop-topic-init
loop-topic-init c =
    let topics = c.args.topics.now in
    let rows = c.args.rows.now.items in
    let all : c.into_iter-topic-iterator.result ≡ topics.entries = search rules in
    record {
      found = λ g t q. ap (λ es. option_or (offset_in rows g t q) (of_names (λ queues. in_queues queues q) (bytes_eq c.args.group.now g) t es)) all;
      apart = subst (λ es. AreApart es) (sym all) c.iter-topic-items.ensures.unique;
      each = added_none (IsOfTopics c.args.group.now topics) rows;
      left = subst (λ es. All (λ e. get string_eq topics e.0 ≡ Some e.1) es) (sym all) c.iter-topic-items.ensures.found;
    }

pub loop-topic-preserved : goal.loop-topic-preserved
loop-topic-preserved c =
    let group = c.args.group.now in
    let topics = c.args.topics.now in
    let rest = c.next.new.self in
    let name = c.in-Some.topic.now in
    let queues = c.in-Some.queues.now in
    let apart = subst (λ es. AreApart es) c.in-Some.ensures.steps c.loop-topic.invariant.apart in
    let left = subst (λ es. All (λ e. get string_eq topics e.0 ≡ Some e.1) es) c.in-Some.ensures.steps c.loop-topic.invariant.left in
    let here = All-head (λ e. get string_eq topics e.0 ≡ Some e.1) (name, queues) rest left in
    let topic_is = c.as_str.ensures.value in
    record {
      found = λ g t q.
          let asked = bytes_eq group g in
          let before = offset_in c.loop-topic.rows.items g t q in
          ap (λ (o : Option ℕ). option_or o (of_names (λ queues. in_queues queues q) asked t rest))
          (c.in_ok-put_queues.ensures.found g t q ∙ ap (λ (n : List ℕ). option_or before (cond (asked && bytes_eq n t) (in_queues queues q) None)) topic_is)
          ∙ name_on (λ queues. in_queues queues q) before asked t name queues rest apart
          ∙ ap (λ es. option_or before (of_names (λ queues. in_queues queues q) asked t es)) (sym c.in-Some.ensures.steps)
          ∙ c.loop-topic.invariant.found g t q;
      apart = apart_tail name queues rest apart;
      each = added_rows (IsOfTopics group topics) (IsOfQueues group c.as_str.result.now queues) c.args.rows.now.items c.loop-topic.rows.items _
          c.loop-topic.invariant.each c.in_ok-put_queues.ensures.each
          (λ row is. (
            is.0,
            ap (λ (n : List ℕ). in_topics topics n row.queue) (is.1 ∙ topic_is)
                ∙ ap (λ found. option_and_then (λ queues. in_queues queues row.queue) found) here ∙ is.2,
          ));
      left = All-tail (λ e. get string_eq topics e.0 ≡ Some e.1) (name, queues) rest left;
    }
