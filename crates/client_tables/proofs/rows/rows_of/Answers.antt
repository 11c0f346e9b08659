use Rattle.std.proofs.Common.{◌≡◌, ◌∙◌, ◌++◌, ◌∷◌, [], ap, sym, subst, rules, ℕ, List, All, Some, map, string_bytes}
use Rattle.std.proofs.lemmas.List.{append_assoc, append-nil}
use Rattle.std.specs.Map.{lookup}
use Rattle.std.specs.Str.{bytes_eq}
use Rattle.broker_model.specs.Tables.{TopicRow, queues_in}
use Rattle.client_tables.specs.Counts.{topic_row}
use Rattle.client_tables.proofs.RowLemmas.{entry_row, found_same, each_found}
use Rattle.client_tables.proofs.rows.rows_of.Goals as goal

pub loop-topic-preserved : goal.loop-topic-preserved
loop-topic-preserved c =
    let rows = c.loop-topic.rows.items in
    let rest = c.next.new.self in
    let found = topic_row (string_bytes c.in-Some.topic.now) c.in-Some.queues.now in
    let row = c.in_ok-row_of.ensures ∙ ap (λ (name : List ℕ). topic_row name c.in-Some.queues.now) c.as_str.ensures.value in
    record {
      all = ap (λ (l : List TopicRow). l ++ map entry_row rest) (c.in_ok-push.ensures.items ∙ ap (λ (r : TopicRow). rows ++ r ∷ []) row)
          ∙ append_assoc rows (found ∷ []) (map entry_row rest)
          ∙ ap (λ es. rows ++ map entry_row es) (sym c.in-Some.ensures.steps)
          ∙ c.loop-topic.invariant.all;
      apart = c.loop-topic.invariant.apart;
    }

pub returns-clause-same : goal.returns-clause-same
returns-clause-same c topic =
    let none : c.loop-topic.topic-iterator ≡ [] = search rules in
    let whole : c.loop-topic.rows.items ≡ map entry_row c.args.counts.now.entries =
    sym (append-nil c.loop-topic.rows.items) ∙ ap (λ es. c.loop-topic.rows.items ++ map entry_row es) (sym none) ∙ c.loop-topic.invariant.all in
    ap (λ (rows : List TopicRow). queues_in rows topic) whole ∙ found_same c.args.counts.now.entries topic

pub returns-clause-each : goal.returns-clause-each
returns-clause-each c =
    let none : c.loop-topic.topic-iterator ≡ [] = search rules in
    let whole : c.loop-topic.rows.items ≡ map entry_row c.args.counts.now.entries =
    sym (append-nil c.loop-topic.rows.items) ∙ ap (λ es. c.loop-topic.rows.items ++ map entry_row es) (sym none) ∙ c.loop-topic.invariant.all in
    subst (λ (rows : List TopicRow). All (λ (row : TopicRow). lookup (λ k. bytes_eq row.topic (string_bytes k)) c.args.counts.now.entries ≡ Some row.queues) rows) (sym whole)
    (each_found c.args.counts.now.entries c.loop-topic.invariant.apart)
