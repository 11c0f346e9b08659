use Rattle.std.proofs.Common.{◌≡◌, ◌∙◌, ◌+◌, ◌&&◌, ◌||◌, ◌==◌, ◌++◌, [], ◌∷◌, ℕ, List, not, filter, cond, take, ap, sym, Bool}
use Rattle.std.proofs.lemmas.List.Folds.{list_any_more}
use Rattle.std.specs.Borrow.{Bor}
use Rattle.std.specs.List.{list_any}
use Rattle.std.specs.Str.{bytes_eq}
use Rattle.std.specs.HashSet.{contains}
use Rattle.request_fields.specs.declared.clients.QueueName.{QueueName}
use Rattle.broker_model.specs.Tables.{distinct_queues}
use Rattle.group_tables.specs.Locks.{lock_in, keeps_off, names_queue}
use Rattle.group_tables.proofs.LoopLemmas.{take_or, free_queues-push, with_key}
use Rattle.group_tables.proofs.locks.grant.Goals as goal

pub loop-queue-preserved : goal.loop-queue-preserved
loop-queue-preserved c =
    let i : ℕ = c.loop-queue.queue-index in
    let queue = c.queue-item.result in
    let done = take i c.args.queues.now in
    let free : QueueName → Bool = λ q. not (keeps_off c.args.now c.args.client.now (lock_in c.args.slots.now c.args.group.now q.topic q.queue)) in
    let longer : take (i + 1) c.args.queues.now ≡ done ++ queue ∷ [] =
    take_or c.args.queues.now i queue c.loop-queue-test.true ∙ ap (λ e. done ++ e ∷ []) (sym c.queue-item.is) in
    let seen : (k : Bor (List ℕ) × ℕ) → contains (λ x y. bytes_eq x.0.now y.0.now && (x.1 == y.1)) c.loop-queue.seen k ≡ list_any (names_queue k.0.now k.1) done = c.loop-queue.invariant.0 in
    let is_new : c.in_ok-is_new.is_new ≡ not (list_any (names_queue queue.topic queue.queue) done) =
    c.in_ok-is_new.ensures.added ∙ ap not (seen (c.as_str.result, queue.queue) ∙ ap (λ (t : List ℕ). list_any (names_queue t queue.queue) done) c.as_str.ensures.value) in (
      λ k.
          let more : list_any (names_queue k.0.now k.1) (take (i + 1) c.args.queues.now) ≡ (list_any (names_queue k.0.now k.1) done || names_queue k.0.now k.1 queue) =
          list_any_more (names_queue k.0.now k.1) c.args.queues.now i queue c.loop-queue-test.true ∙ ap (λ x. list_any (names_queue k.0.now k.1) done || names_queue k.0.now k.1 x) (sym c.queue-item.is) in
          c.in_ok-is_new.ensures.updates.0 k ∙ with_key (bytes_eq c.as_str.result.now k.0.now && (queue.queue == k.1)) _ _ (names_queue k.0.now k.1 queue) (ap (λ (t : List ℕ). bytes_eq t k.0.now && (queue.queue == k.1)) c.as_str.ensures.value) (seen k) ∙ sym more,
      c.in_ok-grant_next.ensures
          ∙ (λ j. c.loop-queue.invariant.1 j ++ cond (is_new j && not (c.is_kept_off-is_free.ensures j)) (queue ∷ []) [])
          ∙ sym (free_queues-push queue free done) ∙ ap (λ (l : List QueueName). filter free (distinct_queues l)) (sym longer),
    )
