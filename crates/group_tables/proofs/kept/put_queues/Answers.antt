use Rattle.std.proofs.Common.{◌≡◌, ◌∙◌, ◌++◌, ◌∷◌, [], ◌&&◌, ℕ, List, All, Some, nat_eq, ap, sym, subst, refl, rules}
use Rattle.std.specs.HashMap.{get}
use Rattle.std.specs.Option.{option_or}
use Rattle.std.specs.Str.{bytes_eq}
use Rattle.std.proofs.lemmas.List.Elements.{All-head, All-tail}
use Rattle.broker_model.specs.Tables.{OffsetRow, offset_in}
use Rattle.group_tables.specs.Offsets.{offset_row, IsOfQueues}
use Rattle.group_tables.proofs.KeptLemmas.{of_queues, queue_on, added_none, added_push}
use Rattle.group_tables.proofs.kept.put_queues.Goals as goal

pub loop-queue-init : goal.loop-queue-init
loop-queue-init c =
    let queues = c.args.queues.now in
    let rows = c.args.rows.now.items in
    let all : c.into_iter-queue-iterator.result ≡ queues.entries = search rules in
    record {
      found = λ g t q. ap (λ (es : List (ℕ × ℕ)). option_or (offset_in rows g t q) (of_queues (bytes_eq c.args.group.now g && bytes_eq c.args.topic.now t) q es)) all;
      each = added_none (IsOfQueues c.args.group.now c.args.topic.now queues) rows;
      left = subst (λ es. All (λ e. get nat_eq queues e.0 ≡ Some e.1) es) (sym all) c.iter-queue-items.ensures.found;
    }

pub loop-queue-preserved : goal.loop-queue-preserved
loop-queue-preserved c =
    let group = c.args.group.now in
    let topic = c.args.topic.now in
    let queues = c.args.queues.now in
    let rows = c.loop-queue.rows.items in
    let rest = c.next.new.self in
    let entry : ℕ × ℕ = (c.in-Some.queue.now, c.in-Some.offset.now) in
    let row = offset_row group topic c.in-Some.queue.now c.in-Some.offset.now in
    let pushed = c.in_ok-push.ensures.items ∙ ap (λ (r : OffsetRow). rows ++ r ∷ []) c.in_ok-row_of.ensures in
    let left = subst (λ es. All (λ e. get nat_eq queues e.0 ≡ Some e.1) es) c.in-Some.ensures.steps c.loop-queue.invariant.left in
    record {
      found = λ g t q.
          let asked = bytes_eq group g && bytes_eq topic t in
          ap (λ (l : List OffsetRow). option_or (offset_in l g t q) (of_queues asked q rest)) pushed
          ∙ queue_on rows group topic g t q entry rest
          ∙ ap (λ (es : List (ℕ × ℕ)). option_or (offset_in rows g t q) (of_queues asked q es)) (sym c.in-Some.ensures.steps)
          ∙ c.loop-queue.invariant.found g t q;
      each = added_push (IsOfQueues group topic queues) c.args.rows.now.items rows _ row c.loop-queue.invariant.each pushed
          (refl, refl, All-head (λ e. get nat_eq queues e.0 ≡ Some e.1) entry rest left);
      left = All-tail (λ e. get nat_eq queues e.0 ≡ Some e.1) entry rest left;
    }
