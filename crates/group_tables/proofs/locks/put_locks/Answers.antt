use Rattle.std.proofs.Common.{◌≡◌, ◌∙◌, ◌+◌, ◌&&◌, ◌||◌, ℕ, cond, take, ap, sym, arith, Option, Some}
use Rattle.std.proofs.lemmas.List.Folds.{list_any_more}
use Rattle.std.specs.List.{list_any}
use Rattle.std.specs.Option.{option_and}
use Rattle.std.specs.Str.{bytes_eq}
use Rattle.group_tables.specs.Table.{in_groups}
use Rattle.group_tables.specs.Locks.{names_queue}
use Rattle.group_tables.specs.declared.locks.Lock.{Lock}
use Rattle.group_tables.proofs.LoopLemmas.{changed_again, popped, option_and_twice}
use Rattle.group_tables.proofs.locks.put_locks.Goals as goal

pub loop-queue-preserved : goal.loop-queue-preserved
loop-queue-preserved c = (
  grind arith,
  λ held all.
      let i : ℕ = c.loop-queue.queue-index in
      let before = c.loop-queue.invariant.1 held all in
      let parts = popped (λ (lock : Lock). lock ≡ held) c.loop-queue.left.items c.pop.new.self.items c.in-Some.lock c.in-Some.ensures.items before.0 in
      let last : c.in-Some.lock ≡ held = parts.1 in (
        parts.0,
        λ g t q.
            let here = bytes_eq c.args.group.now g in
            let any = list_any (names_queue t q) (take i c.args.queues.now) in
            let hit = names_queue t q c.queue-item.result in
            let change : Option (Option Lock) → Option (Option Lock) = λ o. option_and o (Some (Some held)) in
            let more : list_any (names_queue t q) (take (i + 1) c.args.queues.now) ≡ (any || hit) =
            list_any_more (names_queue t q) c.args.queues.now i c.queue-item.result c.loop-queue-test.true ∙ ap (λ x. any || names_queue t q x) (sym c.queue-item.is) in
            c.put_lock.ensures g t q ∙ (λ j. cond (here && hit) (option_and (before.1 g t q j) (Some (Some (last j)))) (before.1 g t q j))
            ∙ changed_again change (option_and_twice (Some held)) here any hit (in_groups c.args.slots.now g t q)
            ∙ (λ j. cond (here && sym more j) (change (in_groups c.args.slots.now g t q)) (in_groups c.args.slots.now g t q)),
      ),
)
