use Rattle.std.proofs.Common.{◌≡◌, ◌∙◌, ◌+◌, ◌&&◌, ◌||◌, ℕ, cond, take, ap, sym, Option}
use Rattle.std.proofs.lemmas.List.Folds.{list_any_more}
use Rattle.std.specs.List.{list_any}
use Rattle.std.specs.Str.{bytes_eq}
use Rattle.group_tables.specs.Locks.{lock_in, without_own, names_queue}
use Rattle.group_tables.specs.declared.locks.Lock.{Lock}
use Rattle.group_tables.proofs.LoopLemmas.{changed_again, without_own_twice}
use Rattle.group_tables.proofs.locks.unlock_all.Goals as goal

pub loop-queue-preserved : goal.loop-queue-preserved
loop-queue-preserved c = λ g t q.
    let i : ℕ = c.loop-queue.queue-index in
    let here = bytes_eq c.args.group.now g in
    let any = list_any (names_queue t q) (take i c.args.queues.now) in
    let hit = names_queue t q c.queue-item.result in
    let change : Option Lock → Option Lock = without_own c.args.client.now in
    let more : list_any (names_queue t q) (take (i + 1) c.args.queues.now) ≡ (any || hit) =
    list_any_more (names_queue t q) c.args.queues.now i c.queue-item.result c.loop-queue-test.true ∙ ap (λ x. any || names_queue t q x) (sym c.queue-item.is) in
    c.unlock.ensures g t q ∙ (λ j. cond (here && hit) (change (c.loop-queue.invariant g t q j)) (c.loop-queue.invariant g t q j))
    ∙ changed_again change (without_own_twice c.args.client.now) here any hit (lock_in c.args.slots.now g t q)
    ∙ (λ j. cond (here && sym more j) (change (lock_in c.args.slots.now g t q)) (lock_in c.args.slots.now g t q))
