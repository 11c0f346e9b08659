use Rattle.std.proofs.Common.{sym, arith}
use Rattle.log_recovery.specs.Counts.{count_in}
use Rattle.log_recovery.proofs.CountLemmas.{count_more}
use Rattle.log_recovery.proofs.TailLemmas.{stands_more}
use Rattle.log_recovery.proofs.tail.LogTail.advance.Goals as goal

pub returns-clause-moved : goal.returns-clause-moved
returns-clause-moved c base log r stands comes placed =
    stands_more base c.args.self.now _ log r stands (omega (arith, placed.offset_is, placed.size_is, c.from.ensures)) (omega arith) (sym placed.store_is) (omega (arith, stands.time, comes.later, placed.store_is))
    (λ topic queue. count_more base log r c.args.topic.now topic c.args.queue queue c.args.place.now.queue_offset (count_in c.args.self.now.counts topic queue) _
    placed.of_topic placed.of_queue comes.next (stands.counts topic queue) (c.in_ok-set_count.ensures.counted topic queue))
