use Rattle.std.proofs.Common.{rules}
use Rattle.std.proofs.lemmas.Fn.{filter_same}
use Rattle.mq_peers.proofs.mem_ready.MemReadyReady.deregister.Goals as goal

pub returns-clause-removed : goal.returns-clause-removed
returns-clause-removed g c = filter_same _ _ _ (λ x b f' k. search rules) _ _ c.retain.ensures.filtered
