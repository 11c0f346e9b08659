use Rattle.std.proofs.Common.{rules}
use Rattle.client_tables.proofs.ClientLemmas.{left}
use Rattle.client_tables.proofs.clients.leave_groups.Goals as goal

pub returns : goal.returns
returns c = left _ c.args.client.now c.args.producer.now c.args.consumer.now _ (λ x b f' y k. search rules) _ _ c.retain_mut.ensures.filtered
