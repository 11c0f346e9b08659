use Rattle.std.proofs.Common.{subst}
use Rattle.serve_threads.specs.Worlds.{IsParted}
use Rattle.serve_threads.proofs.served.unbegun.Goals as goal

pub returns-clause-world : goal.returns-clause-world
returns-clause-world g c = subst (λ k. IsParted c.join-world.result c.args.loops.0 c.args.loops.1 k) c.into_clock.ensures c.join-world.ensures.parted
