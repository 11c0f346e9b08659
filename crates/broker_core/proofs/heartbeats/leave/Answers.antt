use Rattle.broker_core.proofs.HeartbeatLemmas.{leaves}
use Rattle.broker_core.proofs.heartbeats.leave.Goals as goal

pub returns-clause-carries : goal.returns-clause-carries
returns-clause-carries c s are = leaves c.args.parts.now c.leave.new.self s c.args.link are c.leave.ensures
