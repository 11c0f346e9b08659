use Rattle.std.proofs.Common.{refl}
use Rattle.serve_threads.specs.Causes.{world_faults}
use Rattle.broker_serve.proofs.Causing.{making_blames, making_tells, shut_blames}
use Rattle.broker_serve.proofs.Telling.{door_told}
use Rattle.broker_serve.proofs.run.open_loops.Goals as goal

pub returns-in-Err-clause-tells : goal.returns-in-Err-clause-tells
returns-in-Err-clause-tells g c = door_told c.named.result c.named.ensures.code c.named.ensures.name

pub returns-in-Err-clause-cause : goal.returns-in-Err-clause-cause
returns-in-Err-clause-cause g c =
    let counts = world_faults g.P.Ready.faults g.P.Door.Door.faults g.K.Clock.faults in
    let was = c.args.world in
    shut_blames c.named.result (counts was) (counts (record { ready = was.ready; clocks = was.clocks; timer = was.timer; door = c.open.new.self }))
    c.named.ensures.code c.named.ensures.name c.in-Err.ensures.cause

pub returns-in-Err-new-clause-tells : goal.returns-in-Err-new-clause-tells
returns-in-Err-new-clause-tells g c = making_tells c.status_of_making.result c.in-Err-new.end c.status_of_making.ensures.tells

pub returns-in-Err-new-clause-cause : goal.returns-in-Err-new-clause-cause
returns-in-Err-new-clause-cause g c =
    let counts = world_faults g.P.Ready.faults g.P.Door.Door.faults g.K.Clock.faults in
    let was = c.args.world in
    making_blames c.status_of_making.result c.in-Err-new.end (counts was) (counts (record { ready = was.ready; clocks = was.clocks; timer = was.timer; door = c.open.new.self }))
    (counts c.in-Err-new.world) c.status_of_making.ensures.tells refl c.in-Err-new.ensures.cause
