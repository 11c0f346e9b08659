use Rattle.std.proofs.Common.{arith}
use Rattle.remoting_frame.proofs.PlainRuns.{run_bound, front_ends, front_goes_on}
use Rattle.remoting_frame.proofs.json_bytes.plain_end.Goals as goal

pub returns-then-front-lt16-clause-value : goal.returns-then-front-lt16-clause-value
returns-then-front-lt16-clause-value c =
    let front = c.plain_front-front in
    let run = front_ends c.args.text.now c.loop-at.at 16 (omega arith) (omega (arith, front.ensures)) in
    omega (arith, run, front.ensures, c.loop-at.invariant.0)

pub loop-at-preserved : goal.loop-at-preserved
loop-at-preserved c =
    let run = front_goes_on c.args.text.now c.loop-at.at 16 (omega arith) (omega (arith, c.plain_front-front.ensures)) in
    (omega (arith, run, c.loop-at.invariant.0), omega arith)

pub returns-clause-bound : goal.returns-clause-bound
returns-clause-bound c = omega (arith, run_bound c.args.text.now c.loop-at.at c.loop-at.invariant.1)
