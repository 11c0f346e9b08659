use Rattle.std.proofs.Common.{◌∙◌, sym, subst}
use Rattle.spine.specs.Passes.{Joins}
use Rattle.serve_threads.proofs.Keys.{joined_there, same_of}
use Rattle.serve_threads.proofs.served.together.Goals as goal

pub returns-clause-meets : goal.returns-clause-meets
returns-clause-meets g c =
    let one = joined_there c.seat-pass.result.pass c.learn.new.self.pass c.args.turns c.args.loops.0 c.seat-pass.ensures.pass c.learn.new.self.here c.learn.ensures.joins in
    let two = joined_there c.learn.new.self.pass c.learn-2.new.self.pass one.0 c.args.loops.1 one.1 c.learn-2.new.self.here c.learn-2.ensures.joins in
    let three = joined_there c.learn-2.new.self.pass c.learn-3.new.self.pass two.0 c.args.keeper two.1 c.learn-3.new.self.here c.learn-3.ensures.joins in
    record {
      early = one.0;
      late = two.0;
      first = one.2;
      then = two.2;
      at_last = subst (λ q. Joins two.0 c.args.keeper q) (same_of three.0 c.leave.result (sym three.1 ∙ c.leave.ensures.pass)) three.2;
    }
