use Rattle.std.proofs.Common.{arith}
use Rattle.remoting_frame.proofs.EscapeSteps.{Spells, read_ascii, lex_ascii}
use Rattle.remoting_frame.proofs.escapes.ascii_at.Goals as goal

pub returns-clause-value : goal.returns-clause-value
returns-clause-value c =
    let spells : Spells c.args.text.now c.args.at c.in_ok-high.high c.in_ok-low.low = record {
      room = omega arith;
      zero = omega arith;
      none = omega arith;
      is = c.in_ok-high.ensures.value;
      last = c.in_ok-low.ensures.value;
      small = omega arith;
      below = c.in_ok-low.ensures.bound;
    } in
    read_ascii _ _ _ _ spells

pub returns-clause-rest : goal.returns-clause-rest
returns-clause-rest c =
    let spells : Spells c.args.text.now c.args.at c.in_ok-high.high c.in_ok-low.low = record {
      room = omega arith;
      zero = omega arith;
      none = omega arith;
      is = c.in_ok-high.ensures.value;
      last = c.in_ok-low.ensures.value;
      small = omega arith;
      below = c.in_ok-low.ensures.bound;
    } in
    lex_ascii _ _ _ _ spells
