use Rattle.std.proofs.Common.{arith}
use Rattle.record_codec.proofs.WholeLemmas.{before_is, behind_is}
use Rattle.record_codec.proofs.whole.is_behind.Goals as goal

pub returns-then-own-place : goal.returns-then-own-place
returns-then-own-place c = before_is c.args.own c.args.place c.args.behind (omega (arith, c.if-own-place.true))

pub returns : goal.returns
returns c = behind_is c.args.own c.args.place c.args.behind (omega (arith, c.if-own-place.false))
