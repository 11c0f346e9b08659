use Rattle.std.proofs.Common.{sym, ◌∙◌, arith}
use Rattle.record_codec.proofs.ScanLemmas.{goes, stuck, nothing_left}
use Rattle.record_codec.proofs.scan.are_written.Goals as goal

pub returns-in-None : goal.returns-in-None
returns-in-None c = sym (stuck c.loop-rest.rest.now (omega (arith, c.loop-rest-test.true)) (sym c.in-None.ensures)) ∙ c.loop-rest.invariant

pub loop-rest-smaller : goal.loop-rest-smaller
loop-rest-smaller c = (goes c.loop-rest.rest.now _ (omega (arith, c.loop-rest-test.true)) (sym c.in-Some.ensures)).1

pub loop-rest-preserved : goal.loop-rest-preserved
loop-rest-preserved c = (goes c.loop-rest.rest.now _ (omega (arith, c.loop-rest-test.true)) (sym c.in-Some.ensures)).0 ∙ c.loop-rest.invariant

pub returns : goal.returns
returns c = sym (nothing_left c.loop-rest.rest.now (omega (arith, c.loop-rest-test.false))) ∙ c.loop-rest.invariant
