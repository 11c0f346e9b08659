use Rattle.std.proofs.Common.{ℕ, List, Option, option_map, sym, ap, eq-eqb}
use Rattle.std.proofs.lemmas.Bool.{ne_eqb}
use Rattle.record_codec.proofs.ScanLemmas.{passes, stops, ended}
use Rattle.log_replay.proofs.delays.before_dash.Goals as goal

pub returns-then-b-eq45 : goal.returns-then-b-eq45
returns-then-b-eq45 c =
    sym (ap (λ (o : Option (List ℕ × List ℕ)). option_map (λ (p : List ℕ × List ℕ). p.0) o) (stops 45 c.args.text.now c.loop-i.i c.loop-i-test.true (eq-eqb _ _ c.if-b-eq45.true) c.loop-i.invariant))

pub loop-i-preserved : goal.loop-i-preserved
loop-i-preserved c = passes 45 c.args.text.now c.loop-i.i c.loop-i-test.true (ne_eqb _ _ c.if-b-eq45.false) c.loop-i.invariant

pub returns : goal.returns
returns c = ap (λ (o : Option (List ℕ × List ℕ)). option_map (λ (p : List ℕ × List ℕ). p.0) o) (ended 45 c.args.text.now c.loop-i.i c.loop-i-test.false c.loop-i.invariant)
