use Rattle.std.proofs.Common.{◌≡◌, ◌+◌, ◌-◌, ℕ, List, [], length, take, drop, Option, sym, ap, ◌∙◌, arith, eq-eqb, length-drop}
use Rattle.std.specs.Prelude.{unwrap_or}
use Rattle.std.proofs.lemmas.Bool.{ne_eqb}
use Rattle.std.proofs.lemmas.List.{take_all}
use Rattle.record_codec.proofs.ScanLemmas.{passes, stops, ended}
use Rattle.log_replay.proofs.words.split.Goals as goal

pub returns-then-b-eq32 : goal.returns-then-b-eq32
returns-then-b-eq32 c =
    let text = c.args.text.now in
    let i = c.loop-i.i in
    let whole : take (length text - (i + 1)) (drop (i + 1) text) ≡ drop (i + 1) text = take_all (length text - (i + 1)) (drop (i + 1) text) (omega (arith, length-drop (i + 1) text)) in
    ap (λ (w : List ℕ). (take i text, w)) whole
    ∙ sym (ap (λ (o : Option (List ℕ × List ℕ)). unwrap_or o (text, [])) (stops 32 text i c.loop-i-test.true (eq-eqb _ _ c.if-b-eq32.true) c.loop-i.invariant))

pub loop-i-preserved : goal.loop-i-preserved
loop-i-preserved c = passes 32 c.args.text.now c.loop-i.i c.loop-i-test.true (ne_eqb _ _ c.if-b-eq32.false) c.loop-i.invariant

pub returns : goal.returns
returns c = ap (λ (o : Option (List ℕ × List ℕ)). unwrap_or o (c.args.text.now, [])) (ended 32 c.args.text.now c.loop-i.i c.loop-i-test.false c.loop-i.invariant)
