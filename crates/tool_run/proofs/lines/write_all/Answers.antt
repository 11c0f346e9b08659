use Rattle.std.proofs.Common.{◌≡◌, ◌++◌, ◌∙◌, ℕ, List, ◌+◌, ◌-◌, Result, Ok, Err, OnErr, length, take, drop, ap, append_assoc, arith, sym}
use Rattle.std.proofs.lemmas.Grind.{common_steps}
use Rattle.std.proofs.lemmas.List.{take_rest, take-append-drop}
use Rattle.std.proofs.Math.Seq.{take-add}
use Rattle.tool_run.specs.Tools.{TookFront}
use Rattle.tool_run.proofs.lines.write_all.Goals as goal

on_err : {A E : Type 0} (result : Result A E) (P : Type 0) → P → OnErr result P
on_err (Ok done) P it = tt
on_err (Err fault) P it = it

one_more : (before after first piece : List ℕ) (at n : ℕ) → before ≡ first ++ take at piece
    → after ≡ before ++ take n (take (length piece - at) (drop at piece)) → after ≡ first ++ take (at + n) piece
one_more before after first piece at n so_far taken =
    taken ∙ ap (λ (l : List ℕ). l ++ take n (take (length piece - at) (drop at piece))) so_far
    ∙ ap (λ (l : List ℕ). (first ++ take at piece) ++ take n l) (take_rest piece at) ∙ append_assoc first (take at piece) (take n (drop at piece))
    ∙ ap (λ (l : List ℕ). first ++ l) (sym (take-add at n piece))

pub loop-at-preserved : goal.loop-at-preserved
loop-at-preserved g c = record {
  within = grind (arith, common_steps);
  same = grind (arith, common_steps);
  taken = λ tells. one_more _ _ _ _ _ _ (c.loop-at.invariant.taken tells) (c.in_ok-at.ensures.taken tells);
}

pub returns-in_err-at-clause-part : goal.returns-in_err-at-clause-part
returns-in_err-at-clause-part g c = λ tells.
    on_err c.from_residual.result (TookFront (g.K.Sink.taken c.args.sink.now) (g.K.Sink.taken c.write.new.self) c.args.piece.now) (record {
      front = take c.loop-at.at c.args.piece.now;
      unwritten = drop c.loop-at.at c.args.piece.now;
      parts = take-append-drop c.loop-at.at c.args.piece.now;
      taken_is = c.in_err-at.ensures.still tells ∙ c.loop-at.invariant.taken tells;
    })
