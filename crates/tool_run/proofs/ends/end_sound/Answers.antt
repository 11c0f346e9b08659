use Rattle.std.proofs.Common.{◌++◌, List, ℕ, refl}
use Rattle.tool_run.specs.Texts.{verify_text}
use Rattle.tool_run.proofs.WriteLemmas.{told_more}
use Rattle.tool_run.proofs.ends.end_sound.Goals as goal

pub returns-in-Ok-clause-done : goal.returns-in-Ok-clause-done
returns-in-Ok-clause-done g c = λ first text told code.
    let line : List ℕ = verify_text c.args.records c.args.end in
    c.end_whole.ensures.done first (text ++ line) (told_more g.K.Sink first c.args.lines
    (record { sink = c.args.lines.sink; held = c.push_sound.new.out; failed = c.args.lines.failed }) text line refl refl c.in-Ok.ensures told) code

pub returns-in-Ok-clause-failed : goal.returns-in-Ok-clause-failed
returns-in-Ok-clause-failed g c = λ first text told code.
    let line : List ℕ = verify_text c.args.records c.args.end in
    c.end_whole.ensures.failed first (text ++ line) (told_more g.K.Sink first c.args.lines
    (record { sink = c.args.lines.sink; held = c.push_sound.new.out; failed = c.args.lines.failed }) text line refl refl c.in-Ok.ensures told) code
