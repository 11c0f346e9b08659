use Rattle.std.proofs.Common.{◌≡◌, ◌∙◌, true, get_or, arith, rules}
use Rattle.json.specs.Word.{is_space}
use Rattle.remoting_frame.proofs.JsonBytes.{space_at}
use Rattle.remoting_frame.proofs.json_bytes.past_spaces.Goals as goal

pub loop-at-preserved : goal.loop-at-preserved
loop-at-preserved c =
    let space : is_space (get_or c.args.text.now c.loop-at.at 0) ≡ true = search rules in
    (space_at c.args.text.now c.loop-at.at (omega arith) space ∙ c.loop-at.invariant.0, omega arith, omega arith)
