use Rattle.std.proofs.Common.{◌≡◌, ◌∙◌, ap, sym, Some, get_or, arith}
use Rattle.remoting_frame.proofs.JsonBytes.{plain_content, plain_rest}
use Rattle.remoting_frame.proofs.json_bytes.string_at.Goals as goal

pub returns-clause-value : goal.returns-clause-value
returns-clause-value c =
    let stop = c.plain_end-stop in
    let quote : get_or c.args.text.now stop.result 0 ≡ 34 = grind arith in
    let is = plain_content c.args.text.now c.args.from stop.result (grind arith) quote in
    is ∙ ap Some (sym c.in_ok-piece.ensures)

pub returns-clause-rest : goal.returns-clause-rest
returns-clause-rest c =
    let stop = c.plain_end-stop in
    let quote : get_or c.args.text.now stop.result 0 ≡ 34 = grind arith in
    plain_rest c.args.text.now c.args.from stop.result (grind arith) quote
