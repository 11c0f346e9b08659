use Rattle.serde_json.specs.Data.{string}
use Rattle.remoting_frame.proofs.PlainReading.{text_begins}
use Rattle.remoting_frame.proofs.plain_reader.pass_value.Goals as goal

pub returns : goal.returns
returns c =
    let text = c.in_ok-string.field-0.now in
    (string text, text_begins 126 text c.args.scanner.now c.string.new.self c.in_ok-string.ensures.some)
