use Rattle.std.proofs.Common.{◌≡◌, string_bytes, rules}
use Rattle.remoting_frame.proofs.PlainReading.{text_begins}
use Rattle.remoting_frame.proofs.plain_reader.take_text.Goals as goal

pub returns-in-Some : goal.returns-in-Some
returns-in-Some c =
    let copied : c.of.result ≡ c.in-Some.text.now = search rules in
    rw copied (text_begins 126 c.in-Some.text.now c.args.scanner.now c.string.new.self c.in-Some.ensures.some)

pub returns : goal.returns
returns c =
    let same = c.in_default.ensures.none in
    let read = c.in_ok-escaped_string.ensures in
    let is : c.of-2.result ≡ string_bytes c.in_ok-escaped_string.field-0 = search rules in
    rw is (text_begins 126 (string_bytes c.in_ok-escaped_string.field-0) c.args.scanner.now c.escaped_string.new.self (rw same at read))
