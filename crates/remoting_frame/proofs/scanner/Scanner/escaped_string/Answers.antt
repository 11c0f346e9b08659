use Rattle.std.proofs.Common.{drop, string_bytes, sym, ◌∙◌}
use Rattle.remoting_frame.proofs.ScannerSteps.{string_first}
use Rattle.remoting_frame.proofs.scanner.Scanner.escaped_string.Goals as goal

pub returns : goal.returns
returns c =
    let text = c.self.inside.text.now in
    let found = c.in_ok-text.ensures in
    let end = c.in_ok-end.ensures in
    sym c.self.view_is
    ∙ string_first c.self.inside.is_behind (drop c.self.inside.at text) (drop c.in_ok-from.from text) (string_bytes c.in_ok-text.text) (drop c.in_ok-text.rest text) (drop c.in_ok-end.end text)
    c.if-self.false c.in_ok-from.ensures.rest found.value found.rest end.same end.colon
