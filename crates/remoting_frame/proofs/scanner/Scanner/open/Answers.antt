use Rattle.std.proofs.Common.{drop, sym, ◌∙◌}
use Rattle.remoting_frame.proofs.ScannerSteps.{opened}
use Rattle.remoting_frame.proofs.scanner.Scanner.open.Goals as goal

pub returns : goal.returns
returns c =
    let text = c.self.inside.text.now in
    sym c.self.view_is
    ∙ opened c.self.inside.is_behind (drop c.self.inside.at text) (drop c.in_ok-self-inside.field-0 text) c.if-self.false c.in_ok-self-inside.ensures.rest
