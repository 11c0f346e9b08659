use Rattle.std.proofs.Common.{◌≡◌, [], ◌∷◌, rules}
use Rattle.std.specs.Str.{IsUtf8}
use Rattle.json.specs.Token.{begin_object}
use Rattle.json.specs.Lex.{tokens}
use Rattle.remoting_frame.proofs.PlainMembers.{plain_header}
use Rattle.remoting_frame.proofs.plain_reader.header_in.Goals as goal

pub returns : goal.returns
returns c =
    let read = c.in_ok-found.ensures in
    let text : IsUtf8 c.args.text.now = search rules in
    let opened = c.in_ok-open.ensures in
    let first : tokens c.args.text.now ≡ begin_object ∷ c.open.new.self = rw c.new-scanner.ensures at opened in
    let none : c.members_from.new.scanner ≡ [] = search rules in
    plain_header c.args.text.now c.open.new.self c.in_ok-found.found read.0 c.header_from.result text first (rw none at read.2) read.1 c.header_from.ensures
