use Rattle.std.proofs.Common.{◌≡◌, ◌-◌, [], length, Some, None, sym, ap, ◌∙◌, arith, rules}
use Rattle.json.specs.Json.{read_key}
use Rattle.json.proofs.Grammar.{read_key-shorter}
use Rattle.serde_json.specs.Data.{Members, string}
use Rattle.remoting_frame.specs.Written.{texts}
use Rattle.remoting_frame.specs.Plain.{members_behind}
use Rattle.remoting_frame.proofs.HeaderReading.{none_in_order}
use Rattle.remoting_frame.proofs.NameOrder.{ordered_put}
use Rattle.remoting_frame.proofs.PlainReading.{text_begins, shorter, next_member, no_member}
use Rattle.remoting_frame.proofs.PlainMembers.{texts-put}
use Rattle.remoting_frame.proofs.plain_reader.pairs_behind.Goals as goal

pub members-init : goal.members-init
members-init c =
    let empty : c.in-Ok.ext ≡ [] = search rules in
    let n = length c.args.scanner.now in
    (n, omega arith, rw empty none_in_order, ap (λ ps. members_behind (texts ps) 125 n c.args.scanner.now) (sym empty))

pub members-preserved : goal.members-preserved
members-preserved c =
    let l = c.members in
    let n = l.invariant.0 in
    let k = c.in-Some.name.now in
    let s = c.name.new.self in
    let r = c.put_value.new.scanner in
    let key = c.in_ok-name.ensures in
    let named : read_key l.scanner ≡ Some (Some k, s) = grind (arith, key) in
    let taken = c.in_ok-put_value.ensures in
    let t = taken.0 in
    let made = taken.2 in
    let begins = text_begins 125 t s r taken.1 in
    let less = read_key-shorter l.scanner (Some k) s named in
    let lesser = shorter 125 s r (string t) begins in (
      n - 1,
      omega (arith, l.invariant.1),
      rw made (ordered_put l.ext k t l.invariant.2),
      l.invariant.3 ∙ next_member 125 n (texts l.ext) k (string t) l.scanner s r l.invariant.1 named begins
          ∙ ap (λ (ms : Members). members_behind ms 125 (n - 1) r) (texts-put l.ext (k, t) ∙ ap texts (sym made)),
    )

pub returns-clause-pairs : goal.returns-clause-pairs
returns-clause-pairs c =
    let l = c.members in
    let key = c.in_ok-name.ensures in
    let closed : read_key l.scanner ≡ Some (None, c.name.new.self) = grind (arith, key) in
    l.invariant.3 ∙ no_member 125 l.invariant.0 (texts l.ext) l.scanner c.name.new.self l.invariant.1 closed
