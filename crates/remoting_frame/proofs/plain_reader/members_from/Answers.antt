use Rattle.std.proofs.Common.{◌≡◌, ◌-◌, [], length, Some, None, refl, ◌∙◌, arith, rules}
use Rattle.json.specs.Json.{read_key}
use Rattle.json.proofs.Grammar.{read_key-shorter}
use Rattle.serde_json.specs.Data.{no_members, put}
use Rattle.remoting_frame.proofs.PlainReading.{shorter, next_member, no_member}
use Rattle.remoting_frame.proofs.PlainMembers.{says_nothing}
use Rattle.remoting_frame.proofs.plain_reader.members_from.Goals as goal

pub members-init : goal.members-init
members-init c =
    let empty : c.of.result ≡ [] = search rules in
    (length c.args.scanner.now, omega arith, no_members, rw empty says_nothing, refl)

pub members-smaller : goal.members-smaller
members-smaller c =
    let l = c.members in
    let k = c.in-Some.name.now in
    let s = c.name.new.self in
    let r = c.take_member.new.scanner in
    let key = c.in_ok-name.ensures in
    let named : read_key l.scanner ≡ Some (Some k, s) = grind (arith, key) in
    let taken = c.in_ok-take_member.ensures in
    omega (arith, read_key-shorter l.scanner (Some k) s named, shorter 126 s r taken.0 taken.1)

pub members-preserved : goal.members-preserved
members-preserved c =
    let l = c.members in
    let n = l.invariant.0 in
    let ms = l.invariant.2 in
    let k = c.in-Some.name.now in
    let s = c.name.new.self in
    let r = c.take_member.new.scanner in
    let key = c.in_ok-name.ensures in
    let named : read_key l.scanner ≡ Some (Some k, s) = grind (arith, key) in
    let taken = c.in_ok-take_member.ensures in
    let less = read_key-shorter l.scanner (Some k) s named in
    let lesser = shorter 126 s r taken.0 taken.1 in (
      n - 1,
      omega (arith, l.invariant.1),
      put k taken.0 ms,
      taken.2 ms l.invariant.3,
      l.invariant.4 ∙ next_member 126 n ms k taken.0 l.scanner s r l.invariant.1 named taken.1,
    )

pub returns : goal.returns
returns c =
    let l = c.members in
    let r = c.name.new.self in
    let key = c.in_ok-name.ensures in
    let closed : read_key l.scanner ≡ Some (None, r) = grind (arith, key) in
    (l.invariant.2, l.invariant.3, l.invariant.4 ∙ no_member 126 l.invariant.0 l.invariant.2 l.scanner r l.invariant.1 closed)
