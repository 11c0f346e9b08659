use Rattle.std.proofs.Common.{arith}
use Rattle.std.proofs.lemmas.Str.Pattern.{split_after}
use Rattle.store_open.proofs.HostLemmas.{no_dot}
use Rattle.store_open.proofs.host.part_before_dot.Goals as goal

pub returns-in_err-digits-clause-exact : goal.returns-in_err-digits-clause-exact
returns-in_err-digits-clause-exact c = λ n rest is most.
    let parts = split_after 46 c.args.text.now _ rest c.split_once.result c.split_once.ensures.cases (omega arith) is (no_dot n (omega (arith, most))) in
    absurd (rw c.in_err-digits.was at parts)

pub returns-in-Some-clause-exact : goal.returns-in-Some-clause-exact
returns-in-Some-clause-exact c = λ n rest is most.
    let parts = split_after 46 c.args.text.now _ rest c.split_once.result c.split_once.ensures.cases (omega arith) is (no_dot n (omega (arith, most))) in
    let cut = rw c.in_ok-digits.was at parts in
    let read = c.read_number.ensures.exact n cut.0 (omega arith) most in
    let there = c.in-Some.is in
    (cc, cut.1)

pub returns-in-None-clause-exact : goal.returns-in-None-clause-exact
returns-in-None-clause-exact c = λ n rest is most.
    let parts = split_after 46 c.args.text.now _ rest c.split_once.result c.split_once.ensures.cases (omega arith) is (no_dot n (omega (arith, most))) in
    let cut = rw c.in_ok-digits.was at parts in
    let read = c.read_number.ensures.exact n cut.0 (omega arith) most in
    let gone = c.in-None.is in
    cc
