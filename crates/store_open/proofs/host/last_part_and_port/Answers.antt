use Rattle.std.proofs.Common.{arith}
use Rattle.std.proofs.lemmas.Str.Pattern.{split_after}
use Rattle.mq_bytes.specs.Decimal.{digits_of}
use Rattle.store_open.proofs.HostLemmas.{no_colon}
use Rattle.store_open.proofs.host.last_part_and_port.Goals as goal

pub returns-in_err-digits-clause-exact : goal.returns-in_err-digits-clause-exact
returns-in_err-digits-clause-exact c = λ n port is most low high.
    let parts = split_after 58 c.args.text.now _ (digits_of port) c.split_once.result c.split_once.ensures.cases (omega arith) is (no_colon n (omega (arith, most))) in
    absurd (rw c.in_err-digits.was at parts)

pub returns-in_err-part-clause-exact : goal.returns-in_err-part-clause-exact
returns-in_err-part-clause-exact c = λ n port is most low high.
    let parts = split_after 58 c.args.text.now _ (digits_of port) c.split_once.result c.split_once.ensures.cases (omega arith) is (no_colon n (omega (arith, most))) in
    let cut = rw c.in_ok-digits.was at parts in
    let read = c.read_number.ensures.exact n cut.0 (omega arith) most in
    let gone = c.in_err-part.was in
    absurd cc

pub returns-in_err-port-clause-exact : goal.returns-in_err-port-clause-exact
returns-in_err-port-clause-exact c = λ n port is most low high.
    let parts = split_after 58 c.args.text.now _ (digits_of port) c.split_once.result c.split_once.ensures.cases (omega arith) is (no_colon n (omega (arith, most))) in
    let cut = rw c.in_ok-digits.was at parts in
    let read = c.read_number-2.ensures.exact port cut.1 low high in
    let gone = c.in_err-port.was in
    absurd cc
