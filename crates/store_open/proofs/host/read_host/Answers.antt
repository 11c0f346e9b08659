use Rattle.std.proofs.Common.{◌≡◌, true, false, get_or}
use Rattle.store_open.specs.Options.{port_of}
use Rattle.store_open.proofs.host.read_host.Goals as goal

pub returns-in_err-first-clause-exact : goal.returns-in_err-first-clause-exact
returns-in_err-first-clause-exact c = λ host is text.
    let part_1 = c.part_before_dot.ensures.exact (get_or host 0 0) _ text is.first in
    absurd (rw c.in_err-first.was at part_1)

pub returns-in_err-second-clause-exact : goal.returns-in_err-second-clause-exact
returns-in_err-second-clause-exact c = λ host is text.
    let part_1 = c.part_before_dot.ensures.exact (get_or host 0 0) _ text is.first in
    let cut_1 = rw c.in_ok-first.was at part_1 in
    let part_2 = c.part_before_dot-2.ensures.exact (get_or host 1 0) _ cut_1.1 is.second in
    absurd (rw c.in_err-second.was at part_2)

pub returns-in_err-third-clause-exact : goal.returns-in_err-third-clause-exact
returns-in_err-third-clause-exact c = λ host is text.
    let part_1 = c.part_before_dot.ensures.exact (get_or host 0 0) _ text is.first in
    let cut_1 = rw c.in_ok-first.was at part_1 in
    let part_2 = c.part_before_dot-2.ensures.exact (get_or host 1 0) _ cut_1.1 is.second in
    let cut_2 = rw c.in_ok-second.was at part_2 in
    let part_3 = c.part_before_dot-3.ensures.exact (get_or host 2 0) _ cut_2.1 is.third in
    absurd (rw c.in_err-third.was at part_3)

pub returns-in_err-fourth-clause-exact : goal.returns-in_err-fourth-clause-exact
returns-in_err-fourth-clause-exact c = λ host is text.
    let part_1 = c.part_before_dot.ensures.exact (get_or host 0 0) _ text is.first in
    let cut_1 = rw c.in_ok-first.was at part_1 in
    let part_2 = c.part_before_dot-2.ensures.exact (get_or host 1 0) _ cut_1.1 is.second in
    let cut_2 = rw c.in_ok-second.was at part_2 in
    let part_3 = c.part_before_dot-3.ensures.exact (get_or host 2 0) _ cut_2.1 is.third in
    let cut_3 = rw c.in_ok-third.was at part_3 in
    let part_4 = c.last_part_and_port.ensures.exact (get_or host 3 0) (port_of host) cut_3.1 is.fourth is.low is.high in
    let apart : false ≡ true = rw c.in_err-fourth.was at part_4 in
    absurd cc
