use Rattle.std.proofs.Common.{◌∙◌, ap, ℕ, ◌+◌}
use Rattle.table_check.proofs.LogLemmas.{count_more, follows, lawful_before}
use Rattle.table_check.proofs.replayed.Replayed.add.Goals as goal

pub returns : goal.returns
returns c log is =
    let r = c.args.view.now in
    record {
      number = ap (λ (n : ℕ). n + 1) is.number ∙ count_more log r;
      halves = λ segment lawful.
          let before = lawful_before segment log r lawful in
          let are = is.halves segment before in
          c.add.ensures.records segment log before (follows segment log r lawful) is.number
          (record { low = c.in_ok-reserve.ensures.low ∙ are.low; halves = c.in_ok-reserve.ensures.halves ∙ are.halves });
      delivered = λ segment lawful. c.in_ok-count_delivery.ensures segment log (is.delivered segment (lawful_before segment log r lawful)) lawful;
    }
