use Rattle.std.proofs.Common.{◌∙◌, ◌+◌, ap, length}
use Rattle.core_log.proofs.AppendLemmas.{alike_length}
use Rattle.core_log.proofs.parts.Parts.counts.Goals as goal

pub returns : goal.returns
returns c s are = record {
  records = c.end.ensures.value ∙ ap (λ n. n + length c.args.self.now.rows.items) are.rows.first ∙ ap (λ n. s.log.base.records + n) (alike_length c.args.self.now.rows.items s.log.records are.rows.items);
  flushed = c.flushed_count.ensures ∙ are.numbers.flushed;
  dispatched = are.numbers.dispatched;
}
