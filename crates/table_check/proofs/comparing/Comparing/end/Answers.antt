use Rattle.std.proofs.Common.{◌∙◌}
use Rattle.table_check.proofs.BesideLemmas.{failed_here}
use Rattle.table_check.proofs.KeyLemmas.{keys_whole}
use Rattle.table_check.specs.Beside.{log_from}
use Rattle.table_check.proofs.comparing.Comparing.end.Goals as goal

pub returns-then-not-self : goal.returns-then-not-self
returns-then-not-self c segment records beside lawful = (
  λ f. cc f,
  λ are. absurd (failed_here records c.args.self.now (beside.other c.if-not-self.true) are),
)

pub returns-then-not-are_passed : goal.returns-then-not-are_passed
returns-then-not-are_passed c segment records beside lawful = (
  λ f. cc f,
  λ are.
      let has = beside.same c.if-not-self.false in
      let passed = (c.are_passed.ensures records has.passed.queues).1 are.queues in
      cc (passed, c.if-not-are_passed.true),
)

pub returns : goal.returns
returns c segment records beside lawful =
    let has = beside.same c.if-not-self.false in
    let tells = c.is_in.ensures segment (log_from c.args.self.now.base.now records) has.replayed lawful in (
      λ yes. record {
        queues = (c.are_passed.ensures records has.passed.queues).0 c.if-not-are_passed.false;
        keys = keys_whole c.args.self.now.tables.keys.now.entries records c.args.self.now.keys has.passed.front has.passed.count (c.if-self-len.false ∙ c.len.ensures);
        halves = (tells.0 yes).0;
        levels = (tells.0 yes).1;
      },
      λ are. tells.1 (are.halves, are.levels),
    )
