use Rattle.std.proofs.Common.{refl, [], ◌∷◌, ◌++◌}
use Rattle.std.proofs.lemmas.Result.{on_ok_weaker}
use Rattle.table_check.specs.Beside.{log_from}
use Rattle.table_check.proofs.comparing.Comparing.add.Goals as goal

pub returns-clause-beside : goal.returns-clause-beside
returns-clause-beside c records beside =
    let r = c.args.view.now in
    let has = beside.same c.if-not-self.false in
    on_ok_weaker c.add.result
    (λ replayed. record {
      same = λ is_true. record { passed = c.pass-self.ensures.passed records has.passed is_true; replayed = replayed };
      other = λ is_false more are.
          c.pass-self.ensures.differs (log_from c.args.self.now.base.now ((records ++ r ∷ []) ++ more)) records more has.passed is_false refl are;
    })
    (c.add.ensures (log_from c.args.self.now.base.now records) has.replayed)
