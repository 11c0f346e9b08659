use Rattle.std.proofs.Common.{inl, inr, sym, subst, arith, List}
use Rattle.record_codec.specs.Entry.{Entry}
use Rattle.broker_model.specs.Run.{Anything}
use Rattle.core_laws.specs.Delays.{InOrder}
use Rattle.core_laws.proofs.Delays.{run_order, one_delivery}
use Rattle.core_laws.proofs.KeptOpenings.{opening_kept}
use Rattle.core_laws.proofs.KeptRuns.{run_kept}
use Rattle.core_laws.proofs.Runs.{run_good}
use Rattle.core_laws.proofs.laws.delays_once.Goals as goal

pub returns-clause-order : goal.returns-clause-order
returns-clause-order x b c moves opening order run = run_order Anything b moves c (opening_kept b opening) run order

pub returns-clause-empty : goal.returns-clause-empty
returns-clause-empty c log none = subst (λ (l : List Entry). InOrder (record { base = log.base; records = l })) (sym none)
    (λ i level number r at low high small is. absurd (cc))

pub returns-clause-once : goal.returns-clause-once
returns-clause-once z b c moves i k level number x y opening order run low high small at_i at_k x_is y_is =
    one_delivery c.now.log i k level number x y (run_order Anything b moves c (opening_kept b opening) run order) at_i at_k low high small x_is y_is

pub returns-clause-ever : goal.returns-clause-ever
returns-clause-ever z b c d moves more n k level number x y opening order run later low high small flushed at_n at_k x_is y_is =
    let first = run_kept Anything b moves c (opening_kept b opening) run in
    let rest = run_good Anything c more d first.sound later in
    let last = run_order Anything c more d first later (run_order Anything b moves c (opening_kept b opening) run order) in
    elim (rest.1.stays n x flushed (inr at_n)) [
      | inl gone ↦ inl gone
      | inr there ↦ inr (let same = one_delivery d.now.log there.index at_k.index level number x y last there.stands at_k.stands low high small x_is y_is in
          omega (arith, same, there.number, at_k.number))
    ]
