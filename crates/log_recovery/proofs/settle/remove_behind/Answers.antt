use Rattle.std.proofs.Common.{◌≡◌, ◌∙◌, ℕ, ◌-◌, List, None, ap, subst, arith}
use Rattle.mq_outside.specs.Files.{At, Vanished}
use Rattle.mq_outside.specs.Disk.{Moves, IsDurable}
use Rattle.log_model.specs.Bases.{whole}
use Rattle.log_model.specs.Segments.{segment_file}
use Rattle.log_recovery.specs.Settle.{IsPruned}
use Rattle.log_recovery.proofs.SettleLemmas.{turns_call, pruned_more, gone_more}
use Rattle.log_recovery.proofs.settle.remove_behind.Goals as goal

pub returns-in_err-remove-clause-turns : goal.returns-in_err-remove-clause-turns
returns-in_err-remove-clause-turns g c = λ tells.
    let S : ℕ = c.args.segment in
    let k : ℕ = c.args.top - c.loop-i.i in
    let named : c.as_str.result.now ≡ segment_file (whole S) k = c.as_str.ensures ∙ c.of-file.ensures ∙ ap (λ (s : ℕ). segment_file (whole s) k) c.from.ensures in
    let moves : Moves (At (segment_file (whole S) k) Vanished) (g.D.Disk.state c.loop-i.disk) (g.D.Disk.state c.remove.new.self) =
    subst (λ (n : List ℕ). Moves (At n Vanished) (g.D.Disk.state c.loop-i.disk) (g.D.Disk.state c.remove.new.self)) named (c.remove.ensures.moves tells) in
    turns_call (IsPruned S c.args.kept c.args.top) (At (segment_file (whole S) k) Vanished) (pruned_more S c.args.kept c.args.top k (omega arith) (omega arith)) (c.loop-i.invariant.turns tells) moves

pub loop-i-preserved : goal.loop-i-preserved
loop-i-preserved g c =
    let S : ℕ = c.args.segment in
    let k : ℕ = c.args.top - c.loop-i.i in
    let named : c.as_str.result.now ≡ segment_file (whole S) k = c.as_str.ensures ∙ c.of-file.ensures ∙ ap (λ (s : ℕ). segment_file (whole s) k) c.from.ensures in
    record {
      turns = λ tells. turns_call (IsPruned S c.args.kept c.args.top) (At (segment_file (whole S) k) Vanished) (pruned_more S c.args.kept c.args.top k (omega arith) (omega arith)) (c.loop-i.invariant.turns tells)
          (subst (λ (n : List ℕ). Moves (At n Vanished) (g.D.Disk.state c.loop-i.disk) (g.D.Disk.state c.remove.new.self)) named (c.remove.ensures.moves tells));
      gone = λ tells.
          let each = gone_more S k c.args.top
          (subst (λ (n : List ℕ). Moves (At n Vanished) (g.D.Disk.state c.loop-i.disk) (g.D.Disk.state c.remove.new.self)) named (c.remove.ensures.moves tells))
          (subst (λ (n : List ℕ). (g.D.Disk.state c.remove.new.self).reads n ≡ None) named (c.in_ok-remove.ensures.gone tells))
          (subst (λ (n : List ℕ). IsDurable n (g.D.Disk.state c.remove.new.self)) named (c.in_ok-remove.ensures.durable tells))
          (c.loop-i.invariant.gone tells) in
          record { at = λ files image j low high. each.at files image j (omega (arith, low)) high };
      faults = c.in_ok-remove.ensures.cause ∙ c.loop-i.invariant.faults;
      syncs = c.remove.ensures.syncs ∙ c.loop-i.invariant.syncs;
    }
