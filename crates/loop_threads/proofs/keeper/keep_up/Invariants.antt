use Rattle.std.proofs.Common.{◌≤◌, IfSome}
use Rattle.config_store.specs.Configs.{KeepsConfig}
use Rattle.loop_threads.specs.Kept.{KeepsUp, keep_over}
use Rattle.loop_threads.proofs.keeper.keep_up.Given as goal

abbrev pub invariant-loop : goal.invariant-loop
invariant-loop g l = record {
  next : (goal.iterator-loop g).can_next l.iterator';
  finite : (goal.iterator-loop g).is_finite l.iterator';
  has : g.E.Keep.tells → IfSome l.last (λ had. KeepsConfig had.offsets.items had.topics.items (g.E.Keep.state l.keep));
  kept : KeepsUp g.C.Owner.sees (keep_over g.E.Keep.tells (g.E.Keep.state l.initial.keep) (g.E.Keep.state l.keep)) l.initial.calls l.calls;
  grow : g.E.Keep.faults l.initial.keep ≤ g.E.Keep.faults l.keep;
}
