use Rattle.std.proofs.Common.{◌≡◌, ◌≤◌, ◌-◌, length, take}
use Rattle.reply_fields.specs.Ranges.{RisesAtMost, AreAsked}
use Rattle.reply_fields.specs.Slices.{body_len, kept_count, IsBody}
use Rattle.reply_fields.proofs.body.fill.Given as goal

abbrev pub invariant-loop-done : goal.invariant-loop-done
invariant-loop-done g l = record {
  within : l.done ≤ length l.slices;
  at : l.at ≡ body_len (take l.done l.slices);
  body : IsBody g.R.Reader.gives (take l.done l.slices) (take l.at l.out);
  same : g.R.Reader.faults l.reader ≡ g.R.Reader.faults l.initial.reader;
  reads : RisesAtMost (kept_count (take l.done l.slices)) (g.R.Reader.reads l.initial.reader) (g.R.Reader.reads l.reader);
  asked : AreAsked (kept_count (take l.done l.slices)) (g.R.Reader.reads l.initial.reader) (g.R.Reader.reads l.reader);
}

abbrev pub decreases-loop-done : goal.decreases-loop-done
decreases-loop-done g l = length l.slices - l.done
