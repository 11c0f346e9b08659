-- The units so far were examined, and those that are taken are counted.
use Rattle.std.proofs.Common.{◌-◌, drop, map, take}
use Rattle.queue_view.specs.Subscriptions.{tags_take}
use Rattle.queue_view.specs.Tables.{unit_in}
use Rattle.queue_view.proofs.PullLemmas.{SoFar}
use Rattle.queue_view.proofs.examine.examine.Given as goal

abbrev pub invariant-loop-i : goal.invariant-loop-i
invariant-loop-i l = SoFar l.most (tags_take l.tags) (drop l.from (map unit_in (take l.seen l.all.items))) (l.i - l.from) l.units.items l.size
