use Rattle.std.proofs.Common.{ap, sym, subst, arith, ◌+◌, ◌-◌, ◌<◌}
use Rattle.log_model.specs.Numbered.{IsLawful}
use Rattle.pending_log.specs.Parts.{PendingPart, part_of}
use Rattle.pending_log.specs.declared.turn.Out.{Out}
use Rattle.pending_log.specs.Extents.{IsExtent}
use Rattle.pending_log.specs.Pending.{IsPendingOf, IsNextTurn}
use Rattle.pending_log.proofs.TakeLemmas.{rows_end, is_taken, first_ordered, last_low, next_turn}
use Rattle.pending_log.proofs.pending.Pending.next_turn.Goals as goal

pub at-first-requires-clause-within : goal.at-first-requires-clause-within
at-first-requires-clause-within c =
    let end = rows_end c.requires.some.0 c.args.rows.now c.requires.some.3 in
    let count = c.requires.some.2.count in
    let pending = subst (λ (q : PendingPart). q.flushed < c.args.self.now.count) (sym c.self.view_is) c.requires.pending in
    omega (arith, end, count, pending)

pub overflow_add-self-inside : goal.overflow_add-self-inside
overflow_add-self-inside c =
    let i = c.self.inside in
    let p : PendingPart = part_of i in
    let are = subst (λ (q : PendingPart). IsPendingOf c.requires.some.0 q) (sym c.self.view_is) c.requires.some.2 in
    let pending = subst (λ (q : PendingPart). q.flushed < q.count) (sym c.self.view_is) c.requires.pending in
    let is = subst (λ (q : PendingPart). IsExtent q.segment c.args.rows.now.items (q.flushed - c.args.rows.now.first) c.extent-extent.result) (sym c.self.view_is) c.extent-extent.ensures in
    let taken = is_taken c.requires.some.0 p c.args.rows.now c.extent-extent.result are c.requires.some.3 pending is in
    let within = taken.within in let count = are.count in let kept = are.kept in
    let few = c.self.invariant.few in let low = c.self.invariant.low in
    omega (arith, within, count, kept, few, low)

pub at-last-requires-clause-within : goal.at-last-requires-clause-within
at-last-requires-clause-within c =
    let i = c.self.inside in
    let p : PendingPart = part_of i in
    let are = subst (λ (q : PendingPart). IsPendingOf c.requires.some.0 q) (sym c.self.view_is) c.requires.some.2 in
    let pending = subst (λ (q : PendingPart). q.flushed < q.count) (sym c.self.view_is) c.requires.pending in
    let is = subst (λ (q : PendingPart). IsExtent q.segment c.args.rows.now.items (q.flushed - c.args.rows.now.first) c.extent-extent.result) (sym c.self.view_is) c.extent-extent.ensures in
    let taken = is_taken c.requires.some.0 p c.args.rows.now c.extent-extent.result are c.requires.some.3 pending is in
    let within = taken.within in let some = taken.some in let kept = are.kept in
    let end = rows_end c.requires.some.0 c.args.rows.now c.requires.some.3 in
    omega (arith, within, some, kept, end)

pub front-requires : goal.front-requires
front-requires c =
    let i = c.self.inside in
    let p : PendingPart = part_of i in
    let are = subst (λ (q : PendingPart). IsPendingOf c.requires.some.0 q) (sym c.self.view_is) c.requires.some.2 in
    let pending = subst (λ (q : PendingPart). q.flushed < q.count) (sym c.self.view_is) c.requires.pending in
    let is = subst (λ (q : PendingPart). IsExtent q.segment c.args.rows.now.items (q.flushed - c.args.rows.now.first) c.extent-extent.result) (sym c.self.view_is) c.extent-extent.ensures in
    let taken = is_taken c.requires.some.0 p c.args.rows.now c.extent-extent.result are c.requires.some.3 pending is in
    taken.short

pub blank_between-requires-clause-ordered : goal.blank_between-requires-clause-ordered
blank_between-requires-clause-ordered c =
    let i = c.self.inside in
    let p : PendingPart = part_of i in
    let are = subst (λ (q : PendingPart). IsPendingOf c.requires.some.0 q) (sym c.self.view_is) c.requires.some.2 in
    let lawful = subst (λ (q : PendingPart). IsLawful q.segment c.requires.some.0) (sym c.self.view_is) c.requires.some.1 in
    let ordered = first_ordered c.requires.some.0 p c.args.rows.now c.at-first.result lawful are c.requires.some.3 c.at-first.ensures in
    ordered.0

pub blank_between-requires-clause-near : goal.blank_between-requires-clause-near
blank_between-requires-clause-near c =
    let i = c.self.inside in
    let p : PendingPart = part_of i in
    let are = subst (λ (q : PendingPart). IsPendingOf c.requires.some.0 q) (sym c.self.view_is) c.requires.some.2 in
    let lawful = subst (λ (q : PendingPart). IsLawful q.segment c.requires.some.0) (sym c.self.view_is) c.requires.some.1 in
    let ordered = first_ordered c.requires.some.0 p c.args.rows.now c.at-first.result lawful are c.requires.some.3 c.at-first.ensures in
    let near = ordered.1 in let segment = c.self.invariant.segment in
    omega (arith, near, segment)

pub overflow_add-result : goal.overflow_add-result
overflow_add-result c =
    let i = c.self.inside in
    let p : PendingPart = part_of i in
    let are = subst (λ (q : PendingPart). IsPendingOf c.requires.some.0 q) (sym c.self.view_is) c.requires.some.2 in
    let lawful = subst (λ (q : PendingPart). IsLawful q.segment c.requires.some.0) (sym c.self.view_is) c.requires.some.1 in
    let pending = subst (λ (q : PendingPart). q.flushed < q.count) (sym c.self.view_is) c.requires.pending in
    let is = subst (λ (q : PendingPart). IsExtent q.segment c.args.rows.now.items (q.flushed - c.args.rows.now.first) c.extent-extent.result) (sym c.self.view_is) c.extent-extent.ensures in
    let taken = is_taken c.requires.some.0 p c.args.rows.now c.extent-extent.result are c.requires.some.3 pending is in
    let low = last_low c.requires.some.0 p c.args.rows.now c.extent-extent.result.count c.at-last.result lawful are c.requires.some.3 taken.some c.at-last.ensures in
    let size = c.from.ensures in
    omega (arith, low, size)

pub returns-clause-next : goal.returns-clause-next
returns-clause-next c log lawful are of =
    let i = c.self.inside in
    let p : PendingPart = part_of i in
    let here = subst (λ (q : PendingPart). IsPendingOf log q) (sym c.self.view_is) are in
    let pending = subst (λ (q : PendingPart). q.flushed < q.count) (sym c.self.view_is) c.requires.pending in
    let is = subst (λ (q : PendingPart). IsExtent q.segment c.args.rows.now.items (q.flushed - c.args.rows.now.first) c.extent-extent.result) (sym c.self.view_is) c.extent-extent.ensures in
    let turn : Out = record {
      batch = record { from = i.flushed; count = c.extent-extent.result.count; place = c.at-first.result.place; blank = c.blank_between.result; bytes = c.in_ok-bytes.bytes };
      held = i.count;
      end = c.at-last.result.place + c.from.result;
    } in
    subst (λ (q : PendingPart). IsNextTurn log q turn) c.self.view_is
    (next_turn log p c.args.rows.now c.extent-extent.result c.at-first.result c.at-last.result c.blank_between.result c.in_ok-bytes.bytes turn.end here of pending is c.at-first.ensures c.at-last.ensures
    c.blank_between.ensures c.in_ok-bytes.ensures.front (ap (λ n. c.at-last.result.place + n) c.from.ensures))
