use Rattle.std.proofs.Common.{◌≡◌, sym, subst, arith, ◌-◌, ◌/◌, ◌<◌}
use Rattle.log_model.specs.Numbered.{IsLawful}
use Rattle.pending_log.specs.declared.extent.Extent.{Extent}
use Rattle.pending_log.specs.Extents.{IsExtent}
use Rattle.pending_log.specs.Parts.{PendingPart, part_of}
use Rattle.pending_log.specs.Pending.{IsPendingOf}
use Rattle.pending_log.proofs.TakeLemmas.{rows_end, pending_short}
use Rattle.pending_log.proofs.WholeLemmas.{whole_extent}
use Rattle.pending_log.proofs.pending.Pending.extent.Goals as goal

pub at-first-requires-clause-within : goal.at-first-requires-clause-within
at-first-requires-clause-within c =
    let p : PendingPart = part_of c.self.inside in
    let are = subst (λ (q : PendingPart). IsPendingOf c.requires.some.0 q) (sym c.self.view_is) c.requires.some.2 in
    let end = rows_end c.requires.some.0 c.args.rows.now c.requires.some.3 in
    let pending : p.flushed < p.count = subst (λ (q : PendingPart). q.flushed < q.count) (sym c.self.view_is) c.requires.pending in
    let count = are.count in
    omega (arith, end, count, pending)

pub at-last-requires-clause-within : goal.at-last-requires-clause-within
at-last-requires-clause-within c =
    let p : PendingPart = part_of c.self.inside in
    let are = subst (λ (q : PendingPart). IsPendingOf c.requires.some.0 q) (sym c.self.view_is) c.requires.some.2 in
    let end = rows_end c.requires.some.0 c.args.rows.now c.requires.some.3 in
    let pending : p.flushed < p.count = subst (λ (q : PendingPart). q.flushed < q.count) (sym c.self.view_is) c.requires.pending in
    let count = are.count in
    omega (arith, end, count, pending)

pub extent-requires-clause-within : goal.extent-requires-clause-within
extent-requires-clause-within c =
    let p : PendingPart = part_of c.self.inside in
    let are = subst (λ (q : PendingPart). IsPendingOf c.requires.some.0 q) (sym c.self.view_is) c.requires.some.2 in
    let end = rows_end c.requires.some.0 c.args.rows.now c.requires.some.3 in
    let pending : p.flushed < p.count = subst (λ (q : PendingPart). q.flushed < q.count) (sym c.self.view_is) c.requires.pending in
    let count = are.count in
    omega (arith, end, count, pending)

pub extent-requires-clause-short : goal.extent-requires-clause-short
extent-requires-clause-short c =
    let p : PendingPart = part_of c.self.inside in
    let are = subst (λ (q : PendingPart). IsPendingOf c.requires.some.0 q) (sym c.self.view_is) c.requires.some.2 in
    let sum = pending_short c.requires.some.0 p c.args.rows.now are c.requires.some.3 in
    let short = c.self.invariant.short in
    omega (arith, sum, short)

pub returns : goal.returns
returns c =
    let i = c.self.inside in
    let p : PendingPart = part_of i in
    let lawful = subst (λ (q : PendingPart). IsLawful q.segment c.requires.some.0) (sym c.self.view_is) c.requires.some.1 in
    let are = subst (λ (q : PendingPart). IsPendingOf c.requires.some.0 q) (sym c.self.view_is) c.requires.some.2 in
    let pending : p.flushed < p.count = subst (λ (q : PendingPart). q.flushed < q.count) (sym c.self.view_is) c.requires.pending in
    let extent : Extent = record { count = i.count - i.flushed; bytes = c.len.result } in
    let same : c.at-first.result.place / i.segment ≡ c.at-last.result.place / i.segment =
    subst (λ n. c.at-first.result.place / n ≡ c.at-last.result.place / n) c.from-segment.ensures c.if-first-segment.false in
    subst (λ (q : PendingPart). IsExtent q.segment c.args.rows.now.items (q.flushed - c.args.rows.now.first) extent) c.self.view_is
    (whole_extent c.requires.some.0 p c.args.rows.now c.at-first.result c.at-last.result extent c.self.invariant.some lawful are c.requires.some.3 pending
    c.at-first.ensures c.at-last.ensures same (let e : i.count - i.flushed ≡ i.count - i.flushed = omega arith in e) c.len.ensures)
