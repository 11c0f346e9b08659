use Rattle.std.proofs.Common.{◌∙◌, ◌+◌, ℕ, Some, subst, ap, arith, sym}
use Rattle.mq_bytes.specs.Names.{log_file}
use Rattle.mq_outside.specs.Files.{Files, bytes_of}
use Rattle.mq_outside.proofs.Moments.{rests_then}
use Rattle.log_recovery.specs.Scan.{Shows, Onward, Scanned}
use Rattle.log_recovery.specs.Visits.{WasHanded}
use Rattle.log_recovery.proofs.ScanLemmas.{scan_end, scan_more, scan_full}
use Rattle.log_recovery.proofs.VisitLemmas.{stop_passed}
use Rattle.log_recovery.proofs.scan.scan_file.Goals as goal
use Rattle.log_model.specs.Bases.{geometry}

pub returns-then-size-eq0-clause-scanned : goal.returns-then-size-eq0-clause-scanned
returns-then-size-eq0-clause-scanned g c = λ tells begun since files read reads stood.
    let so_far = c.loop-i.invariant.scanned tells begun since files read reads stood in
    let shows = subst (λ (f : Files). Shows c.loop-i.scan.window (bytes_of f (log_file c.args.base))) reads (c.loop-i.invariant.shows tells) in
    let step = c.in_ok-size.ensures.next tells begun since files so_far.read ((c.loop-i.invariant.rests tells).same ∙ reads) shows so_far.stood in
    scan_end (geometry c.args.segment begun) files read.records c.loop-i.scan.tail c.step.new.scan.tail c.args.base (WasHanded g.V.Visit begun since c.args.each.now) (WasHanded g.V.Visit begun since c.loop-i.each) (WasHanded g.V.Visit begun since c.step.new.each) c.loop-i.at c.in_ok-size.size so_far step c.if-size-eq0.true

pub loop-i-preserved : goal.loop-i-preserved
loop-i-preserved g c = record {
  from = omega (arith, c.in_ok-size.ensures.from);
  low = omega (arith, c.from-at.ensures, c.loop-i.invariant.low, c.in_ok-size.ensures.small);
  far = omega (arith, c.from-at.ensures, c.loop-i.invariant.far, c.if-size-eq0.false);
  shows = λ tells. c.in_ok-size.ensures.shows tells (bytes_of (g.D.Disk.state c.args.disk.now).reads (log_file c.args.base))
      (ap (λ (f : Files). bytes_of f (log_file c.args.base)) (c.loop-i.invariant.rests tells).same) (c.loop-i.invariant.shows tells);
  scanned = λ tells begun since files read reads stood.
      let so_far = c.loop-i.invariant.scanned tells begun since files read reads stood in
      let shows = subst (λ (f : Files). Shows c.loop-i.scan.window (bytes_of f (log_file c.args.base))) reads (c.loop-i.invariant.shows tells) in
      let step = c.in_ok-size.ensures.next tells begun since files so_far.read ((c.loop-i.invariant.rests tells).same ∙ reads) shows so_far.stood in
      subst (λ (n : ℕ). Scanned (geometry c.args.segment begun) files c.step.new.scan.tail c.args.base (Onward (WasHanded g.V.Visit begun since c.args.each.now) (WasHanded g.V.Visit begun since c.step.new.each) read.records) (c.loop-i.at + n)) (sym c.from-at.ensures)
      (scan_more (geometry c.args.segment begun) files read.records c.loop-i.scan.tail c.step.new.scan.tail c.args.base (WasHanded g.V.Visit begun since c.args.each.now) (WasHanded g.V.Visit begun since c.loop-i.each) (WasHanded g.V.Visit begun since c.step.new.each) c.loop-i.at c.in_ok-size.size so_far step c.if-size-eq0.false);
  handed = λ begun since start. c.in_ok-size.ensures.handed begun since (c.loop-i.invariant.handed begun since start);
  rests = λ tells. rests_then (c.loop-i.invariant.rests tells) (c.step.ensures.only_reads.rests tells);
  faults = c.in_ok-size.ensures.only_reads.cause ∙ c.loop-i.invariant.faults;
  syncs = c.step.ensures.only_reads.syncs ∙ c.loop-i.invariant.syncs;
}

pub returns-clause-scanned : goal.returns-clause-scanned
returns-clause-scanned g c = λ tells begun since files read reads stood.
    scan_full (geometry c.args.segment begun) files c.loop-i.scan.tail c.args.base _ c.loop-i.at (c.loop-i.invariant.scanned tells begun since files read reads stood) (omega (arith, c.loop-i.invariant.far, c.loop-i-test.false))

pub returns-in_err-size-clause-stopped : goal.returns-in_err-size-clause-stopped
returns-in_err-size-clause-stopped g c = λ begun first start.
    stop_passed ℕ ℕ c.from_residual.result c.in_err-size.field-0.0 _ _ c.from_residual.ensures.1
    (c.in_err-size.ensures.stopped begun first (c.loop-i.invariant.handed begun (Some first) start))

pub returns-then-size-eq0-clause-handed : goal.returns-then-size-eq0-clause-handed
returns-then-size-eq0-clause-handed g c = λ begun since start. c.in_ok-size.ensures.handed begun since (c.loop-i.invariant.handed begun since start)
