use Rattle.std.proofs.Common.{◌≡◌, ◌∙◌, ◌+◌, ◌≤◌, ℕ, List, None, Some, Err, sym, subst, ap, arith}
use Rattle.mq_bytes.specs.Names.{log_file}
use Rattle.mq_outside.specs.Files.{Files, bytes_of}
use Rattle.log_model.specs.Bases.{Geometry, geometry}
use Rattle.log_model.specs.Store.{IsDamagedAt}
use Rattle.log_recovery.proofs.ReadLemmas.{reads_room}
use Rattle.log_recovery.proofs.ScanLemmas.{stood_front, file_ended, file_broken, on_damage}
use Rattle.log_recovery.proofs.VisitLemmas.{given, stop_given, stop_passed}
use Rattle.log_recovery.proofs.scan.read_ended.Goals as goal

pub returns-then-not-is_ended-clause-damaged : goal.returns-then-not-is_ended-clause-damaged
returns-then-not-is_ended-clause-damaged g c = λ tells begun files reading behind reads stood low next further.
    let S : Geometry = geometry c.args.segment begun in
    let to = c.in_ok-at.ensures.scanned tells begun None files reading reads stood in
    let last = to.scanned in
    let bytes : List ℕ = bytes_of files (log_file c.args.base) in
    let read : bytes_of (g.D.Disk.state c.scan_file.new.disk).reads (log_file c.args.base) ≡ bytes = ap (λ (f : Files). bytes_of f (log_file c.args.base)) ((c.scan_file.ensures.only_reads.rests tells).same ∙ reads) in
    let room : c.in_ok-at.at + 8 ≤ S.size = omega (arith, last.stood.here, reads_room S last.read.records last.read.shape files last.stood.reads) in
    let blank = c.in_ok-is_ended.ensures.ended tells begun bytes last.read.shape.last read last.stood.here room (stood_front S files last.read c.scan_file.new.scan.tail c.args.base c.in_ok-at.at last.stood) in
    let broken = file_broken S files reading c.args.scan.now.tail c.scan_file.new.scan.tail c.args.base _ c.in_ok-at.at stood to behind next further (blank.1 c.if-not-is_ended.true) in
    let named : c.as_str.result.now ≡ log_file c.args.base = c.as_str.ensures ∙ c.of.ensures in
    on_damage (Unit {0}) c.in_ok-damaged.field-0 (c.args.base + c.in_ok-at.at) c.as_str.result.now (IsDamagedAt S files) c.in_ok-damaged.ensures
    (subst (λ (n : List ℕ). IsDamagedAt S files (c.args.base + c.in_ok-at.at) n) (sym named) broken)

pub returns-clause-opened : goal.returns-clause-opened
returns-clause-opened g c = λ tells begun since files reading reads stood low next.
    let S : Geometry = geometry c.args.segment begun in
    let to = c.in_ok-at.ensures.scanned tells begun since files reading reads stood in
    let last = to.scanned in
    let bytes : List ℕ = bytes_of files (log_file c.args.base) in
    let read : bytes_of (g.D.Disk.state c.scan_file.new.disk).reads (log_file c.args.base) ≡ bytes = ap (λ (f : Files). bytes_of f (log_file c.args.base)) ((c.scan_file.ensures.only_reads.rests tells).same ∙ reads) in
    let room : c.in_ok-at.at + 8 ≤ S.size = omega (arith, last.stood.here, reads_room S last.read.records last.read.shape files last.stood.reads) in
    let blank = c.in_ok-is_ended.ensures.ended tells begun bytes last.read.shape.last read last.stood.here room (stood_front S files last.read c.scan_file.new.scan.tail c.args.base c.in_ok-at.at last.stood) in
    file_ended S files reading c.args.scan.now.tail c.scan_file.new.scan.tail c.args.base _ c.in_ok-at.at stood to next (blank.0 c.if-not-is_ended.false)

pub returns-in_err-at-clause-stopped : goal.returns-in_err-at-clause-stopped
returns-in_err-at-clause-stopped g c = λ begun first start.
    stop_passed (Unit {0}) ℕ c.from_residual.result c.in_err-at.field-0.0 _ _ c.from_residual.ensures.1 (c.in_err-at.ensures.stopped begun first start)

pub returns-in_err-is_ended-clause-stopped : goal.returns-in_err-is_ended-clause-stopped
returns-in_err-is_ended-clause-stopped g c = λ begun first start.
    stop_given (Unit {0}) c.from_residual-in_err-is_ended.result _ _ (given (geometry c.args.segment begun) _ _ (c.in_ok-at.ensures.handed begun (Some first) start))

pub returns-in_err-damaged-clause-stopped : goal.returns-in_err-damaged-clause-stopped
returns-in_err-damaged-clause-stopped g c = λ begun first start.
    stop_given (Unit {0}) c.from_residual-in_err-damaged.result _ _ (given (geometry c.args.segment begun) _ _ (c.in_ok-at.ensures.handed begun (Some first) start))

pub returns-then-not-is_ended-clause-stopped : goal.returns-then-not-is_ended-clause-stopped
returns-then-not-is_ended-clause-stopped g c = λ begun first start.
    stop_given (Unit {0}) (Err c.in_ok-damaged.field-0) _ _ (given (geometry c.args.segment begun) _ _ (c.in_ok-at.ensures.handed begun (Some first) start))
