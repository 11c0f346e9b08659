use Rattle.std.proofs.Common.{◌≡◌, ◌∙◌, ◌+◌, ◌-◌, ◌*◌, ◌^◌, ◌<◌, ℕ, Some, sym, subst, ap, arith}
use Rattle.log_model.specs.Bases.{Geometry, geometry, first_segment}
use Rattle.log_model.specs.Told.{base_of}
use Rattle.log_model.specs.Segments.{segment_file}
use Rattle.log_model.specs.Store.{IsDamagedAt}
use Rattle.log_recovery.specs.Names.{AreNamed, NoFurther}
use Rattle.log_recovery.specs.Scan.{ReadLog}
use Rattle.log_recovery.specs.Visits.{WasHanded}
use Rattle.log_recovery.proofs.ScanLemmas.{front_stood, all_read, none_read, passed_on}
use Rattle.log_recovery.proofs.VisitLemmas.{stop_passed}
use Rattle.log_recovery.proofs.scan.read_all.Goals as goal

pub returns-then-count-first-clause-read : goal.returns-then-count-first-clause-read
returns-then-count-first-clause-read g c = λ tells since files reads left named all.
    let S : Geometry = geometry c.args.segment (base_of c.args.base.now) in
    let before = WasHanded g.V.Visit (base_of c.args.base.now) since c.args.each.now in
    let none : c.args.count ≡ first_segment S = c.if-count-first.true ∙ c.first_of-first.ensures in
    subst (λ (end : ℕ). ReadLog S files before before c.args.count end) (sym c.end.ensures.value)
    (subst (λ (n : ℕ). ReadLog S files before before n c.args.scan.now.tail.end) (sym none)
    (none_read S files c.args.scan.now.tail before c.requires.size left (λ k from low. absurd (omega (arith, from, low))) (subst (λ (n : ℕ). NoFurther S n files) none all)))

pub returns-clause-read : goal.returns-clause-read
returns-clause-read g c = λ tells since files reads left named all.
    let S : Geometry = geometry c.args.segment (base_of c.args.base.now) in
    let last : ℕ = c.args.count - 1 in
    let one : c.args.count ≡ last + 1 = omega (arith, c.if-count-first.false, c.first_of-first.ensures, c.requires.from) in
    let file_base : ℕ = last * c.from.result in
    let is : file_base ≡ last * S.size = ap (λ (k : ℕ). last * k) c.from.ensures in
    let low : file_base < 2 ^ 63 = omega (arith, is, c.requires.low last (omega (arith, one))) in
    let so_far = c.in_ok-read_front.ensures.opened tells since files reads left (λ k from less. named k from (omega (arith, less, one))) in
    let stood = front_stood S last file_base files c.read_front.new.scan.tail _ so_far is low in
    let to = c.in_ok-scan_file.ensures.scanned tells (base_of c.args.base.now) since files so_far.read ((c.read_front.ensures.only_reads.rests tells).same ∙ reads) stood in
    subst (λ (end : ℕ). ReadLog S files (WasHanded g.V.Visit (base_of c.args.base.now) since c.args.each.now) (WasHanded g.V.Visit (base_of c.args.base.now) since c.scan_file.new.each) c.args.count end) (sym c.end-2.ensures.value)
    (subst (λ (n : ℕ). ReadLog S files (WasHanded g.V.Visit (base_of c.args.base.now) since c.args.each.now) (WasHanded g.V.Visit (base_of c.args.base.now) since c.scan_file.new.each) n c.scan_file.new.scan.tail.end) (sym one)
    (all_read S last files c.read_front.new.scan.tail c.scan_file.new.scan.tail (WasHanded g.V.Visit (base_of c.args.base.now) since c.args.each.now) (WasHanded g.V.Visit (base_of c.args.base.now) since c.read_front.new.each) (WasHanded g.V.Visit (base_of c.args.base.now) since c.scan_file.new.each) file_base c.in_ok-scan_file.field-0 so_far is
    (subst (λ (n : ℕ). AreNamed S n files) one named) (subst (λ (n : ℕ). NoFurther S n files) one all) to))

pub returns-in_err-read_front-clause-damaged : goal.returns-in_err-read_front-clause-damaged
returns-in_err-read_front-clause-damaged g c = λ tells files reads left named all.
    let S : Geometry = geometry c.args.segment (base_of c.args.base.now) in
    let last : ℕ = c.args.count - 1 in
    let one : c.args.count ≡ last + 1 = omega (arith, c.if-count-first.false, c.first_of-first.ensures, c.requires.from) in
    let told = c.in_err-read_front.ensures.damaged tells files (segment_file S last) reads left (λ k from less. named k from (omega (arith, less, one))) (named last (omega (arith, c.if-count-first.false, c.first_of-first.ensures, c.requires.from, one)) (omega (arith, one))).1 in
    passed_on ℕ (Unit {0}) c.from_residual.result c.in_err-read_front.field-0.0 (IsDamagedAt S files) c.from_residual.ensures.1 told

pub returns-in_err-read_front-clause-stopped : goal.returns-in_err-read_front-clause-stopped
returns-in_err-read_front-clause-stopped g c = λ first start.
    stop_passed ℕ (Unit {0}) c.from_residual.result c.in_err-read_front.field-0.0 _ _ c.from_residual.ensures.1 (c.in_err-read_front.ensures.stopped first start)

pub returns-in_err-scan_file-clause-stopped : goal.returns-in_err-scan_file-clause-stopped
returns-in_err-scan_file-clause-stopped g c = λ first start.
    stop_passed ℕ ℕ c.from_residual-in_err-scan_file.result c.in_err-scan_file.field-0.0 _ _ c.from_residual-in_err-scan_file.ensures.1
    (c.in_err-scan_file.ensures.stopped (base_of c.args.base.now) first (c.in_ok-read_front.ensures.handed (Some first) start))

pub returns-clause-handed : goal.returns-clause-handed
returns-clause-handed g c = λ since start.
    let last = c.in_ok-scan_file.ensures.handed (base_of c.args.base.now) since (c.in_ok-read_front.ensures.handed since start) in
    record { records = last.records; lawful = last.lawful; handed = last.handed; ends = c.end-2.ensures.value ∙ last.left.stands.end }
