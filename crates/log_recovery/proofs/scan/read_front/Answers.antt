use Rattle.std.proofs.Common.{◌≡◌, ◌∙◌, ◌*◌, ◌^◌, ◌<◌, ℕ, [], None, Some, refl, sym, subst, ap, arith}
use Rattle.mq_outside.proofs.Moments.{rests_start, rests_then}
use Rattle.log_model.specs.Bases.{Geometry, geometry}
use Rattle.log_model.specs.Told.{base_of}
use Rattle.log_model.specs.Store.{IsDamagedAt}
use Rattle.log_recovery.specs.Scan.{Onward, Opened}
use Rattle.log_recovery.specs.Visits.{WasHanded}
use Rattle.log_recovery.proofs.ScanLemmas.{front_start, front_stood, front_next, front_behind, front_more, passed_on}
use Rattle.log_recovery.proofs.VisitLemmas.{stop_passed}
use Rattle.log_recovery.proofs.scan.read_front.Goals as goal

pub loop-i-init : goal.loop-i-init
loop-i-init g c = record {
  opened = λ tells since files reads left named.
      subst (λ (k : ℕ). Opened (geometry c.args.segment (base_of c.args.base.now)) files k c.args.scan.now.tail (Onward (WasHanded g.V.Visit (base_of c.args.base.now) since c.args.each.now) (WasHanded g.V.Visit (base_of c.args.base.now) since c.args.each.now) [])) (sym c.first_of-first.ensures)
      (front_start (geometry c.args.segment (base_of c.args.base.now)) files c.args.scan.now.tail (WasHanded g.V.Visit (base_of c.args.base.now) since c.args.each.now) c.requires.size left);
  handed = λ since start. start;
  rests = λ tells. rests_start _;
  faults = refl;
  syncs = refl;
}

pub returns-in_err-read_ended-clause-damaged : goal.returns-in_err-read_ended-clause-damaged
returns-in_err-read_ended-clause-damaged g c = λ tells files behind reads left named further.
    let S : Geometry = geometry c.args.segment (base_of c.args.base.now) in
    let i : ℕ = c.loop-i.i in
    let file_base : ℕ = i * c.from.result in
    let so_far = c.loop-i.invariant.opened tells None files reads left named in
    let is : file_base ≡ i * S.size = ap (λ (k : ℕ). i * k) c.from.ensures in
    let low : file_base < 2 ^ 63 = omega (arith, is, c.requires.low i c.loop-i-test.true) in
    let stood = front_stood S i file_base files c.loop-i.scan.tail _ so_far is low in
    let next = front_next S i file_base c.args.count files c.loop-i.scan.tail _ so_far is c.loop-i-test.true named in
    let after = front_behind S i c.args.count files c.loop-i.scan.tail _ behind so_far c.loop-i-test.true named further in
    let told = c.in_err-read_ended.ensures.damaged tells (base_of c.args.base.now) files so_far.read after.0 ((c.loop-i.invariant.rests tells).same ∙ reads) stood low next after.1 in
    passed_on (Unit {0}) (Unit {0}) c.from_residual.result c.in_err-read_ended.field-0.0 (IsDamagedAt S files) c.from_residual.ensures.1 told

pub loop-i-preserved : goal.loop-i-preserved
loop-i-preserved g c = record {
  opened = λ tells since files reads left named.
      let S : Geometry = geometry c.args.segment (base_of c.args.base.now) in
      let i : ℕ = c.loop-i.i in
      let file_base : ℕ = i * c.from.result in
      let so_far = c.loop-i.invariant.opened tells since files reads left named in
      let is : file_base ≡ i * S.size = ap (λ (k : ℕ). i * k) c.from.ensures in
      let low : file_base < 2 ^ 63 = omega (arith, is, c.requires.low i c.loop-i-test.true) in
      let stood = front_stood S i file_base files c.loop-i.scan.tail _ so_far is low in
      let next = front_next S i file_base c.args.count files c.loop-i.scan.tail _ so_far is c.loop-i-test.true named in
      front_more S i files [] c.loop-i.scan.tail c.read_ended.new.scan.tail (WasHanded g.V.Visit (base_of c.args.base.now) since c.args.each.now) (WasHanded g.V.Visit (base_of c.args.base.now) since c.loop-i.each) (WasHanded g.V.Visit (base_of c.args.base.now) since c.read_ended.new.each) so_far
      (c.in_ok-read_ended.ensures.opened tells (base_of c.args.base.now) since files so_far.read ((c.loop-i.invariant.rests tells).same ∙ reads) stood low next);
  handed = λ since start. c.in_ok-read_ended.ensures.handed (base_of c.args.base.now) since (c.loop-i.invariant.handed since start);
  rests = λ tells. rests_then (c.loop-i.invariant.rests tells) (c.read_ended.ensures.only_reads.rests tells);
  faults = c.in_ok-read_ended.ensures.only_reads.cause ∙ c.loop-i.invariant.faults;
  syncs = c.read_ended.ensures.only_reads.syncs ∙ c.loop-i.invariant.syncs;
}

pub returns-clause-opened : goal.returns-clause-opened
returns-clause-opened g c = λ tells since files reads left named.
    let all : c.loop-i.i ≡ c.args.count = omega (arith, c.loop-i-test.false, c.loop-i.auto.i-end, c.requires.from, c.first_of-first.ensures) in
    subst (λ (n : ℕ). Opened (geometry c.args.segment (base_of c.args.base.now)) files n c.loop-i.scan.tail (Onward (WasHanded g.V.Visit (base_of c.args.base.now) since c.args.each.now) (WasHanded g.V.Visit (base_of c.args.base.now) since c.loop-i.each) [])) all (c.loop-i.invariant.opened tells since files reads left named)

pub returns-in_err-read_ended-clause-stopped : goal.returns-in_err-read_ended-clause-stopped
returns-in_err-read_ended-clause-stopped g c = λ first start.
    stop_passed (Unit {0}) (Unit {0}) c.from_residual.result c.in_err-read_ended.field-0.0 _ _ c.from_residual.ensures.1
    (c.in_err-read_ended.ensures.stopped (base_of c.args.base.now) first (c.loop-i.invariant.handed (Some first) start))
