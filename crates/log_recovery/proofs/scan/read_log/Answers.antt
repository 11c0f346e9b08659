use Rattle.std.proofs.Common.{◌*◌, ◌^◌, ◌<◌, ℕ, [], None, Some, Err, map, sym, subst, ap, arith}
use Rattle.std.specs.Prelude.{string_bytes, IfSome, IfNone}
use Rattle.mq_outside.specs.Files.{Files, Lists}
use Rattle.log_model.specs.Bases.{Geometry, geometry}
use Rattle.log_model.specs.Told.{base_of}
use Rattle.log_model.specs.Store.{IsDamagedAt}
use Rattle.log_recovery.specs.declared.scan.Log.{Log}
use Rattle.log_recovery.specs.Names.{NoFurther, IsOdd}
use Rattle.log_recovery.specs.Scan.{StandsIn}
use Rattle.log_model.proofs.Places.{geometry_size}
use Rattle.log_recovery.proofs.ScanLemmas.{odd_damaged, on_damage, passed_on, count_low}
use Rattle.log_recovery.proofs.VisitLemmas.{hands_start, given_start, given, stop_given, stop_passed}
use Rattle.log_recovery.proofs.scan.read_log.Goals as goal

pub returns-in_err-read_front-clause-damaged : goal.returns-in_err-read_front-clause-damaged
returns-in_err-read_front-clause-damaged g c = λ tells.
    let S : Geometry = geometry c.args.segment (base_of c.args.base.now) in
    let files : Files = (g.D.Disk.state c.args.disk.now).reads in
    let count : ℕ = c.order_of-order.result.count in
    let lists = subst (λ l. Lists files (map (λ name. string_bytes name) l)) (sym c.deref.ensures.value) (c.in_ok-names.ensures.names tells) in
    let named = c.order_of-order.ensures.named files lists in
    let start : StandsIn S c.in_ok-tail.tail [] = record { size = c.in_ok-tail.ensures.segment; stands = c.in_ok-tail.ensures.empty } in
    let same = (c.list.ensures.moves tells).reads in
    let odd = subst (λ o. IfSome o (λ name. IsOdd S count files name.now)) c.in-Some.is (c.order_of-order.ensures.odd files lists) in
    passed_on Log (Unit {0}) c.from_residual-in_err-read_front.result c.in_err-read_front.field-0.0 (IsDamagedAt S files) c.from_residual-in_err-read_front.ensures.1
    (c.in_err-read_front.ensures.damaged tells files c.in-Some.name.now same start named odd.next)

pub overflow_mul-place : goal.overflow_mul-place
overflow_mul-place g c =
    let low : c.order_of-order.result.count * c.args.segment < 2 ^ 64 = count_low (geometry c.args.segment (base_of c.args.base.now)) c.order_of-order.result.count (geometry_size _ c.requires) c.order_of-order.ensures.low in
    omega (arith, low, ap (λ (k : ℕ). c.order_of-order.result.count * k) c.from.ensures)

pub returns-in-Some-clause-damaged : goal.returns-in-Some-clause-damaged
returns-in-Some-clause-damaged g c = λ tells.
    let S : Geometry = geometry c.args.segment (base_of c.args.base.now) in
    let files : Files = (g.D.Disk.state c.args.disk.now).reads in
    let count : ℕ = c.order_of-order.result.count in
    let lists = subst (λ l. Lists files (map (λ name. string_bytes name) l)) (sym c.deref.ensures.value) (c.in_ok-names.ensures.names tells) in
    let named = c.order_of-order.ensures.named files lists in
    let start : StandsIn S c.in_ok-tail.tail [] = record { size = c.in_ok-tail.ensures.segment; stands = c.in_ok-tail.ensures.empty } in
    let same = (c.list.ensures.moves tells).reads in
    let odd = subst (λ o. IfSome o (λ name. IsOdd S count files name.now)) c.in-Some.is (c.order_of-order.ensures.odd files lists) in
    let opened = c.in_ok-read_front.ensures.opened tells None files same start named in
    on_damage Log c.in_ok-damaged.field-0 (count * c.from.result) c.in-Some.name.now (IsDamagedAt S files) c.in_ok-damaged.ensures
    (odd_damaged S count files c.read_front.new.scan.tail _ (count * c.from.result) c.in-Some.name.now opened odd (ap (λ (k : ℕ). count * k) c.from.ensures))

pub returns-in_err-end-clause-damaged : goal.returns-in_err-end-clause-damaged
returns-in_err-end-clause-damaged g c = λ tells.
    let S : Geometry = geometry c.args.segment (base_of c.args.base.now) in
    let files : Files = (g.D.Disk.state c.args.disk.now).reads in
    let count : ℕ = c.order_of-order.result.count in
    let lists = subst (λ l. Lists files (map (λ name. string_bytes name) l)) (sym c.deref.ensures.value) (c.in_ok-names.ensures.names tells) in
    let named = c.order_of-order.ensures.named files lists in
    let start : StandsIn S c.in_ok-tail.tail [] = record { size = c.in_ok-tail.ensures.segment; stands = c.in_ok-tail.ensures.empty } in
    let same = (c.list.ensures.moves tells).reads in
    let all = subst (λ o. IfNone o (NoFurther S count files)) c.in_default.is (c.order_of-order.ensures.all files lists) in
    passed_on Log ℕ c.from_residual-in_err-end.result c.in_err-end.field-0.0 (IsDamagedAt S files) c.from_residual-in_err-end.ensures.1
    (c.in_err-end.ensures.damaged tells files same start named all)

pub returns-clause-read : goal.returns-clause-read
returns-clause-read g c = λ tells since.
    let S : Geometry = geometry c.args.segment (base_of c.args.base.now) in
    let files : Files = (g.D.Disk.state c.args.disk.now).reads in
    let count : ℕ = c.order_of-order.result.count in
    let lists = subst (λ l. Lists files (map (λ name. string_bytes name) l)) (sym c.deref.ensures.value) (c.in_ok-names.ensures.names tells) in
    let named = c.order_of-order.ensures.named files lists in
    let start : StandsIn S c.in_ok-tail.tail [] = record { size = c.in_ok-tail.ensures.segment; stands = c.in_ok-tail.ensures.empty } in
    let same = (c.list.ensures.moves tells).reads in
    let all = subst (λ o. IfNone o (NoFurther S count files)) c.in_default.is (c.order_of-order.ensures.all files lists) in
    c.in_ok-end.ensures.read tells since files same start named all

pub returns-in_err-names-clause-stopped : goal.returns-in_err-names-clause-stopped
returns-in_err-names-clause-stopped g c = λ first start.
    stop_given Log c.from_residual.result _ _ (given_start (geometry c.args.segment (base_of c.args.base.now)) _ c.requires start)

pub returns-in_err-tail-clause-stopped : goal.returns-in_err-tail-clause-stopped
returns-in_err-tail-clause-stopped g c = λ first start.
    stop_given Log c.from_residual-in_err-tail.result _ _ (given_start (geometry c.args.segment (base_of c.args.base.now)) _ c.requires start)

pub returns-in_err-new-clause-stopped : goal.returns-in_err-new-clause-stopped
returns-in_err-new-clause-stopped g c = λ first start.
    stop_given Log c.from_residual-in_err-new.result _ _ (given_start (geometry c.args.segment (base_of c.args.base.now)) _ c.requires start)

pub returns-in_err-read_front-clause-stopped : goal.returns-in_err-read_front-clause-stopped
returns-in_err-read_front-clause-stopped g c = λ first start.
    stop_passed Log (Unit {0}) c.from_residual-in_err-read_front.result c.in_err-read_front.field-0.0 _ _ c.from_residual-in_err-read_front.ensures.1
    (c.in_err-read_front.ensures.stopped first (hands_start (geometry c.args.segment (base_of c.args.base.now)) _ _ c.requires
    (record { size = c.in_ok-tail.ensures.segment; stands = c.in_ok-tail.ensures.empty }) start))

pub returns-in_err-damaged-clause-stopped : goal.returns-in_err-damaged-clause-stopped
returns-in_err-damaged-clause-stopped g c = λ first start.
    stop_given Log c.from_residual-in_err-damaged.result _ _ (given (geometry c.args.segment (base_of c.args.base.now)) _ _
    (c.in_ok-read_front.ensures.handed (Some first) (hands_start (geometry c.args.segment (base_of c.args.base.now)) _ _ c.requires
    (record { size = c.in_ok-tail.ensures.segment; stands = c.in_ok-tail.ensures.empty }) start)))

pub returns-in-Some-clause-stopped : goal.returns-in-Some-clause-stopped
returns-in-Some-clause-stopped g c = λ first start.
    stop_given Log (Err c.in_ok-damaged.field-0) _ _ (given (geometry c.args.segment (base_of c.args.base.now)) _ _
    (c.in_ok-read_front.ensures.handed (Some first) (hands_start (geometry c.args.segment (base_of c.args.base.now)) _ _ c.requires
    (record { size = c.in_ok-tail.ensures.segment; stands = c.in_ok-tail.ensures.empty }) start)))

pub returns-in_err-end-clause-stopped : goal.returns-in_err-end-clause-stopped
returns-in_err-end-clause-stopped g c = λ first start.
    stop_passed Log ℕ c.from_residual-in_err-end.result c.in_err-end.field-0.0 _ _ c.from_residual-in_err-end.ensures.1
    (c.in_err-end.ensures.stopped first (hands_start (geometry c.args.segment (base_of c.args.base.now)) _ _ c.requires
    (record { size = c.in_ok-tail.ensures.segment; stands = c.in_ok-tail.ensures.empty }) start))

pub returns-clause-handed : goal.returns-clause-handed
returns-clause-handed g c = λ since start.
    c.in_ok-end.ensures.handed since (hands_start (geometry c.args.segment (base_of c.args.base.now)) _ _ c.requires
    (record { size = c.in_ok-tail.ensures.segment; stands = c.in_ok-tail.ensures.empty }) start)
