use Rattle.std.proofs.Common.{None, ℕ, ◌+◌, ◌-◌, ◌/◌, ◌%◌, ◌<◌, List, max, length, ap, arith}
use Rattle.std.proofs.lemmas.List.{length-take-le}
use Rattle.mq_outside.specs.Files.{bytes_of}
use Rattle.mq_outside.specs.Disk.{DiskState}
use Rattle.log_model.specs.Bases.{Geometry, geometry}
use Rattle.log_model.specs.Told.{base_of}
use Rattle.log_model.specs.Segments.{segment_file, shape_of, used, next_segment}
use Rattle.log_model.proofs.Places.{geometry_size}
use Rattle.log_recovery.proofs.RecoverLemmas.{ends_at, top_named, read_within, settles_here, settled_here, exact_each, has_kept}
use Rattle.log_recovery.proofs.OursLemmas.{rests_stays, rests_outside, settles_outside, read_stays, read_recovered}
use Rattle.log_recovery.proofs.recovery.recover.Goals as goal

-- ---- the files were not read

pub returns-in_err-log-clause-flushed : goal.returns-in_err-log-clause-flushed
returns-in_err-log-clause-flushed g c = λ tells. rests_stays (geometry c.args.segment (base_of c.args.base.now)) _ _ (c.read_log.ensures.only_reads.rests tells)

pub returns-in_err-log-clause-outside : goal.returns-in_err-log-clause-outside
returns-in_err-log-clause-outside g c = λ tells. rests_outside _ _ (c.read_log.ensures.only_reads.rests tells)

-- ---- the files were read

pub settle-requires-clause-within : goal.settle-requires-clause-within
settle-requires-clause-within g c = λ tells. read_within (geometry c.args.segment (base_of c.args.base.now)) c.in_ok-log.log.count c.in_ok-log.log.end _ _ _ _ (c.in_ok-log.ensures.read tells None) (c.read_log.ensures.only_reads.rests tells).same

pub returns-in_err-settle-clause-flushed : goal.returns-in_err-settle-clause-flushed
returns-in_err-settle-clause-flushed g c = λ tells. read_stays (geometry c.args.segment (base_of c.args.base.now)) c.in_ok-log.log.count c.in_ok-log.log.end _ _ _ _ _ (geometry_size _ c.requires.size) c.in_ok-log.ensures.low c.in_ok-log.ensures.count (c.in_ok-log.ensures.read tells None)
    (c.read_log.ensures.only_reads.rests tells) (g.met.D.Disk.reads_is_image c.args.disk.now tells) (c.settle.ensures.settles tells)

pub returns-in_err-settle-clause-outside : goal.returns-in_err-settle-clause-outside
returns-in_err-settle-clause-outside g c = λ tells. settles_outside (geometry c.args.segment (base_of c.args.base.now)) _ _ _ _ _ _ (c.read_log.ensures.only_reads.rests tells) (c.settle.ensures.settles tells)

pub returns-clause-flushed : goal.returns-clause-flushed
returns-clause-flushed g c = λ tells. read_stays (geometry c.args.segment (base_of c.args.base.now)) c.in_ok-log.log.count c.in_ok-log.log.end _ _ _ _ _ (geometry_size _ c.requires.size) c.in_ok-log.ensures.low c.in_ok-log.ensures.count (c.in_ok-log.ensures.read tells None)
    (c.read_log.ensures.only_reads.rests tells) (g.met.D.Disk.reads_is_image c.args.disk.now tells) (c.settle.ensures.settles tells)

pub returns-clause-outside : goal.returns-clause-outside
returns-clause-outside g c = λ tells. settles_outside (geometry c.args.segment (base_of c.args.base.now)) _ _ _ _ _ _ (c.read_log.ensures.only_reads.rests tells) (c.settle.ensures.settles tells)

pub returns-clause-kept : goal.returns-clause-kept
returns-clause-kept g c = λ tells. let read = c.in_ok-log.ensures.read tells None in record { records = read.records; keeps = read.keeps; handed = read.handed; ends = read.ends }

pub returns-clause-inside : goal.returns-clause-inside
returns-clause-inside g c = λ tells.
    let S : Geometry = geometry c.args.segment (base_of c.args.base.now) in
    let end : ℕ = c.in_ok-log.log.end in
    let old : DiskState = g.D.Disk.state c.read_log.new.disk in
    let new : DiskState = g.D.Disk.state c.settle.new.disk in
    let within = read_within S c.in_ok-log.log.count end _ _ _ _ (c.in_ok-log.ensures.read tells None) (c.read_log.ensures.only_reads.rests tells).same in
    let last = (c.in_ok-settle.ensures.settled tells).at new.reads (g.met.D.Disk.reads_is_image c.settle.new.disk tells) in
    omega (arith, ap (λ (l : List ℕ). length l) last.last.bytes, length-take-le (end % S.size) (bytes_of old.reads (segment_file S (end / S.size))) within)

pub returns-clause-exact : goal.returns-clause-exact
returns-clause-exact g c = λ tells is_settled records keeps.
    let S : Geometry = geometry c.args.segment (base_of c.args.base.now) in
    let count : ℕ = c.in_ok-log.log.count in
    let end : ℕ = c.in_ok-log.log.end in
    let first : DiskState = g.D.Disk.state c.args.disk.now in
    let old : DiskState = g.D.Disk.state c.read_log.new.disk in
    let new : DiskState = g.D.Disk.state c.settle.new.disk in
    let read = c.in_ok-log.ensures.read tells None in
    let at = ends_at S read.records end read.keeps.well_formed read.ends in
    let n : ℕ = max (end / S.size + 1) (count - 1) in
    let named = top_named S end count (geometry_size _ c.requires.size) c.in_ok-log.ensures.low c.in_ok-log.ensures.count in
    let behind : next_segment S (shape_of S read.records).older < n = omega (arith, at.0) in
    let rests = c.read_log.ensures.only_reads.rests tells in
    let settled = settled_here S end n (next_segment S (shape_of S read.records).older) (used (shape_of S read.records)) old new at (c.in_ok-settle.ensures.settled tells) in
    exact_each S count end n _ _ first old new read rests named (omega arith) behind is_settled settled records keeps

pub returns-clause-ours : goal.returns-clause-ours
returns-clause-ours g c = λ tells log flushed stores honest. read_recovered (geometry c.args.segment (base_of c.args.base.now)) c.in_ok-log.log.count c.in_ok-log.log.end _ _ _ _ _ (geometry_size _ c.requires.size) c.in_ok-log.ensures.low c.in_ok-log.ensures.count (c.in_ok-log.ensures.read tells None)
    (c.read_log.ensures.only_reads.rests tells) (g.met.D.Disk.reads_is_image c.args.disk.now tells) log flushed stores honest (c.in_ok-settle.ensures.settled tells)

pub returns-clause-reads : goal.returns-clause-reads
returns-clause-reads g c = λ tells records keeps.
    let S : Geometry = geometry c.args.segment (base_of c.args.base.now) in
    let count : ℕ = c.in_ok-log.log.count in
    let end : ℕ = c.in_ok-log.log.end in
    let first : DiskState = g.D.Disk.state c.args.disk.now in
    let old : DiskState = g.D.Disk.state c.read_log.new.disk in
    let new : DiskState = g.D.Disk.state c.settle.new.disk in
    let read = c.in_ok-log.ensures.read tells None in
    let at = ends_at S read.records end read.keeps.well_formed read.ends in
    let n : ℕ = max (end / S.size + 1) (count - 1) in
    let m : ℕ = next_segment S (shape_of S read.records).older in
    let named = top_named S end count (geometry_size _ c.requires.size) c.in_ok-log.ensures.low c.in_ok-log.ensures.count in
    let behind : m < n = omega (arith, at.0) in
    let settles = settles_here S end n m (used (shape_of S read.records)) old new at (c.settle.ensures.settles tells) in
    let settled = settled_here S end n m (used (shape_of S read.records)) old new at (c.in_ok-settle.ensures.settled tells) in
    has_kept S count end n _ _ first old new read (c.read_log.ensures.only_reads.rests tells) named behind settles (settled.at new.reads (g.met.D.Disk.reads_is_image c.settle.new.disk tells)).last records keeps

pub returns-clause-handed : goal.returns-clause-handed
returns-clause-handed g c = λ start. c.in_ok-log.ensures.handed None start
