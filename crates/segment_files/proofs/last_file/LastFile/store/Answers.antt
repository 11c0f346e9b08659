use Rattle.std.proofs.Common.{◌+◌, refl, subst, arith, ℕ, List, length, max}
use Rattle.mq_outside.specs.Disk.{Throughout}
use Rattle.mq_outside.proofs.Moments.{at_end}
use Rattle.log_model.proofs.OutsideLemmas.{outside_same}
use Rattle.log_model.specs.Store.{Stands}
use Rattle.segment_files.specs.Turn.{zeros_to}
use Rattle.segment_files.proofs.Turns.{batch_low, has_moved, has_records, same_on, writes_batch, writes_moved, writes_same, writes_still}
use Rattle.segment_files.proofs.last_file.LastFile.store.Goals as goal

pub returns-in_err-write_synced-clause-any_moment : goal.returns-in_err-write_synced-clause-any_moment
returns-in_err-write_synced-clause-any_moment g c tells S log flushed count shape reach writes is =
    has_records log flushed writes.stores.laid (c.write_synced.ensures.stands tells S log flushed shape reach writes)

pub returns-in_err-write_synced-clause-still : goal.returns-in_err-write_synced-clause-still
returns-in_err-write_synced-clause-still g c tells S log flushed count shape reach writes is low =
    let file = c.args.self.now in
    let stands = subst (λ (l : List ℕ). Throughout (g.D.Disk.state c.args.disk.now) (g.D.Disk.state c.write_synced.new.disk) (Stands S shape (max reach (zeros_to file (file.offset + length l)))))
    c.deref.ensures (c.write_synced.ensures.stands tells S log flushed shape reach writes) in
    writes_still writes (batch_low file writes is low) stands

pub freeze-requires : goal.freeze-requires
freeze-requires g c tells = has_moved c.write_synced.ensures.place.0 c.write_synced.ensures.place.1 c.deref.ensures (c.in_ok-write_synced.ensures.has tells)

pub returns-clause-any_moment : goal.returns-clause-any_moment
returns-clause-any_moment g c tells S log flushed count shape reach writes is =
    has_records log flushed writes.stores.laid (same_on (c.write_synced.ensures.stands tells S log flushed shape reach writes) (c.freeze.ensures.moves tells))

pub returns-clause-still : goal.returns-clause-still
returns-clause-still g c tells S log flushed count shape reach writes is low =
    let file = c.args.self.now in
    let stands = subst (λ (l : List ℕ). Throughout (g.D.Disk.state c.args.disk.now) (g.D.Disk.state c.write_synced.new.disk) (Stands S shape (max reach (zeros_to file (file.offset + length l)))))
    c.deref.ensures (c.write_synced.ensures.stands tells S log flushed shape reach writes) in
    writes_still writes (batch_low file writes is low) (same_on stands (c.freeze.ensures.moves tells))

pub returns-clause-flushed : goal.returns-clause-flushed
returns-clause-flushed g c tells S log flushed count shape reach writes is low =
    let file = c.args.self.now in
    let stands = subst (λ (l : List ℕ). Throughout (g.D.Disk.state c.args.disk.now) (g.D.Disk.state c.write_synced.new.disk) (Stands S shape (max reach (zeros_to file (file.offset + length l)))))
    c.deref.ensures (c.write_synced.ensures.stands tells S log flushed shape reach writes) in
    let has = has_moved refl refl c.deref.ensures (c.in_ok-write_synced.ensures.has tells) in
    writes_moved (writes_same (writes_batch writes is (batch_low file writes is low) has (at_end stands)) (c.freeze.ensures.moves tells))
    c.write_synced.ensures.place.0 (omega (arith, c.write_synced.ensures.place.1, c.len.ensures.value))

pub returns-clause-outside : goal.returns-clause-outside
returns-clause-outside g c tells = outside_same (c.write_synced.ensures.outside tells) (c.freeze.ensures.moves tells)
