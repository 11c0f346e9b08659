use Rattle.std.proofs.Common.{◌≤◌, ◌∙◌, List, length, take, refl, sym, subst, arith}
use Rattle.std.proofs.lemmas.List.{length-take-le}
use Rattle.mq_bytes.specs.Names.{log_file}
use Rattle.mq_outside.specs.Disk.{Rests}
use Rattle.mq_outside.specs.Files.{Files, bytes_of}
use Rattle.record_codec.specs.Entry.{Entry}
use Rattle.log_model.specs.Bases.{whole}
use Rattle.log_model.specs.Store.{IsDamagedAt}
use Rattle.mq_outside.proofs.Moments.{rests_start}
use Rattle.log_recovery.proofs.OursLemmas.{rests_stays, rests_outside}
use Rattle.log_opening.proofs.LogLemmas.{has_up_to}
use Rattle.log_opening.proofs.OpenLemmas.{can_told, can_some, stays_then, stays_outside_then, no_damage, inside_file, base_number, ready_for_turns}
use Rattle.log_opening.proofs.opening.open_log_with.Goals as goal

pub freeze_log-requires-clause-has : goal.freeze_log-requires-clause-has
freeze_log-requires-clause-has g c = λ tells.
    let found = c.in-Ok-load_log.ensures.kept tells in
    has_up_to c.args.setup.segment found.records c.in-Ok-with_offsets.log.end (g.D.Disk.state c.load_log.new.disk).reads found.keeps.well_formed (c.in-Ok-with_offsets.ensures.ends ∙ found.ends) found.has

-- ---- nothing was read yet

pub returns-in-Err-clause-flushed : goal.returns-in-Err-clause-flushed
returns-in-Err-clause-flushed g c = λ tells. rests_stays (whole c.args.setup.segment) _ _ (rests_start _)

pub returns-in-Err-clause-outside : goal.returns-in-Err-clause-outside
returns-in-Err-clause-outside g c = λ tells. rests_outside _ _ (rests_start _)

-- ---- a file was not frozen

pub returns-in-Err-freeze_log-clause-damaged : goal.returns-in-Err-freeze_log-clause-damaged
returns-in-Err-freeze_log-clause-damaged g c = λ tells. no_damage (Unit {0}) (Unit {0}) c.in-Err-freeze_log.fault (IsDamagedAt (whole c.args.setup.segment) (g.D.Disk.state c.args.disk.now).reads) c.in-Err-freeze_log.ensures.damage

pub returns-in-Err-freeze_log-clause-untouched : goal.returns-in-Err-freeze_log-clause-untouched
returns-in-Err-freeze_log-clause-untouched g c = λ tells. no_damage (Unit {0}) (Unit {0}) c.in-Err-freeze_log.fault (λ place name. Rests (g.D.Disk.state c.args.disk.now) (g.D.Disk.state c.freeze_log.new.disk)) c.in-Err-freeze_log.ensures.damage

pub returns-in-Err-freeze_log-clause-flushed : goal.returns-in-Err-freeze_log-clause-flushed
returns-in-Err-freeze_log-clause-flushed g c = λ tells. stays_then (whole c.args.setup.segment) _ _ _ (c.load_log.ensures.flushed tells) (c.freeze_log.ensures.rests tells)

pub returns-in-Err-freeze_log-clause-outside : goal.returns-in-Err-freeze_log-clause-outside
returns-in-Err-freeze_log-clause-outside g c = λ tells. stays_outside_then _ _ _ (c.load_log.ensures.outside tells) (c.freeze_log.ensures.rests tells)

-- ---- it is open

pub open_loaded-requires-clause-some : goal.open_loaded-requires-clause-some
open_loaded-requires-clause-some g c =
    let files : Files = (g.D.Disk.state c.load_log.new.disk).reads in
    let some = can_some g.D.Disk.tells c.args.setup c.args.offsets.now c.args.topics.now (g.D.Disk.state c.args.disk.now).reads files c.in-Ok-load_log.log c.in-Ok-with_offsets.log c.in-Ok-freeze_log.pieces
    c.in-Ok-load_log.ensures.loaded c.in-Ok-load_log.ensures.kept (λ records is. c.in-Ok-with_offsets.ensures.loaded c.args.topics.now records is) c.in-Ok-with_offsets.ensures.ends
    (c.in-Ok-freeze_log.ensures.pieces files (λ tells. refl)) in
    (c.args.offsets.now, c.args.topics.now, some.0, some.1)

pub returns-clause-represents : goal.returns-clause-represents
returns-clause-represents g c =
    let files : Files = (g.D.Disk.state c.load_log.new.disk).reads in
    let some = can_some g.D.Disk.tells c.args.setup c.args.offsets.now c.args.topics.now (g.D.Disk.state c.args.disk.now).reads files c.in-Ok-load_log.log c.in-Ok-with_offsets.log c.in-Ok-freeze_log.pieces
    c.in-Ok-load_log.ensures.loaded c.in-Ok-load_log.ensures.kept (λ records is. c.in-Ok-with_offsets.ensures.loaded c.args.topics.now records is) c.in-Ok-with_offsets.ensures.ends
    (c.in-Ok-freeze_log.ensures.pieces files (λ tells. refl)) in
    record { records = some.0; opens = c.open_loaded.ensures.opens c.args.offsets.now c.args.topics.now some.0 some.1 }

pub returns-clause-kept : goal.returns-clause-kept
returns-clause-kept g c = λ tells.
    let files : Files = (g.D.Disk.state c.load_log.new.disk).reads in
    let found = c.in-Ok-load_log.ensures.kept tells in
    record {
      records = found.records;
      keeps = found.keeps;
      opens = c.open_loaded.ensures.opens c.args.offsets.now c.args.topics.now found.records (can_told g.D.Disk.tells c.args.setup c.args.offsets.now c.args.topics.now found.records files c.in-Ok-with_offsets.log c.in-Ok-freeze_log.pieces tells found.keeps.well_formed
          (c.in-Ok-with_offsets.ensures.loaded c.args.topics.now found.records found.loaded) (c.in-Ok-with_offsets.ensures.ends ∙ found.ends) found.has
          (c.in-Ok-freeze_log.ensures.pieces files (λ told. refl)));
    }

pub returns-clause-inside : goal.returns-clause-inside
returns-clause-inside g c = λ tells.
    let files : Files = (g.D.Disk.state c.load_log.new.disk).reads in
    let found = c.in-Ok-load_log.ensures.kept tells in
    let file = c.open_loaded.result.flusher.file in
    let opens = c.open_loaded.ensures.opens c.args.offsets.now c.args.topics.now found.records (can_told g.D.Disk.tells c.args.setup c.args.offsets.now c.args.topics.now found.records files c.in-Ok-with_offsets.log c.in-Ok-freeze_log.pieces tells found.keeps.well_formed
    (c.in-Ok-with_offsets.ensures.loaded c.args.topics.now found.records found.loaded) (c.in-Ok-with_offsets.ensures.ends ∙ found.ends) found.has
    (c.in-Ok-freeze_log.ensures.pieces files (λ told. refl))) in
    subst (λ (f : Files). file.offset ≤ length (bytes_of f (log_file file.base))) (sym (c.freeze_log.ensures.rests tells).same)
    (inside_file c.args.setup.segment found.records c.in-Ok-with_offsets.log.end file files (c.in-Ok-with_offsets.ensures.ends ∙ found.ends) opens.placed
    (has_up_to c.args.setup.segment found.records c.in-Ok-with_offsets.log.end files found.keeps.well_formed (c.in-Ok-with_offsets.ensures.ends ∙ found.ends) found.has))

pub returns-clause-ours : goal.returns-clause-ours
returns-clause-ours g c = λ tells log flushed stores honest.
    let files : Files = (g.D.Disk.state c.load_log.new.disk).reads in
    let found = c.in-Ok-load_log.ensures.ours tells log flushed stores honest in
    let records : List Entry = take found.number log in
    let opens = c.open_loaded.ensures.opens c.args.offsets.now c.args.topics.now records (can_told g.D.Disk.tells c.args.setup c.args.offsets.now c.args.topics.now records files c.in-Ok-with_offsets.log c.in-Ok-freeze_log.pieces tells found.stores.well_formed
    (c.in-Ok-with_offsets.ensures.loaded c.args.topics.now records found.loaded) (c.in-Ok-with_offsets.ensures.ends ∙ found.ends) found.has
    (c.in-Ok-freeze_log.ensures.pieces files (λ told. refl))) in
    record {
      number = found.number;
      low = found.low;
      high = found.high;
      opens = opens;
      ready = ready_for_turns c.args.setup.segment records found.number c.open_loaded.result.flusher.file (g.D.Disk.state c.load_log.new.disk) (g.D.Disk.state c.freeze_log.new.disk)
          (sym (length-take-le found.number log found.high)) opens.placed c.open_loaded.ensures.ahead found.stores (c.freeze_log.ensures.rests tells);
    }

pub returns-clause-flushed : goal.returns-clause-flushed
returns-clause-flushed g c = λ tells. stays_then (whole c.args.setup.segment) _ _ _ (c.load_log.ensures.flushed tells) (c.freeze_log.ensures.rests tells)

pub returns-clause-outside : goal.returns-clause-outside
returns-clause-outside g c = λ tells. stays_outside_then _ _ _ (c.load_log.ensures.outside tells) (c.freeze_log.ensures.rests tells)

pub returns-clause-syncs : goal.returns-clause-syncs
returns-clause-syncs g c =
    let files : Files = (g.D.Disk.state c.load_log.new.disk).reads in
    let some = can_some g.D.Disk.tells c.args.setup c.args.offsets.now c.args.topics.now (g.D.Disk.state c.args.disk.now).reads files c.in-Ok-load_log.log c.in-Ok-with_offsets.log c.in-Ok-freeze_log.pieces
    c.in-Ok-load_log.ensures.loaded c.in-Ok-load_log.ensures.kept (λ records is. c.in-Ok-with_offsets.ensures.loaded c.args.topics.now records is) c.in-Ok-with_offsets.ensures.ends
    (c.in-Ok-freeze_log.ensures.pieces files (λ tells. refl)) in
    let opens = c.open_loaded.ensures.opens c.args.offsets.now c.args.topics.now some.0 some.1 in
    let number = base_number c.args.setup.segment some.0 c.in-Ok-with_offsets.log.end c.open_loaded.result.flusher.file (omega (arith, c.requires.size.low)) some.1.ends opens.placed in
    omega (arith, number, c.load_log.ensures.syncs, c.freeze_log.ensures.syncs)
