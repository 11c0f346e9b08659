use Rattle.std.proofs.Common.{◌≡◌, ◌-◌, Bool, true, sym, subst, arith}
use Rattle.log_model.specs.Segments.{used}
use Rattle.log_model.specs.Stored.{stored}
use Rattle.segment_files.specs.Turn.{WritesAt, is_due, shape_behind, unless_opened}
use Rattle.segment_files.proofs.last_file.LastFile.open_next.Goals as goal

pub returns-in_err-end_file-clause-any_moment : goal.returns-in_err-end_file-clause-any_moment
returns-in_err-end_file-clause-any_moment g c tells S log flushed shape reach writes opens =
    let due : is_due c.args.self.now.base c.args.blank ≡ true = grind arith in
    let fills : c.in-Some.size ≡ S.size - used shape = grind arith in
    c.end_file.ensures.any_moment tells S log flushed shape reach writes (opens due).is fills

pub returns-in_ok-end_file-clause-still : goal.returns-in_ok-end_file-clause-still
returns-in_ok-end_file-clause-still g c tells S log flushed shape reach writes opens =
    let due : is_due c.args.self.now.base c.args.blank ≡ true = grind arith in
    let fills : c.in-Some.size ≡ S.size - used shape = grind arith in
    c.end_file.ensures.still tells S log flushed shape reach writes (opens due).is fills

pub returns-in_ok-end_file-clause-opened : goal.returns-in_ok-end_file-clause-opened
returns-in_ok-end_file-clause-opened g c tells S log flushed shape reach writes opens =
    let due : is_due c.args.self.now.base c.args.blank ≡ true = grind arith in
    let fills : c.in-Some.size ≡ S.size - used shape = grind arith in
    subst (λ (d : Bool). WritesAt (stored S log flushed) (shape_behind d shape) (unless_opened d reach) c.end_file.new.self.base c.end_file.new.self.offset (g.D.Disk.state c.end_file.new.disk)) (sym due)
    (c.in_ok-end_file.ensures.opened tells S log flushed shape reach writes (opens due).is fills (opens due).begins)
