use Rattle.std.proofs.Common.{◌∙◌, ◌+◌, ◌≤◌, sym, subst, arith, ℕ, List, length, max}
use Rattle.mq_outside.specs.Files.{bytes_of}
use Rattle.mq_outside.proofs.Moments.{at_end, chained}
use Rattle.log_model.proofs.OutsideLemmas.{in_folder, outside_start, outside_same, outside_call, outside_then}
use Rattle.segment_files.specs.Turn.{zeros_to}
use Rattle.segment_files.proofs.Pieces.{each_written}
use Rattle.segment_files.proofs.Turns.{behind_end, same_on, write_stands}
use Rattle.segment_files.proofs.last_file.LastFile.write_synced.Goals as goal

pub returns-in_err-write_at-clause-stands : goal.returns-in_err-write_at-clause-stands
returns-in_err-write_at-clause-stands g c tells S log flushed shape reach writes =
    write_stands (zeros_to c.args.self.now (c.args.self.now.offset + length c.args.bytes.now)) writes (c.as_str-name.ensures ∙ c.of-file.ensures) (omega arith) (c.write_at.ensures.moves tells)

pub returns-in_err-write_ahead-clause-stands : goal.returns-in_err-write_ahead-clause-stands
returns-in_err-write_ahead-clause-stands g c tells S log flushed shape reach writes =
    let named = c.as_str-name.ensures ∙ c.of-file.ensures in
    let most : ℕ = zeros_to c.args.self.now (c.args.self.now.offset + length c.args.bytes.now) in
    let written = write_stands most writes named (omega arith) (c.write_at.ensures.moves tells) in
    chained written (c.write_ahead.ensures.any_moment tells S shape (max reach most) (behind_end writes named (omega arith)) (omega arith) (at_end written))

pub returns-in_err-sync-clause-stands : goal.returns-in_err-sync-clause-stands
returns-in_err-sync-clause-stands g c tells S log flushed shape reach writes =
    let named = c.as_str-name.ensures ∙ c.of-file.ensures in
    let most : ℕ = zeros_to c.args.self.now (c.args.self.now.offset + length c.args.bytes.now) in
    let written = write_stands most writes named (omega arith) (c.write_at.ensures.moves tells) in
    let zeros = chained written (c.write_ahead.ensures.any_moment tells S shape (max reach most) (behind_end writes named (omega arith)) (omega arith) (at_end written)) in
    same_on zeros (c.sync.ensures.moves tells)

pub returns-clause-stands : goal.returns-clause-stands
returns-clause-stands g c tells S log flushed shape reach writes =
    let named = c.as_str-name.ensures ∙ c.of-file.ensures in
    let most : ℕ = zeros_to c.args.self.now (c.args.self.now.offset + length c.args.bytes.now) in
    let written = write_stands most writes named (omega arith) (c.write_at.ensures.moves tells) in
    let zeros = chained written (c.write_ahead.ensures.any_moment tells S shape (max reach most) (behind_end writes named (omega arith)) (omega arith) (at_end written)) in
    same_on zeros (c.sync.ensures.moves tells)

pub returns-clause-has : goal.returns-clause-has
returns-clause-has g c tells =
    let named = c.as_str-name.ensures ∙ c.of-file.ensures in
    let inside : c.args.self.now.offset ≤ length (bytes_of (g.D.Disk.state c.args.disk.now).reads c.as_str-name.result.now) =
    subst (λ (l : List ℕ). c.args.self.now.offset ≤ length (bytes_of (g.D.Disk.state c.args.disk.now).reads l)) (sym named) (c.requires.inside tells) in
    let zeros = c.in_ok-write_ahead.ensures.written tells in
    each_written (g.D.Disk.state c.args.disk.now) c.args.self.now.base zeros.0 named inside (c.in_ok-write_at.ensures.written tells) (c.in_ok-write_at.ensures.fresh tells).piece (omega arith) zeros.1
    (c.sync.ensures.moves tells) (c.in_ok-sync.ensures.durable tells)

pub returns-in_err-write_at-clause-outside : goal.returns-in_err-write_at-clause-outside
returns-in_err-write_at-clause-outside g c tells =
    outside_call (in_folder c.args.self.now.base (c.as_str-name.ensures ∙ c.of-file.ensures)) (outside_start (g.D.Disk.state c.args.disk.now)) (c.write_at.ensures.moves tells)

pub returns-in_err-write_ahead-clause-outside : goal.returns-in_err-write_ahead-clause-outside
returns-in_err-write_ahead-clause-outside g c tells =
    let ours = in_folder c.args.self.now.base (c.as_str-name.ensures ∙ c.of-file.ensures) in
    outside_then (outside_call ours (outside_start (g.D.Disk.state c.args.disk.now)) (c.write_at.ensures.moves tells)) (c.write_ahead.ensures.outside tells ours)

pub returns-in_err-sync-clause-outside : goal.returns-in_err-sync-clause-outside
returns-in_err-sync-clause-outside g c tells =
    let ours = in_folder c.args.self.now.base (c.as_str-name.ensures ∙ c.of-file.ensures) in
    let zeros = outside_then (outside_call ours (outside_start (g.D.Disk.state c.args.disk.now)) (c.write_at.ensures.moves tells)) (c.write_ahead.ensures.outside tells ours) in
    outside_same zeros (c.sync.ensures.moves tells)

pub returns-clause-outside : goal.returns-clause-outside
returns-clause-outside g c tells =
    let ours = in_folder c.args.self.now.base (c.as_str-name.ensures ∙ c.of-file.ensures) in
    let zeros = outside_then (outside_call ours (outside_start (g.D.Disk.state c.args.disk.now)) (c.write_at.ensures.moves tells)) (c.write_ahead.ensures.outside tells ours) in
    outside_same zeros (c.sync.ensures.moves tells)
