use Rattle.std.proofs.Common.{◌∙◌, ◌≤◌, ap, sym, subst, arith, List, ℕ, length}
use Rattle.mq_outside.specs.Files.{bytes_in, bytes_of}
use Rattle.mq_outside.proofs.Moments.{at_end}
use Rattle.log_model.proofs.OutsideLemmas.{in_folder, outside_same}
use Rattle.log_model.specs.Segments.{blank_of}
use Rattle.segment_files.proofs.Pieces.{each_piece}
use Rattle.segment_files.proofs.Turns.{has_records, same_on, writes_still, end_behind, blank_fits, each_to_end, writes_opened}
use Rattle.segment_files.proofs.last_file.LastFile.end_file.Goals as goal

pub returns-in_err-write_blank-clause-any_moment : goal.returns-in_err-write_blank-clause-any_moment
returns-in_err-write_blank-clause-any_moment g c tells S log flushed shape reach writes is fills =
    let behind = end_behind writes (c.as_str-name.ensures ∙ c.of-file.ensures) in
    has_records log flushed writes.stores.laid (c.write_blank.ensures.any_moment tells S shape S.size behind (blank_fits writes fills) (each_to_end writes))

pub returns-in_err-write_blank-clause-still : goal.returns-in_err-write_blank-clause-still
returns-in_err-write_blank-clause-still g c tells S log flushed shape reach writes is fills =
    let behind = end_behind writes (c.as_str-name.ensures ∙ c.of-file.ensures) in
    writes_still writes (omega arith) (c.write_blank.ensures.any_moment tells S shape S.size behind (blank_fits writes fills) (each_to_end writes))

pub returns-in_err-sync-clause-any_moment : goal.returns-in_err-sync-clause-any_moment
returns-in_err-sync-clause-any_moment g c tells S log flushed shape reach writes is fills =
    let behind = end_behind writes (c.as_str-name.ensures ∙ c.of-file.ensures) in
    let written = c.write_blank.ensures.any_moment tells S shape S.size behind (blank_fits writes fills) (each_to_end writes) in
    has_records log flushed writes.stores.laid (same_on written (c.sync.ensures.moves tells))

pub returns-in_err-sync-clause-still : goal.returns-in_err-sync-clause-still
returns-in_err-sync-clause-still g c tells S log flushed shape reach writes is fills =
    let behind = end_behind writes (c.as_str-name.ensures ∙ c.of-file.ensures) in
    let written = c.write_blank.ensures.any_moment tells S shape S.size behind (blank_fits writes fills) (each_to_end writes) in
    writes_still writes (omega arith) (same_on written (c.sync.ensures.moves tells))

pub returns-clause-any_moment : goal.returns-clause-any_moment
returns-clause-any_moment g c tells S log flushed shape reach writes is fills =
    let behind = end_behind writes (c.as_str-name.ensures ∙ c.of-file.ensures) in
    let written = c.write_blank.ensures.any_moment tells S shape S.size behind (blank_fits writes fills) (each_to_end writes) in
    has_records log flushed writes.stores.laid (same_on written (c.sync.ensures.moves tells))

pub returns-clause-opened : goal.returns-clause-opened
returns-clause-opened g c tells S log flushed shape reach writes is fills next =
    let named = c.as_str-name.ensures ∙ c.of-file.ensures in
    let written = c.write_blank.ensures.any_moment tells S shape S.size (end_behind writes named) (blank_fits writes fills) (each_to_end writes) in
    let synced = c.sync.ensures.moves tells in
    let inside : c.args.self.now.offset ≤ length (bytes_of (g.D.Disk.state c.args.disk.now).reads c.as_str-name.result.now) =
    subst (λ (l : List ℕ). c.args.self.now.offset ≤ length (bytes_of (g.D.Disk.state c.args.disk.now).reads l)) (sym named) (c.requires.inside tells) in
    let durable = c.in_ok-sync.ensures.durable tells c.args.self.now.offset (length (blank_of c.args.size)) (c.in_ok-write_blank.ensures.fresh tells) in
    let has = each_piece (g.D.Disk.state c.args.disk.now) c.args.self.now.base named inside (ap bytes_in (c.in_ok-write_blank.ensures.written tells)) synced durable in
    writes_opened writes is fills next has (at_end (same_on written synced))

pub returns-clause-still : goal.returns-clause-still
returns-clause-still g c tells S log flushed shape reach writes is fills =
    let behind = end_behind writes (c.as_str-name.ensures ∙ c.of-file.ensures) in
    let written = c.write_blank.ensures.any_moment tells S shape S.size behind (blank_fits writes fills) (each_to_end writes) in
    writes_still writes (omega arith) (same_on written (c.sync.ensures.moves tells))

pub returns-in_err-write_blank-clause-outside : goal.returns-in_err-write_blank-clause-outside
returns-in_err-write_blank-clause-outside g c tells = c.write_blank.ensures.outside tells (in_folder c.args.self.now.base (c.as_str-name.ensures ∙ c.of-file.ensures))

pub returns-in_err-sync-clause-outside : goal.returns-in_err-sync-clause-outside
returns-in_err-sync-clause-outside g c tells =
    outside_same (c.write_blank.ensures.outside tells (in_folder c.args.self.now.base (c.as_str-name.ensures ∙ c.of-file.ensures))) (c.sync.ensures.moves tells)

pub returns-clause-outside : goal.returns-clause-outside
returns-clause-outside g c tells =
    outside_same (c.write_blank.ensures.outside tells (in_folder c.args.self.now.base (c.as_str-name.ensures ∙ c.of-file.ensures))) (c.sync.ensures.moves tells)
