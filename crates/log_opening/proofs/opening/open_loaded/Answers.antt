use Rattle.std.proofs.Common.{◌∙◌, ap}
use Rattle.segment_files.specs.declared.last_file.LastFile.{LastFile}
use Rattle.log_opening.specs.Opens.{saved_as}
use Rattle.log_opening.proofs.OpenLemmas.{may_open, goes_to_end}
use Rattle.log_opening.proofs.opening.open_loaded.Goals as goal

pub open-core-requires : goal.open-core-requires
open-core-requires c =
    let it = c.requires.some in
    record { some = (saved_as it.0 it.1, it.2, may_open c.args.setup it.0 it.1 it.2 c.args.log c.args.pieces it.3) }

pub returns-clause-opens : goal.returns-clause-opens
returns-clause-opens c = λ offsets topics records can.
    let may = may_open c.args.setup offsets topics records c.args.log c.args.pieces can in
    record {
      lawful = can.lawful;
      represents = c.open-core.ensures.represents (saved_as offsets topics) records may;
      shown = c.open-core.ensures.shown (saved_as offsets topics) records may;
      placed = goes_to_end c.args.setup.segment records c.args.log.end c.new.result.file can.ends
          (ap (λ (f : LastFile). f.base) c.new.ensures ∙ c.at-file.ensures.place.0) (ap (λ (f : LastFile). f.offset) c.new.ensures ∙ c.at-file.ensures.place.1);
    }

pub returns-clause-ahead : goal.returns-clause-ahead
returns-clause-ahead c = ap (λ (f : LastFile). f.ahead) c.new.ensures ∙ c.at-file.ensures.ahead
