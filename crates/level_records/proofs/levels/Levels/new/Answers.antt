use Rattle.std.proofs.Common.{◌∙◌, sym}
use Rattle.level_records.proofs.LineLemmas.{none_wait}
use Rattle.level_records.proofs.levels.Levels.new.Goals as goal

pub returns : goal.returns
returns c = record {
  view = c.in_ok-new.ensures.records;
  waiting = record {
    all = c.in_ok-waiting.ensures.all;
    each = λ k line there. c.in_ok-waiting.ensures.none k line there ∙ sym (none_wait k);
  };
}
