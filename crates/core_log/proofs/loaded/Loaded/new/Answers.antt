use Rattle.std.proofs.Common.{rules}
use Rattle.core_log.proofs.loaded.Loaded.new.Goals as goal

pub returns : goal.returns
returns c = record {
  rows = search rules;
  tabled = search rules;
  queues = search rules;
  topics = search rules;
  plain = search rules;
  names = search rules;
  real = search rules;
  halves = search rules;
  levels = search rules;
  keys = search rules;
  end = search rules;
  store = search rules;
  low = search rules;
  offsets = search rules;
  locks = search rules;
  rows_kept = search rules;
}
