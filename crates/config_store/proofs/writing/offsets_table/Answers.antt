use Rattle.std.proofs.Common.{[], sym, rules, append-nil}
use Rattle.config_store.proofs.writing.offsets_table.Goals as goal

pub loop-row-init : goal.loop-row-init
loop-row-init c = ([], sym (append-nil c.args.rows.now), search rules)
