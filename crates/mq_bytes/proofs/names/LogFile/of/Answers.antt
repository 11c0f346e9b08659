use Rattle.std.proofs.Common.{subst, sym}
use Rattle.std.specs.Str.{IsAscii}
use Rattle.mq_bytes.proofs.NameLaws.{log_file_is_ascii}
use Rattle.mq_bytes.proofs.names.LogFile.of.Goals as goal

pub invariant_of-result : goal.invariant_of-result
invariant_of-result c = subst IsAscii (sym c.log_file.ensures) (log_file_is_ascii c.args.base)
