use Rattle.std.proofs.Common.{subst, sym}
use Rattle.std.specs.Str.{IsAscii}
use Rattle.mq_bytes.proofs.NameLaws.{twenty_digits_are_ascii}
use Rattle.mq_bytes.proofs.names.segment_name.Goals as goal

pub text_of-requires : goal.text_of-requires
text_of-requires c = subst IsAscii (sym c.segment_digits.ensures) (twenty_digits_are_ascii c.args.offset)
