use Rattle.std.proofs.Common.{lit<}
use Rattle.std.proofs.lemmas.Fmt.{decimal_digit}
use Rattle.mq_bytes.proofs.DecimalLaws.{digits_of_are_plain}
use Rattle.mq_bytes.proofs.laws.digits_are_plain.Goals as goal

pub returns : goal.returns
returns c = record {
  numeral = λ n small. (digits_of_are_plain n small).0;
  own = λ n small. (digits_of_are_plain n small).1;
  first = λ n some small. (digits_of_are_plain n small).2 some;
  zero = decimal_digit 0 (lit< tt);
}
