use Rattle.std.proofs.Common.{refl, ap, sym, arith, ℕ, List, ◌∷◌, suc, ◌+◌, ◌≡◌}
use Rattle.mq_bytes.specs.Decimal.{digits_of}
use Rattle.mq_bytes.proofs.laws.decimals_are_digits.Goals as goal

pub returns : goal.returns
returns c = record {
  plain = λ n. refl;
  negative = λ n. ap (λ (m : ℕ). 45 ∷ digits_of m) (omega arith);
}
