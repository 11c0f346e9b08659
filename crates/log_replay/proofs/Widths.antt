-- Numbers that fit into a wider type.
use Rattle.std.proofs.Common.{ℕ, ◌<◌, ◌^◌, arith}
use Rattle.std.specs.Prelude.{ℤ, pos, FitsSigned}
use Rattle.std.specs.Int.{w32, w64, w128}

pub wide : (z : ℤ) → FitsSigned w64 z → FitsSigned w128 z
wide z fits = record { sfits = omega (arith, fits.sfits) }

pub wide32 : (z : ℤ) → FitsSigned w32 z → FitsSigned w64 z
wide32 z fits = record { sfits = omega (arith, fits.sfits) }

pub wide_pos : (n : ℕ) → n < 2 ^ 64 → FitsSigned w128 (pos n)
wide_pos n low = record { sfits = omega (arith, low) }

pub wide_pos32 : (n : ℕ) → n < 2 ^ 32 → FitsSigned w64 (pos n)
wide_pos32 n low = record { sfits = omega (arith, low) }
