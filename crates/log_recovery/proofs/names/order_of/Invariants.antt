use Rattle.std.proofs.Common.{◌+◌, ◌*◌, ◌/◌, ◌^◌, ◌<◌, ◌≤◌, ℕ, map}
use Rattle.std.specs.Prelude.{string_bytes}
use Rattle.mq_outside.specs.Files.{Files, Lists}
use Rattle.log_model.specs.Bases.{geometry}
use Rattle.log_model.specs.Told.{base_of}
use Rattle.log_recovery.specs.Names.{AreNamed}
use Rattle.log_recovery.proofs.NameLemmas.{AreTaken, AreMet}
use Rattle.log_recovery.proofs.names.order_of.Given as goal

abbrev pub invariant-loop-i : goal.invariant-loop-i
invariant-loop-i l = record {
  few : l.count ≤ l.base.place / l.segment + l.i;
  from : l.base.place / l.segment ≤ l.count;
  low : l.count * l.segment ≤ 2 ^ 63 + 2 ^ 30;
  each : (k : ℕ) → k < l.count → k * l.segment < 2 ^ 63;
  taken : AreTaken (geometry l.segment (base_of l.base)) l.count (map (λ name. string_bytes name) l.names) l.i;
  met : AreMet (geometry l.segment (base_of l.base)) l.count (map (λ name. string_bytes name) l.names) l.i;
  named : (files : Files) → Lists files (map (λ name. string_bytes name) l.names) → AreNamed (geometry l.segment (base_of l.base)) l.count files;
}
