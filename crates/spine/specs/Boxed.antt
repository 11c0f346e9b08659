-- The broker under the lock, as clauses see it: without its box.
use Rattle.std.specs.Prelude.{refl}
use Rattle.std.specs.Coded.{Coded, code_by}
use Rattle.core_log.specs.declared.parts.Parts.{Parts}
use Rattle.core_log.specs.contracts.parts.Parts.{the_row}

-- the core
pub record SharedParts : Type 0 where
  pub core : Parts

-- it is stored as the core
abbrev pub shared_code : Coded SharedParts
shared_code = code_by Parts the_row.coded (λ s. s.core) (λ c. record { core = c }) (λ _. refl)
