-- A core's tables by their parts.
use Rattle.std.proofs.Common.{◌≡◌, ◌↔◌, subst, Bool, true, false, List, IsTrue}
use Rattle.record_codec.specs.Entry.{Entry}
use Rattle.log_model.specs.Numbered.{Log}
use Rattle.log_model.specs.declared.base.Base.{Base as Told}
use Rattle.core_log.specs.declared.parts.Parts.{Parts}
use Rattle.table_check.specs.Beside.{log_from}
use Rattle.table_check.specs.Equal.{AreSeen, AreTablesOf}
use Rattle.table_check.specs.declared.comparing.Comparing.{Comparing}
use Rattle.table_check.specs.declared.tables.Tables.{Tables}
use Rattle.core_check.specs.Equal.{HasAllOf}

-- the tables are the core's
pub record AreOf (core : Parts) (tables : Tables) : Type 0 where
  pub queues : tables.queues.now ≡ core.queues
  pub keys : tables.keys.now ≡ core.keys
  pub halves : tables.halves.now ≡ core.halves.view
  pub levels : tables.levels.now ≡ core.levels.view

all_of : (log : Log) (core : Parts) (tables : Tables) → AreOf core tables → AreTablesOf log tables → AreSeen tables.queues.now → HasAllOf log core
all_of log core tables of are seen = record {
  queues = rw of.queues at are.queues;
  seen = rw of.queues at seen;
  keys = rw of.keys at are.keys;
  halves = rw of.halves at are.halves;
  levels = rw of.levels at are.levels;
}

tables_of : (log : Log) (core : Parts) (tables : Tables) → AreOf core tables → HasAllOf log core → AreTablesOf log tables
tables_of log core tables of has = record {
  queues = rw of.queues has.queues;
  keys = rw of.keys has.keys;
  halves = rw of.halves has.halves;
  levels = rw of.levels has.levels;
}

told_here : (base : Told) (records : List Entry) (tables : Tables) (compared : Comparing) (b : Bool) → compared.tables ≡ tables → compared.base.now ≡ base
    → IsTrue b ↔ AreTablesOf (log_from compared.base.now records) compared.tables → IsTrue b ↔ AreTablesOf (log_from base records) tables
told_here base records tables compared b same_tables same_base told =
    subst (λ (ts : Tables). IsTrue b ↔ AreTablesOf (log_from base records) ts) same_tables
    (subst (λ (t : Told). IsTrue b ↔ AreTablesOf (log_from t records) compared.tables) same_base told)

-- they haven't what the log says
pub unequal : (base : Told) (records : List Entry) (core : Parts) (tables : Tables) (compared : Comparing) (b : Bool) → compared.tables ≡ tables → compared.base.now ≡ base → AreOf core tables
    → IsTrue b ↔ AreTablesOf (log_from compared.base.now records) compared.tables → b ≡ false → HasAllOf (log_from base records) core → ⊥
unequal base records core tables compared b same_tables same_base of told is_false has =
    let is_true = (told_here base records tables compared b same_tables same_base told).1 (tables_of (log_from base records) core tables of has) in cc (is_true, is_false)

-- they have: then it is asked whether consumers see all of it
pub equal : (base : Told) (records : List Entry) (core : Parts) (tables : Tables) (compared : Comparing) (b seen : Bool) → compared.tables ≡ tables → compared.base.now ≡ base → AreOf core tables
    → IsTrue b ↔ AreTablesOf (log_from compared.base.now records) compared.tables → b ≡ true → IsTrue seen ↔ AreSeen compared.tables.queues.now
    → IsTrue seen ↔ HasAllOf (log_from base records) core
equal base records core tables compared b seen same_tables same_base of told is_true tells =
    let are = (told_here base records tables compared b same_tables same_base told).0 is_true in
    let here = subst (λ (ts : Tables). IsTrue seen ↔ AreSeen ts.queues.now) same_tables tells in (
      λ yes. all_of (log_from base records) core tables of are (here.0 yes),
      λ has. here.1 (rw of.queues has.seen),
    )
