-- A log that was loaded says what was loaded of it, and a second look at the same files finds it so.
use Rattle.std.proofs.Common.{◌≡◌, ◌∙◌, ◌↔◌, inl, inr, sym, ap, subst, arith, ℕ, Bool, List, [], length, Result, Ok, Err, IsTrue, ◌⊎◌}
use Rattle.std.specs.Prelude.{IsErrAnd}
use Rattle.mq_outside.specs.Files.{Files}
use Rattle.record_codec.specs.Entry.{Entry}
use Rattle.log_model.specs.Bases.{Base, Geometry, geometry, whole, no_base}
use Rattle.log_model.specs.Log.{IsWellFormed}
use Rattle.log_model.specs.Numbered.{Log, IsLawful}
use Rattle.log_model.specs.Queues.{queue_of}
use Rattle.log_model.specs.Told.{base_of}
use Rattle.log_model.specs.declared.base.Base.{Base as Told}
use Rattle.log_model.specs.Store.{Keeps, IsDamagedAt}
use Rattle.log_model.proofs.Recovery.{keeps_unique}
use Rattle.log_recovery.specs.Recovered.{CountsRecoverFault, Handed, Kept, OnDamage}
use Rattle.log_recovery.specs.declared.fault.RecoverFault.{RecoverFault}
use Rattle.log_recovery.specs.declared.fault.RecoverFault.TheVariants.{Damaged, Failed, Memory}
use Rattle.core_log.proofs.SeenLemmas.{none_of}
use Rattle.core_log.specs.Loads.{IsLoadedFrom, whole_log}
use Rattle.core_log.specs.declared.loaded.Loaded.{Loaded}
use Rattle.table_check.specs.Beside.{IsBeside, log_from}
use Rattle.table_check.specs.Equal.{AreTablesOf}
use Rattle.table_check.specs.declared.comparing.Comparing.{Comparing}
use Rattle.table_check.specs.declared.tables.Tables.{Tables}
use Rattle.tool_run.specs.Sounds.{IsLoadedLog, IsLoadedOf, SaysAllOf}
use Rattle.tool_run.specs.Writes.{HasLoaded}
use Rattle.tool_run.specs.declared.loading.Loading.{Loading}

-- ---- what was loaded

pub loaded_says : (segment : ℕ) (records : List Entry) (loaded : Loaded) → IsWellFormed (whole segment) records → IsLoadedFrom [] records loaded → SaysAllOf records loaded
loaded_says segment records loaded lawful of = record {
  queues = record {
    each = λ k t at. let is = of.queues.each k t at in record { low = is.low; units = is.units };
    apart = of.queues.one;
    none = λ topic queue none.
        let empty : length (queue_of records topic queue) ≡ 0 = ap (λ (rs : List Entry). length rs) (none_of loaded.queues records loaded.rows.items topic queue of.rows.items of.tabled none) in
        omega (arith, empty);
  };
  keys = of.keys;
  halves = (of.halves segment lawful).view;
  levels = let are = (of.levels segment lawful).view in record { all = are.all; each = λ k l at. (are.each k l at).copied };
}

-- ---- tables by their parts

pub says_in : (records : List Entry) (loaded : Loaded) (tables : Tables) → tables.queues.now ≡ loaded.queues → tables.keys.now ≡ loaded.keys → tables.halves.now ≡ loaded.halves.view
    → tables.levels.now ≡ loaded.levels.view → AreTablesOf (whole_log records) tables ↔ SaysAllOf records loaded
says_in records loaded tables queues keys halves levels = (
  λ are. record {
    queues = rw queues at are.queues;
    keys = rw keys at are.keys;
    halves = rw halves at are.halves;
    levels = rw levels at are.levels;
  },
  λ says. record {
    queues = rw queues says.queues;
    keys = rw keys says.keys;
    halves = rw halves says.halves;
    levels = rw levels says.levels;
  },
)

-- ---- two readings

-- the count of faults, where the first reading was good
pub counts_then : (A : Type 0) (result : Result A RecoverFault) (old mid new : ℕ) → mid ≡ old → CountsRecoverFault result mid new → CountsRecoverFault result old new
counts_then A result old mid new same counts = subst (λ n. CountsRecoverFault result n new) same counts

-- damage that the second reading shows is damage of the files as they were
pub damaged_then : (A : Type 0) (S : Geometry) (result : Result A RecoverFault) (old mid : Files) → mid ≡ old → OnDamage result (IsDamagedAt S mid) → OnDamage result (IsDamagedAt S old)
damaged_then A S result old mid same damaged = subst (λ (files : Files). OnDamage result (IsDamagedAt S files)) same damaged

same_counts : (A B : Type 0) (fault : RecoverFault) (old new : ℕ) → CountsRecoverFault {A = B} (Err fault) old new → CountsRecoverFault {A = A} (Err fault) old new
same_counts A B (Damaged place name) old new counts = counts
same_counts A B Failed old new counts = counts
same_counts A B Memory old new counts = counts

-- a fault that is passed on
pub counts_on : (A B : Type 0) (result : Result A RecoverFault) (fault : RecoverFault) (old new : ℕ) → IsErrAnd result (λ e. e ≡ fault) → CountsRecoverFault {A = B} (Err fault) old new
    → CountsRecoverFault {A = A} result old new
counts_on A B (Ok x) fault old new is counts = absurd is
counts_on A B (Err e) fault old new is counts = subst (λ (f : RecoverFault). CountsRecoverFault {A = A} (Err f) old new) (sym is) (same_counts A B fault old new counts)

-- what the second look answers where the files say something else is no failure of the disk
pub unequal_counts : (A : Type 0) (fault : RecoverFault) (name : List ℕ) (old new : ℕ) → (fault ≡ Damaged 0 name) ⊎ (fault ≡ Memory) → new ≡ old → CountsRecoverFault {A = A} (Err fault) old new
unequal_counts A fault name old new (inl damaged) same = subst (λ (f : RecoverFault). CountsRecoverFault {A = A} (Err f) old new) (sym damaged) same
unequal_counts A fault name old new (inr memory) same = subst (λ (f : RecoverFault). CountsRecoverFault {A = A} (Err f) old new) (sym memory) same

-- ---- what the readings handed on

pub loaded_log : (base : Base) (segment end : ℕ) (loading : Loading) → base ≡ no_base → Handed (geometry segment base) (λ records. HasLoaded records loading) end
    → IsLoadedLog (whole segment) (record { loaded = loading.loaded; records = loading.records; end = end })
loaded_log base segment end loading is handed =
    let there = subst (λ (b : Base). Handed (geometry segment b) (λ records. HasLoaded records loading) end) is handed in
    record {
      records = there.records;
      lawful = there.lawful;
      has = record { loaded = there.handed.loaded; count = there.handed.count; ends = there.ends };
    }

pub loaded_of : (base : Base) (segment end : ℕ) (files : Files) (start loading : Loading) → base ≡ no_base → HasLoaded [] start
    → Kept (geometry segment base) files (λ records. HasLoaded records start) (λ records. HasLoaded records loading) end
    → IsLoadedOf (whole segment) files (record { loaded = loading.loaded; records = loading.records; end = end })
loaded_of base segment end files start loading is begins kept =
    let there = subst (λ (b : Base). Kept (geometry segment b) files (λ records. HasLoaded records start) (λ records. HasLoaded records loading) end) is kept in
    let has = there.handed begins in
    record {
      records = there.records;
      keeps = there.keeps;
      has = record { loaded = has.loaded; count = has.count; ends = there.ends };
    }

-- damage in segments of a log from this base on
pub damaged_whole : (A : Type 0) (base : Base) (segment : ℕ) (result : Result A RecoverFault) (files : Files) → base ≡ no_base → OnDamage result (IsDamagedAt (geometry segment base) files)
    → OnDamage result (IsDamagedAt (whole segment) files)
damaged_whole A base segment result files is damaged = subst (λ (b : Base). OnDamage result (IsDamagedAt (geometry segment b) files)) is damaged

-- the log that the tables were compared with is the one that is kept
pub said : (base : Told) (segment : ℕ) (records again : List Entry) (files : Files) (loaded : Loaded) (tables : Tables) (compared : Comparing) (b : Bool) → base_of base ≡ no_base
    → compared.tables ≡ tables → compared.base.now ≡ base → AreTablesOf (whole_log records) tables ↔ SaysAllOf records loaded
    → Keeps (whole segment) records files → Keeps (whole segment) again files → IsBeside again compared
    → (IsBeside again compared → IsLawful segment (log_from compared.base.now again) → IsTrue b ↔ AreTablesOf (log_from compared.base.now again) compared.tables)
    → IsTrue b ↔ SaysAllOf records loaded
said base segment records again files loaded tables compared b none same_tables same_base says keeps keeps_again beside told =
    let same : again ≡ records = keeps_unique (whole segment) again records files keeps_again keeps in
    let log : log_from compared.base.now again ≡ whole_log records = ap (λ (t : Told). log_from t again) same_base ∙ ap (λ (bs : Base). record { base = bs; records = again }) none ∙ ap whole_log same in
    let lawful : IsLawful segment (log_from compared.base.now again) = subst (λ (l : Log). IsLawful segment l) (sym log) keeps.well_formed in
    let is = told beside lawful in (
      λ yes. says.0 (subst (λ (ts : Tables). AreTablesOf (whole_log records) ts) same_tables (subst (λ (l : Log). AreTablesOf l compared.tables) log (is.0 yes))),
      λ all. is.1 (subst (λ (l : Log). AreTablesOf l compared.tables) (sym log) (subst (λ (ts : Tables). AreTablesOf (whole_log records) ts) (sym same_tables) (says.1 all))),
    )
