-- A log that was loaded, and looked at once more.
use Rattle.std.specs.Prelude.{◌≡◌, List, [], length}
use Rattle.mq_outside.specs.Files.{Files}
use Rattle.record_codec.specs.Entry.{Entry}
use Rattle.log_model.specs.Bases.{Geometry}
use Rattle.log_model.specs.Log.{IsWellFormed, end_of}
use Rattle.log_model.specs.Store.{Keeps}
use Rattle.key_view.specs.Entries.{key_entries}
use Rattle.half_view.specs.OfLog.{AreHalvesOf}
use Rattle.table_check.specs.Equal.{AreQueuesOf, HaveProgressOf}
use Rattle.core_log.specs.Loads.{IsLoadedFrom, whole_log}
use Rattle.core_log.specs.declared.loaded.Loaded.{Loaded}
use Rattle.tool_run.specs.declared.sound.LoadedLog.{LoadedLog}
use Rattle.tool_run.specs.declared.sound.Sound.{Sound}

-- these records were loaded and counted, and end there
pub record HasLog (S : Geometry) (records : List Entry) (log : LoadedLog) : Type 0 where
  pub loaded : IsLoadedFrom [] records log.loaded
  pub count : log.records ≡ length records
  pub ends : log.end ≡ end_of S.base records

-- the records of a log were
pub record IsLoadedLog (S : Geometry) (log : LoadedLog) : Type 0 where
  pub records : List Entry
  pub lawful : IsWellFormed S records
  pub has : HasLog S records log

-- those that recovery keeps of these files were
pub record IsLoadedOf (S : Geometry) (files : Files) (log : LoadedLog) : Type 0 where
  pub records : List Entry
  pub keeps : Keeps S records files
  pub has : HasLog S records log

-- the tables that were loaded have what these records say, in the order of the log
pub record SaysAllOf (records : List Entry) (loaded : Loaded) : Type 0 where
  pub queues : AreQueuesOf (whole_log records) loaded.queues
  pub keys : loaded.keys.entries ≡ key_entries records
  pub halves : AreHalvesOf (whole_log records) loaded.halves.view
  pub levels : HaveProgressOf (whole_log records) loaded.levels.view

-- so many records, which end there
pub record HasCounts (S : Geometry) (records : List Entry) (sound : Sound) : Type 0 where
  pub count : sound.records ≡ length records
  pub ends : sound.end ≡ end_of S.base records

-- they are those of a log
pub record SoundLog (S : Geometry) (sound : Sound) : Type 0 where
  pub records : List Entry
  pub lawful : IsWellFormed S records
  pub has : HasCounts S records sound

-- they are those that recovery keeps of these files
pub record KeptSound (S : Geometry) (files : Files) (sound : Sound) : Type 0 where
  pub records : List Entry
  pub keeps : Keeps S records files
  pub has : HasCounts S records sound
