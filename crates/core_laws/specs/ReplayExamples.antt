-- An opening over a log: `hi` with the key `Aa` stands in it.
use Rattle.std.specs.Prelude.{ℕ, ◌++◌, [], ◌∷◌, codes}
use Rattle.record_codec.specs.Entry.{Entry}
use Rattle.log_model.specs.Bases.{no_base}
use Rattle.log_model.specs.Numbered.{Log, next_record}
use Rattle.broker_model.specs.Run.{Boot, opened}
use Rattle.broker_model.specs.Examples.{draft_of_hi, no_log}
use Rattle.core_laws.specs.Examples.{setup}

-- its record
abbrev pub keyed_record : Entry
keyed_record = next_record 1073741824 1000 no_log (draft_of_hi (codes "KEYS" ++ 1 ∷ (codes "Aa" ++ 2 ∷ [])))

-- the hash of its key, by which Java's `hashCode` of `T#Aa` comes to it
abbrev pub hash_of_key : ℕ
hash_of_key = 2538191

abbrev pub keyed_log : Log
keyed_log = record { base = no_base; records = keyed_record ∷ [] }

-- it is opened
abbrev pub at_keyed : Boot
at_keyed = record { now = opened setup keyed_log (record { offsets = []; topics = []; base = no_base }); before = [] }
