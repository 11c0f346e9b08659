-- A run of a removal: a half message is asked for and committed, a delayed message is delivered, two long messages fill the first
-- segment, and it is removed.
use Rattle.std.specs.Prelude.{ℕ, ◌++◌, List, [], ◌∷◌, length, map, take, replicate, codes, true}
use Rattle.std.specs.List.{count_by}
use Rattle.log_model.specs.Bases.{Base, no_base}
use Rattle.log_model.specs.Kinds.{is_delivery}
use Rattle.log_model.specs.Numbered.{Log}
use Rattle.log_model.specs.Queues.{queue_of}
use Rattle.request_fields.specs.declared.request.Request.TheVariants.{Send}
use Rattle.broker_model.specs.State.{Setup}
use Rattle.broker_model.specs.Events
use Rattle.broker_model.specs.Step.{IsPossible}
use Rattle.broker_model.specs.Run.{Boot, Move, SavesBase, opened, crashed, with_saved}
use Rattle.broker_model.specs.Examples.{broker, hi, asks, commit, half_props, no_log}
use Rattle.broker_model.specs.StepExamples.{sends}
use Rattle.core_laws.specs.Examples.{stepped, answered}

-- ---- several events

-- the boot after some events, one after another
abbrev pub boot_after : Boot → List Events.Event → Boot
boot_after b [] = b
boot_after b (e ∷ events) = boot_after (stepped b e) events

-- these events with their answers as moves
abbrev pub moves_of : Boot → List Events.Event → List Move
moves_of b [] = []
moves_of b (e ∷ events) = answered b e ∷ moves_of (stepped b e) events

-- each of them may happen when it comes
abbrev pub ArePossible : Boot → List Events.Event → Type 0
ArePossible b [] = Unit {0}
ArePossible b (e ∷ events) = IsPossible b.now e × ArePossible (stepped b e) events

-- ---- the first segment is filled

-- segments of 4,096 bytes, the least that there are
abbrev pub small : Setup
small = record { segment = 4096; host = broker; sync = true }

-- an empty store is opened
abbrev pub at_empty : Boot
at_empty = record { now = opened small no_log (record { offsets = []; topics = []; base = no_base }); before = [] }

-- a message of 1,700 bytes is sent
abbrev pub sends_long : Events.Event
sends_long = asks (Send (record (hi []) { body = replicate 1700 120 }))

-- The half message, its renewal and its Commit are the records 0 to 3, the delayed message and its delivery 4 and 5, and the long
-- ones 6 and 7. The last one begins the next segment.
abbrev pub events : List Events.Event
events = sends half_props ∷ Events.Check 7000 ∷ asks commit ∷ sends (codes "DELAY" ++ 1 ∷ codes "1") ∷ Events.Take ∷ Events.Flushed 5
    ∷ Events.Dispatch 5 ∷ Events.Deliver 8000 ∷ sends_long ∷ sends_long ∷ Events.Take ∷ Events.Flushed 2 ∷ Events.Take
    ∷ Events.Flushed 1 ∷ Events.Dispatch 3 ∷ []

abbrev pub at_full : Boot
at_full = boot_after at_empty events

-- ---- it is removed

-- the base of the first n records of a log that begins at place 0, at this place
abbrev pub base_of_first : ℕ → Log → ℕ → Base
base_of_first n log place = record {
  place = place;
  records = n;
  queues = λ topic queue. length (queue_of (take n log.records) topic queue);
  levels = λ level. count_by (is_delivery level) (take n log.records);
  named = map (λ r. (r.topic, r.queue)) (take n log.records);
}

-- the base of the first segment's records is saved, and taken over
abbrev pub next_base : Base
next_base = base_of_first 7 at_full.now.log 4096

abbrev pub at_saved : Boot
at_saved = with_saved at_full (record at_full.now.saved { base = next_base })

abbrev pub until_saved : List Move
until_saved = moves_of at_empty events ++ SavesBase next_base ∷ []

abbrev pub at_removed : Boot
at_removed = stepped at_saved (Events.Trim next_base)

-- or all crashes before it is taken over, and the next boot begins at it
abbrev pub at_restart : Boot
at_restart = record { now = crashed at_saved.now 8 small; before = [] }
