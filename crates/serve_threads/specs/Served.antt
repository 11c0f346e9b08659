-- What the threads of a broker make, and what is left of it.
use Rattle.std.specs.Prelude.{◌≡◌, ◌<◌, ◌++◌, ℕ, List, [], ◌∷◌, length, Option, Some, Result, OnOk}
use Rattle.mq_outside.specs.Readings.{Giving}
use Rattle.mq_outside.specs.declared.faults.DiskFault.{DiskFault}
use Rattle.broker_events.specs.declared.event.Event.{Event}
use Rattle.broker_events.specs.declared.said.Said.{Said}
use Rattle.segment_files.specs.declared.last_file.LastFile.{LastFile}
use Rattle.broker_model.specs.State.{State}
use Rattle.broker_core.specs.Owner.{plain_look}
use Rattle.core_log.specs.Represents.{Represents}
use Rattle.core_log.specs.declared.parts.Parts.{Parts}
use Rattle.flush_story.specs.Story as stories
use Rattle.flush_story.specs.Story.{Happening, Story, span_of}
use Rattle.flush_story.specs.Keeping.{IsOpenFor, Keeps}
use Rattle.reply_fields.specs.Parts.{AskParts}
use Rattle.session.specs.Serving.{Made}
use Rattle.event_loops.specs.Timing.{ClockOver, IsTimed, clock_over}
use Rattle.spine.specs.declared.shared.Shared.{Shared}
use Rattle.worker_turns.specs.Acts as acts
use Rattle.worker_turns.specs.Acts.{Change, DiskView, Place, place_of, growing_at}
use Rattle.story_lock.specs.declared.chronicle.Chronicle.{Ghosts}
use Rattle.story_lock.specs.declared.story.Pass.{Pass}
use Rattle.story_lock.specs.Counts.{times, IsDistinct}
use Rattle.story_lock.specs.declared.story.Story.{Story as TheStory}
use Rattle.story_lock.specs.Passes.{IsPassOf, seen_by, mine_of, numbers_of}
use Rattle.story_lock.specs.Owned.{HasAt, AscendsFrom}
use Rattle.spine.specs.Passes.{Splits, Joins}
use Rattle.spine.specs.Stands.{Stands}
use Rattle.keeper_turns.specs.Puts.{KeepsBy}
use Rattle.keeper_turns.specs.Turns.{IsOffsetsOf, IsTopicsOf}
use Rattle.flush_rounds.specs.Flushing.{FlushesTo, Write}
use Rattle.serve_threads.specs.Worlds.{Readings}
use Rattle.loop_threads.specs.Kept.{KeepOver}
use Rattle.serve_threads.specs.Kept.{PutsAlong}
use Rattle.serve_threads.specs.Links.{LinksOver, AreAnsweredFrom, first_links, second_links}

-- the clocks of both loops and the flusher's over a run: that they tell what they gave, and what that was before the run and behind it
pub record ClocksOver : Type 1 where
  pub tells : Type 0
  pub old : Readings
  pub new : Readings

abbrev pub clocks_over : Type 0 → Readings → Readings → ClocksOver
clocks_over tells old new = record { tells = tells; old = old; new = new }

-- each of them
abbrev pub first_clock : ClocksOver → ClockOver
first_clock clocks = clock_over clocks.tells clocks.old.first clocks.new.first

abbrev pub second_clock : ClocksOver → ClockOver
second_clock clocks = clock_over clocks.tells clocks.old.second clocks.new.second

abbrev pub timer_of : ClocksOver → ClockOver
timer_of clocks = clock_over clocks.tells clocks.old.timer clocks.new.timer

-- how a run sees its links, what its readers give, its clocks, and its disk
pub record Views (D : Type 0) : Type 1 where
  pub links : LinksOver
  pub gives : Giving
  pub clocks : ClocksOver
  pub disk : DiskView D

abbrev pub views_of : {D : Type 0} → LinksOver → Giving → ClocksOver → DiskView D → Views D
views_of links gives clocks disk = record { links = links; gives = gives; clocks = clocks; disk = disk }

-- ---- the loops

-- what both loops made, each in passes that its clock timed
abbrev pub AreTimed : ClocksOver → Made → Made → Type 0
AreTimed clocks first second = IsTimed (first_clock clocks) first × IsTimed (second_clock clocks) second

-- ---- the keeper

-- each of these is a look by which the keeper reads the core, and changes nothing
abbrev pub AreLooks : Made → Type 0
AreLooks [] = Unit {0}
AreLooks (step ∷ steps) = (step.0 ≡ plain_look) × AreLooks steps

-- ---- the history

-- Each entry of the history is of the flusher, of one of the two loops or of the keeper, in the order in which these made them.
pub record IsMerged (history turns first second looks : Made) : Type 0 where
  pub turns_at : List ℕ
  pub first_at : List ℕ
  pub second_at : List ℕ
  pub looks_at : List ℕ
  pub are : HasAt history turns_at turns × HasAt history first_at first × HasAt history second_at second × HasAt history looks_at looks
  pub ascend : AscendsFrom 0 turns_at × AscendsFrom 0 first_at × AscendsFrom 0 second_at × AscendsFrom 0 looks_at
  pub once : IsDistinct (((turns_at ++ first_at) ++ second_at) ++ looks_at)
  pub all : (k : ℕ) → k < length history → 0 < times k (((turns_at ++ first_at) ++ second_at) ++ looks_at)

-- ---- passes

-- one for each thread: the flusher, the two loops and the keeper
pub record ByThread (X : Type 0) : Type 0 where
  pub flusher : X
  pub first : X
  pub second : X
  pub keeper : X

abbrev pub by_thread : {X : Type 0} → X → X → X → X → ByThread X
by_thread flusher first second keeper = record { flusher = flusher; first = first; second = second; keeper = keeper }

module _ {chronicle : Ghosts Shared Event (Option Said)} where
  -- the first pass took over the second, then the third, and then the fourth
  pub record Meets (one other third last new : Pass Shared Event (Option Said) chronicle) : Type 0 where
    pub early : Pass Shared Event (Option Said) chronicle
    pub late : Pass Shared Event (Option Said) chronicle
    pub first : Joins one other early
    pub then : Joins early third late
    pub at_last : Joins late last new

  -- The first pass was cut into four: the last three got its seat numbers, the greatest first, and the second what was left.
  pub record Cuts (whole one other third last : Pass Shared Event (Option Said) chronicle) : Type 0 where
    pub early : Pass Shared Event (Option Said) chronicle
    pub late : Pass Shared Event (Option Said) chronicle
    pub first : Splits whole early other
    pub then : Splits early late third
    pub at_last : Splits late one last

  -- four callers of this story have the passes into which the first one was cut
  pub record AreCut (story : TheStory Shared Event (Option Said)) (whole : Pass Shared Event (Option Said) chronicle)
      (passes : ByThread (Option (Pass Shared Event (Option Said) chronicle))) : Type 0 where
    pub turns : Pass Shared Event (Option Said) chronicle
    pub first : Pass Shared Event (Option Said) chronicle
    pub second : Pass Shared Event (Option Said) chronicle
    pub looks : Pass Shared Event (Option Said) chronicle
    pub are : (passes.flusher ≡ Some turns) × (passes.first ≡ Some first) × (passes.second ≡ Some second)
        × (passes.keeper ≡ Some looks)
    pub of : IsPassOf story turns × IsPassOf story first × IsPassOf story second × IsPassOf story looks
    pub cuts : Cuts whole turns first second looks

  -- the passes of four callers are one
  pub record AreMet (passes : ByThread (Option (Pass Shared Event (Option Said) chronicle)))
      (new : Pass Shared Event (Option Said) chronicle) : Type 0 where
    pub turns : Pass Shared Event (Option Said) chronicle
    pub first : Pass Shared Event (Option Said) chronicle
    pub second : Pass Shared Event (Option Said) chronicle
    pub looks : Pass Shared Event (Option Said) chronicle
    pub are : (passes.flusher ≡ Some turns) × (passes.first ≡ Some first) × (passes.second ≡ Some second)
        × (passes.keeper ≡ Some looks)
    pub meets : Meets turns first second looks new

  -- The pass has each seat number of four, and its entries are the flusher's, those of the two loops, whose readers failed so often,
  -- and the keeper's. What the flusher's turns did to the disk leads from the first place to this disk.
  pub record HasMade {D : Type 0} (views : Views D) (failures : ℕ × ℕ) (old : Place D)
      (pass : Pass Shared Event (Option Said) chronicle) (disk : D) : Type 0 where
    pub turns : List acts.Act
    pub first : Made
    pub second : Made
    pub looks : Made
    pub turns_at : List ℕ
    pub first_at : List ℕ
    pub second_at : List ℕ
    pub looks_at : List ℕ
    pub are : HasAt (seen_by pass) turns_at (acts.steps_of turns) × HasAt (seen_by pass) first_at first
        × HasAt (seen_by pass) second_at second × HasAt (seen_by pass) looks_at looks
    pub ascend : AscendsFrom 0 turns_at × AscendsFrom 0 first_at × AscendsFrom 0 second_at × AscendsFrom 0 looks_at
    pub mine : mine_of pass ≡ ((turns_at ++ first_at) ++ second_at) ++ looks_at
    pub put : List AskParts × List AskParts
    pub flusher : FlushesTo (timer_of views.clocks) put turns
    pub file : LastFile
    pub write : Write views.disk turns old (place_of file disk)
    pub links : AreAnsweredFrom (first_links views.links) views.gives failures.0 0 put.0 first
        × AreAnsweredFrom (second_links views.links) views.gives failures.1 1 put.1 second
    pub timed : AreTimed views.clocks first second
    pub keeper : AreLooks looks
    pub seats : (k : ℕ) → k < 4 → 0 < times k (numbers_of pass)

-- ---- a run

-- From a state that the first core represented the history leads to one that the second represents. It is a story of the model and of
-- the disk: where the disk tells what it holds, and stored the first state's log with its flushed number, it stores that of the
-- second, and at each moment a crash leaves what was flushed by then.
pub record LeadsOn {D : Type 0} (view : DiskView D) (history : Made) (change : Change Parts (Place D)) (s : State) : Type 0 where
  pub reached : State
  pub represents : Represents change.calls_then reached
  pub story : List Happening
  pub steps : stories.steps_of story ≡ history
  pub happens : Story view.tells (growing_at view) story (span_of s change.place reached change.place_then)
  pub keeps : view.tells → IsOpenFor s (growing_at view change.place)
      → Keeps s reached (stories.turns_of story) (growing_at view change.place) (growing_at view change.place_then)

-- Of this history, which leads from the first core to the second: the entries are the flusher's, whose turns wrote what was pending,
-- what the loops made for each link, and the looks of the keeper. The flusher made the deliveries and checks of each round at the reading
-- that its clock gave for this round. A loop gave the requests of each pass to the broker at the reading that its clock gave for this
-- pass, and answered `read N` only with counts to which its reader's failures, so many, had come, and at most as often. Each check-back
-- that a loop wrote is one that the flusher handed out for its loop, and was written to the link that it names.
pub record IsMadeBy {D : Type 0} (views : Views D) (failures : ℕ × ℕ) (history : Made) (change : Change Parts (Place D)) : Type 0 where
  pub turns : List acts.Act
  pub first : Made
  pub second : Made
  pub looks : Made
  pub put : List AskParts × List AskParts
  pub merged : IsMerged history (acts.steps_of turns) first second looks
  pub flusher : FlushesTo (timer_of views.clocks) put turns
  pub links : AreAnsweredFrom (first_links views.links) views.gives failures.0 0 put.0 first
      × AreAnsweredFrom (second_links views.links) views.gives failures.1 1 put.1 second
  pub timed : AreTimed views.clocks first second
  pub keeper : AreLooks looks
  pub write : Write views.disk turns change.place change.place_then
  pub leads : (s : State) → Represents change.calls s → LeadsOn views.disk history change s

-- The second core stands for one history that begins with the first: a run of steps, each with the answer that was said, made by the
-- threads and by nobody else. Meanwhile each of the two kept files had its old text or that of a state of this history; and where
-- their last replacement ended Ok, both have the texts of the second core, and keep them through a crash.
pub record IsLeft {D : Type 0} (views : Views D) (failures : ℕ × ℕ) (change : Change Parts (Place D)) (keep : KeepOver)
    (kept : Result (Unit {0}) DiskFault) : Type 0 where
  pub history : Made
  pub stands : Stands change.calls history change.calls_then
  pub made : IsMadeBy views failures history change
  pub puts : keep.tells → PutsAlong change.calls history keep.old keep.new
  pub done : keep.tells → OnOk kept (KeepsBy (IsOffsetsOf change.calls_then) (IsTopicsOf change.calls_then) keep.new)
