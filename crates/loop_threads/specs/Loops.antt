-- What each of two loops did until it ended.
use Rattle.std.specs.Prelude.{◌≡◌, ℕ, []}
use Rattle.mq_outside.specs.Readings.{Giving}
use Rattle.link_service.specs.Transcripts.{counted_to}
use Rattle.event_loops.specs.Tales.{LoopView}
use Rattle.event_loops.specs.Takings.{LeadsTaking}
use Rattle.event_loops.specs.Timing.{ClockOver, GoesTimed}
use Rattle.event_loops.specs.declared.links.Links.{Links}
use Rattle.worker_turns.specs.Turns.{Steps}
use Rattle.flush_rounds.specs.Asking.{HasTaken}
use Rattle.flush_rounds.specs.declared.asks.LoopAsks.{LoopAsks}

-- a loop with its caller of the core, and its end of a way by which check-backs come
pub record Part (C L N : Type 0) : Type 0 where
  pub calls : C
  pub asks : LoopAsks
  pub links : Links L N

abbrev pub part_of : {C L N : Type 0} → C → LoopAsks → Links L N → Part C L N
part_of calls asks links = record { calls = calls; asks = asks; links = links }

-- a reader over a run: what it gives, and how often it had failed before the run and behind it
pub record ReaderOver : Type 1 where
  pub gives : Giving
  pub old : ℕ
  pub new : ℕ

abbrev pub reader_over : Giving → ℕ → ℕ → ReaderOver
reader_over gives old new = record { gives = gives; old = old; new = new }

-- what a loop did from the one to the other: its steps were those of passes over its links, each of which is let go of
pub record Worked {C L N : Type 0} (makes : Steps C) (view : LoopView L N) (reader : ReaderOver) (clock : ClockOver) (old new : Part C L N)
    : Type 0 where
  pub went : LeadsTaking makes (λ (from : LoopAsks) taken to. HasTaken from.way taken to.way) old.calls new.calls old.asks new.asks
      reader.old reader.new (λ acts. GoesTimed view (counted_to reader.gives reader.new) clock old.links acts new.links)
  pub none : new.links.slots.items ≡ []
