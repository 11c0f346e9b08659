-- What a loop did, to its end.
use Rattle.std.proofs.Common.{◌≡◌, ap, ◌∙◌}
use Rattle.session.specs.Owing.{Steps}
use Rattle.session.specs.Readers.{ReaderView}
use Rattle.link_service.specs.Clocks.{unasked}
use Rattle.link_service.specs.Transcripts.{counted_to}
use Rattle.event_loops.specs.Tales.{LeadsBy, LoopView, GoesOn}
use Rattle.event_loops.specs.Timing.{ClockOver}
use Rattle.event_loops.specs.declared.links.Links.{Links}
use Rattle.event_loops.proofs.Timing.{timed_off}
use Rattle.flush_rounds.specs.Asking.{HasTaken}
use Rattle.flush_rounds.specs.declared.asks.LoopAsks.{LoopAsks}
use Rattle.loop_threads.specs.Loops.{ReaderOver, Worked, Part, part_of}

-- a reader behind a run
abbrev pub read_by : ReaderOver → ReaderView
read_by reader = counted_to reader.gives reader.new

-- the steps of a loop, and then it let go of what was handed over to it
pub worked_then : {L N C : Type 0} (makes : Steps C) (view : LoopView L N) (reader : ReaderOver) (clock : ClockOver) (old mid : Part C L N) (calls : C) (new : Links L N) → Worked makes view reader clock old mid
    → LeadsBy (unasked makes) mid.calls calls 0 0 (λ done. GoesOn view (read_by reader) mid.links done new) → new.slots ≡ mid.links.slots → Worked makes view reader clock old (part_of calls mid.asks new)
worked_then makes view reader clock old mid calls new work went same = record {
  went = timed_off makes (λ (from : LoopAsks) taken to. HasTaken from.way taken to.way) view (read_by reader) clock.tells old.calls mid.calls calls old.links mid.links new old.asks mid.asks clock.old clock.new
      reader.old reader.new work.went went;
  none = ap (λ slots. slots.items) same ∙ work.none;
}
