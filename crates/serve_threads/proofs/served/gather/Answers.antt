use Rattle.std.proofs.Common.{◌≡◌, ◌∙◌, IfSome, ap, sym, subst}
use Rattle.flush_rounds.specs.Ways.{ArePair, put_by, taken_by}
use Rattle.flush_rounds.specs.Asking.{IsFrontOf}
use Rattle.flush_rounds.specs.declared.asks.LoopAsks.{LoopAsks}
use Rattle.event_loops.specs.Causes.{door_faults, loop_faults}
use Rattle.serve_threads.proofs.Keys.{some_at}
use Rattle.serve_threads.specs.Causes.{HasDoor, IsFirstFault}
use Rattle.serve_threads.specs.Links.{AreWhole}
use Rattle.serve_threads.proofs.Counting.{world_counts}
use Rattle.serve_threads.proofs.Whole.{some_unless}
use Rattle.serve_threads.proofs.served.gather.Goals as goal

pub together-requires-clause-turns : goal.together-requires-clause-turns
together-requires-clause-turns g c = (some_at _ _ _ c.leave-turns.ensures.pass c.requires.turns, c.leave-turns.ensures.of.1)

pub together-requires-clause-loops : goal.together-requires-clause-loops
together-requires-clause-loops g c = (some_at _ _ _ c.left_of-first_pass.ensures.pass c.requires.first, some_at _ _ _ c.left_of-second_pass.ensures.pass c.requires.second)

pub together-requires-clause-keeper : goal.together-requires-clause-keeper
together-requires-clause-keeper g c = some_at _ _ _ c.leave-looks.ensures.pass c.requires.keeper

pub returns-clause-met : goal.returns-clause-met
returns-clause-met g c = record {
  turns = c.leave-turns.result;
  first = c.left_of-first_pass.result.0;
  second = c.left_of-second_pass.result.0;
  looks = c.leave-looks.result;
  are = (c.leave-turns.ensures.pass, c.left_of-first_pass.ensures.pass, c.left_of-second_pass.ensures.pass, c.leave-looks.ensures.pass);
  meets = c.together.ensures.meets;
}

pub join-requires-clause-door : goal.join-requires-clause-door
join-requires-clause-door g c κs within = subst (λ o. HasDoor (door_faults g.P.Door.Door.faults o.entrance)) (sym c.left_of-first_pass.ensures.outside) c.requires.door

pub returns-clause-end : goal.returns-clause-end
returns-clause-end g c =
    subst (λ e. IsFirstFault e c.args.ran.second.end c.first_fault.result) c.left_of-first_pass.ensures.end
    (subst (λ e. IsFirstFault c.left_of-first_pass.result.3 e c.first_fault.result) c.left_of-second_pass.ensures.end c.first_fault.ensures.fault)

pub returns-clause-counts : goal.returns-clause-counts
returns-clause-counts g c =
    world_counts (loop_faults g.P.Ready.faults g.P.Door.Door.faults g.K.Clock.faults) _ _ _ _ _ c.left_of-first_pass.ensures.outside c.left_of-second_pass.ensures.outside
    c.join.ensures.counts

pub compare-requires : goal.compare-requires
compare-requires g c =
    let ways = c.args.ran.flushing.ways in
    record {
      pairs = (
        subst (λ (end : LoopAsks). ArePair ways.first end.way) (sym c.left_of-first_pass.ensures.asks) c.requires.pairs.0,
        subst (λ (end : LoopAsks). ArePair ways.second end.way) (sym c.left_of-second_pass.ensures.asks) c.requires.pairs.1,
      );
    }

pub returns-clause-fronts : goal.returns-clause-fronts
returns-clause-fronts g c =
    let ways = c.args.ran.flushing.ways in (
      subst (λ (end : LoopAsks). IsFrontOf (taken_by end.way) (put_by ways.first)) c.left_of-first_pass.ensures.asks c.compare.ensures.first,
      subst (λ (end : LoopAsks). IsFrontOf (taken_by end.way) (put_by ways.second)) c.left_of-second_pass.ensures.asks c.compare.ensures.second,
    )

pub returns-clause-clocks : goal.returns-clause-clocks
returns-clause-clocks g c = (
  c.join.ensures.parted.clocks.0 ∙ ap (λ o. o.clock) c.left_of-first_pass.ensures.outside,
  c.join.ensures.parted.clocks.1 ∙ ap (λ o. o.clock) c.left_of-second_pass.ensures.outside,
  c.join.ensures.parted.timer_is ∙ c.into_clock.ensures,
)

pub returns-clause-door : goal.returns-clause-door
returns-clause-door g c =
    subst (λ o. IfSome o.entrance (λ e. c.join.result.door ≡ e.door)) c.left_of-first_pass.ensures.outside c.join.ensures.parted.door

pub returns-clause-ends : goal.returns-clause-ends
returns-clause-ends g c =
    let first = c.left_of-first_pass in
    let second = c.left_of-second_pass in
    let ends = c.ends_of-ends.result in
    let whole = AreWhole g.P.Ends.Ends.tells g.P.Ends.Ends.entries c.came_by.result in (
      c.came_by.result,
      subst (λ o. IfSome o.entrance (λ e. c.came_by.result ≡ e.came)) first.ensures.outside c.came_by.ensures,
      subst (λ l. IfSome ends (λ e. whole l c.args.ran.second.event_loop.links e)) first.ensures.links
          (subst (λ l. IfSome ends (λ e. whole first.result.5.links l e)) second.ensures.links c.ends_of-ends.ensures),
    )

pub returns-clause-whole : goal.returns-clause-whole
returns-clause-whole g c = some_unless c.ends_of-ends.result _ c.first_fault.result _ c.is_some.ensures c.first_fault.ensures.whole
