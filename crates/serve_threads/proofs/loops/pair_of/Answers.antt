use Rattle.std.proofs.Common.{ap, ◌∙◌}
use Rattle.serve_threads.proofs.loops.pair_of.Goals as goal

pub returns : goal.returns
returns g c = (
  record {
    loops = c.in_ok-one.ensures.loops;
    none = c.in_ok-one.ensures.none;
    fresh = λ told. ap g.P.Ends.Ends.entries c.in_ok-one.ensures.ends ∙ c.ends.ensures.none told;
  },
  record {
    loops = c.in_ok-other.ensures.loops;
    none = c.in_ok-other.ensures.none;
    fresh = λ told. ap g.P.Ends.Ends.entries c.in_ok-other.ensures.ends ∙ c.ends-2.ensures.none told;
  },
)
