use Rattle.std.proofs.Common.{◌∙◌}
use Rattle.serve_threads.proofs.Keys.{split_there, of_there, cut_key, cut_out}
use Rattle.serve_threads.proofs.served.seats_of.Goals as goal

pub returns-clause-cut : goal.returns-clause-cut
returns-clause-cut g c =
    let one = split_there c.seat-flusher.result.pass c.twin-first.new.self.pass c.twin-first.result.pass c.args.pass c.seat-flusher.ensures.pass c.twin-first.new.self.here
    c.twin-first.result.here c.twin-first.ensures.splits in
    let two = split_there c.twin-first.new.self.pass c.twin-second.new.self.pass c.twin-second.result.pass one.0 one.2 c.twin-second.new.self.here c.twin-second.result.here
    c.twin-second.ensures.splits in
    let three = split_there c.twin-second.new.self.pass c.twin-keeper.new.self.pass c.twin-keeper.result.pass two.0 two.2 c.twin-keeper.new.self.here c.twin-keeper.result.here
    c.twin-keeper.ensures.splits in
    let first = c.twin-first.ensures.spine.0 ∙ c.seat-flusher.ensures.spine in
    let second = c.twin-second.ensures.spine.0 ∙ first in
    record {
      turns = three.0;
      first = one.1;
      second = two.1;
      looks = three.1;
      are = (three.2, one.3, two.3, three.3);
      of = (
        of_there _ _ _ three.0 (c.twin-keeper.ensures.spine.0 ∙ second) three.2 c.twin-keeper.new.self.of,
        of_there _ _ _ one.1 (c.twin-first.ensures.spine.1 ∙ c.seat-flusher.ensures.spine) one.3 c.twin-first.result.of,
        of_there _ _ _ two.1 (c.twin-second.ensures.spine.1 ∙ first) two.3 c.twin-second.result.of,
        of_there _ _ _ three.1 (c.twin-keeper.ensures.spine.1 ∙ second) three.3 c.twin-keeper.result.of,
      );
      cuts = record { early = one.0; late = two.0; first = one.4; then = two.4; at_last = three.4 };
    }

pub returns-clause-key : goal.returns-clause-key
returns-clause-key g c =
    let cut = returns-clause-cut g c in
    cut_key c.args.pass cut.turns cut.first cut.second cut.looks c.twin-keeper.new.self.pass cut.are.0 cut.cuts c.requires.numbers

pub returns-clause-none_out : goal.returns-clause-none_out
returns-clause-none_out g c =
    let cut = returns-clause-cut g c in
    cut_out c.args.spine.now.story c.args.pass cut.turns cut.first cut.second cut.looks c.twin-keeper.new.self.pass cut.are.0 cut.cuts c.requires.first cut.of.0 c.requires.none_out

pub returns-clause-keeper : goal.returns-clause-keeper
returns-clause-keeper g c = c.twin-keeper.ensures.spine.1 ∙ (c.twin-second.ensures.spine.0 ∙ (c.twin-first.ensures.spine.0 ∙ c.seat-flusher.ensures.spine))
