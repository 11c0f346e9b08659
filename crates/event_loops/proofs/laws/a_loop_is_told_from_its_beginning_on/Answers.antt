use Rattle.link_service.specs.Transcripts.{counted_to}
use Rattle.std.proofs.Common.{[]}
use Rattle.event_loops.specs.Tales.{link_view, loop_numbers}
use Rattle.event_loops.proofs.Told.{told_none}
use Rattle.event_loops.proofs.laws.a_loop_is_told_from_its_beginning_on.Goals as goal

pub returns : goal.returns
returns g c failures old new acts none empty went =
    went.keeps [] (record {
      ended = [];
      are = λ kept told. empty told;
      so = told_none (link_view g.L.Link.tells g.L.Link.given g.L.Link.taken) (counted_to g.R.Reader.gives failures) (loop_numbers old) old.slots.items none;
    })
