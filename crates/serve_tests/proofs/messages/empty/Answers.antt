use Rattle.std.proofs.Common.{[], refl, ap, arith}
use Rattle.log_model.specs.Bases.{whole, no_base}
use Rattle.log_model.proofs.Places.{whole_geometry, empty_well_formed}
use Rattle.broker_model.specs.State.{Saved}
use Rattle.broker_events.specs.Shown.{Shown}
use Rattle.serve_tests.proofs.messages.empty.Goals as goal

abbrev none_saved : Saved
none_saved = record { offsets = []; topics = []; base = no_base }

pub open-requires : goal.open-requires
open-requires c = record {
  some = (
    none_saved,
    [],
    record {
      lawful = empty_well_formed (whole 1048576) (whole_geometry 1048576 (record { low = omega arith; high = omega arith }));
      of_log = c.in-Ok.ensures;
      covered = c.no_pieces.ensures.covered [];
      base = refl;
    },
  );
}

pub returns-in-Ok : goal.returns-in-Ok
returns-in-Ok c = ap (λ (s : Shown). s.out) (c.open.ensures.shown none_saved [] (record {
  lawful = empty_well_formed (whole 1048576) (whole_geometry 1048576 (record { low = omega arith; high = omega arith }));
  of_log = c.in-Ok.ensures;
  covered = c.no_pieces.ensures.covered [];
  base = refl;
}))
