use Rattle.link_service.specs.Transcripts.{counted_to}
use Rattle.std.proofs.Common.{refl, arith}
use Rattle.std.proofs.lemmas.Option.{slice_get_read}
use Rattle.event_loops.specs.Tales.{loop_view}
use Rattle.event_loops.proofs.Told.{goes_reported}
use Rattle.event_loops.proofs.links.Links.report.Goals as goal

pub returns-then-at-len : goal.returns-then-at-len
returns-then-at-len g c =
    let slots = c.args.self.now.slots in
    record {
      went = λ most high. goes_reported (loop_view g.L.Link.tells g.L.Link.given g.L.Link.taken g.N.Ends.tells g.N.Ends.entries) (counted_to g.R.Reader.gives most) c.args.self.now _ c.args.event.now.token c.index_mut-slot.result.now c.report_one.new.slot
          (refl, refl, refl, refl) refl
          (slice_get_read slots.items slots.len c.args.event.now.token c.index_mut-slot.result.now slots.ok.0 (omega arith) c.index_mut-slot.ensures.value)
          c.report_one.ensures;
    }
