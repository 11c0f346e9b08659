use Rattle.std.proofs.Common.{Option, Some, refl, subst}
use Rattle.log_model.specs.declared.batch.Batch.{Batch}
use Rattle.broker_events.specs.declared.event.Event.TheVariants.{Take}
use Rattle.broker_events.specs.declared.said.Said.TheVariants as said
use Rattle.worker_turns.proofs.Receipts.{receipt_for}
use Rattle.worker_turns.proofs.flush.flush_turn.Goals as goal

pub returns-in-Ok-clause-ended : goal.returns-in-Ok-clause-ended
returns-in-Ok-clause-ended g c =
    let told = c.in-Ok.ensures in
    let batch : Batch = c.in-Ok-Some.batch in
    let taken = subst (λ (b : Option Batch). g.C.Calls.makes c.args.calls.now Take (Some (said.Batch b)) c.take.new.calls) c.in-Ok-Some.field-0-is c.in-Ok-Some.ensures.batch in
    record {
      batch = batch;
      receipt = c.in-Ok.receipt;
      steps = (c.take.new.calls, taken, (c.tell_flushed.new.calls, c.tell_flushed.ensures, refl));
      is = receipt_for batch _ _ _ told.moves (c.if-not-goes_to.ensures.yes refl);
      wrote = record { turned = told.turned; places = told.places; moves = told.moves; synced = told.synced };
    }
