use Rattle.broker_model.specs.Run.{Anything}
use Rattle.core_laws.proofs.KeptOpenings.{opening_kept}
use Rattle.core_laws.proofs.Removed.{Settled, Delivered, run_settled, run_delivered, run_was, opening_was, opening_done, opening_orders, goes_removes, saved_numbers, settled_not_open}
use Rattle.core_laws.proofs.Whole.{run_whole, opening_after, opening_whole}
use Rattle.core_laws.proofs.Runs.{opening_sound, run_good}
use Rattle.core_laws.proofs.laws.removed_are_done.Goals as goal

pub returns-clause-flushed : goal.returns-clause-flushed
returns-clause-flushed x b c moves opening run = saved_numbers c.now (run_good Anything b moves c (opening_sound b opening) run).0.state

pub returns-clause-removed : goal.returns-clause-removed
returns-clause-removed x b c move n r goes stands low = goes_removes b move c n r goes stands low

pub returns-clause-settled : goal.returns-clause-settled
returns-clause-settled x b c moves n h origin opening run stands is low =
    let done = run_settled Anything b moves c (opening_kept b opening) run (opening_done Settled b opening) n origin low stands h is in
    (done, settled_not_open c.now h n done)

pub returns-clause-families : goal.returns-clause-families
returns-clause-families x b c moves n m h origin renewal opening run stands is low there renews =
    run_whole Anything b moves c (opening_kept b opening) (opening_after b opening) (opening_done Settled b opening) run (opening_whole b opening) n m h origin renewal
    low stands is there renews

pub returns-clause-was_delivered : goal.returns-clause-was_delivered
returns-clause-was_delivered x b c moves n item opening run stands is low =
    run_was Anything b moves c (opening_sound b opening) run (opening_was b opening) n item low stands is

pub returns-clause-delivered : goal.returns-clause-delivered
returns-clause-delivered x b c moves n item opening order run stands is low =
    run_delivered Anything b moves c (opening_kept b opening) (opening_orders b opening order) run (opening_done Delivered b opening) n item low stands is
