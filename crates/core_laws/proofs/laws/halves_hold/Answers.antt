use Rattle.core_laws.proofs.CommitAnswers.{step_after, step_at_once}
use Rattle.std.proofs.Common.{arith, inl, inr, refl, max, ◌<◌, Some}
use Rattle.broker_model.specs.Run.{Anything, Steps}
use Rattle.broker_model.specs.Events
use Rattle.log_model.specs.Transactions.{copies}
use Rattle.core_laws.proofs.Acknowledged.{answered_stays}
use Rattle.core_laws.proofs.Runs.{run_good, goes_good}
use Rattle.core_laws.proofs.Copies.{run_copies, run_no_copies}
use Rattle.core_laws.proofs.KeptOpenings.{opening_kept}
use Rattle.core_laws.proofs.KeptRuns.{run_kept, goes_kept, step_log}
use Rattle.core_laws.proofs.OnlyCommits.{only_by_commit}
use Rattle.core_laws.proofs.laws.halves_hold.Goals as goal

pub returns-clause-only : goal.returns-clause-only
returns-clause-only x b c d moves e said n r opening run goes high stands is =
    let kept = run_kept Anything b moves c (opening_kept b opening) run in
    only_by_commit c.now d.now e n r kept.sound.state (kept.logs c.now (inl refl)) (step_log c.now d.now e said goes.0) high stands is

pub returns-clause-none : goal.returns-clause-none
returns-clause-none x b c moves h low opening none run = run_no_copies b moves c h low (opening_kept b opening) none run

pub returns-clause-once : goal.returns-clause-once
returns-clause-once x b c moves h low opening run =
    run_copies b moves c h (max 1 (copies b.now.log.records h)) low (omega arith) (opening_kept b opening) (omega arith) run

pub returns-clause-stays : goal.returns-clause-stays
returns-clause-stays x b c moves e reply number h opening answers is =
    let kept = run_kept Anything b answers.before answers.asked (opening_kept b opening) answers.first in
    let copy = step_after answers.asked.now answers.heard.now e h reply number answers.turn (kept.logs answers.asked.now (inl refl)) is answers.asks.0 in
    let last = answered_stays b moves c e reply number opening answers copy.0 copy.1 copy.2 copy.3.stands in
    (copy.0, copy.1, copy.3, last.1, last.3)

pub returns-clause-stays_at_once : goal.returns-clause-stays_at_once
returns-clause-stays_at_once x b c moves a end reply h opening request answers is sync waits =
    let kept = run_kept Anything b answers.before answers.asked (opening_kept b opening) answers.first in
    let copy = step_at_once answers.asked.now answers.heard.now a end h reply (kept.logs answers.asked.now (inl refl)) request is sync waits answers.asks.0 in
    let heard = goes_kept answers.asked (Steps (Events.Asks a) (Some (Events.Replies reply))) answers.heard kept answers.asks in
    let asks = goes_good answers.asked (Steps (Events.Asks a) (Some (Events.Replies reply))) answers.heard kept.sound answers.asks in
    let rest = run_good Anything answers.heard answers.later c heard.sound answers.rest in
    let low : copy.0 < answers.heard.now.flushed = omega (arith, copy.2, asks.1.flushed) in
    (copy.0, copy.1, copy.3, omega (arith, low, rest.1.flushed), rest.1.stays copy.0 copy.1 low (inr copy.3.stands))
