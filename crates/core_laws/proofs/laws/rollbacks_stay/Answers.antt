use Rattle.std.proofs.Common.{arith, inl, inr, refl, ◌<◌, ◌∷◌, Some}
use Rattle.broker_model.specs.Run.{Anything, Steps}
use Rattle.broker_model.specs.Events
use Rattle.core_laws.proofs.Acknowledged.{answer_sound}
use Rattle.core_laws.proofs.LogMoves.{boot_stays, run_stays}
use Rattle.core_laws.proofs.RollbackAnswers.{rollback_after, rollback_at_once}
use Rattle.core_laws.proofs.RolledBack.{StaysRolledBackAt, rolled_back_by_moves, said_rolled_back}
use Rattle.core_laws.proofs.Runs.{goes_good}
use Rattle.core_laws.proofs.KeptOpenings.{opening_kept}
use Rattle.core_laws.proofs.KeptRuns.{run_kept, goes_kept}
use Rattle.core_laws.proofs.laws.rollbacks_stay.Goals as goal

pub returns-clause-stays : goal.returns-clause-stays
returns-clause-stays x b c moves e reply number h opening answers is =
    let asked = run_kept Anything b answers.before answers.asked (opening_kept b opening) answers.first in
    let heard = goes_kept answers.asked (Steps e (Some (Events.After reply number answers.turn))) answers.heard asked answers.asks in
    let looked = run_kept Anything answers.heard answers.waiting answers.looked heard answers.waits in
    let told = (answer_sound b moves c e reply number opening answers).told in
    let rollback = rollback_after answers.asked.now answers.heard.now e h reply number answers.turn asked.segment (asked.logs answers.asked.now (inl refl)) is answers.asks.0 in
    let n = rollback.0 in
    let done = rollback.1 in
    let moves_keep = rolled_back_by_moves h done.i n done.low in
    let waited = boot_stays (λ log. StaysRolledBackAt log h done.i n) n moves_keep Anything answers.heard answers.waiting answers.looked heard answers.boot answers.waits
    (inr done.rolled_back) in
    let low : n < answers.looked.now.flushed = omega (arith, rollback.2, told) in
    let last = run_stays (λ log. StaysRolledBackAt log h done.i n) n moves_keep Anything answers.looked
    (Steps (Events.Look number answers.turn) (Some (Events.Looked Events.IsFlushed)) ∷ answers.later) c looked low (answers.answered, answers.looks, tt, answers.rest) waited in
    (done.i, done.origin, done.stands, done.is_origin, said_rolled_back c.now h done.i n last)

pub returns-clause-stays_at_once : goal.returns-clause-stays_at_once
returns-clause-stays_at_once x b c moves a end reply h opening request answers is sync waits =
    let asked = run_kept Anything b answers.before answers.asked (opening_kept b opening) answers.first in
    let heard = goes_kept answers.asked (Steps (Events.Asks a) (Some (Events.Replies reply))) answers.heard asked answers.asks in
    let good = goes_good answers.asked (Steps (Events.Asks a) (Some (Events.Replies reply))) answers.heard asked.sound answers.asks in
    let rollback = rollback_at_once answers.asked.now answers.heard.now a end h reply asked.segment (asked.logs answers.asked.now (inl refl)) request is sync waits answers.asks.0 in
    let n = rollback.0 in
    let done = rollback.1 in
    let low : n < answers.heard.now.flushed = omega (arith, rollback.2, good.1.flushed) in
    let last = run_stays (λ log. StaysRolledBackAt log h done.i n) n (rolled_back_by_moves h done.i n done.low) Anything answers.heard answers.later c heard low answers.rest
    (inr done.rolled_back) in
    (done.i, done.origin, done.stands, done.is_origin, said_rolled_back c.now h done.i n last)
