use Rattle.std.proofs.Common.{arith, inl, inr, refl, ◌<◌, ◌∷◌, Some}
use Rattle.broker_model.specs.Run.{Anything, Steps}
use Rattle.broker_model.specs.Events
use Rattle.core_laws.proofs.Acknowledged.{answer_sound}
use Rattle.core_laws.proofs.CommitAnswers.{step_after, step_at_once}
use Rattle.core_laws.proofs.CommitStays.{commit_stays}
use Rattle.core_laws.proofs.Committed.{StaysCommitted, committed_by_moves, said_committed}
use Rattle.core_laws.proofs.LogMoves.{boot_stays, run_stays}
use Rattle.core_laws.proofs.Runs.{goes_good}
use Rattle.core_laws.proofs.KeptOpenings.{opening_kept}
use Rattle.core_laws.proofs.KeptRuns.{run_kept, goes_kept}
use Rattle.core_laws.proofs.laws.commits_stay.Goals as goal

pub returns-clause-stays : goal.returns-clause-stays
returns-clause-stays x b c moves e reply number h opening answers is =
    let asked = run_kept Anything b answers.before answers.asked (opening_kept b opening) answers.first in
    let heard = goes_kept answers.asked (Steps e (Some (Events.After reply number answers.turn))) answers.heard asked answers.asks in
    let looked = run_kept Anything answers.heard answers.waiting answers.looked heard answers.waits in
    let told = (answer_sound b moves c e reply number opening answers).told in
    let copy = step_after answers.asked.now answers.heard.now e h reply number answers.turn (asked.logs answers.asked.now (inl refl)) is answers.asks.0 in
    let commit = commit_stays answers.asked.now answers.heard.now e (Events.After reply number answers.turn) h copy.0 copy.1 asked.segment
    (asked.logs answers.asked.now (inl refl)) is answers.asks.0 copy.3 in
    let moves_keep = committed_by_moves h commit.i copy.0 commit.low in
    let waited = boot_stays (λ log. StaysCommitted log h commit.i copy.0) copy.0 moves_keep Anything answers.heard answers.waiting answers.looked heard answers.boot answers.waits
    (inr commit.committed) in
    let low : copy.0 < answers.looked.now.flushed = omega (arith, copy.2, told) in
    let last = run_stays (λ log. StaysCommitted log h commit.i copy.0) copy.0 moves_keep Anything answers.looked
    (Steps (Events.Look number answers.turn) (Some (Events.Looked Events.IsFlushed)) ∷ answers.later) c looked low (answers.answered, answers.looks, tt, answers.rest) waited in
    (commit.i, commit.origin, commit.stands, commit.is_origin, said_committed c.now h commit.i copy.0 last)

pub returns-clause-stays_at_once : goal.returns-clause-stays_at_once
returns-clause-stays_at_once x b c moves a end reply h opening request answers is sync waits =
    let asked = run_kept Anything b answers.before answers.asked (opening_kept b opening) answers.first in
    let heard = goes_kept answers.asked (Steps (Events.Asks a) (Some (Events.Replies reply))) answers.heard asked answers.asks in
    let good = goes_good answers.asked (Steps (Events.Asks a) (Some (Events.Replies reply))) answers.heard asked.sound answers.asks in
    let copy = step_at_once answers.asked.now answers.heard.now a end h reply (asked.logs answers.asked.now (inl refl)) request is sync waits answers.asks.0 in
    let commit = commit_stays answers.asked.now answers.heard.now (Events.Asks a) (Events.Replies reply) h copy.0 copy.1 asked.segment
    (asked.logs answers.asked.now (inl refl)) is answers.asks.0 copy.3 in
    let low : copy.0 < answers.heard.now.flushed = omega (arith, copy.2, good.1.flushed) in
    let last = run_stays (λ log. StaysCommitted log h commit.i copy.0) copy.0 (committed_by_moves h commit.i copy.0 commit.low) Anything answers.heard answers.later c heard low
    answers.rest (inr commit.committed) in
    (commit.i, commit.origin, commit.stands, commit.is_origin, said_committed c.now h commit.i copy.0 last)
