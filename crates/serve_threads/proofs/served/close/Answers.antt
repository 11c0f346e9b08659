use Rattle.std.proofs.Common.{ℕ}
use Rattle.worker_turns.specs.Acts.{change_of, place_of, view_of}
use Rattle.story_lock.specs.Passes.{start_of}
use Rattle.loop_threads.specs.Kept.{keep_over}
use Rattle.serve_threads.specs.Worlds.{readings_of}
use Rattle.serve_threads.specs.Links.{links_over}
use Rattle.serve_threads.specs.Served.{clocks_over, views_of}
use Rattle.serve_threads.proofs.Keeping.{left_at}
use Rattle.serve_threads.proofs.Parts.{made_by}
use Rattle.serve_threads.proofs.Counting.{keep_blamed}
use Rattle.serve_threads.proofs.served.close.Goals as goal

pub returns-clause-left : goal.returns-clause-left
returns-clause-left g c = λ place before given made puts.
    let found = c.close-core.ensures in
    let views = views_of (links_over g.P.Link.Link.tells g.P.Ends.Ends.tells g.P.Ends.Ends.entries c.args.left.ends) g.R.Reader.gives (clocks_over g.K.Clock.tells given (readings_of g.K.Clock.readings c.args.left.world)) (view_of g.D.Disk.tells g.D.Disk.state g.D.Disk.faults g.D.Disk.syncs) in
    let failures : ℕ × ℕ = (g.R.Reader.faults c.args.left.readers.0, g.R.Reader.faults c.args.left.readers.1) in
    let by = made_by views failures place _ c.args.spine.story c.args.left.pass found.0 c.close-core.result c.requires.seats made found.1 found.1.represented in
    let change = change_of (start_of c.args.spine.story).core place c.close-core.result (place_of made.file c.args.left.disk) in
    (made.file, left_at views failures change _ _ (keep_over g.E.Keep.tells (g.E.Keep.state before) _) _ c.keep_core-kept.result found.1.represented by found.1.begins puts c.keep_core-kept.ensures.seen)

pub returns-clause-cause : goal.returns-clause-cause
returns-clause-cause g c = λ before grows. keep_blamed c.keep_core-kept.result before _ _ grows c.keep_core-kept.ensures.cause
