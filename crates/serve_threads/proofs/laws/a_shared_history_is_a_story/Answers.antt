use Rattle.worker_turns.specs.Acts.{view_of}
use Rattle.serve_threads.specs.Links.{loop_links}
use Rattle.serve_threads.proofs.SharedStory.{leads_on}
use Rattle.serve_threads.proofs.laws.a_shared_history_is_a_story.Goals as goal

pub returns : goal.returns
returns g c = λ failures change history first second looks turns put ended stands merged links keeper write.
    leads_on (view_of g.D.Disk.tells g.D.Disk.state g.D.Disk.faults g.D.Disk.syncs) (loop_links g.L.Link.tells g.N.Ends.tells ended.0)
    (loop_links g.L.Link.tells g.N.Ends.tells ended.1) g.R.Reader.gives failures put
    change history turns first second looks stands merged links keeper write
