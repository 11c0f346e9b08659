use Rattle.pipe_stream.proofs.PipeLemmas.{not_started, piped_grows, piped_of}
use Rattle.pipe_stream.proofs.pipe.serve_source.Goals as goal

pub returns-in_default-clause-served : goal.returns-in_default-clause-served
returns-in_default-clause-served g c = not_started _ _ _ _ _ _

pub returns-clause-grows : goal.returns-clause-grows
returns-clause-grows g c = piped_grows _ c.serve_stream.result _ _ _ _ _ c.serve_stream.ensures.served

pub returns-clause-served : goal.returns-clause-served
returns-clause-served g c = piped_of _ c.serve_stream.result _ _ _ _ _ _ _ _ _ c.serve_stream.ensures.served
