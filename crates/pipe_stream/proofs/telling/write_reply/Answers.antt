use Rattle.pipe_stream.proofs.TellingLemmas.{wrote_reply, wrote_part}
use Rattle.pipe_stream.proofs.telling.write_reply.Goals as goal

pub returns-in-Ok-write_all-clause-told : goal.returns-in-Ok-write_all-clause-told
returns-in-Ok-write_all-clause-told g c =
    wrote_reply _ _ _ _ _ _ _ _ _ _ _ c.clear.ensures.items c.as_slice.ensures.value c.in-Ok.ensures c.in-Ok-write_all.ensures.whole

pub returns-in-Err-clause-told : goal.returns-in-Err-clause-told
returns-in-Err-clause-told g c = wrote_part _ _ _ _ _ _ _ _ _ _ _ c.clear.ensures.items c.as_slice.ensures.value c.in-Ok.ensures c.in-Err.ensures.part
