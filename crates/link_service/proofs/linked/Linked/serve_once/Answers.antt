use Rattle.std.proofs.Common.{refl, ap, ◌∙◌, Err}
use Rattle.session.specs.declared.serving.Halt.{Halt}
use Rattle.link_service.specs.Clocks.{at_reading}
use Rattle.link_service.proofs.Timing.{serves_timed}
use Rattle.link_service.proofs.Went.{serves_ok, serves_bad, serves_memory}
use Rattle.link_service.proofs.linked.Linked.serve_once.Goals as goal

pub returns-in-Ok-clause-went : goal.returns-in-Ok-clause-went
returns-in-Ok-clause-went g c =
    serves_ok (at_reading c.args.now g.C.Calls.makes) g.L.Link.tells _ _ _ _ _ c.serve_next-end.result c.in-Ok.field-0 c.in-Ok.is c.requires.whole c.requires.whole refl refl
    (serves_timed g.C.Calls.makes _ _ _ _ _ c.serve_next-end.result c.serve_next-end.ensures.serves) c.serve_next-end.ensures.link c.serve_next-end.ensures.out

pub returns-in-Err-BadFrame-clause-went : goal.returns-in-Err-BadFrame-clause-went
returns-in-Err-BadFrame-clause-went g c =
    serves_bad (at_reading c.args.now g.C.Calls.makes) g.L.Link.tells _ _ _ _ _ c.serve_next-end.result c.in-Err-BadFrame.field-0-0 (c.in-Err-BadFrame.is ∙ ap (λ (h : Halt). Err h) (rw c.in-Err-BadFrame.is at c.in-Err-BadFrame.field-0-is))
    c.requires.whole c.requires.whole refl refl (serves_timed g.C.Calls.makes _ _ _ _ _ c.serve_next-end.result c.serve_next-end.ensures.serves) c.serve_next-end.ensures.link c.serve_next-end.ensures.out

pub returns-in-Err-Memory-clause-went : goal.returns-in-Err-Memory-clause-went
returns-in-Err-Memory-clause-went g c =
    serves_memory (at_reading c.args.now g.C.Calls.makes) g.L.Link.tells _ _ _ _ _ c.serve_next-end.result (c.in-Err-Memory.is ∙ ap (λ (h : Halt). Err h) (rw c.in-Err-Memory.is at c.in-Err-Memory.field-0-is)) c.requires.whole refl refl refl
    (serves_timed g.C.Calls.makes _ _ _ _ _ c.serve_next-end.result c.serve_next-end.ensures.serves) c.serve_next-end.ensures.link c.serve_next-end.ensures.out
