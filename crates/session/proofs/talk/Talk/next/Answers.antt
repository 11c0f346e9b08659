use Rattle.std.proofs.Common.{rules, ◌≡◌, true, false}
use Rattle.remoting_frame.proofs.StreamLaws.{next_shorter}
use Rattle.session.specs.Hearing.{is_response}
use Rattle.session.proofs.Responses.{skips_next, hears_next}
use Rattle.session.proofs.talk.Talk.next.Goals as goal

pub returns-then-not-is_response-clause-hears : goal.returns-then-not-is_response-clause-hears
returns-then-not-is_response-clause-hears c =
    let given = rw c.in-Ok-Some.field-0-is at c.in-Ok-Some.ensures in
    let request : is_response c.in-Ok-Some.frame.header ≡ false = search rules in
    hears_next _ _ _ _ c.in-Ok-Some.frame c.hear.result c.skip.invariant.skips given request c.hear.ensures

pub skip-smaller : goal.skip-smaller
skip-smaller c = let given = rw c.in-Ok-Some.field-0-is at c.in-Ok-Some.ensures in next_shorter _ _ _ _ given.0

pub skip-preserved : goal.skip-preserved
skip-preserved c =
    let given = rw c.in-Ok-Some.field-0-is at c.in-Ok-Some.ensures in
    let response : is_response c.in-Ok-Some.frame.header ≡ true = search rules in
    record { skipped = _; skips = skips_next _ _ _ _ c.in-Ok-Some.frame c.skip.invariant.skips given response; link = c.skip.invariant.link; host = c.skip.invariant.host }
