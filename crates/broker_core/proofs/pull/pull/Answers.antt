use Rattle.request_fields.specs.declared.request.Request.TheVariants.{Pull}
use Rattle.broker_model.specs.State.{State}
use Rattle.broker_model.specs.Events as model
use Rattle.broker_model.specs.Refusals.{pull_refusal}
use Rattle.broker_model.specs.Answers.{pulled_reply, pull_of}
use Rattle.broker_model.specs.Step.{stored, pull_offset}
use Rattle.broker_core.proofs.ReadLemmas.{carries_refusal, carries_done, does_pull, is_refused_as, is_allowed, refusal_pull, asked_by}
use Rattle.broker_core.proofs.LegalLemmas.{pull_legal}
use Rattle.broker_core.proofs.pull.pull.Goals as goal

pub returns-in-Some-clause-carries : goal.returns-in-Some-clause-carries
returns-in-Some-clause-carries c link host =
    let old = c.args.parts.now in
    let q = c.args.asked.now in
    carries_refusal old (asked_by link host c.args.now (Pull q)) c.in-Some.refused c.said.result
    (refusal_pull old q c.in-Some.refused (is_refused_as old (λ (s : State). pull_refusal s q) c.refuses_pull.result c.in-Some.refused c.refuses_pull.ensures c.in-Some.is)) c.said.ensures

pub returns-in-Ok-clause-carries : goal.returns-in-Ok-clause-carries
returns-in-Ok-clause-carries c link host =
    let old = c.args.parts.now in
    let q = c.args.asked.now in
    carries_done old c.commit.new.parts c.told.new.parts (asked_by link host c.args.now (Pull q)) (λ s. model.Replies (pulled_reply (pull_of s q))) (λ s. stored s q.group q.topic q.queue (pull_offset q)) c.told.result
    (does_pull old link host c.args.now q (is_allowed old (λ (s : State). pull_refusal s q) c.refuses_pull.result c.refuses_pull.ensures c.in-None.is))
    c.requires.time c.told.ensures.moved
    (λ s are. (
      c.in-Ok.ensures.stored s are
          (pull_legal old s q are (is_allowed old (λ (s : State). pull_refusal s q) c.refuses_pull.result c.refuses_pull.ensures c.in-None.is s are)),
      c.told.ensures.told (model.Replies (pulled_reply (pull_of s q))) (c.in_ok-reply-in-None.ensures s are),
    ))
