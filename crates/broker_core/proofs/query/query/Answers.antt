use Rattle.request_fields.specs.declared.request.Request.TheVariants.{Query}
use Rattle.log_model.specs.Keys.{query_of}
use Rattle.broker_model.specs.State.{State, seen}
use Rattle.broker_model.specs.Answers.{found_reply, query_ext}
use Rattle.broker_core.proofs.ReadLemmas.{carries_reply, asked_by}
use Rattle.broker_core.proofs.AskedLemmas.{reads_query}
use Rattle.broker_core.proofs.query.query.Goals as goal

pub returns-clause-carries : goal.returns-clause-carries
returns-clause-carries c link host =
    let old = c.args.parts.now in
    let q = c.args.asked.now in
    carries_reply old c.tell.new.parts (asked_by link host c.args.now (Query q)) (λ (s : State). found_reply query_ext (query_of (seen s).records q.topic q.key q.from q.to q.most)) c.tell.result
    (reads_query old link host c.args.now q) c.requires.time c.tell.ensures.moved
    (λ s are. c.tell.ensures.told (found_reply query_ext (query_of (seen s).records q.topic q.key q.from q.to q.most)) (c.query_reply-reply.ensures s are))
