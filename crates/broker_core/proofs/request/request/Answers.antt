use Rattle.std.proofs.lemmas.Result.{IfOk-weaker}
use Rattle.request_fields.specs.declared.request.Request.TheVariants.{Send, Pull, Query, ViewById, OffsetOf, SetOffset, MakeTopic, Search, MaxOffset, MinOffset, Beat, Unregister, EndTransaction, Lock, Unlock}
use Rattle.broker_model.specs.Events as model
use Rattle.broker_events.specs.Steps.{Says}
use Rattle.broker_core.specs.Asked.{CarriesRequest}
use Rattle.core_log.specs.Carries.{Carries}
use Rattle.broker_core.proofs.ReadLemmas.{asked_by}
use Rattle.broker_core.proofs.StepLemmas.{carried}
use Rattle.broker_core.proofs.request.request.Goals as goal

pub returns-in-Pull-clause-carries : goal.returns-in-Pull-clause-carries
returns-in-Pull-clause-carries c =
    carried c.args.parts.now c.pull.new.parts c.args.link c.args.host.now c.args.now c.args.request.now (Pull c.in-Pull.asked) c.pull.result c.in-Pull.is (c.pull.ensures.carries c.args.link c.args.host.now)

pub returns-in-Query-clause-carries : goal.returns-in-Query-clause-carries
returns-in-Query-clause-carries c =
    carried c.args.parts.now c.query.new.parts c.args.link c.args.host.now c.args.now c.args.request.now (Query c.in-Query.asked) c.query.result c.in-Query.is (c.query.ensures.carries c.args.link c.args.host.now)

pub returns-in-ViewById-clause-carries : goal.returns-in-ViewById-clause-carries
returns-in-ViewById-clause-carries c =
    carried c.args.parts.now c.view.new.parts c.args.link c.args.host.now c.args.now c.args.request.now (ViewById c.in-ViewById.asked) c.view.result c.in-ViewById.is (c.view.ensures.carries c.args.link c.args.host.now)

pub returns-in-Search-clause-carries : goal.returns-in-Search-clause-carries
returns-in-Search-clause-carries c =
    carried c.args.parts.now c.search.new.parts c.args.link c.args.host.now c.args.now c.args.request.now (Search c.in-Search.asked) c.search.result c.in-Search.is (c.search.ensures.carries c.args.link c.args.host.now)

pub returns-in-MaxOffset-clause-carries : goal.returns-in-MaxOffset-clause-carries
returns-in-MaxOffset-clause-carries c =
    carried c.args.parts.now c.max_offset.new.parts c.args.link c.args.host.now c.args.now c.args.request.now (MaxOffset c.in-MaxOffset.asked) c.max_offset.result c.in-MaxOffset.is (c.max_offset.ensures.carries c.args.link c.args.host.now)

pub returns-in-MinOffset-clause-carries : goal.returns-in-MinOffset-clause-carries
returns-in-MinOffset-clause-carries c =
    carried c.args.parts.now c.min_offset.new.parts c.args.link c.args.host.now c.args.now c.args.request.now (MinOffset c.in-MinOffset.asked) c.min_offset.result c.in-MinOffset.is (c.min_offset.ensures.carries c.args.link c.args.host.now)

pub returns-in-OffsetOf-clause-carries : goal.returns-in-OffsetOf-clause-carries
returns-in-OffsetOf-clause-carries c =
    carried c.args.parts.now c.stored_offset.new.parts c.args.link c.args.host.now c.args.now c.args.request.now (OffsetOf c.in-OffsetOf.asked) c.stored_offset.result c.in-OffsetOf.is (c.stored_offset.ensures.carries c.args.link c.args.host.now)

pub returns-in-SetOffset-clause-carries : goal.returns-in-SetOffset-clause-carries
returns-in-SetOffset-clause-carries c =
    carried c.args.parts.now c.set_offset.new.parts c.args.link c.args.host.now c.args.now c.args.request.now (SetOffset c.in-SetOffset.asked) c.set_offset.result c.in-SetOffset.is (c.set_offset.ensures.carries c.args.link c.args.host.now)

pub returns-in-Lock-clause-carries : goal.returns-in-Lock-clause-carries
returns-in-Lock-clause-carries c =
    carried c.args.parts.now c.lock_queues.new.parts c.args.link c.args.host.now c.args.now c.args.request.now (Lock c.in-Lock.asked) c.lock_queues.result c.in-Lock.is (c.lock_queues.ensures.carries c.args.link c.args.host.now)

pub returns-in-Unlock-clause-carries : goal.returns-in-Unlock-clause-carries
returns-in-Unlock-clause-carries c =
    carried c.args.parts.now c.unlock_queues.new.parts c.args.link c.args.host.now c.args.now c.args.request.now (Unlock c.in-Unlock.asked) c.unlock_queues.result c.in-Unlock.is (c.unlock_queues.ensures.carries c.args.link c.args.host.now)

pub returns-in-Beat-clause-carries : goal.returns-in-Beat-clause-carries
returns-in-Beat-clause-carries c =
    carried c.args.parts.now c.beat.new.parts c.args.link c.args.host.now c.args.now c.args.request.now (Beat c.in-Beat.beat) c.beat.result c.in-Beat.is (c.beat.ensures.carries c.args.host.now)

pub returns-in-Unregister-clause-carries : goal.returns-in-Unregister-clause-carries
returns-in-Unregister-clause-carries c =
    carried c.args.parts.now c.unregister.new.parts c.args.link c.args.host.now c.args.now c.args.request.now (Unregister c.in-Unregister.asked) c.unregister.result c.in-Unregister.is (c.unregister.ensures.carries c.args.link c.args.host.now)

pub returns-in-EndTransaction-clause-carries : goal.returns-in-EndTransaction-clause-carries
returns-in-EndTransaction-clause-carries c =
    carried c.args.parts.now c.end_transaction.new.parts c.args.link c.args.host.now c.args.now c.args.request.now (EndTransaction c.in-EndTransaction.end) c.end_transaction.result c.in-EndTransaction.is (c.end_transaction.ensures.carries c.args.link c.args.host.now)

pub returns-in-Send-clause-carries : goal.returns-in-Send-clause-carries
returns-in-Send-clause-carries c =
    carried c.args.parts.now c.send.new.parts c.args.link c.args.host.now c.args.now c.args.request.now (Send c.in-Send.send) c.send.result c.in-Send.is
    (IfOk-weaker c.send.result (λ said. CarriesRequest c.args.parts.now c.args.host.now c.args.now (Send c.in-Send.send) said c.send.new.parts)
    (λ said. Carries c.args.parts.now (model.Asks (asked_by c.args.link c.args.host.now c.args.now (Send c.in-Send.send))) (Says said) c.send.new.parts) (λ said all. all c.args.link) c.send.ensures.carries)

pub returns-in-MakeTopic-clause-carries : goal.returns-in-MakeTopic-clause-carries
returns-in-MakeTopic-clause-carries c =
    carried c.args.parts.now c.make_topic.new.parts c.args.link c.args.host.now c.args.now c.args.request.now (MakeTopic c.in-MakeTopic.fields) c.make_topic.result c.in-MakeTopic.is
    (IfOk-weaker c.make_topic.result (λ said. CarriesRequest c.args.parts.now c.args.host.now c.args.now (MakeTopic c.in-MakeTopic.fields) said c.make_topic.new.parts)
    (λ said. Carries c.args.parts.now (model.Asks (asked_by c.args.link c.args.host.now c.args.now (MakeTopic c.in-MakeTopic.fields))) (Says said) c.make_topic.new.parts) (λ said all. all c.args.link) c.make_topic.ensures.carries)
