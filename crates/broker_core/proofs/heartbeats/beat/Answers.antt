use Rattle.std.proofs.Common.{codes}
use Rattle.request_fields.specs.declared.request.Request.TheVariants.{Beat}
use Rattle.broker_model.specs.Events as model
use Rattle.broker_model.specs.Clients.{after_beat}
use Rattle.broker_model.specs.Answers.{done_reply}
use Rattle.broker_core.proofs.AnswerLemmas.{is_plain_reply}
use Rattle.broker_core.proofs.HeartbeatLemmas.{does_beat, represents_clients}
use Rattle.broker_core.proofs.ReadLemmas.{carries_done, asked_by}
use Rattle.broker_core.proofs.heartbeats.beat.Goals as goal

pub returns-in-Err-clause-stays : goal.returns-in-Err-clause-stays
returns-in-Err-clause-stays c s are = represents_clients c.args.parts.now c.heartbeat.new.self s s.clients are (c.in-Err.ensures.same s.clients are.clients)

pub returns-in-Ok-clause-carries : goal.returns-in-Ok-clause-carries
returns-in-Ok-clause-carries c host =
    let old = c.args.parts.now in
    let b = c.args.beat.now in
    let link = c.args.link in
    carries_done old (record old { clients = c.heartbeat.new.self }) c.told.new.parts (asked_by link host c.args.now (Beat b)) (λ s. model.Replies done_reply)
    (λ s. record s { clients = after_beat link b s.clients }) c.told.result (does_beat old link host c.args.now b) c.requires.time c.told.ensures.moved
    (λ s are. (
      represents_clients old c.heartbeat.new.self s (after_beat link b s.clients) are (c.in-Ok.ensures.heard s.clients are.clients),
      c.told.ensures.told (model.Replies done_reply) (is_plain_reply c.in_ok-reply.reply 0 (codes "") c.in_ok-reply.ensures),
    ))
