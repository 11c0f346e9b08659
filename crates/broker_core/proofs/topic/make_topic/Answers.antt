use Rattle.std.proofs.Common.{rules, ◌≡◌, ap, sym, ◌∙◌, subst, true, false, codes, List, ℕ, max, string_bytes}
use Rattle.std.specs.Str.{bytes_eq}
use Rattle.record_codec.specs.Layout.{is_legal}
use Rattle.log_model.specs.Admissible.{is_system_topic}
use Rattle.request_fields.specs.Requests.{TopicSaid, KeepsTopic}
use Rattle.request_fields.specs.declared.request.Request.TheVariants.{MakeTopic}
use Rattle.broker_model.specs.State.{State}
use Rattle.broker_model.specs.Refusals.{plain_reply}
use Rattle.broker_model.specs.Step.{with_made}
use Rattle.broker_model.specs.Events as model
use Rattle.broker_events.specs.Replies.{IsToldAs}
use Rattle.client_tables.specs.Counts.{queues_of}
use Rattle.core_log.specs.Represents.{Represents}
use Rattle.core_log.proofs.TopicLemmas.{made_count, represents_topic}
use Rattle.broker_core.proofs.AnswerLemmas.{carries_refused, illegal_topic, system_topic, topic_taken, topic_answers, topic_after, is_plain_reply}
use Rattle.broker_core.proofs.topic.make_topic.Goals as goal

pub returns-then-not-is_legal_topic-clause-carries : goal.returns-then-not-is_legal_topic-clause-carries
returns-then-not-is_legal_topic-clause-carries c =
    let t : TopicSaid = c.args.fields.now in
    let legal : is_legal t.topic ≡ false = search rules in
    carries_refused c.args.parts.now c.args.host c.args.now (MakeTopic t) (plain_reply 13 (codes "topic")) c.in_ok-plain.field-0 (λ s are. illegal_topic s t legal)
    (is_plain_reply c.in_ok-plain.field-0 13 (codes "topic") c.in_ok-plain.ensures)

pub returns-then-is_system_topic-clause-carries : goal.returns-then-is_system_topic-clause-carries
returns-then-is_system_topic-clause-carries c =
    let t : TopicSaid = c.args.fields.now in
    let legal : is_legal t.topic ≡ true = search rules in
    let own : is_system_topic t.topic ≡ true = search rules in
    carries_refused c.args.parts.now c.args.host c.args.now (MakeTopic t) (plain_reply 16 (codes "system topic")) c.in_ok-plain-2.field-0 (λ s are. system_topic s t legal own)
    (is_plain_reply c.in_ok-plain-2.field-0 16 (codes "system topic") c.in_ok-plain-2.ensures)

pub returns-clause-carries : goal.returns-clause-carries
returns-clause-carries c link s are =
    let t : TopicSaid = c.args.fields.now in
    let legal : is_legal t.topic ≡ true = search rules in
    let own : is_system_topic t.topic ≡ false = search rules in
    let taken = topic_taken s t legal own in
    let keeps : KeepsTopic t = subst (λ (u : TopicSaid). KeepsTopic u) c.fields.view_is c.fields.invariant in
    let topic : string_bytes c.in_ok-name.name ≡ t.topic = search rules in
    let counts : max c.args.fields.now.read c.args.fields.now.write ≡ c.max.result = search rules in
    let made : (other : List ℕ) → queues_of c.make.new.self other ≡ made_count (bytes_eq t.topic other) (queues_of c.args.parts.now.topics t.topic) (max t.read t.write) (queues_of c.args.parts.now.topics other) = λ other.
    let R = c.reserve.new.self in
    let n = c.max.result in
    c.make.ensures other
    ∙ ap (λ (name : List ℕ). made_count (bytes_eq name other) (queues_of R name) n (queues_of R other)) topic
    ∙ ap (λ had. made_count (bytes_eq t.topic other) had n (queues_of R other)) (c.reserve.ensures.same t.topic)
    ∙ ap (λ rest. made_count (bytes_eq t.topic other) (queues_of c.args.parts.now.topics t.topic) n rest) (c.reserve.ensures.same other)
    ∙ ap (λ (k : ℕ). made_count (bytes_eq t.topic other) (queues_of c.args.parts.now.topics t.topic) k (queues_of c.args.parts.now.topics other)) (sym counts) in (
      subst (λ (w : model.Answer). IsToldAs c.in_ok-reply.reply w) (sym (topic_answers s link c.args.host c.args.now t taken)) (is_plain_reply c.in_ok-reply.reply 0 (codes "") c.in_ok-reply.ensures),
      subst (λ (u : State). Represents (record c.args.parts.now { topics = c.make.new.self; now = c.max-parts.result }) u) (sym (topic_after s link c.args.host c.args.now t taken))
          (subst (λ (n : ℕ). Represents (record c.args.parts.now { topics = c.make.new.self; now = n }) (record (with_made s t.topic (max t.read t.write)) { now = max c.args.now s.now })) (sym c.max-parts.ensures)
          (represents_topic c.args.parts.now c.make.new.self s t.topic t.read t.write c.args.now are keeps.read keeps.write legal own c.requires.now made)),
    )
