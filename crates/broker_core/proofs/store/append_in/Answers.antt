use Rattle.std.proofs.Common.{rules, ◌≡◌, ◌<◌, ap, sym, ◌∙◌, subst, arith, ℕ, List, [], ◌∷◌, true, false, is_some, string_bytes}
use Rattle.record_codec.specs.Drafts.{entry_of}
use Rattle.std.specs.Str.{bytes_eq}
use Rattle.broker_model.specs.State.{State}
use Rattle.broker_model.specs.Step.{with_made, with_records}
use Rattle.client_tables.specs.declared.topics.Topics.{Topics}
use Rattle.client_tables.specs.Counts.{queues_of, room_in}
use Rattle.core_log.specs.Represents.{Represents}
use Rattle.core_log.proofs.TopicLemmas.{made_count, represents_made, represents_same_topics}
use Rattle.core_log.proofs.StoreLemmas.{stored_known, none_made, on_err, on_ok}
use Rattle.broker_core.proofs.store.append_in.Goals as goal

pub returns-then-is_some-clause-appended : goal.returns-then-is_some-clause-appended
returns-then-is_some-clause-appended c =
    let d = c.args.draft.now in
    let target = c.args.target.now in
    let some : is_some target.known ≡ true = search rules in
    on_ok c.append_message.result c.append_message.ensures.appended (λ done s are may.
    stored_known c.append_message.new.self c.args.parts.now.topics (with_records s c.args.place.now.store (entry_of d c.args.place.now ∷ [])) target.topic.now target.known target.made some
    c.requires.target.found c.append_message.ensures.topics (done s are may))

pub append_message-requires-2-clause-some : goal.append_message-requires-2-clause-some
append_message-requires-2-clause-some c =
    (c.requires.some.0, represents_same_topics c.args.parts.now c.reserve.new.self c.requires.some.0 c.requires.some.1 c.reserve.ensures.same, c.requires.some.2)

pub returns-in_err-append_message-clause-stays : goal.returns-in_err-append_message-clause-stays
returns-in_err-append_message-clause-stays c =
    on_err c.from_residual-in_err-append_message.result (λ s are. c.in_err-append_message.ensures.stays s (represents_same_topics c.args.parts.now c.reserve.new.self s are c.reserve.ensures.same))

pub make-requires : goal.make-requires
make-requires c = subst (λ (t : Topics). 0 < room_in t) (sym c.append_message-2.ensures.topics) c.in_ok-reserve.ensures.spare

pub returns-clause-appended : goal.returns-clause-appended
returns-clause-appended c s are may =
    let d = c.args.draft.now in
    let target = c.args.target.now in
    let topic = target.topic.now in
    let now = c.append_message-2.new.self in
    let T = now.topics in
    let none : is_some target.known ≡ false = search rules in
    let name : string_bytes c.in_ok-name.name ≡ topic = search rules in
    let before = represents_same_topics c.args.parts.now c.reserve.new.self s are c.reserve.ensures.same in
    let mid = c.in_ok-append_message.ensures.appended s before may in
    let t : State = with_records s c.args.place.now.store (entry_of d c.args.place.now ∷ []) in
    let few = c.requires.target.few in
    subst (λ (n : ℕ). Represents (record now { topics = c.make.new.self }) (with_made t topic n)) (none_made target.known target.made none)
    (represents_made now c.make.new.self t topic target.made mid (record { some = c.requires.target.some; few = omega (arith, few); plain = c.requires.target.plain }) c.requires.target.legal
    (λ other. c.make.ensures other ∙ ap (λ (n : List ℕ). made_count (bytes_eq n other) (queues_of T n) target.made (queues_of T other)) name))
