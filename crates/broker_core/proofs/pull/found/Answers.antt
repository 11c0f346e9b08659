use Rattle.std.proofs.Common.{◌≡◌, ◌∙◌, ap, sym, subst, ℕ, ℤ, pos, List, IfOk, rules, refl, w64, w32, if◌then◌else◌}
use mir.Val.{to_z, of_z}
use Rattle.std.specs.Ordering.{int_eq}
use Rattle.std.proofs.lemmas.Int.{to_z-of_z}
use Rattle.record_codec.specs.declared.unit.Unit.{Unit as QueueUnit}
use Rattle.log_model.specs.Pulls.{Pulled}
use Rattle.request_fields.specs.Requests.{PullSaid}
use Rattle.queue_view.specs.Tables.{number_of}
use Rattle.queue_view.specs.Answers.{Answers}
use Rattle.queue_view.specs.declared.pulled.Pulled.{Pulled as Answer}
use Rattle.queue_view.proofs.AnswerLemmas.{same_pull}
use Rattle.broker_core.proofs.PullLemmas.{pulled_found, pulled_unknown}
use Rattle.broker_core.proofs.pull.found.Goals as goal

pub returns-in-Some : goal.returns-in-Some
returns-in-Some c s are =
    let core = c.args.parts.now in
    let q = c.args.asked.now in
    let name : c.as_str.result.now ≡ q.topic = c.as_str.ensures.value ∙ ap (λ (x : PullSaid). x.topic) c.asked.view_is in
    let at : c.asked.inside.queue ≡ q.queue = ap (λ (x : PullSaid). x.queue) c.asked.view_is in
    pulled_found core s q.topic q.queue c.in-Some.table q.from q.most c.args.tags.now c.pull.result are
    (sym (c.find.ensures ∙ ap (λ (t : List ℕ). number_of core.queues t c.asked.inside.queue) name ∙ ap (λ (k : ℕ). number_of core.queues q.topic k) at) ∙ c.in-Some.is)
    (λ t there. subst (λ (p : Pulled QueueUnit). IfOk c.pull.result (λ (a : Answer). Answers p a))
    (same_pull t t _ q.from _ q.most c.args.tags.now refl
    (to_z-of_z w64 c.asked.inside.from (search rules) ∙ ap (λ (x : PullSaid). x.from) c.asked.view_is)
    (to_z-of_z w32 c.asked.inside.most (search rules) ∙ ap (λ (x : PullSaid). x.most) c.asked.view_is))
    (c.pull.ensures.table t there))

pub returns-in-None : goal.returns-in-None
returns-in-None c s are =
    let core = c.args.parts.now in
    let q = c.args.asked.now in
    let name : c.as_str.result.now ≡ q.topic = c.as_str.ensures.value ∙ ap (λ (x : PullSaid). x.topic) c.asked.view_is in
    let at : c.asked.inside.queue ≡ q.queue = ap (λ (x : PullSaid). x.queue) c.asked.view_is in
    let a : Answer = record { code = to_z w32 (of_z w32 c.empty_code.result); next = 0; min = 0; max = 0; units = c.new.result } in
    pulled_unknown core s q.topic q.queue q.from q.most c.args.tags.now a are
    (sym (c.find.ensures ∙ ap (λ (t : List ℕ). number_of core.queues t c.asked.inside.queue) name ∙ ap (λ (k : ℕ). number_of core.queues q.topic k) at) ∙ c.in-None.is)
    (to_z-of_z w32 c.empty_code.result (search rules) ∙ c.empty_code.ensures ∙ ap (λ (z : ℤ). pos (if int_eq z (pos 0) then 19 else 21)) (to_z-of_z w64 c.asked.inside.from (search rules) ∙ ap (λ (x : PullSaid). x.from) c.asked.view_is))
    refl refl refl c.new.ensures.items
