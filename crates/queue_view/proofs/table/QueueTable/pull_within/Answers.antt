use Rattle.std.proofs.Common.{◌∙◌, ap, ◌==◌, pos, if◌then◌else◌, length, ◌-◌, [], List, drop, filter, refl, rules}
use Rattle.std.proofs.lemmas.Int.{to_z-of_z}
use Rattle.std.specs.Int.{w32}
use Rattle.record_codec.specs.declared.unit.Unit.{Unit as QueueUnit}
use Rattle.log_model.specs.Pulls.{examined}
use Rattle.queue_view.specs.Subscriptions.{tags_take}
use Rattle.queue_view.specs.Answers.{this}
use Rattle.queue_view.specs.Tables.{Table, seen_units}
use Rattle.queue_view.proofs.AnswerLemmas.{answers_examined}
use Rattle.queue_view.proofs.table.QueueTable.pull_within.Goals as goal

pub returns : goal.returns
returns c =
    let low = ap (λ (t : Table). t.low) c.self.view_is in
    let seen = ap seen_units c.self.view_is in
    let test = tags_take c.args.tags.now in
    let queue = ap (λ n. drop (c.args.from - n) (seen_units c.args.self.now)) low in
    let is = ap (λ (us : List QueueUnit). drop (c.args.from - c.self.inside.low) us) seen ∙ queue in
    answers_examined c.args.self.now c.args.tags.now c.args.from c.args.most _ c.in_ok-examined.examined.count
    (c.in_ok-examined.ensures.count ∙ ap (λ (us : List QueueUnit). length (examined this c.args.most test [] us)) is)
    (c.in_ok-examined.ensures.units ∙ ap (λ (us : List QueueUnit). filter test (examined this c.args.most test [] us)) is)
    (to_z-of_z w32 c.code_of.result (search rules) ∙ c.code_of.ensures ∙ ap (λ n. pos (if n == 0 then 20 else 0)) (c.len.ensures ∙ c.in_ok-examined.examined.units.ok.0))
    refl low c.max.ensures
