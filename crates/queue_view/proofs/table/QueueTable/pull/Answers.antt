use Rattle.std.proofs.Common.{◌∙◌, ap, subst, refl, ◌≤◌, length, IfOk, rules}
use Rattle.std.proofs.lemmas.Int.{to_z-of_z}
use Rattle.std.specs.Int.{w32, w64}
use Rattle.log_model.specs.Keys.{asked_number}
use Rattle.queue_view.specs.Bounds.{start_of}
use Rattle.queue_view.specs.Tables.{Table}
use Rattle.queue_view.specs.Answers.{Answers}
use Rattle.queue_view.proofs.AnswerLemmas.{answers_within, answers_at_end, answers_outside}
use Rattle.queue_view.proofs.table.QueueTable.pull.Goals as goal

pub returns-in-Within : goal.returns-in-Within
returns-in-Within c =
    let within = subst (λ (t : Table). t.seen ≤ length t.units) c.self.view_is c.self.invariant.within in
    subst (λ p. IfOk c.pull_within.result (λ a. Answers p a))
    (answers_within c.args.self.now c.args.from c.args.most c.args.tags.now c.self.inside.low c.max-max.result c.in-Within.offset c.asked.result c.start_of.result within
    (ap (λ (t : Table). t.low) c.self.view_is) c.max-max.ensures (c.start_of.ensures ∙ ap (λ z. start_of z c.self.inside.low c.max-max.result) (to_z-of_z w64 c.args.from (search rules))) c.in-Within.is (c.asked.ensures ∙ ap (asked_number 32) (to_z-of_z w32 c.args.most (search rules))))
    c.pull_within.ensures

pub returns-in-AtEnd : goal.returns-in-AtEnd
returns-in-AtEnd c =
    let within = subst (λ (t : Table). t.seen ≤ length t.units) c.self.view_is c.self.invariant.within in
    answers_at_end c.args.self.now c.args.from c.args.most c.args.tags.now c.self.inside.low c.max-max.result c.in-AtEnd.next c.start_of.result _ within
    (ap (λ (t : Table). t.low) c.self.view_is) c.max-max.ensures (c.start_of.ensures ∙ ap (λ z. start_of z c.self.inside.low c.max-max.result) (to_z-of_z w64 c.args.from (search rules))) c.in-AtEnd.is refl refl refl refl c.new.ensures.items

pub returns-in-Outside : goal.returns-in-Outside
returns-in-Outside c =
    let within = subst (λ (t : Table). t.seen ≤ length t.units) c.self.view_is c.self.invariant.within in
    answers_outside c.args.self.now c.args.from c.args.most c.args.tags.now c.self.inside.low c.max-max.result c.in-Outside.next c.start_of.result _ within
    (ap (λ (t : Table). t.low) c.self.view_is) c.max-max.ensures (c.start_of.ensures ∙ ap (λ z. start_of z c.self.inside.low c.max-max.result) (to_z-of_z w64 c.args.from (search rules))) c.in-Outside.is refl refl refl refl c.new-in-Outside.ensures.items
