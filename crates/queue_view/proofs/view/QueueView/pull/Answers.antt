use Rattle.std.proofs.Common.{◌≡◌, ◌∙◌, subst, sym, IfOk, rules, slice_get, Some, List}
use Rattle.std.proofs.lemmas.Int.{to_z-of_z}
use Rattle.std.proofs.lemmas.Option.{get_or_from_slice_get}
use Rattle.std.specs.Int.{w32, w64}
use Rattle.queue_view.specs.Tables.{Table}
use Rattle.queue_view.specs.Answers.{Answers}
use Rattle.queue_view.proofs.AnswerLemmas.{same_pull}
use Rattle.queue_view.proofs.AddedLemmas.{among_is}
use Rattle.queue_view.proofs.view.QueueView.pull.Goals as goal

pub returns-clause-table : goal.returns-clause-table
returns-clause-table c t at =
    let here = subst (λ (ts : List Table). slice_get ts c.args.table ≡ Some t) (sym c.self.view_is) at in
    let same = c.index.ensures ∙ get_or_from_slice_get c.self.inside.tables.items c.args.table t c.index.result.now here in
    subst (λ p. IfOk c.pull.result (λ a. Answers p a))
    (same_pull c.index.result.now t _ c.args.from _ c.args.most c.args.tags.now same (to_z-of_z w64 c.args.from (search rules)) (to_z-of_z w32 c.args.most (search rules)))
    c.pull.ensures

pub returns-clause-records : goal.returns-clause-records
returns-clause-records c low added n t are at =
    let here = subst (λ (ts : List Table). slice_get ts c.args.table ≡ Some t) (sym c.self.view_is) at in
    let same = c.index.ensures ∙ get_or_from_slice_get c.self.inside.tables.items c.args.table t c.index.result.now here in
    subst (λ p. IfOk c.pull.result (λ a. Answers p a))
    (same_pull c.index.result.now t _ c.args.from _ c.args.most c.args.tags.now same (to_z-of_z w64 c.args.from (search rules)) (to_z-of_z w32 c.args.most (search rules))
    ∙ among_is low added n c.args.self.now c.args.table t c.args.from c.args.most c.args.tags.now are at)
    c.pull.ensures
