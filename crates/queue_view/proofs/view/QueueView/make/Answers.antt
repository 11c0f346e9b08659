use Rattle.std.proofs.Common.{◌≡◌, ◌∙◌, ap, length, List, ◌++◌, ◌∷◌, [], rules}
use Rattle.queue_view.specs.Tables.{Table, number_of}
use Rattle.queue_view.proofs.NumberedLemmas.{numbered_push, number_of-push}
use Rattle.queue_view.proofs.view.QueueView.make.Goals as goal

pub invariant_of-self-2 : goal.invariant_of-self-2
invariant_of-self-2 c =
    let absent = ap (λ (ts : List Table). number_of ts c.args.topic.now c.args.queue) c.self.view_is ∙ c.requires.absent in
    let number : c.in-Ok.number ≡ length c.self.inside.tables.items = search rules in
    let topic : c.reserve.new.self.topic ≡ c.args.topic.now = ap (λ (t : Table). t.topic) c.in_ok-reserve.ensures.same ∙ ap (λ (t : Table). t.topic) c.in_ok-table.ensures in
    let queue : c.reserve.new.self.queue ≡ c.args.queue = ap (λ (t : Table). t.queue) c.in_ok-reserve.ensures.same ∙ ap (λ (t : Table). t.queue) c.in_ok-table.ensures in
    let tables : c.push_within.new.tables.items ≡ c.self.inside.tables.items ++ c.reserve.new.self ∷ [] = c.push_within.ensures ∙ ap (λ (ts : List Table). ts ++ c.reserve.new.self ∷ []) c.in_ok-reserve-2.ensures.items in
    numbered_push c.self.inside.tables.items c.push_within.new.tables.items c.self.inside.numbers c.set_number.new.numbers c.reserve.new.self c.args.topic.now c.args.queue c.in-Ok.number
    topic queue number tables c.self.invariant absent c.in_ok-set_number.ensures.kept

pub returns-clause-number : goal.returns-clause-number
returns-clause-number c =
    let absent = ap (λ (ts : List Table). number_of ts c.args.topic.now c.args.queue) c.self.view_is ∙ c.requires.absent in
    let number : c.in-Ok.number ≡ length c.self.inside.tables.items = search rules in
    let topic : c.reserve.new.self.topic ≡ c.args.topic.now = ap (λ (t : Table). t.topic) c.in_ok-reserve.ensures.same ∙ ap (λ (t : Table). t.topic) c.in_ok-table.ensures in
    let queue : c.reserve.new.self.queue ≡ c.args.queue = ap (λ (t : Table). t.queue) c.in_ok-reserve.ensures.same ∙ ap (λ (t : Table). t.queue) c.in_ok-table.ensures in
    let tables : c.push_within.new.tables.items ≡ c.self.inside.tables.items ++ c.reserve.new.self ∷ [] = c.push_within.ensures ∙ ap (λ (ts : List Table). ts ++ c.reserve.new.self ∷ []) c.in_ok-reserve-2.ensures.items in
    number_of-push c.self.inside.tables.items c.push_within.new.tables.items c.reserve.new.self c.args.topic.now c.args.queue c.in-Ok.number topic queue number tables absent
