use Rattle.std.proofs.Common.{◌∙◌, ◌≤◌, refl, ap, subst, ℕ, List, length}
use Rattle.core_log.specs.Appends.{key_count}
use Rattle.core_log.proofs.AppendLemmas.{represents_roomier, room_for}
use Rattle.core_log.proofs.TableLemmas.{numbers_kept}
use Rattle.core_log.proofs.parts.Parts.make_ready.Goals as goal

pub returns-in_err-reserve-clause-stays : goal.returns-in_err-reserve-clause-stays
returns-in_err-reserve-clause-stays c s are =
    let old = c.args.self.now in
    represents_roomier old old.rows old.queues c.reserve.new.self s are refl refl (λ topic queue k is. is) (λ low added n tables. tables) c.reserve.ensures.entries

pub returns-in_err-reserve-2-clause-stays : goal.returns-in_err-reserve-2-clause-stays
returns-in_err-reserve-2-clause-stays c s are =
    let old = c.args.self.now in
    represents_roomier old c.reserve-2.new.self old.queues c.reserve.new.self s are c.reserve-2.ensures.first c.reserve-2.ensures.items (λ topic queue k is. is) (λ low added n tables. tables)
    c.reserve.ensures.entries

pub returns-clause-room : goal.returns-clause-room
returns-clause-room c =
    let d = c.args.draft.now in
    let keys : key_count d ≤ c.reserve.new.self.spare =
    subst (λ (n : ℕ). n ≤ c.reserve.new.self.spare) (c.count.ensures ∙ ap (λ (hashes : List ℕ). length hashes) c.of_draft.ensures) c.in_ok-reserve.ensures.spare in
    room_for _ c.args.self.now.queues d c.as_str.result.now d.queue c.reserve-3.result c.in_ok-reserve-2.ensures.spare keys c.reserve-3.ensures.there c.reserve-3.ensures.absent c.reserve-3.ensures.number

pub returns-clause-stays : goal.returns-clause-stays
returns-clause-stays c s are =
    represents_roomier c.args.self.now c.reserve-2.new.self c.reserve-3.new.self c.reserve.new.self s are c.reserve-2.ensures.first c.reserve-2.ensures.items
    (numbers_kept c.reserve-3.result c.args.self.now.queues c.reserve-3.new.self c.as_str.result.now c.args.draft.now.queue c.reserve-3.ensures.there c.reserve-3.ensures.absent c.reserve-3.ensures.same)
    c.reserve-3.ensures.records c.reserve.ensures.entries
