use Rattle.std.proofs.Common.{◌≡◌, ◌∙◌, ap, sym, subst, Some}
use Rattle.pending_log.specs.Parts.{PendingPart, part_of}
use Rattle.pending_log.specs.Pending.{HasTaken}
use Rattle.pending_log.proofs.PendingLemmas.{has_taken}
use Rattle.pending_log.proofs.pending.Pending.take.Goals as goal

pub returns-clause-turn : goal.returns-clause-turn
returns-clause-turn c =
    let p : PendingPart = part_of c.self-2.inside in
    let same : p ≡ c.args.self.now = c.self-2.view_is ∙ c.in_ok-out.ensures.same in
    let next = c.in_ok-out.ensures.next c.requires.0 c.requires.1 c.requires.2 c.requires.3 in
    let held = next.held ∙ ap (λ (q : PendingPart). q.count) (sym same) in
    subst (λ (q : PendingPart). HasTaken q c.in_ok-batch.batch (record p { out = Some (record { batch = c.in_ok-out.out.batch; held = c.in_ok-out.out.held; end = c.in_ok-out.out.end }); turns = c.saturating_add-self-inside.result })) same
    (has_taken p c.in_ok-batch.batch c.in_ok-out.out c.saturating_add-self-inside.result c.in_ok-batch.ensures held c.saturating_add-self-inside.ensures)
