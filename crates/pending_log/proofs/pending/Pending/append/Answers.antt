use Rattle.std.proofs.Common.{◌≡◌, ◌∙◌, ap, sym, subst, arith, length, ◌+◌, ◌-◌, ◌∷◌, [], ◌≤◌}
use Rattle.record_codec.specs.Drafts.{entry_of, draft_size}
use Rattle.record_codec.specs.Entry.{Entry}
use Rattle.log_model.specs.Log.{place_after}
use Rattle.log_model.specs.Numbered.{with_appended}
use Rattle.pending_log.specs.Parts.{PendingPart, part_of, appended}
use Rattle.pending_log.specs.Pending.{IsPendingOf}
use Rattle.pending_log.proofs.PendingLemmas.{grown_by, bounded_appended, appended_is, pending_appended}
use Rattle.pending_log.proofs.pending.Pending.append.Goals as goal

pub overflow_add-self-2 : goal.overflow_add-self-2
overflow_add-self-2 c =
    let r : Entry = entry_of c.args.draft.now c.args.place.now in
    let grown = grown_by c.self.inside.buffer c.append.new.self r c.in_ok-append.ensures.ok in
    let before = c.len-before.ensures in let after = c.len.ensures in let low = c.requires.low in
    omega (arith, grown, before, after, low)

pub invariant_of-self-2 : goal.invariant_of-self-2
invariant_of-self-2 c =
    let i = c.self.inside in
    let p : PendingPart = part_of i in
    let r : Entry = entry_of c.args.draft.now c.args.place.now in
    let grown = grown_by i.buffer c.append.new.self r c.in_ok-append.ensures.ok in
    let before = c.len-before.ensures in let after = c.len.ensures in
    bounded_appended p r c.append.new.self (c.args.place.now.offset + (c.len.result - c.len-before.result)) c.self.invariant
    (subst (λ (q : PendingPart). c.args.place.now.offset ≡ place_after q.segment q.end (draft_size c.args.draft.now)) (sym c.self.view_is) c.requires.next) c.requires.low
    (subst (λ (q : PendingPart). length q.bytes + draft_size c.args.draft.now ≤ 67108864) (sym c.self.view_is) c.requires.room) c.in_ok-append.ensures.ok
    (omega (arith, grown, before, after))

pub returns-clause-appended : goal.returns-clause-appended
returns-clause-appended c =
    let i = c.self.inside in
    let p : PendingPart = part_of i in
    let r : Entry = entry_of c.args.draft.now c.args.place.now in
    let grown = grown_by i.buffer c.append.new.self r c.in_ok-append.ensures.ok in
    let before = c.len-before.ensures in let after = c.len.ensures in
    appended_is p r c.append.new.self (c.args.place.now.offset + (c.len.result - c.len-before.result)) c.in_ok-append.ensures.ok (omega (arith, grown, before, after))
    ∙ ap (λ (q : PendingPart). appended q r) c.self.view_is

pub returns-clause-log : goal.returns-clause-log
returns-clause-log c log are =
    let i = c.self.inside in
    let p : PendingPart = part_of i in
    let r : Entry = entry_of c.args.draft.now c.args.place.now in
    let grown = grown_by i.buffer c.append.new.self r c.in_ok-append.ensures.ok in
    let before = c.len-before.ensures in let after = c.len.ensures in
    let same = appended_is p r c.append.new.self (c.args.place.now.offset + (c.len.result - c.len-before.result)) c.in_ok-append.ensures.ok (omega (arith, grown, before, after)) in
    subst (λ (q : PendingPart). IsPendingOf (with_appended log (r ∷ [])) q) (sym same) (pending_appended log p r (subst (λ (q : PendingPart). IsPendingOf log q) (sym c.self.view_is) are))
