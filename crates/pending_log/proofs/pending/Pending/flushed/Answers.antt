use Rattle.std.proofs.Common.{◌≡◌, ◌∙◌, ap, sym, subst, arith, drop, Some}
use Rattle.pending_log.specs.Parts.{PendingPart, part_of}
use Rattle.pending_log.specs.Pending.{IsPendingOf}
use Rattle.pending_log.proofs.PendingLemmas.{out_short, flushed_log, receipt_count}
use Rattle.pending_log.proofs.pending.Pending.flushed.Goals as goal

pub drop_front-requires : goal.drop_front-requires
drop_front-requires c =
    let i = c.self.inside in
    let p : PendingPart = part_of i in
    let short = out_short c.requires.some.0 p c.in-Some.out (subst (λ (q : PendingPart). IsPendingOf c.requires.some.0 q) (sym c.self.view_is) c.requires.some.1) (sym c.take.ensures.value ∙ c.in-Some.is) in
    let long = c.len.ensures.value in
    omega (arith, short, long)

pub returns-clause-log : goal.returns-clause-log
returns-clause-log c log are =
    let i = c.self.inside in
    let p : PendingPart = part_of i in
    let is : p.out ≡ Some c.in-Some.out = sym c.take.ensures.value ∙ c.in-Some.is in
    let told : c.args.self.now.out ≡ Some c.in-Some.out = ap (λ (q : PendingPart). q.out) (sym c.self.view_is) ∙ is in
    flushed_log log p c.in-Some.out c.args.receipt.now.count c.drop_front.new.self c.take.new.self (subst (λ (q : PendingPart). IsPendingOf log q) (sym c.self.view_is) are) is
    (receipt_count c.args.self.now.out c.in-Some.out c.args.receipt.now told c.requires.receipt)
    (c.drop_front.ensures ∙ ap (λ n. drop n i.buffer) c.len.ensures.value) c.take.ensures.after
