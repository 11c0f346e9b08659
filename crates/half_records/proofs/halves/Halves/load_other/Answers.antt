use Rattle.std.proofs.Common.{◌≡◌, ◌∙◌, ◌∷◌, [], ℕ, Option, sym, ap, subst}
use Rattle.log_model.specs.declared.origin.OriginState.TheVariants.{Committed, RolledBack, Discarded}
use Rattle.log_model.specs.Numbered.{count_of, with_appended}
use Rattle.half_view.specs.Halves.{HalfTable, with_settled}
use Rattle.half_view.specs.OfLog.{AreHalvesOf, committed_by, rolled_back_by, with_settlement}
use Rattle.half_view.proofs.DueLemmas.{places_rise}
use Rattle.half_view.proofs.GrowthLemmas.{others_follow}
use Rattle.half_records.proofs.HalvesLemmas.{has_with, keeps}
use Rattle.half_records.proofs.halves.Halves.load_other.Goals as goal

pub returns : goal.returns
returns c segment log well follows number has other =
    let r = c.args.view.now in
    let old = c.args.self.now in
    let t = old.view in
    let n = c.args.number in
    let rise = places_rise segment log t well has.view in
    let new = c.settle_kept-3.new.self in
    let kept = c.settle_kept-3.ensures.families log (c.settle_kept-2.ensures.families log (c.settle_kept.ensures.families log (keeps segment log well old has))) in
    let view : new.view ≡ with_settlement t r (count_of log) =
    c.settle_kept-3.ensures.view
    ∙ ap (λ (x : HalfTable). with_settled x c.discarded-discarded.result Discarded n) c.settle_kept-2.ensures.view
    ∙ ap (λ (x : HalfTable). with_settled (with_settled x c.committed-committed.result Committed n) c.discarded-discarded.result Discarded n) c.settle_kept.ensures.view
    ∙ ap (λ (o : Option ℕ). with_settled (with_settled (with_settled t o RolledBack n) c.committed-committed.result Committed n) c.discarded-discarded.result Discarded n) c.rolled_back.ensures
    ∙ ap (λ (o : Option ℕ). with_settled (with_settled (with_settled t (rolled_back_by r) RolledBack n) o Committed n) c.discarded-discarded.result Discarded n) (c.committed-committed.ensures rise)
    ∙ ap (λ (o : Option ℕ). with_settled (with_settled (with_settled t (rolled_back_by r) RolledBack n) (committed_by t r) Committed n) o Discarded n) (c.discarded-discarded.ensures rise)
    ∙ ap (λ (m : ℕ). with_settlement t r m) number in
    has_with segment log well r other new kept
    (subst (λ (x : HalfTable). AreHalvesOf (with_appended log (r ∷ [])) x) (sym view) (others_follow segment log r t well follows has.view other))
