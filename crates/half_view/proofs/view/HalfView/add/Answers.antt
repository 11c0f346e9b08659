use Rattle.std.proofs.Common.{◌≡◌, ◌∙◌, ◌∷◌, [], ℕ, true, false, Option, subst, sym, ap}
use Rattle.log_model.specs.Kinds.{is_half, origin_text}
use Rattle.log_model.specs.Numbered.{with_appended}
use Rattle.half_view.specs.Halves.{HalfTable, with_half}
use Rattle.half_view.specs.OfLog.{AreHalvesOf, named_by, with_settlement}
use Rattle.half_view.proofs.NumberLemmas.{renewal_read}
use Rattle.half_view.proofs.GrowthLemmas.{half_follows, others_follow}
use Rattle.half_view.proofs.DueLemmas.{places_rise}
use Rattle.half_view.proofs.view.HalfView.add.Goals as goal

pub returns-then-is_half-clause-records : goal.returns-then-is_half-clause-records
returns-then-is_half-clause-records c segment log well follows number are =
    let r = c.args.view.now in
    let t = c.args.self.now in
    let is : is_half r ≡ true = sym c.is_half.ensures ∙ c.if-is_half.true in
    let made = c.add_half.ensures.table
    ∙ ap (λ (o : Option ℕ). with_half t o c.offset.result c.store.result c.add_half.new.self.spare) (c.named_half.ensures ∙ renewal_read (origin_text r) follows.admissible.renewal)
    ∙ ap (λ (n : ℕ). with_half t (named_by r) n c.store.result c.add_half.new.self.spare) c.offset.ensures.value
    ∙ ap (λ (n : ℕ). with_half t (named_by r) r.offset n c.add_half.new.self.spare) c.store.ensures.value in
    subst (λ (x : HalfTable). AreHalvesOf (with_appended log (r ∷ [])) x) (sym made) (half_follows segment log r t well follows are is c.add_half.new.self.spare)

pub returns-clause-records : goal.returns-clause-records
returns-clause-records c segment log well follows number are =
    let r = c.args.view.now in
    let t = c.args.self.now in
    let is : is_half r ≡ false = sym c.is_half.ensures ∙ c.if-is_half.false in
    let made = c.settle_by.ensures.table (places_rise segment log t well are) ∙ ap (λ (n : ℕ). with_settlement t r n) number in
    subst (λ (x : HalfTable). AreHalvesOf (with_appended log (r ∷ [])) x) (sym made) (others_follow segment log r t well follows are is)
