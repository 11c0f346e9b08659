use Rattle.std.proofs.Common.{◌≡◌, ◌∙◌, ◌∷◌, [], ℕ, codes, true, false, bytes_eq, List, Option, subst, sym, ap}
use Rattle.record_codec.specs.Props.{value_of}
use Rattle.log_model.specs.Admissible.{half_topic, number_at}
use Rattle.log_model.specs.Kinds.{is_half, origin_text}
use Rattle.log_model.specs.Numbered.{with_appended}
use Rattle.half_view.specs.Halves.{HalfTable, with_half}
use Rattle.half_view.specs.OfLog.{AreHalvesOf, named_by, with_settlement}
use Rattle.half_view.proofs.NumberLemmas.{renewal_read}
use Rattle.half_view.proofs.GrowthLemmas.{half_follows, others_follow}
use Rattle.half_view.proofs.DueLemmas.{places_rise}
use Rattle.half_view.proofs.view.HalfView.add_head.Goals as goal

pub returns-then-is_half_topic-clause-records : goal.returns-then-is_half_topic-clause-records
returns-then-is_half_topic-clause-records c segment log r head well follows number are =
    let t = c.args.self.now in
    let spare = c.add_half.new.self.spare in
    let is : is_half r ≡ true = sym (ap (λ (topic : List ℕ). bytes_eq topic half_topic) (c.as_str.ensures.value ∙ head.topic))
    ∙ sym c.is_half_topic.ensures ∙ c.if-is_half_topic.true in
    let named = c.named_half.ensures
    ∙ ap (λ (props : List (List ℕ × List ℕ)). number_at (value_of (codes "TRAN_PREPARED_QUEUE_OFFSET") props)) head.props
    ∙ renewal_read (origin_text r) follows.admissible.renewal in
    let made = c.add_half.ensures.table
    ∙ ap (λ (o : Option ℕ). with_half t o c.args.head.now.place c.args.head.now.store spare) named
    ∙ ap (λ (n : ℕ). with_half t (named_by r) n c.args.head.now.store spare) head.place
    ∙ ap (λ (n : ℕ). with_half t (named_by r) r.offset n spare) head.store in
    subst (λ (x : HalfTable). AreHalvesOf (with_appended log (r ∷ [])) x) (sym made) (half_follows segment log r t well follows are is spare)

pub returns-clause-records : goal.returns-clause-records
returns-clause-records c segment log r head well follows number are =
    let t = c.args.self.now in
    let is : is_half r ≡ false = sym (ap (λ (topic : List ℕ). bytes_eq topic half_topic) (c.as_str.ensures.value ∙ head.topic))
    ∙ sym c.is_half_topic.ensures ∙ c.if-is_half_topic.false in
    let made = c.settle_by_head.ensures.table r head (places_rise segment log t well are) ∙ ap (λ (n : ℕ). with_settlement t r n) number in
    subst (λ (x : HalfTable). AreHalvesOf (with_appended log (r ∷ [])) x) (sym made) (others_follow segment log r t well follows are is)
