use Rattle.std.proofs.Common.{◌≡◌, IfSome, refl, ap, sym, ◌∙◌, subst, arith, ℕ, List, true}
use Rattle.broker_events.specs.declared.event.Event.{Event}
use Rattle.broker_events.specs.declared.event.Event.TheVariants.{Request, Take, Flushed, FlushFailed, Look, Dispatch, Deliver, Check, Leave}
use Rattle.broker_events.specs.Steps.{IsKeyed}
use Rattle.broker_events.specs.Shown.{Accepts}
use Rattle.broker_core.specs.Makes.{MakesStep}
use Rattle.core_log.specs.Shows.{shown_of}
use Rattle.story_lock.specs.Counts.{times}
use Rattle.story_lock.specs.Passes.{IsPassOf, HasSeat, HasKey, Finds, history_of}
use Rattle.spine.specs.declared.shared.Shared.{Shared}
use Rattle.spine.specs.Entries.{is_keyed}
use Rattle.spine.specs.Seen.{shown_by}
use Rattle.spine.proofs.Runs.{stands_snoc}
use Rattle.spine.proofs.AtTurn.{accepts_at_turn}
use Rattle.spine.proofs.pass.SpinePass.turn.Goals as goal

pub step-said-requires : goal.step-said-requires
step-said-requires g c =
    let story = c.args.self.now.spine.now.story in
    let there = sym c.take.ensures.value ∙ c.in-Some.is in
    let of = subst (λ o. IfSome o (λ p. IsPassOf story p × HasSeat p)) there c.args.self.now.of in
    let finds = c.enter-turn.ensures.finds in record {
      accepted = subst (λ (x : Shared). Accepts (shown_of x.core) c.args.event.now) (sym c.state.ensures.value)
          (accepts_at_turn (λ e a. refl) story c.in-Some.pass _ c.enter-turn.result.state c.args.event.now of.0 finds finds.represented
          (λ is. subst (λ o. IfSome o (λ p. HasKey p)) there (c.requires.key is))
          (subst (λ o. Accepts (shown_by o) c.args.event.now) there c.requires.accepted));
    }

keyed_event : (e : Event) → is_keyed e ≡ true → IsKeyed e
keyed_event (Request link host now request) is = absurd (cc)
keyed_event Take is = tt
keyed_event (Flushed receipt) is = tt
keyed_event (FlushFailed count) is = tt
keyed_event (Look number turn) is = absurd (cc)
keyed_event (Dispatch most) is = absurd (cc)
keyed_event (Deliver now) is = absurd (cc)
keyed_event (Check now) is = absurd (cc)
keyed_event (Leave link) is = absurd (cc)

pub end-requires-clause-key : goal.end-requires-clause-key
end-requires-clause-key g c is =
    let there = sym c.take.ensures.value ∙ c.in-Some.is in
    let has = subst (λ o. IfSome o (λ p. HasKey p)) there (c.requires.key (keyed_event c.args.event.now is)) in
    let same = ap (λ (numbers : List ℕ). times 0 numbers) c.enter-turn.ensures.turn.3 in
    omega (arith, has, same)

pub end-requires-clause-represented : goal.end-requires-clause-represented
end-requires-clause-represented g c =
    let step = subst (λ (x : Shared). MakesStep x.core c.args.event.now c.step-said.result c.step-said.new.self.core) c.state.ensures.value c.step-said.ensures.step in
    rw c.enter-turn.ensures.story (stands_snoc _ _ _ _ _ _ c.enter-turn.ensures.finds.represented step)

pub returns-clause-makes : goal.returns-clause-makes
returns-clause-makes g c =
    let there = sym c.take.ensures.value ∙ c.in-Some.is in
    let finds = subst (λ s. Finds s c.in-Some.pass (history_of c.enter-turn.result) c.enter-turn.result.state) (sym c.enter-turn.ensures.story) c.enter-turn.ensures.finds in
    (c.in-Some.pass, c.end.result, there, refl, c.end.ensures.adds c.in-Some.pass c.enter-turn.result.state finds c.enter-turn.ensures.turn)
