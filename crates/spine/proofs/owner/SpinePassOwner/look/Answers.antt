use Rattle.std.proofs.Common.{refl, sym, ◌∙◌, subst}
use Rattle.broker_core.specs.Makes.{MakesStep}
use Rattle.broker_core.specs.Owner.{plain_look}
use Rattle.story_lock.specs.Passes.{Finds, history_of, start_of}
use Rattle.spine.specs.declared.shared.Shared.{Shared}
use Rattle.spine.specs.Stands.{Stands}
use Rattle.spine.proofs.Runs.{stands_snoc}
use Rattle.spine.proofs.Looking.{sees_by}
use Rattle.spine.proofs.owner.SpinePassOwner.look.Goals as goal

pub end-requires-clause-represented : goal.end-requires-clause-represented
end-requires-clause-represented g c =
    let read = c.step_and_read-said in
    let step = subst (λ (x : Shared). MakesStep x.core plain_look read.result.0 read.new.self.core) c.state.ensures.value read.ensures.step in
    rw c.enter-turn.ensures.story (stands_snoc _ _ _ _ _ _ c.enter-turn.ensures.finds.represented step)

pub returns : goal.returns
returns g c =
    let read = c.step_and_read-said in
    let there = sym c.take.ensures.value ∙ c.in-Some.is in
    let start = start_of c.args.self.now.spine.now.story in
    let after = read.new.self in
    let finds = subst (λ s. Finds s c.in-Some.pass (history_of c.enter-turn.result) c.enter-turn.result.state) (sym c.enter-turn.ensures.story) c.enter-turn.ensures.finds in
    let step = subst (λ (x : Shared). MakesStep x.core plain_look read.result.0 after.core) c.state.ensures.value read.ensures.step in
    let stands = stands_snoc start.core _ after.core (history_of c.enter-turn.result) plain_look read.result.0 c.enter-turn.ensures.finds.represented step in
    let seen = subst (λ h. Stands start.core h after.core) (sym c.end.ensures.seen) stands in (
      after.core,
      (sees_by (λ z. z.pass) start _ after.core _ read.result.0 (c.in-Some.pass, c.end.result, there, refl, c.end.ensures.adds c.in-Some.pass c.enter-turn.result.state finds c.enter-turn.ensures.turn) read.ensures.fits seen, refl),
      read.ensures.read,
    )
