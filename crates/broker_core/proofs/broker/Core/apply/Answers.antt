use Rattle.std.proofs.Common.{◌≡◌, ◌∙◌, ap, sym, subst, refl, Some, Result, IfOk}
use Rattle.std.specs.declared.alloc.AllocError.{AllocError}
use Rattle.broker_events.specs.declared.said.Said.{Said}
use Rattle.broker_events.specs.declared.event.Event.{Event}
use Rattle.broker_events.specs.declared.event.Event.TheVariants.{Take, Flushed, FlushFailed, Look, Dispatch, Leave}
use Rattle.broker_events.specs.declared.said.Said.TheVariants as said
use Rattle.broker_events.specs.Shown.{Accepts, moved}
use Rattle.broker_events.specs.Steps.{IsAnswerTo, said_in}
use Rattle.core_log.specs.declared.parts.Parts.{Parts}
use Rattle.core_log.specs.Represents.{Represents}
use Rattle.broker_core.specs.Makes.{Makes}
use Rattle.core_log.specs.Shows.{shown_of}
use Rattle.broker_core.proofs.SaidLemmas.{request_says, delivery_says, check_says}
use Rattle.broker_core.proofs.ShownLemmas.{request_shown, delivery_shown, check_shown}
use Rattle.broker_core.proofs.StepLemmas.{made, unmade, request_made, delivery_made, check_made, take_made, take_state, flush_possible, failure_possible}
use Rattle.broker_core.proofs.broker.Core.apply.Goals as goal
use Rattle.broker_core.proofs.broker.Core.apply.Goals.{in-Ok, in-Err}

pub invariant_of-self : goal.invariant_of-self
invariant_of-self c =
    let i = c.in-Request in
    let makes = request_made c.self.inside.parts c.request.new.parts c.self.invariant.0 i.link i.host i.now i.request c.request.result c.request.ensures.carries c.request.ensures.stays c.self.invariant.1 in
    (makes.reached, makes.represents)

pub invariant_of-self-in-Take : goal.invariant_of-self-in-Take
invariant_of-self-in-Take c = take_state c.self.inside.parts c.take.new.self c.take.result c.take.ensures.carries c.take.ensures.stays c.self.invariant

pub invariant_of-self-in-Dispatch : goal.invariant_of-self-in-Dispatch
invariant_of-self-in-Dispatch c = (_, (c.dispatch.ensures.carries c.self.invariant.0 c.self.invariant.1).1)

pub invariant_of-self-in-Deliver : goal.invariant_of-self-in-Deliver
invariant_of-self-in-Deliver c =
    let makes = delivery_made c.self.inside.parts c.deliver.new.parts c.self.invariant.0 c.in-Deliver.now c.deliver.result c.deliver.ensures.carries c.deliver.ensures.stays c.self.invariant.1 in
    (makes.reached, makes.represents)

pub invariant_of-self-in-Check : goal.invariant_of-self-in-Check
invariant_of-self-in-Check c =
    let makes = check_made c.self.inside.parts c.check.new.parts c.self.invariant.0 c.in-Check.now c.check.result c.check.ensures.carries c.check.ensures.stays c.self.invariant.1 in
    (makes.reached, makes.represents)

pub invariant_of-self-in-Leave : goal.invariant_of-self-in-Leave
invariant_of-self-in-Leave c = (_, (c.leave.ensures.carries c.self.invariant.0 c.self.invariant.1).1)

pub returns-in-Request-clause-step : goal.returns-in-Request-clause-step
returns-in-Request-clause-step c s are =
    let i = c.in-Request in
    let before = subst (λ (p : Parts). Represents p s) (sym c.self.view_is) are in
    subst (λ (e : Event). Makes s e (said_in c.request.result) c.request.new.parts) (sym i.is)
    (request_made c.self.inside.parts c.request.new.parts s i.link i.host i.now i.request c.request.result c.request.ensures.carries c.request.ensures.stays before)

pub returns-after-take-clause-step : goal.returns-after-take-clause-step
returns-after-take-clause-step c s are =
    let before = subst (λ (p : Parts). Represents p s) (sym c.self.view_is) are in
    subst (λ (e : Event). Makes s e (said_in c.match-take.result) c.take.new.self) (sym c.in-Take.is)
    (elim c.match-take.branch [
      | in-Ok w ↦ subst (λ (r : Result Said AllocError). Makes s Take (said_in r) c.take.new.self) (sym w.result-is) (take_made c.self.inside.parts c.take.new.self s w.in-Ok.batch w.in-Ok.ensures.carries before)
      | in-Err w ↦ subst (λ (r : Result Said AllocError). Makes s Take (said_in r) c.take.new.self) (sym w.result-is) (unmade s Take c.take.new.self tt (w.in-Err.ensures.stays s before))
    ])

pub returns-in-Flushed-clause-step : goal.returns-in-Flushed-clause-step
returns-in-Flushed-clause-step c s are =
    let i = c.in-Flushed in
    let before = subst (λ (p : Parts). Represents p s) (sym c.self.view_is) are in
    let accepted = subst (λ (e : Event). Accepts (shown_of c.args.self.now) e) i.is c.requires.accepted in
    subst (λ (e : Event). Makes s e (Some said.Done) c.flushed.new.self) (sym i.is)
    (made s (Flushed i.receipt) said.Done c.flushed.new.self (flush_possible c.args.self.now s i.receipt are accepted) (c.flushed.ensures.carries s before))

pub returns-in-FlushFailed-clause-step : goal.returns-in-FlushFailed-clause-step
returns-in-FlushFailed-clause-step c s are =
    let i = c.in-FlushFailed in
    let before = subst (λ (p : Parts). Represents p s) (sym c.self.view_is) are in
    let accepted = subst (λ (e : Event). Accepts (shown_of c.args.self.now) e) i.is c.requires.accepted in
    subst (λ (e : Event). Makes s e (Some said.Done) c.flush_failed.new.self) (sym i.is)
    (made s (FlushFailed i.count) said.Done c.flush_failed.new.self (failure_possible c.args.self.now s i.count are accepted) (c.flush_failed.ensures.carries s before))

pub returns-in-Look-clause-step : goal.returns-in-Look-clause-step
returns-in-Look-clause-step c s are =
    let i = c.in-Look in
    let before = subst (λ (p : Parts). Represents p s) (sym c.self.view_is) are in
    let after = (c.look.ensures s before) in
    subst (λ (e : Event). Makes s e (Some (said.Awaited c.look.result)) c.args.self.now) (sym i.is)
    (subst (λ (p : Parts). Makes s (Look i.number i.turn) (Some (said.Awaited c.look.result)) p) c.self.view_is
    (made s (Look i.number i.turn) (said.Awaited c.look.result) c.self.inside.parts tt after))

pub returns-in-Dispatch-clause-step : goal.returns-in-Dispatch-clause-step
returns-in-Dispatch-clause-step c s are =
    let i = c.in-Dispatch in
    let before = subst (λ (p : Parts). Represents p s) (sym c.self.view_is) are in
    subst (λ (e : Event). Makes s e (Some (said.Moved c.dispatch.result)) c.dispatch.new.self) (sym i.is)
    (made s (Dispatch i.most) (said.Moved c.dispatch.result) c.dispatch.new.self tt (c.dispatch.ensures.carries s before))

pub returns-in-Leave-clause-step : goal.returns-in-Leave-clause-step
returns-in-Leave-clause-step c s are =
    let i = c.in-Leave in
    let before = subst (λ (p : Parts). Represents p s) (sym c.self.view_is) are in
    subst (λ (e : Event). Makes s e (Some said.Done) c.leave.new.parts) (sym i.is)
    (made s (Leave i.link) said.Done c.leave.new.parts tt (c.leave.ensures.carries s before))

pub returns-in-Request-clause-shown : goal.returns-in-Request-clause-shown
returns-in-Request-clause-shown c =
    let i = c.in-Request in
    subst (λ (e : Event). shown_of c.request.new.parts ≡ moved (shown_of c.args.self.now) e (said_in c.request.result)) (sym i.is)
    (request_shown c.self.inside.parts c.request.new.parts i.link i.host i.now i.request c.request.result c.request.ensures.carries c.request.ensures.stays c.self.invariant
    ∙ ap (λ (p : Parts). shown_of p) c.self.view_is)

pub returns-in-Request-clause-answer : goal.returns-in-Request-clause-answer
returns-in-Request-clause-answer c =
    let i = c.in-Request in
    let accepted = subst (λ (e : Event). Accepts (shown_of c.args.self.now) e) i.is c.requires.accepted in
    subst (λ (e : Event). IfOk c.request.result (IsAnswerTo e)) (sym i.is)
    (request_says c.self.inside.parts c.request.new.parts i.link i.host i.now i.request c.request.result accepted.1 c.request.ensures.carries c.self.invariant)

pub returns-after-take-clause-answer : goal.returns-after-take-clause-answer
returns-after-take-clause-answer c =
    subst (λ (e : Event). IfOk c.match-take.result (IsAnswerTo e)) (sym c.in-Take.is)
    (elim c.match-take.branch [
      | in-Ok w ↦ subst (λ (r : Result Said AllocError). IfOk r (IsAnswerTo Take)) (sym w.result-is) (w.in-Ok.batch, refl)
      | in-Err w ↦ subst (λ (r : Result Said AllocError). IfOk r (IsAnswerTo Take)) (sym w.result-is) tt
    ])

pub returns-in-Flushed-clause-answer : goal.returns-in-Flushed-clause-answer
returns-in-Flushed-clause-answer c = subst (λ (e : Event). IsAnswerTo e said.Done) (sym c.in-Flushed.is) refl

pub returns-in-FlushFailed-clause-answer : goal.returns-in-FlushFailed-clause-answer
returns-in-FlushFailed-clause-answer c = subst (λ (e : Event). IsAnswerTo e said.Done) (sym c.in-FlushFailed.is) refl

pub returns-in-Look-clause-answer : goal.returns-in-Look-clause-answer
returns-in-Look-clause-answer c = subst (λ (e : Event). IsAnswerTo e (said.Awaited c.look.result)) (sym c.in-Look.is) (c.look.result, refl)

pub returns-in-Dispatch-clause-answer : goal.returns-in-Dispatch-clause-answer
returns-in-Dispatch-clause-answer c = subst (λ (e : Event). IsAnswerTo e (said.Moved c.dispatch.result)) (sym c.in-Dispatch.is) (c.dispatch.result, refl)

pub returns-in-Leave-clause-answer : goal.returns-in-Leave-clause-answer
returns-in-Leave-clause-answer c = subst (λ (e : Event). IsAnswerTo e said.Done) (sym c.in-Leave.is) refl

pub returns-in-Deliver-clause-step : goal.returns-in-Deliver-clause-step
returns-in-Deliver-clause-step c s are =
    let i = c.in-Deliver in
    let before = subst (λ (p : Parts). Represents p s) (sym c.self.view_is) are in
    subst (λ (e : Event). Makes s e (said_in c.deliver.result) c.deliver.new.parts) (sym i.is)
    (delivery_made c.self.inside.parts c.deliver.new.parts s i.now c.deliver.result c.deliver.ensures.carries c.deliver.ensures.stays before)

pub returns-in-Deliver-clause-shown : goal.returns-in-Deliver-clause-shown
returns-in-Deliver-clause-shown c =
    let i = c.in-Deliver in
    subst (λ (e : Event). shown_of c.deliver.new.parts ≡ moved (shown_of c.args.self.now) e (said_in c.deliver.result)) (sym i.is)
    (delivery_shown c.self.inside.parts c.deliver.new.parts i.now c.deliver.result c.deliver.ensures.carries c.deliver.ensures.stays c.self.invariant
    ∙ ap (λ (p : Parts). shown_of p) c.self.view_is)

pub returns-in-Deliver-clause-answer : goal.returns-in-Deliver-clause-answer
returns-in-Deliver-clause-answer c =
    let i = c.in-Deliver in
    subst (λ (e : Event). IfOk c.deliver.result (IsAnswerTo e)) (sym i.is)
    (delivery_says c.self.inside.parts c.deliver.new.parts i.now c.deliver.result c.deliver.ensures.carries c.self.invariant)

pub returns-in-Check-clause-step : goal.returns-in-Check-clause-step
returns-in-Check-clause-step c s are =
    let i = c.in-Check in
    let before = subst (λ (p : Parts). Represents p s) (sym c.self.view_is) are in
    subst (λ (e : Event). Makes s e (said_in c.check.result) c.check.new.parts) (sym i.is)
    (check_made c.self.inside.parts c.check.new.parts s i.now c.check.result c.check.ensures.carries c.check.ensures.stays before)

pub returns-in-Check-clause-shown : goal.returns-in-Check-clause-shown
returns-in-Check-clause-shown c =
    let i = c.in-Check in
    subst (λ (e : Event). shown_of c.check.new.parts ≡ moved (shown_of c.args.self.now) e (said_in c.check.result)) (sym i.is)
    (check_shown c.self.inside.parts c.check.new.parts i.now c.check.result c.check.ensures.carries c.check.ensures.stays c.self.invariant
    ∙ ap (λ (p : Parts). shown_of p) c.self.view_is)

pub returns-in-Check-clause-answer : goal.returns-in-Check-clause-answer
returns-in-Check-clause-answer c =
    let i = c.in-Check in
    subst (λ (e : Event). IfOk c.check.result (IsAnswerTo e)) (sym i.is)
    (check_says c.self.inside.parts c.check.new.parts i.now c.check.result c.check.ensures.carries c.self.invariant)
