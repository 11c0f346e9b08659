use Rattle.std.proofs.Common.{◌≡◌, ◌∙◌, ℕ, Option, Some, None, IfSome, option_map, sym, subst, refl}
use Rattle.std.specs.Prelude.{IsSome}
use Rattle.half_view.specs.declared.check.Check.{Check}
use Rattle.half_view.specs.OfLog.{check_of, due_origin}
use Rattle.half_view.proofs.DueLemmas.{due_is}
use Rattle.half_view.proofs.view.HalfView.next_due.Goals as goal

none_mapped : {A B : Type 0} (f : A → B) (o : Option A) → option_map f o ≡ None → o ≡ None
none_mapped f None is = refl
none_mapped f (Some x) is = cc is

some_mapped : {A B : Type 0} (f : A → B) (o : Option A) → IsSome (option_map f o) → IsSome o
some_mapped f None is = is
some_mapped f (Some x) is = refl

at_some : (o : Option ℕ) (P Q : ℕ → Type 0) → ((n : ℕ) → P n → Q n) → IfSome o P → IfSome o Q
at_some None P Q goes is = tt
at_some (Some n) P Q goes is = goes n is

pub returns-clause-records : goal.returns-clause-records
returns-clause-records c segment log well are now early =
    none_mapped (check_of log.records) (due_origin log.records now) (sym (due_is segment log c.args.self.now well are now) ∙ c.earliest_due.ensures.before now early)

pub returns-clause-found : goal.returns-clause-found
returns-clause-found c segment log well are =
    at_some c.earliest_due.result _ _
    (λ time found. some_mapped (check_of log.records) (due_origin log.records time)
    (subst (λ (o : Option Check). IsSome o) (due_is segment log c.args.self.now well are time) found)) c.earliest_due.ensures.at
