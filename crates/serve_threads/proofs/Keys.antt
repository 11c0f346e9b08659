-- Four passes that are cut from one: they are there, which seat numbers they have, and the key stays with the first.
use Rattle.std.proofs.Common.{◌≡◌, ℕ, ◌<◌, List, [], ◌∷◌, true, false, Option, Some, None, IfSome, refl, sym, ap, ◌∙◌, subst, arith}
use Rattle.std.specs.Prelude.{IsSome}
use Rattle.broker_events.specs.Shown.{Shown}
use Rattle.broker_events.specs.declared.event.Event.{Event}
use Rattle.broker_events.specs.declared.said.Said.{Said}
use Rattle.core_log.specs.Shows.{shown_of}
use Rattle.story_lock.specs.declared.chronicle.Chronicle.{Ghosts}
use Rattle.story_lock.specs.declared.story.Pass.{Pass}
use Rattle.story_lock.specs.declared.story.Story.{Story}
use Rattle.story_lock.specs.Counts.{times, greatest, without}
use Rattle.story_lock.specs.Passes.{IsPassOf, HasKey, HasSeat, start_of, seen_by, numbers_of}
use Rattle.spine.specs.declared.shared.Shared.{Shared}
use Rattle.spine.specs.declared.spine.Spine.{Spine}
use Rattle.spine.specs.Passes.{ArePasses, Splits, Joins}
use Rattle.spine.specs.Seen.{first_shown, shown_by}
use Rattle.spine.specs.Stands.{shown_after}
use Rattle.serve_threads.specs.Served.{Cuts}

abbrev value_or : {X : Type 0} → X → Option X → X
value_or d None = d
value_or d (Some x) = x

pub same_of : {X : Type 0} (p q : X) → Some p ≡ Some q → p ≡ q
same_of p q same = ap (value_or p) same

-- what holds of what is there
pub some_at : {X : Type 0} (P : X → Type 0) (o : Option X) (x : X) → o ≡ Some x → IfSome o P → P x
some_at P o x there holds = subst (λ (p : Option _). IfSome p P) there holds

module _ {S E A : Type 0} {chronicle : Ghosts S E A} where
  -- a split leaves two passes
  pub split_there : (old new other : Option (Pass S E A chronicle)) (p : Pass S E A chronicle) → old ≡ Some p → IsSome new → IsSome other
      → ArePasses old new (λ p q. IfSome other (λ r. Splits p q r))
      → (q : Pass S E A chronicle) × (r : Pass S E A chronicle) × (new ≡ Some q) × (other ≡ Some r) × Splits p q r
  split_there None new other p at here there splits = let no : None ≡ Some p = at in cc
  split_there (Some o) None other p at here there splits = let no : false ≡ true = here in cc
  split_there (Some o) (Some q) None p at here there splits = let no : false ≡ true = there in cc
  split_there (Some o) (Some q) (Some r) p at here there splits =
      (q, r, refl, refl, subst (λ (x : Pass S E A chronicle). Splits x q r) (same_of o p at) splits)

  -- and where one is taken over there is one
  pub joined_there : (old new : Option (Pass S E A chronicle)) (p other : Pass S E A chronicle) → old ≡ Some p → IsSome new → ArePasses old new (λ p q. Joins p other q)
      → (q : Pass S E A chronicle) × (new ≡ Some q) × Joins p other q
  joined_there None new p other at here joins = let no : None ≡ Some p = at in cc
  joined_there (Some o) None p other at here joins = let no : false ≡ true = here in cc
  joined_there (Some o) (Some q) p other at here joins = (q, refl, subst (λ (x : Pass S E A chronicle). Joins x other q) (same_of o p at) joins)

module _ {chronicle : Ghosts Shared Event (Option Said)} where
  -- a pass that is there is one of the story
  pub of_there : (at here : Spine) (o : Option (Pass Shared Event (Option Said) chronicle)) (p : Pass Shared Event (Option Said) chronicle) → at ≡ here → o ≡ Some p
      → IfSome o (λ q. IsPassOf at.story q × HasSeat q) → IsPassOf here.story p
  of_there at here o p same there of = subst (λ (v : Spine). IsPassOf v.story p) same (some_at (λ q. IsPassOf at.story q × HasSeat q) o p there of).0

  -- the seat numbers
  pub cut_numbers : (whole one other third last : Pass Shared Event (Option Said) chronicle) → Cuts whole one other third last → numbers_of whole ≡ 0 ∷ 1 ∷ 2 ∷ 3 ∷ []
      → (numbers_of one ≡ 0 ∷ []) × (numbers_of other ≡ 3 ∷ []) × (numbers_of third ≡ 2 ∷ []) × (numbers_of last ≡ 1 ∷ [])
  cut_numbers whole one other third last cuts is =
      let early : numbers_of cuts.early ≡ 0 ∷ 1 ∷ 2 ∷ [] = cuts.first.numbers.0 ∙ ap (λ (l : List ℕ). without (greatest l) l) is in
      let late : numbers_of cuts.late ≡ 0 ∷ 1 ∷ [] = cuts.then.numbers.0 ∙ ap (λ (l : List ℕ). without (greatest l) l) early in (
        cuts.at_last.numbers.0 ∙ ap (λ (l : List ℕ). without (greatest l) l) late,
        cuts.first.numbers.1 ∙ ap (λ (l : List ℕ). greatest l ∷ []) is,
        cuts.then.numbers.1 ∙ ap (λ (l : List ℕ). greatest l ∷ []) early,
        cuts.at_last.numbers.1 ∙ ap (λ (l : List ℕ). greatest l ∷ []) late,
      )

  -- the first one has the key
  pub cut_key : (whole one other third last : Pass Shared Event (Option Said) chronicle) (pass : Option (Pass Shared Event (Option Said) chronicle)) → pass ≡ Some one → Cuts whole one other third last
      → numbers_of whole ≡ 0 ∷ 1 ∷ 2 ∷ 3 ∷ [] → IfSome pass (λ p. HasKey p)
  cut_key whole one other third last pass there cuts is =
      subst (λ (o : Option (Pass Shared Event (Option Said) chronicle)). IfSome o (λ p. HasKey p)) (sym there)
      (subst (λ (l : List ℕ). 0 < times 0 l) (sym (cut_numbers whole one other third last cuts is).0) (omega arith))

  -- and where nothing was seen yet it shows what the core showed at the opening
  pub cut_out : (story : Story Shared Event (Option Said)) (whole one other third last : Pass Shared Event (Option Said) chronicle) (pass : Option (Pass Shared Event (Option Said) chronicle))
      → pass ≡ Some one → Cuts whole one other third last → seen_by whole ≡ [] → IsPassOf story one → (shown_of (start_of story).core).out ≡ None → (shown_by pass).out ≡ None
  cut_out story whole one other third last pass there cuts none of out =
      let seen : seen_by one ≡ [] = cuts.at_last.seen.0 ∙ (cuts.then.seen.0 ∙ (cuts.first.seen.0 ∙ none)) in
      let shown : shown_by pass ≡ shown_of (start_of story).core =
      ap (λ (o : Option (Pass Shared Event (Option Said) chronicle)). shown_by o) there ∙ (λ i. shown_after (first_shown (of.1 i)) (seen i)) in
      ap (λ (s : Shown). s.out) shown ∙ out
