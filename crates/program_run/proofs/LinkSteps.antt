-- What holds of each step of a history holds of the steps that were made for a link.
use Rattle.std.proofs.Common.{◌≡◌, ℕ, ◌==◌, List, [], ◌∷◌, ◌++◌, cond, slice_get, Bool, true, false, Option, Some, subst}
use Rattle.std.specs.List.{AllByRecursion}
use Rattle.std.specs.Prelude.{filter}
use Rattle.broker_events.specs.declared.event.Event.{Event}
use Rattle.broker_events.specs.declared.said.Said.{Said}
use Rattle.event_loops.specs.Tales.{Act, acts_for, made_for, steps_of}
use Rattle.story_lock.specs.Owned.{HasAt}

module _ {X : Type 0} (P : X → Type 0) where
  -- of the same items
  pub each_same : (xs ys : List X) → xs ≡ ys → AllByRecursion P xs → AllByRecursion P ys
  each_same xs ys same each = subst (λ (l : List X). AllByRecursion P l) same each

  -- of the first items, and of those behind them
  pub each_first : (xs ys : List X) → AllByRecursion P (xs ++ ys) → AllByRecursion P xs
  each_first [] ys each = tt
  each_first (x ∷ xs) ys each = (each.0, each_first xs ys each.1)

  pub each_later : (xs ys : List X) → AllByRecursion P (xs ++ ys) → AllByRecursion P ys
  each_later [] ys each = each
  each_later (x ∷ xs) ys each = each_later xs ys each.1

  pub each_both : (xs ys : List X) → AllByRecursion P xs → AllByRecursion P ys → AllByRecursion P (xs ++ ys)
  each_both [] ys first later = later
  each_both (x ∷ xs) ys first later = (first.0, each_both xs ys first.1 later)

  each_where : (test : Bool) (x : X) (xs : List X) → P x → AllByRecursion P xs → AllByRecursion P (cond test (x ∷ xs) xs)
  each_where true x xs here each = (here, each)
  each_where false x xs here each = each

  -- of those that pass a test
  pub each_filter : (test : X → Bool) (xs : List X) → AllByRecursion P xs → AllByRecursion P (filter test xs)
  each_filter test [] each = tt
  each_filter test (x ∷ xs) each = each_where (test x) x (filter test xs) each.0 (each_filter test xs each.1)

-- items that stand at these places stand there
pub each_at : {X : Type 0} (log : List X) (ks : List ℕ) (xs : List X) → HasAt log ks xs → AllByRecursion (λ x. (k : ℕ) × (slice_get log k ≡ Some x)) xs
each_at log [] [] has = tt
each_at log [] (x ∷ xs) has = absurd has
each_at log (k ∷ ks) [] has = absurd has
each_at log (k ∷ ks) (x ∷ xs) has = ((k, has.0), each_at log ks xs has.1)

module _ (P : Event × Option Said → Type 0) where
  made_where : (test : Bool) (one : Act) (acts : List Act) → AllByRecursion P one.made → AllByRecursion P (steps_of acts) → AllByRecursion P (steps_of (cond test (one ∷ acts) acts))
  made_where true one acts here each = each_both P one.made (steps_of acts) here each
  made_where false one acts here each = each

  -- of what was made for one link
  pub each_made : (link : ℕ) (acts : List Act) → AllByRecursion P (steps_of acts) → AllByRecursion P (made_for link acts)
  each_made link [] each = tt
  each_made link (one ∷ acts) each =
      made_where (one.link == link) one (acts_for link acts) (each_first P one.made (steps_of acts) each) (each_made link acts (each_later P one.made (steps_of acts) each))
