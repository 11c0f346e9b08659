-- The rule of a table that is written out, and where one view changes.
use Rattle.std.proofs.Common.{◌≡◌, ◌≢◌, ℕ, ◌<◌, ◌≤◌, Bool, List, [], ◌∷◌, length, set, Option, Some, sym, ap, subst, ⊎_elim, arith}
use Rattle.std.specs.Prelude.{slice_index}
use mathlib.Core.Option as maybe
use mathlib.Core.Option.{some, none, some-injective, some-ne-none}
use lib.ListN.{get_elem?}
use Rattle.atomic_table.specs.Table.{State, Me, Act, Valid, stepped, carried_after, Allows}
use Rattle.atomic_table.proofs.Lists.{at_set}
use Rattle.story_lock.specs.declared.view.View.{View}
use Rattle.story_lock.specs.declared.view.Stage.{Stage}
use Rattle.story_lock.specs.declared.view.Stage.TheVariants.{Idle, Waits, Served, Done}
use Rattle.story_lock.specs.Counts.{times, total, Once, IsDistinct}
use Rattle.story_lock.specs.Rule.{has_state, IsAt, held_by, Fits, IsPlaced, Kept, Holds}
use Rattle.story_lock.proofs.Sums.{total_set, total_at, total_two, once_le, once_same}

-- a pass without the state knows nothing of it
pub idle_at : {X : Type 0} (log seen : List X) (n : ℕ) (st : Stage) → has_state st ≡ 0 → IsAt log n seen st
idle_at log seen n Idle e = tt
idle_at log seen n (Waits t) e = tt
idle_at log seen n (Served t) e = absurd (omega arith)
idle_at log seen n (Done t) e = absurd (omega arith)

module _ {S E A : Type 0} (represents : S → List (E × A) → S → Type 0) (keyed : E → A → Bool) (start : S) (seats : ℕ) where
  abbrev V : Type 0
  V = View S E A

  abbrev St : Type 0
  St = State (Option S) V

  abbrev M : Type 0
  M = Me (Option S) V

  abbrev L : Type 0
  L = List (E × A)

  abbrev H : Type 0
  H = maybe.Option (Option S)

  abbrev Rule : St → Type 0
  Rule = Holds represents keyed start seats

  abbrev K : L → ℕ → ℕ → H → List V → Type 0
  K = Kept represents keyed start seats

  abbrev F : L → ℕ → V → Type 0
  F = Fits represents keyed start seats

  abbrev lit : ℕ → ℕ → L → H → List V → St
  lit t n log home views = record { words = t ∷ n ∷ []; homes = home ∷ []; views = views }

  abbrev Goes : St → ℕ → ℕ → ℕ → M → (ℕ → M → Type 0) → Type 0
  Goes s i new id me then = (w : V) × (a : Act (Option S)) × Valid s.homes me.1 a × Rule (stepped s i new id me.1 w a) × then (slice_index s.words i) (w, carried_after me.1 a)

  -- a step may be proved at a table written out
  pub at_lit : (i id : ℕ) (f : ℕ → ℕ) (me : M) (then : ℕ → M → Type 0) (slots : ℕ)
      → ((t n : ℕ) (log : L) (home : H) (views : List V) → K log t n home views → get_elem? views id ≡ some me.0 → Goes (lit t n log home views) i (f (slice_index (t ∷ n ∷ []) i)) id me then)
      → Allows Rule slots id me i f then
  at_lit i id f me then slots law s r _ at _ = subst (λ (x : List ℕ × List H). Goes record { words = x.0; homes = x.1; views = s.views } i (f (slice_index x.0 i)) id me then) (λ j. (sym r.words j, sym r.homes j)) (law r.ticket r.serving r.log r.home s.views r.kept at)

  pub each_set : (log : L) (n : ℕ) (views : List V) (id : ℕ) (w : V) → ((j : ℕ) (u : V) → j ≢ id → get_elem? views j ≡ some u → F log n u) → F log n w
      → (j : ℕ) (u : V) → get_elem? (set views id w) j ≡ some u → F log n u
  each_set log n views id w others mine j u e = ⊎_elim (λ (x : (j ≡ id) × (w ≡ u)). subst (F log n) x.1 mine) (λ (x : (j ≢ id) × (get_elem? views j ≡ some u)). others j u x.0 x.1) (at_set views id j w u e)

  -- of two passes one at most has the state
  pub placed_le : (log : L) (home : H) (views : List V) → IsPlaced represents keyed start seats log home views → total held_by views ≤ 1
  placed_le log home views p = ⊎_elim (λ (x : (x : S) × (home ≡ some (Some x)) × represents start log x × (total held_by views ≡ 0)). omega (arith, x.3)) (λ (x : (home ≡ none) × (total held_by views ≡ 1)). omega (arith, x.1)) p

  pub others_idle : (views : List V) (id : ℕ) (v : V) → total held_by views ≤ 1 → get_elem? views id ≡ some v → held_by v ≡ 1 → (j : ℕ) (u : V) → j ≢ id → get_elem? views j ≡ some u → held_by u ≡ 0
  others_idle views id v le at one j u apart there = let h = total_two held_by views id j v u (λ e. apart (sym e)) at there in omega arith

  -- a change of one view that keeps its lists
  pub same_once : (f : V → List ℕ) (low high : ℕ) (views : List V) (id : ℕ) (v w : V) → get_elem? views id ≡ some v → f w ≡ f v → Once (λ k. total (λ u. times k (f u)) views) low high → Once (λ k. total (λ u. times k (f u)) (set views id w)) low high
  same_once f low high views id v w at e o = once_same (λ k. total (λ u. times k (f u)) views) (λ k. total (λ u. times k (f u)) (set views id w)) low high o
      (λ k. let h = total_set (λ u. times k (f u)) views id v w at in omega (arith, ap (times k) e))

  -- each place of its own is in a view once
  pub distinct : (t n : ℕ) (log : L) (home : H) (views : List V) (id : ℕ) (v : V) → K log t n home views → get_elem? views id ≡ some v → IsDistinct v.mine
  distinct t n log home views id v k at i = let a = total_at (λ u. times i u.mine) views id v at in let b = once_le (λ j. total (λ u. times j u.mine) views) 0 (length log) k.mine_once i in omega arith

  -- who has the state keeps it from being home
  pub is_out : (log : L) (home : H) (views : List V) → IsPlaced represents keyed start seats log home views → 0 < total held_by views → (home ≡ none) × (total held_by views ≡ 1)
  is_out log home views p pos = ⊎_elim (λ (x : (x : S) × (home ≡ some (Some x)) × represents start log x × (total held_by views ≡ 0)). let z = x.3 in absurd (omega arith)) (λ (x : (home ≡ none) × (total held_by views ≡ 1)). x) p
