-- Steps that generic code makes by a pass are the pass's own entries, in order.
use Rattle.std.proofs.Common.{◌≡◌, ℕ, suc, ◌<◌, List, [], ◌∷◌, ◌++◌, length, Option, Some, None, refl, sym, ap, ◌∙◌, subst, append-nil, length-append, arith}
use Rattle.std.specs.Prelude.{slice_get}
use Rattle.story_lock.specs.declared.chronicle.Chronicle.{Ghosts}
use Rattle.story_lock.specs.declared.story.Story.{Story}
use Rattle.story_lock.specs.declared.story.Pass.{Pass}
use Rattle.story_lock.specs.Counts.{times}
use Rattle.story_lock.specs.Passes.{seen_by, mine_of, HasSeat, HasKey, IsPassOf, IsSamePass, Adds}
use Rattle.story_lock.specs.Owned.{AscendsFrom, Owns, StepsBy}
use Rattle.story_lock.proofs.Sums.{append_three, length_snoc}

-- the item after a first part
get_at : {X : Type 0} (xs ys : List X) (x : X) → slice_get (xs ++ x ∷ ys) (length xs) ≡ Some x
get_at [] ys x = refl
get_at (y ∷ xs) ys x = get_at xs ys x

abbrev value_or : {X : Type 0} → X → Option X → X
value_or d (Some x) = x
value_or d None = d

module _ {S E A : Type 0} {chronicle : Ghosts S E A} where
  -- the same seat numbers: a pass keeps its seat
  pub same_seat : (old new : Pass S E A chronicle) → IsSamePass old new → HasSeat old → HasSeat new
  same_seat old new same seat = subst (λ (numbers : List ℕ). 0 < length numbers) (sym same.2) seat

  -- and the key
  pub same_key : (old new : Pass S E A chronicle) → IsSamePass old new → HasKey old → HasKey new
  same_key old new same key = subst (λ (numbers : List ℕ). 0 < times 0 numbers) (sym same.2) key

  -- and its story
  pub same_story : (story : Story S E A) (old new : Pass S E A chronicle) → IsSamePass old new → IsPassOf story old → IsPassOf story new
  same_story story old new same of = (same.0 ∙ of.0, same.1 ∙ of.1)

  -- a turn, and the entries of later turns
  owns_more : (old mid new : Pass S E A chronicle) (entry : E × A) (entries : List (E × A)) → Adds old entry.0 entry.1 mid → Owns mid entries new → Owns old (entry ∷ entries) new
  owns_more old mid new entry entries adds later =
      let before : List (E × A) = seen_by old ++ adds.between in
      let after : List (E × A) = later.seen.0 in
      let all : seen_by new ≡ before ++ (entry ∷ after) = later.seen.1 ∙ (ap (λ (l : List (E × A)). l ++ after) adds.seen ∙ append_three before (entry ∷ []) after) in
      let next : length (seen_by mid) ≡ suc (length before) = (let l = length_snoc before entry in omega (arith, ap length adds.seen)) in record {
        places = length before ∷ later.places;
        mine = later.mine ∙ (ap (λ (l : List ℕ). l ++ later.places) adds.mine ∙ append_three (mine_of old) (length before ∷ []) later.places);
        ascend = (omega (arith, length-append (seen_by old) adds.between), subst (λ (n : ℕ). AscendsFrom n later.places) next later.ascend);
        stand = (subst (λ (l : List (E × A)). slice_get l (length before) ≡ Some entry) (sym all) (get_at before after entry), later.stand);
        seen = (adds.between ++ (entry ∷ after), all ∙ append_three (seen_by old) adds.between (entry ∷ after));
        same = (later.same.0 ∙ adds.same.0, later.same.1 ∙ adds.same.1, later.same.2 ∙ adds.same.2);
      }

  -- Lists of steps by turns: what no steps and what a first one say is all that is asked of them.
  module _ {C : Type 0} (pass_of : C → Option (Pass S E A chronicle)) (makes : C → List (E × A) → C → Type 0) (none : (x y : C) → makes x [] y → x ≡ y)
      (first : (x : C) (s : E × A) (ss : List (E × A)) (y : C) → makes x (s ∷ ss) y → (z : C) × StepsBy pass_of x s.0 s.1 z × makes z ss y) where
    -- the steps of an object that has a pass are the pass's own entries
    pub owned : (x : C) (entries : List (E × A)) (y : C) (old : Pass S E A chronicle) → pass_of x ≡ Some old → makes x entries y → (new : Pass S E A chronicle) × (pass_of y ≡ Some new) × Owns old entries new
    owned x [] y old at same = (
      old,
      ap pass_of (sym (none x y same)) ∙ at,
      record { places = []; mine = sym (append-nil (mine_of old)); ascend = tt; stand = tt; seen = ([], sym (append-nil (seen_by old))); same = (refl, refl, refl) },
    )
    owned x (s ∷ ss) y old at all =
        let parts = first x s ss y all in
        let step = parts.1 in
        let rest = owned parts.0 ss y step.1 step.3 parts.2 in
        let is : step.0 ≡ old = ap (value_or old) (sym step.2 ∙ at) in (
          rest.0,
          rest.1,
          owns_more old step.1 rest.0 s ss (subst (λ (p : Pass S E A chronicle). Adds p s.0 s.1 step.1) is step.4) rest.2,
        )
