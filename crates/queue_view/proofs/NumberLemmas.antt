-- The numbers of tables, after one was set.
use Rattle.std.proofs.Common.{◌≡◌, ◌∙◌, ℕ, ◌++◌, List, [], ◌∷◌, length, slice_index, Bool, true, false, cond, ◌&&◌, ◌==◌, refl, ap, sym, arith, String, Option, Some, Result, Ok, Err, OnErr}
use Rattle.std.proofs.lemmas.Grind.{common_steps}
use Rattle.std.proofs.lemmas.Slice.Eq.{bytes_eq-Decides}
use Rattle.std.specs.Str.{bytes_eq}
use Rattle.std.specs.Option.{unwrap_or}
use Rattle.std.specs.HashMap.{HashMap, get_by_text}
use Rattle.std.specs.Map.{update}
use Rattle.queue_view.specs.Numbers.{kept_for}

-- what stands in a list with one number more
pub index_push : (xs : List ℕ) (y at other : ℕ) → length xs ≡ at → (was : ℕ) → slice_index xs other ≡ was → slice_index (xs ++ y ∷ []) other ≡ cond (at == other) y was
index_push xs y at other long was is = grind (arith, common_steps)

topic_cases : {A S : Type 0} (b : Bool) (old : HashMap (String A) (List ℕ) S) (found : Option (List ℕ)) (topic other was now : List ℕ) (queue number count : ℕ) → (b ≡ true → topic ≡ other)
    → found ≡ cond b (Some now) (get_by_text old other) → unwrap_or (get_by_text old topic) [] ≡ was → slice_index now number ≡ cond (queue == number) count (slice_index was number)
    → slice_index (unwrap_or found []) number ≡ cond (b && (queue == number)) count (kept_for old other number)
topic_cases true old found topic other was now queue number count same is was_is set =
    ap (λ (o : Option (List ℕ)). slice_index (unwrap_or o []) number) is ∙ set
    ∙ ap (λ (l : List ℕ). cond (queue == number) count (slice_index l number)) (sym was_is ∙ ap (λ (t : List ℕ). unwrap_or (get_by_text old t) []) (same refl))
topic_cases false old found topic other was now queue number count same is was_is set = ap (λ (o : Option (List ℕ)). slice_index (unwrap_or o []) number) is

same_cases : {A S : Type 0} (b : Bool) (old : HashMap (String A) (List ℕ) S) (found : Option (List ℕ)) (topic other was now : List ℕ) (number : ℕ) → (b ≡ true → topic ≡ other)
    → found ≡ cond b (Some now) (get_by_text old other) → unwrap_or (get_by_text old topic) [] ≡ was → slice_index now number ≡ slice_index was number
    → slice_index (unwrap_or found []) number ≡ kept_for old other number
same_cases true old found topic other was now number same is was_is set =
    ap (λ (o : Option (List ℕ)). slice_index (unwrap_or o []) number) is ∙ set
    ∙ ap (λ (l : List ℕ). slice_index l number) (sym was_is ∙ ap (λ (t : List ℕ). unwrap_or (get_by_text old t) []) (same refl))
same_cases false old found topic other was now number same is was_is set = ap (λ (o : Option (List ℕ)). slice_index (unwrap_or o []) number) is

-- what is kept for each queue, after a change of one topic's numbers
pub kept_after : {A S : Type 0} (old new : HashMap (String A) (List ℕ) S) (topic was now : List ℕ) (queue count : ℕ)
    → ((other : List ℕ) → get_by_text new other ≡ update bytes_eq (get_by_text old) topic (Some now) other) → unwrap_or (get_by_text old topic) [] ≡ was
    → ((number : ℕ) → slice_index now number ≡ cond (queue == number) count (slice_index was number))
    → (other : List ℕ) (number : ℕ) → kept_for new other number ≡ cond (bytes_eq topic other && (queue == number)) count (kept_for old other number)
kept_after old new topic was now queue count updates was_is set other number = topic_cases (bytes_eq topic other) old (get_by_text new other) topic other was now queue number count (λ yes. (bytes_eq-Decides topic other).0 yes) (updates other) was_is (set number)

-- and after a change that leaves each number
pub kept_same : {A S : Type 0} (old new : HashMap (String A) (List ℕ) S) (topic was now : List ℕ)
    → ((other : List ℕ) → get_by_text new other ≡ update bytes_eq (get_by_text old) topic (Some now) other) → unwrap_or (get_by_text old topic) [] ≡ was
    → ((number : ℕ) → slice_index now number ≡ slice_index was number) → (other : List ℕ) (number : ℕ) → kept_for new other number ≡ kept_for old other number
kept_same old new topic was now updates was_is same other number = same_cases (bytes_eq topic other) old (get_by_text new other) topic other was now number (λ yes. (bytes_eq-Decides topic other).0 yes) (updates other) was_is (same number)

-- what holds anyway holds of a fault
pub on_err : {A E : Type 0} {P : Type 0} (result : Result A E) → P → OnErr result P
on_err (Ok value) holds = tt
on_err (Err fault) holds = holds
