-- One queue more, of those that a loop goes over.
use Rattle.std.proofs.Common.{◌≡◌, ◌∙◌, ℕ, zero, suc, ◌+◌, ◌<◌, ◌++◌, List, [], ◌∷◌, take, get_or, length, slice_index_or, Bool, true, false, cond, ◌&&◌, ◌||◌, ◌==◌, not, filter, refl, ap, subst, arith, All, Option, Some, None}
use Rattle.std.proofs.lemmas.Grind.{common_steps}
use Rattle.std.proofs.lemmas.List.Elements.{filter-append}
use Rattle.std.specs.Cmp.Lexicographic.{nat_list_eq_equiv}
use Rattle.std.specs.List.{list_any}
use Rattle.std.specs.Option.{option_and}
use Rattle.std.specs.Str.{bytes_eq}
use Rattle.request_fields.specs.declared.clients.QueueName.{QueueName}
use Rattle.broker_model.specs.Tables.{is_same_queue, distinct_queues}
use Rattle.group_tables.specs.Locks.{names_queue, without_own}
use Rattle.group_tables.specs.declared.locks.Lock.{Lock}

-- an element more of a list
pub take_or : {A : Type 0} (xs : List A) (i : ℕ) (d : A) → i < length xs → take (i + 1) xs ≡ take i xs ++ get_or xs i d ∷ []
take_or [] i d low = absurd (omega (arith, low))
take_or {A = A} (x ∷ xs) zero d low = refl
take_or {A = A} (x ∷ xs) (suc i) d low = let one : suc i + 1 ≡ suc (i + 1) = omega arith in
    ap (λ (n : ℕ). take n (x ∷ xs)) one ∙ ap (λ (l : List A). x ∷ l) (take_or xs i d (omega (arith, low)))

-- what holds of each of a list holds of each but the last, and of the last
pub popped : {X : Type 0} (P : X → Type 0) (old new : List X) (x : X) → old ≡ new ++ x ∷ [] → All P old → All P new × P x
popped {X = X} P old new x is all = (
  λ k d low. let at : slice_index_or old k d ≡ slice_index_or new k d = grind (arith, common_steps) in subst P at (all k d (grind (arith, common_steps))),
  let at : slice_index_or old (length new) x ≡ x = grind (arith, common_steps) in subst P at (all (length new) x (grind (arith, common_steps))),
)

-- a change that is made once for all, made again for one more
pub changed_again : {Y : Type 0} (change : Y → Y) → ((y : Y) → change (change y) ≡ change y) → (here any hit : Bool) (y : Y)
    → cond (here && hit) (change (cond (here && any) (change y) y)) (cond (here && any) (change y) y) ≡ cond (here && (any || hit)) (change y) y
changed_again change twice false any hit y = refl
changed_again change twice true true true y = twice y
changed_again change twice true true false y = refl
changed_again change twice true false true y = refl
changed_again change twice true false false y = refl

-- two names of one queue, the other way round
pub turned : (q x : QueueName) → is_same_queue x q ≡ names_queue q.topic q.queue x
turned q x = λ i. nat_list_eq_equiv.symm q.topic x.topic i && number q.queue x.queue i
  where
    number : (m n : ℕ) → (m == n) ≡ (n == m)
    number m n = grind arith

module _ (q : QueueName) where
  one : (same any : Bool) (f : QueueName → Bool) → f q ≡ not same → filter f (cond (not any) (q ∷ []) []) ≡ cond (not (same || any)) (q ∷ []) []
  one true true f is = refl
  one false true f is = refl
  one true false f is = λ i. cond (is i) (q ∷ []) []
  one false false f is = λ i. cond (is i) (q ∷ []) []

  by_same : (xs : List QueueName) → distinct_queues (xs ++ q ∷ []) ≡ distinct_queues xs ++ cond (not (list_any (λ x. is_same_queue x q) xs)) (q ∷ []) []
  by_same [] = refl
  by_same (x ∷ xs) =
      let more = cond (not (list_any (λ x. is_same_queue x q) xs)) (q ∷ []) [] in
      ap (λ (l : List QueueName). x ∷ filter (λ other. not (is_same_queue x other)) l) (by_same xs)
      ∙ ap (λ (l : List QueueName). x ∷ l) (filter-append (λ other. not (is_same_queue x other)) (distinct_queues xs) more
      ∙ ap (λ (l : List QueueName). filter (λ other. not (is_same_queue x other)) (distinct_queues xs) ++ l) (one (is_same_queue x q) (list_any (λ x. is_same_queue x q) xs) (λ other. not (is_same_queue x other)) refl))

  -- a queue more comes to the distinct ones, unless it was named
  pub distinct_queues-push : (xs : List QueueName) → distinct_queues (xs ++ q ∷ []) ≡ distinct_queues xs ++ cond (not (list_any (names_queue q.topic q.queue) xs)) (q ∷ []) []
  distinct_queues-push xs = by_same xs ∙ (λ i. distinct_queues xs ++ cond (not (list_any (λ x. turned q x i) xs)) (q ∷ []) [])

  free_one : (free : QueueName → Bool) (is_new : Bool) → filter free (cond is_new (q ∷ []) []) ≡ cond (is_new && free q) (q ∷ []) []
  free_one free true = refl
  free_one free false = refl

  -- those of them that are free
  pub free_queues-push : (free : QueueName → Bool) (xs : List QueueName)
      → filter free (distinct_queues (xs ++ q ∷ [])) ≡ filter free (distinct_queues xs) ++ cond (not (list_any (names_queue q.topic q.queue) xs) && free q) (q ∷ []) []
  free_queues-push free xs =
      ap (filter free) (distinct_queues-push xs) ∙ filter-append free (distinct_queues xs) (cond (not (list_any (names_queue q.topic q.queue) xs)) (q ∷ []) [])
      ∙ ap (λ (l : List QueueName). filter free (distinct_queues xs) ++ l) (free_one free (not (list_any (names_queue q.topic q.queue) xs)))

-- a client's own lock goes once
pub without_own_twice : (client : List ℕ) (lock : Option Lock) → without_own client (without_own client lock) ≡ without_own client lock
without_own_twice client None = refl
without_own_twice client (Some lock) = by (bytes_eq lock.client client) refl
  where
    by : (own : Bool) → bytes_eq lock.client client ≡ own → without_own client (cond own None (Some lock)) ≡ cond own None (Some lock)
    by true is = refl
    by false is = λ i. cond (is i) None (Some lock)

-- what stands where something stood goes there once
pub option_and_twice : {Y : Type 0} (value : Y) (o : Option Y) → option_and (option_and o (Some value)) (Some value) ≡ option_and o (Some value)
option_and_twice value None = refl
option_and_twice value (Some y) = refl

-- a key more
pub with_key : (hit held any named : Bool) → hit ≡ named → held ≡ any → cond hit true held ≡ (any || named)
with_key true held any named is was = (λ i. true || any) ∙ either any ∙ (λ i. any || is i)
  where
    either : (any : Bool) → true ≡ (any || true)
    either true = refl
    either false = refl
with_key false held any named is was = was ∙ either any ∙ (λ i. any || is i)
  where
    either : (any : Bool) → any ≡ (any || false)
    either true = refl
    either false = refl
