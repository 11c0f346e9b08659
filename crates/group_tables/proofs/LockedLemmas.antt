-- The rows of a queue, once a client got some queues.
use Rattle.std.proofs.Common.{◌≡◌, ◌∙◌, ℕ, ◌++◌, List, [], ◌∷◌, Bool, true, false, cond, ◌&&◌, ◌||◌, ◌==◌, not, map, filter, refl, ap, sym, true≢false, Option, Some, None}
use Rattle.std.proofs.lemmas.Bool.{and_parts}
use Rattle.std.proofs.lemmas.Bool.Decides.{Decides-eqb}
use Rattle.std.proofs.lemmas.Slice.Eq.{bytes_eq-Decides}
use Rattle.std.proofs.lemmas.List.Elements.{filter-append}
use Rattle.std.proofs.lemmas.Map.Views.{any-filter_same}
use Rattle.std.specs.Bool.{⊤}
use Rattle.std.specs.List.{list_any}
use Rattle.std.specs.Option.{option_map, option_to_list}
use Rattle.std.specs.Str.{bytes_eq}
use Rattle.request_fields.specs.declared.clients.QueueName.{QueueName}
use Rattle.broker_model.specs.Tables.{LockRow, is_lock_of, is_same_queue, distinct_queues, lock_at, without_queues, with_locks}
use Rattle.group_tables.specs.Locks.{lock_from, names_queue, lock_row}
use Rattle.group_tables.specs.declared.locks.Lock.{Lock}
use Rattle.group_tables.proofs.LockLemmas.{filters_turned, row_among, in_turn}

-- ---- each queue once

-- each queue stands once in the list
abbrev pub IsApart : List QueueName → Type 0
IsApart [] = ⊤
IsApart (x ∷ xs) = (list_any (is_same_queue x) xs ≡ false) × IsApart xs

or_parts : (a b : Bool) → (a || b) ≡ false → (a ≡ false) × (b ≡ false)
or_parts true b none = absurd (true≢false none)
or_parts false b none = (refl, none)

any_fewer : (f p : QueueName → Bool) (xs : List QueueName) → list_any f xs ≡ false → list_any f (filter p xs) ≡ false
any_fewer f p [] none = none
any_fewer f p (x ∷ xs) none =
    let parts = or_parts (f x) (list_any f xs) none in
    by (p x) parts.0 (any_fewer f p xs parts.1)
  where
    by : (keeps : Bool) → f x ≡ false → list_any f (filter p xs) ≡ false → list_any f (cond keeps (x ∷ filter p xs) (filter p xs)) ≡ false
    by true here rest = ap (λ (b : Bool). b || list_any f (filter p xs)) here ∙ rest
    by false here rest = rest

-- a part of such a list is one
pub apart_filter : (p : QueueName → Bool) (xs : List QueueName) → IsApart xs → IsApart (filter p xs)
apart_filter p [] apart = tt
apart_filter p (x ∷ xs) apart = by (p x) (any_fewer (is_same_queue x) p xs apart.0) (apart_filter p xs apart.1)
  where
    by : (keeps : Bool) → list_any (is_same_queue x) (filter p xs) ≡ false → IsApart (filter p xs) → IsApart (cond keeps (x ∷ filter p xs) (filter p xs))
    by true here rest = (here, rest)
    by false here rest = rest

-- the distinct queues are one
pub apart_distinct : (xs : List QueueName) → IsApart (distinct_queues xs)
apart_distinct [] = tt
apart_distinct (x ∷ xs) = (
  any-filter_same (is_same_queue x) (λ other. not (is_same_queue x other)) false (λ other same. ap not same) (distinct_queues xs),
  apart_filter (λ other. not (is_same_queue x other)) (distinct_queues xs) (apart_distinct xs),
)

-- where nothing is the same nothing goes
all_apart : (x : QueueName) (xs : List QueueName) → list_any (is_same_queue x) xs ≡ false → filter (λ other. not (is_same_queue x other)) xs ≡ xs
all_apart x [] none = refl
all_apart x (y ∷ xs) none =
    let parts = or_parts (is_same_queue x y) (list_any (is_same_queue x) xs) none in
    let rest = filter (λ other. not (is_same_queue x other)) xs in
    ap (λ (b : Bool). cond (not b) (y ∷ rest) rest) parts.0 ∙ ap (λ (l : List QueueName). y ∷ l) (all_apart x xs parts.1)

-- such a list has each queue as it is first named
pub distinct_apart : (xs : List QueueName) → IsApart xs → distinct_queues xs ≡ xs
distinct_apart [] apart = refl
distinct_apart (x ∷ xs) apart = ap (λ (l : List QueueName). x ∷ filter (λ other. not (is_same_queue x other)) l) (distinct_apart xs apart.1) ∙ ap (λ (l : List QueueName). x ∷ l) (all_apart x xs apart.0)

-- ---- lock

step : (here hit any : Bool) (row one : LockRow) (rest : List LockRow) → ((here && hit) ≡ true → (row ≡ one) × (any ≡ false)) → rest ≡ cond (here && any) (one ∷ []) []
    → cond (here && hit) (row ∷ rest) rest ≡ cond (here && (hit || any)) (one ∷ []) []
step true true any row one rest same is = let s = same refl in (λ i. s.0 i ∷ rest) ∙ ap (λ (l : List LockRow). one ∷ l) (is ∙ ap (λ (b : Bool). cond b (one ∷ []) []) s.1)
step true false any row one rest same is = is
step false hit any row one rest same is = is

module _ (now : ℕ) (group client g : List ℕ) (q : QueueName) where
  abbrev one : LockRow
  one = lock_row g q.topic q.queue (lock_from client now)

  abbrev names : QueueName → Bool
  names = names_queue q.topic q.queue

  -- of the rows of the queues that the client got, at most one is of this queue
  rows_given : (queues : List QueueName) → IsApart queues → filter (is_lock_of g q) (map (lock_at now group client) queues) ≡ cond (bytes_eq group g && list_any names queues) (one ∷ []) []
  rows_given [] apart = by (bytes_eq group g)
    where
      by : (here : Bool) → [] ≡ cond (here && false) (one ∷ []) []
      by true = refl
      by false = refl
  rows_given (x ∷ xs) apart =
      let rest = filter (is_lock_of g q) (map (lock_at now group client) xs) in
      (λ i. cond (in_turn (bytes_eq group g) (bytes_eq x.topic q.topic) (x.queue == q.queue) i) (lock_at now group client x ∷ rest) rest)
      ∙ step (bytes_eq group g) (names x) (list_any names xs) (lock_at now group client x) one rest
      (λ both.
      let parts = and_parts (bytes_eq group g) (names x) both in
      let named = and_parts (bytes_eq x.topic q.topic) (x.queue == q.queue) parts.1 in
      let of_group : group ≡ g = (bytes_eq-Decides group g).0 parts.0 in
      let of_topic : x.topic ≡ q.topic = (bytes_eq-Decides x.topic q.topic).0 named.0 in
      let of_queue : x.queue ≡ q.queue = (Decides-eqb x.queue q.queue).0 named.1 in
      ((λ i. lock_row (of_group i) (of_topic i) (of_queue i) (lock_from client now)), (λ i. list_any (names_queue (sym of_topic i) (sym of_queue i)) xs) ∙ apart.0))
      (rows_given xs apart.1)

  -- the rows of a queue, once the client got some
  pub rows_with_locks : (queues : List QueueName) (rows : List LockRow) (lock : Option Lock) → IsApart queues
      → filter (is_lock_of g q) rows ≡ option_to_list (option_map (lock_row g q.topic q.queue) lock)
      → filter (is_lock_of g q) (with_locks now group client queues rows)
      ≡ option_to_list (option_map (lock_row g q.topic q.queue) (cond (bytes_eq group g && list_any names queues) (Some (lock_from client now)) lock))
  rows_with_locks queues rows lock apart is =
      filter-append (is_lock_of g q) (map (lock_at now group client) queues) (without_queues group queues rows)
      ∙ (λ i. rows_given queues apart i ++ others i)
      ∙ by named lock
    where
      named : Bool
      named = bytes_eq group g && list_any names queues

      others : filter (is_lock_of g q) (without_queues group queues rows) ≡ filter (λ row. not named) (option_to_list (option_map (lock_row g q.topic q.queue) lock))
      others = filters_turned (is_lock_of g q) (λ row. not (list_any (λ x. is_lock_of group x row) queues)) (λ row. not named) (λ r asked. ap not (row_among group g q queues r asked)) rows
          ∙ ap (filter (λ row. not named)) is

      by : (named : Bool) (lock : Option Lock) → cond named (one ∷ []) [] ++ filter (λ row. not named) (option_to_list (option_map (lock_row g q.topic q.queue) lock))
          ≡ option_to_list (option_map (lock_row g q.topic q.queue) (cond named (Some (lock_from client now)) lock))
      by true None = refl
      by true (Some l) = refl
      by false None = refl
      by false (Some l) = refl
