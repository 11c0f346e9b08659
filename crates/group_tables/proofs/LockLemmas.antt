-- The locks of a table and the rows that they equal, as clients ask for queues and free them.
use Rattle.std.proofs.Common.{◌≡◌, ◌∙◌, ℕ, List, [], ◌∷◌, Bool, true, false, cond, ◌&&◌, ◌||◌, ◌==◌, not, filter, refl, ap, sym, subst, true≢false, arith, All, is_some, Option, Some, None}
use Rattle.std.proofs.lemmas.Bool.{and_parts}
use Rattle.std.proofs.lemmas.Bool.Decides.{Decides-eqb}
use Rattle.std.proofs.lemmas.Slice.Eq.{bytes_eq-Decides}
use Rattle.std.proofs.lemmas.List.Folds.{Any-from_list_any}
use Rattle.std.specs.Cmp.Lexicographic.{nat_list_eq_equiv}
use Rattle.std.specs.List.{list_any}
use Rattle.std.specs.Option.{option_and, option_flatten, option_map, option_to_list}
use Rattle.std.specs.Str.{bytes_eq}
use Rattle.request_fields.specs.declared.clients.QueueName.{QueueName}
use Rattle.broker_model.specs.Tables.{LockRow, is_lock_of, is_foreign, is_held_by_other, without_locks}
use Rattle.group_tables.specs.Locks.{keeps_off, without_own, names_queue, lock_row}
use Rattle.group_tables.specs.declared.locks.Lock.{Lock}

-- what holds of each queue of a list holds of one that is named
pub of_named : (P : List ℕ → ℕ → Type 0) (t : List ℕ) (q : ℕ) (xs : List QueueName) → All (λ x. P x.topic x.queue) xs → list_any (names_queue t q) xs ≡ true → P t q
of_named P t q xs all named =
    let found = Any-from_list_any (names_queue t q) xs named in
    let x = found.1 in
    let parts = and_parts (bytes_eq x.topic t) (x.queue == q) found.4 in
    let of_topic : x.topic ≡ t = (bytes_eq-Decides x.topic t).0 parts.0 in
    let of_queue : x.queue ≡ q = (Decides-eqb x.queue q).0 parts.1 in
    let here : P x.topic x.queue = subst (λ (y : QueueName). P y.topic y.queue) found.3 (all found.0 x found.2) in
    subst (P t) of_queue (subst (λ (l : List ℕ). P l x.queue) of_topic here)

-- the lock in a place that was given one
pub given_lock : (mid : Option (Option Lock)) (old : Option Lock) (given : Bool) (lock : Lock) → (given ≡ true → is_some mid ≡ true) → option_flatten mid ≡ old
    → option_flatten (cond given (option_and mid (Some (Some lock))) mid) ≡ cond given (Some lock) old
given_lock None old true lock there is = absurd (true≢false (sym (there refl)))
given_lock None old false lock there is = is
given_lock (Some m) old true lock there is = refl
given_lock (Some m) old false lock there is = is

-- ---- rows of one queue

-- a test behind a filter, where the other test answers alike for what passes
module _ (f k k' : LockRow → Bool) (agree : (r : LockRow) → f r ≡ true → k r ≡ k' r) where
  by_tests : (r : LockRow) (kept found : List LockRow) (asked keeps keeps' : Bool) → f r ≡ asked → k r ≡ keeps → k' r ≡ keeps' → (asked ≡ true → keeps ≡ keeps') → filter f kept ≡ filter k' found
      → filter f (cond keeps (r ∷ kept) kept) ≡ filter k' (cond asked (r ∷ found) found)
  by_tests r kept found true true true a b c same rest = (λ i. cond (a i) (r ∷ filter f kept) (filter f kept)) ∙ ap (λ (l : List LockRow). r ∷ l) rest ∙ (λ i. cond (sym c i) (r ∷ filter k' found) (filter k' found))
  by_tests r kept found true false false a b c same rest = rest ∙ (λ i. cond (sym c i) (r ∷ filter k' found) (filter k' found))
  by_tests r kept found true true false a b c same rest = absurd (true≢false (same refl))
  by_tests r kept found true false true a b c same rest = absurd (true≢false (sym (same refl)))
  by_tests r kept found false true keeps' a b c same rest = (λ i. cond (a i) (r ∷ filter f kept) (filter f kept)) ∙ rest
  by_tests r kept found false false keeps' a b c same rest = rest

  pub filters_turned : (rows : List LockRow) → filter f (filter k rows) ≡ filter k' (filter f rows)
  filters_turned [] = refl
  filters_turned (r ∷ rows) =
      by_tests r (filter k rows) (filter f rows) (f r) (k r) (k' r) refl refl refl (λ asked. agree r asked) (filters_turned rows)

-- a test of what passed another
pub any_of_both : (f p : LockRow → Bool) (rows : List LockRow) → list_any (λ r. p r && f r) rows ≡ list_any f (filter p rows)
any_of_both f p [] = refl
any_of_both f p (r ∷ rows) = by (p r) (any_of_both f p rows)
  where
    by : (b : Bool) → list_any (λ x. p x && f x) rows ≡ list_any f (filter p rows)
        → ((b && f r) || list_any (λ x. p x && f x) rows) ≡ list_any f (cond b (r ∷ filter p rows) (filter p rows))
    by true rest = ap (λ (x : Bool). f r || x) rest
    by false rest = rest

or_false : (b : Bool) → (b || false) ≡ b
or_false true = refl
or_false false = refl

-- another client holds a queue as the lock says that stands for its rows
pub held_by_lock : (now : ℕ) (group client : List ℕ) (rows : List LockRow) (q : QueueName) (lock : Option Lock)
    → filter (is_lock_of group q) rows ≡ option_to_list (option_map (lock_row group q.topic q.queue) lock) → is_held_by_other now group client rows q ≡ keeps_off now client lock
held_by_lock now group client rows q lock is = any_of_both (is_foreign now client) (is_lock_of group q) rows ∙ ap (list_any (is_foreign now client)) is ∙ by lock
  where
    by : (lock : Option Lock) → list_any (is_foreign now client) (option_to_list (option_map (lock_row group q.topic q.queue) lock)) ≡ keeps_off now client lock
    by None = refl
    by (Some l) = or_false (is_foreign now client (lock_row group q.topic q.queue l))

-- names that a test of one queue reads either way
either_way : (t : List ℕ) (q : ℕ) (x : QueueName) → (bytes_eq t x.topic && (q == x.queue)) ≡ names_queue t q x
either_way t q x = λ i. nat_list_eq_equiv.symm t x.topic i && number q x.queue i
  where
    number : (m n : ℕ) → (m == n) ≡ (n == m)
    number m n = grind arith

any_alike : (f h : QueueName → Bool) → ((x : QueueName) → f x ≡ h x) → (xs : List QueueName) → list_any f xs ≡ list_any h xs
any_alike f h same xs = λ i. list_any (λ x. same x i) xs

and_any : (here : Bool) (f : QueueName → Bool) (xs : List QueueName) → list_any (λ x. here && f x) xs ≡ (here && list_any f xs)
and_any true f xs = refl
and_any false f [] = refl
and_any false f (x ∷ xs) = and_any false f xs

pub in_turn : (a b c : Bool) → (a && b && c) ≡ (a && (b && c))
in_turn true b c = refl
in_turn false b c = refl

-- a row of a queue is a lock on one of these queues where the queue is one of them
pub row_among : (group g : List ℕ) (q : QueueName) (queues : List QueueName) (r : LockRow) → is_lock_of g q r ≡ true
    → list_any (λ x. is_lock_of group x r) queues ≡ (bytes_eq group g && list_any (names_queue q.topic q.queue) queues)
row_among group g q queues r asked =
    let parts = and_parts (bytes_eq r.group g && bytes_eq r.topic q.topic) (r.queue == q.queue) asked in
    let names = and_parts (bytes_eq r.group g) (bytes_eq r.topic q.topic) parts.0 in
    let of_group : r.group ≡ g = (bytes_eq-Decides r.group g).0 names.0 in
    let of_topic : r.topic ≡ q.topic = (bytes_eq-Decides r.topic q.topic).0 names.1 in
    let of_queue : r.queue ≡ q.queue = (Decides-eqb r.queue q.queue).0 parts.1 in
    any_alike (λ x. is_lock_of group x r) (λ x. bytes_eq group g && names_queue q.topic q.queue x)
    (λ x. (λ i. bytes_eq (of_group i) group && bytes_eq (of_topic i) x.topic && (of_queue i == x.queue))
    ∙ in_turn (bytes_eq g group) (bytes_eq q.topic x.topic) (q.queue == x.queue)
    ∙ (λ i. nat_list_eq_equiv.symm g group i && either_way q.topic q.queue x i))
    queues
    ∙ and_any (bytes_eq group g) (names_queue q.topic q.queue) queues

-- ---- unlock

-- the rows of a queue, once a client has freed some
pub rows_without_locks : (group client g : List ℕ) (q : QueueName) (queues : List QueueName) (rows : List LockRow) (lock : Option Lock)
    → filter (is_lock_of g q) rows ≡ option_to_list (option_map (lock_row g q.topic q.queue) lock)
    → filter (is_lock_of g q) (without_locks group client queues rows)
    ≡ option_to_list (option_map (lock_row g q.topic q.queue) (cond (bytes_eq group g && list_any (names_queue q.topic q.queue) queues) (without_own client lock) lock))
rows_without_locks group client g q queues rows lock is =
    filters_turned (is_lock_of g q) (λ row. not (bytes_eq row.client client && list_any (λ x. is_lock_of group x row) queues)) (λ row. not (bytes_eq row.client client && named))
    (λ r asked. ap (λ (b : Bool). not (bytes_eq r.client client && b)) (row_among group g q queues r asked)) rows
    ∙ ap (filter (λ row. not (bytes_eq row.client client && named))) is ∙ by lock named
  where
    named : Bool
    named = bytes_eq group g && list_any (names_queue q.topic q.queue) queues

    own : (l : Lock) (named : Bool) (is_own : Bool) → cond (not (is_own && named)) (lock_row g q.topic q.queue l ∷ []) []
        ≡ option_to_list (option_map (lock_row g q.topic q.queue) (cond named (cond is_own None (Some l)) (Some l)))
    own l true true = refl
    own l true false = refl
    own l false true = refl
    own l false false = refl

    none : (named : Bool) → [] ≡ option_to_list (option_map (lock_row g q.topic q.queue) (cond named None None))
    none true = refl
    none false = refl

    by : (lock : Option Lock) (named : Bool) → filter (λ row. not (bytes_eq row.client client && named)) (option_to_list (option_map (lock_row g q.topic q.queue) lock))
        ≡ option_to_list (option_map (lock_row g q.topic q.queue) (cond named (without_own client lock) lock))
    by None named = none named
    by (Some l) named = own l named (bytes_eq l.client client)
