-- Which table a queue has, after one table changed, and after one was added.
use Rattle.std.proofs.Common.{◌≡◌, refl, ap, sym, ◌∙◌, subst, arith, ℕ, zero, suc, ◌+◌, ◌<◌, ◌≤◌, ◌==◌, ◌&&◌, nat_lt, Bool, true, false, not, cond, List, [], ◌∷◌, ◌++◌, length, slice_get, slice_set, Option, Some, None, String, position, eqb, length-append}
use Rattle.std.specs.List.{position_or_len}
use Rattle.std.specs.Str.{bytes_eq}
use Rattle.std.specs.HashMap.{HashMap}
use Rattle.std.proofs.lemmas.Bool.{and_parts}
use Rattle.std.proofs.lemmas.Bool.Decides.{Decides-eqb}
use Rattle.std.proofs.lemmas.Slice.Eq.{bytes_eq-Decides}
use Rattle.std.proofs.lemmas.List.Folds.{position_or_len_push}
use Rattle.std.proofs.lemmas.Grind.{common_steps}
use Rattle.queue_view.specs.Tables.{Table, is_of, number_of}
use Rattle.queue_view.specs.Numbers.{kept_for, number_kept, AreNumbered}
use Rattle.queue_view.proofs.Lists.{some_one}

-- the first that passes is at the same place, where one is replaced by another that passes as it did
set_first : {A : Type 0} (p : A → Bool) (xs : List A) (k : ℕ) (x y : A) → slice_get xs k ≡ Some x → p y ≡ p x → position_or_len p (slice_set xs k y) ≡ position_or_len p xs
set_first p [] k x y at same = refl
set_first p (z ∷ xs) zero x y at same = ap (λ b. cond (not b) (1 + position_or_len p xs) 0) (same ∙ ap p (sym (some_one at)))
set_first p (z ∷ xs) (suc k) x y at same = ap (λ n. cond (not (p z)) (1 + n) 0) (set_first p xs k x y at same)

set_length : {A : Type 0} (xs : List A) (k : ℕ) (y : A) → length (slice_set xs k y) ≡ length xs
set_length [] k y = refl
set_length (z ∷ xs) zero y = refl
set_length (z ∷ xs) (suc k) y = ap (λ n. suc n) (set_length xs k y)

set_position : {A : Type 0} (p : A → Bool) (xs : List A) (k : ℕ) (x y : A) → slice_get xs k ≡ Some x → p y ≡ p x → position p (slice_set xs k y) ≡ position p xs
set_position p xs k x y at same =
    ap (λ n. cond (nat_lt n (length (slice_set xs k y))) (Some n) None) (set_first p xs k x y at same)
    ∙ ap (λ n. cond (nat_lt (position_or_len p xs) n) (Some (position_or_len p xs)) None) (set_length xs k y)

-- what is at a place within a list
there : {A : Type 0} (xs : List A) (k : ℕ) → k < length xs → (x : A) × (slice_get xs k ≡ Some x)
there [] k h = absurd (let none : ⊥ = omega (arith, h) in none)
there (x ∷ xs) zero h = (x, refl)
there (x ∷ xs) (suc k) h = there xs k (omega (arith, h))

-- a table that changes stays the table of its queue
pub number_of-set : (tables : List Table) (k : ℕ) (t u : Table) → slice_get tables k ≡ Some t → u.topic ≡ t.topic → u.queue ≡ t.queue
    → (topic : List ℕ) (queue : ℕ) → number_of (slice_set tables k u) topic queue ≡ number_of tables topic queue
number_of-set tables k t u at same_topic same_queue topic queue =
    set_position (is_of topic queue) tables k t u at (ap (λ (name : List ℕ). bytes_eq name topic && (u.queue == queue)) same_topic ∙ ap (λ n. bytes_eq t.topic topic && (n == queue)) same_queue)

-- where one table changed, each queue has the table that it had
pub number_of-changed : (old new : List Table) (k : ℕ) → k < length old
    → ((t : Table) → slice_get old k ≡ Some t → (u : Table) × (u.topic ≡ t.topic) × (u.queue ≡ t.queue) × (new ≡ slice_set old k u))
    → (topic : List ℕ) (queue : ℕ) → number_of new topic queue ≡ number_of old topic queue
number_of-changed old new k within changed topic queue =
    let t = there old k within in
    let u = changed t.0 t.1 in
    ap (λ (ts : List Table). number_of ts topic queue) u.3 ∙ number_of-set old k t.0 u.0 t.1 u.1 u.2 topic queue

-- so the numbers stay right
pub numbered_set : {A S : Type 0} (old new : List Table) (numbers : HashMap (String A) (List ℕ) S) (k : ℕ) → AreNumbered old numbers → k < length old
    → ((t : Table) → slice_get old k ≡ Some t → (u : Table) × (u.topic ≡ t.topic) × (u.queue ≡ t.queue) × (new ≡ slice_set old k u)) → AreNumbered new numbers
numbered_set old new numbers k are within changed topic queue = are topic queue ∙ sym (number_of-changed old new k within changed topic queue)

number_case : (n m k : ℕ) → cond (nat_lt n m) (Some n) None ≡ Some k → k < m
number_case n m k is = grind (arith, common_steps)

-- a number is within the tables
pub number_within : (tables : List Table) (topic : List ℕ) (queue k : ℕ) → number_of tables topic queue ≡ Some k → k < length tables
number_within tables topic queue k is = number_case (position_or_len (is_of topic queue) tables) (length tables) k is

-- ---- one table more

step : (b : Bool) (n m : ℕ) → n ≤ m → cond (not b) (1 + n) 0 ≤ suc m
step true n m h = omega arith
step false n m h = omega (arith, h)

first_within : {A : Type 0} (p : A → Bool) (xs : List A) → position_or_len p xs ≤ length xs
first_within p [] = omega arith
first_within p (x ∷ xs) = step (p x) (position_or_len p xs) (length xs) (first_within p xs)

push_case : (n m first end : ℕ) (b : Bool) → n ≤ m → first ≡ cond (eqb n m) (m + cond b 0 1) n → end ≡ m + 1
    → cond (nat_lt first end) (Some first) None ≡ cond (nat_lt n m) (cond (nat_lt n m) (Some n) None) (cond b (Some m) None)
push_case n m first end b low is is_end = grind (arith, common_steps)

position_push : {A : Type 0} (p : A → Bool) (xs : List A) (y : A) → position p (xs ++ y ∷ []) ≡ cond (nat_lt (position_or_len p xs) (length xs)) (position p xs) (cond (p y) (Some (length xs)) None)
position_push p xs y =
    push_case (position_or_len p xs) (length xs) (position_or_len p (xs ++ y ∷ [])) (length (xs ++ y ∷ [])) (p y) (first_within p xs) (position_or_len_push p xs y) (length-append xs (y ∷ []))

new_case : (b c : Bool) (first len kept new : ℕ) (number : Option ℕ) → number ≡ cond c (Some first) None → number_kept kept ≡ number → (b ≡ true → number ≡ None) → new ≡ cond b (len + 1) kept
    → number_kept new ≡ cond c number (cond b (Some len) None)
new_case true true first len kept new number is are absent set = cc (sym is ∙ absent refl)
new_case true false first len kept new number is are absent set = ap number_kept (set ∙ (let e : len + 1 ≡ suc len = omega arith in e))
new_case false true first len kept new number is are absent set = ap number_kept set ∙ are
new_case false false first len kept new number is are absent set = ap number_kept set ∙ are ∙ is

absent_of : (old : List Table) (t : Table) (topic : List ℕ) (queue : ℕ) → t.topic ≡ topic → t.queue ≡ queue → number_of old topic queue ≡ None → number_of old t.topic t.queue ≡ None
absent_of old t topic queue is_topic is_queue absent = ap (λ (name : List ℕ). number_of old name t.queue) is_topic ∙ ap (λ n. number_of old topic n) is_queue ∙ absent

numbered_more : {A S : Type 0} (old : List Table) (numbers new : HashMap (String A) (List ℕ) S) (t : Table) → AreNumbered old numbers → number_of old t.topic t.queue ≡ None
    → ((topic : List ℕ) (queue : ℕ) → kept_for new topic queue ≡ cond (bytes_eq t.topic topic && (t.queue == queue)) (length old + 1) (kept_for numbers topic queue)) → AreNumbered (old ++ t ∷ []) new
numbered_more old numbers new t are absent set topic queue =
    let p = is_of topic queue in
    new_case (p t) (nat_lt (position_or_len p old) (length old)) (position_or_len p old) (length old) (kept_for numbers topic queue) (kept_for new topic queue) (number_of old topic queue)
    refl (are topic queue)
    (λ yes.
    let parts = and_parts (bytes_eq t.topic topic) (t.queue == queue) yes in
    let same_topic : t.topic ≡ topic = (bytes_eq-Decides t.topic topic).0 parts.0 in
    let same_queue : t.queue ≡ queue = (Decides-eqb t.queue queue).0 parts.1 in
    subst (λ n. number_of old topic n ≡ None) same_queue (subst (λ (name : List ℕ). number_of old name t.queue ≡ None) same_topic absent))
    (set topic queue)
    ∙ sym (position_push p old t)

last_case : (b c : Bool) (first len : ℕ) (number : Option ℕ) → number ≡ cond c (Some first) None → number ≡ None → cond c number (cond b (Some len) None) ≡ cond b (Some len) None
last_case b true first len number is absent = cc (sym is ∙ absent)
last_case b false first len number is absent = refl

number_of-more : (old : List Table) (t : Table) → number_of old t.topic t.queue ≡ None → number_of (old ++ t ∷ []) t.topic t.queue ≡ Some (length old)
number_of-more old t absent =
    let p = is_of t.topic t.queue in
    position_push p old t
    ∙ last_case (p t) (nat_lt (position_or_len p old) (length old)) (position_or_len p old) (length old) (number_of old t.topic t.queue) refl absent
    ∙ ap (λ b. cond b (Some (length old)) None) (ap (λ b. b && (t.queue == t.queue)) ((bytes_eq-Decides t.topic t.topic).1 refl) ∙ (Decides-eqb t.queue t.queue).1 refl)

-- with the table of a queue that had none, and its number, the numbers are right
pub numbered_push : {A S : Type 0} (old all : List Table) (numbers new : HashMap (String A) (List ℕ) S) (t : Table) (topic : List ℕ) (queue number : ℕ) → t.topic ≡ topic → t.queue ≡ queue → number ≡ length old
    → all ≡ old ++ t ∷ [] → AreNumbered old numbers → number_of old topic queue ≡ None
    → ((other : List ℕ) (at : ℕ) → kept_for new other at ≡ cond (bytes_eq topic other && (queue == at)) (number + 1) (kept_for numbers other at)) → AreNumbered all new
numbered_push old all numbers new t topic queue number is_topic is_queue is_number is are absent set =
    subst (λ (ts : List Table). AreNumbered ts new) (sym is)
    (numbered_more old numbers new t are (absent_of old t topic queue is_topic is_queue absent)
    (λ other at. set other at
    ∙ ap (λ n. cond (bytes_eq topic other && (queue == at)) (n + 1) (kept_for numbers other at)) is_number
    ∙ ap (λ (name : List ℕ). cond (bytes_eq name other && (queue == at)) (length old + 1) (kept_for numbers other at)) (sym is_topic)
    ∙ ap (λ n. cond (bytes_eq t.topic other && (n == at)) (length old + 1) (kept_for numbers other at)) (sym is_queue)))

-- and its number is the last
pub number_of-push : (old all : List Table) (t : Table) (topic : List ℕ) (queue number : ℕ) → t.topic ≡ topic → t.queue ≡ queue → number ≡ length old → all ≡ old ++ t ∷ [] → number_of old topic queue ≡ None
    → number_of all topic queue ≡ Some number
number_of-push old all t topic queue number is_topic is_queue is_number is absent =
    ap (λ (ts : List Table). number_of ts topic queue) is
    ∙ ap (λ (name : List ℕ). number_of (old ++ t ∷ []) name queue) (sym is_topic) ∙ ap (λ n. number_of (old ++ t ∷ []) t.topic n) (sym is_queue)
    ∙ number_of-more old t (absent_of old t topic queue is_topic is_queue absent) ∙ ap (λ n. Some n) (sym is_number)

kept_case : (b c : Bool) (first len k : ℕ) (number : Option ℕ) → number ≡ cond c (Some first) None → number ≡ Some k → cond c number (cond b (Some len) None) ≡ Some k
kept_case b true first len k number is some = some
kept_case b false first len k number is some = cc (sym is ∙ some)

none_case : (b c : Bool) (first len : ℕ) (number : Option ℕ) → number ≡ cond c (Some first) None → cond c number (cond b (Some len) None) ≡ None → (number ≡ None) × (b ≡ false)
none_case b true first len number is none = cc (sym is ∙ none)
none_case true false first len number is none = cc none
none_case false false first len number is none = (is, refl)

-- a queue that had a table has it behind one table more
pub number_of-kept : (old : List Table) (t : Table) (topic : List ℕ) (queue k : ℕ) → number_of old topic queue ≡ Some k → number_of (old ++ t ∷ []) topic queue ≡ Some k
number_of-kept old t topic queue k some =
    let p = is_of topic queue in
    position_push p old t ∙ kept_case (p t) (nat_lt (position_or_len p old) (length old)) (position_or_len p old) (length old) k (number_of old topic queue) refl some

-- and one that has none had none, and the new table is not its
pub number_of-none : (old : List Table) (t : Table) (topic : List ℕ) (queue : ℕ) → number_of (old ++ t ∷ []) topic queue ≡ None → (number_of old topic queue ≡ None) × (is_of topic queue t ≡ false)
number_of-none old t topic queue none =
    let p = is_of topic queue in
    none_case (p t) (nat_lt (position_or_len p old) (length old)) (position_or_len p old) (length old) (number_of old topic queue) refl (sym (position_push p old t) ∙ none)
