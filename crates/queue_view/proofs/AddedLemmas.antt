-- The tables of one record more, and of one more that consumers see.
use Rattle.std.proofs.Common.{◌≡◌, ◌≢◌, ◌⊎◌, ⊎_elim, inl, inr, refl, ap, sym, ◌∙◌, subst, arith, ℕ, zero, suc, ◌+◌, ◌<◌, ◌≤◌, ◌==◌, ◌&&◌, true, false, cond, List, [], ◌∷◌, ◌++◌, length, map, filter, take, drop, slice_get, slice_set, Some, None, length-append, Result, Ok, Err, OnOk, OnErr, IfOk, ℤ, pos, int_le}
use Rattle.std.specs.List.{position_or_len}
use Rattle.std.specs.Str.{bytes_eq}
use Rattle.std.proofs.lemmas.Bool.{and_parts, false_from_ne_true}
use Rattle.std.proofs.lemmas.Bool.Decides.{Decides-eqb}
use Rattle.std.proofs.lemmas.Slice.Eq.{bytes_eq-Decides}
use Rattle.std.proofs.lemmas.List.{map-append, append-nil, take-append-drop}
use Rattle.std.proofs.lemmas.List.Elements.{filter-append}
use Rattle.queue_view.specs.declared.stored.StoredUnit.{StoredUnit}
use Rattle.queue_view.specs.Tables.{Table, is_of, number_of, empty_table, unit_in, seen_units, with_room}
use Rattle.queue_view.specs.declared.tags.Tags.{Tags}
use Rattle.queue_view.specs.Subscriptions.{tags_take}
use Rattle.queue_view.specs.Searches.{first_from, first_among, store_in}
use Rattle.queue_view.specs.Answers.{this, pulled_of, pulled_among}
use Rattle.log_model.specs.Keys.{asked_number}
use Rattle.log_model.specs.Pulls.{pulled}
use Rattle.queue_view.specs.Added.{Added, stored_of, is_in, queue_in, IsTableOf, AreTablesOf, with_low}
use Rattle.queue_view.proofs.Lists.{take_next, get_within, some_one}
use Rattle.queue_view.proofs.NumberedLemmas.{number_of-set, number_of-push, number_of-kept, number_of-none}

-- ---- the units of a queue

-- the units of two lists of records
pub queue_in-append : (xs ys : List Added) (topic : List ℕ) (queue : ℕ) → queue_in (xs ++ ys) topic queue ≡ queue_in xs topic queue ++ queue_in ys topic queue
queue_in-append xs ys topic queue =
    ap (λ (rs : List Added). map stored_of rs) (filter-append (is_in topic queue) xs ys) ∙ map-append stored_of (filter (is_in topic queue) xs) (filter (is_in topic queue) ys)

-- with one record more of the queue
in_more : (xs : List Added) (a : Added) (topic : List ℕ) (queue : ℕ) → is_in topic queue a ≡ true → queue_in (xs ++ a ∷ []) topic queue ≡ queue_in xs topic queue ++ stored_of a ∷ []
in_more xs a topic queue is =
    queue_in-append xs (a ∷ []) topic queue ∙ ap (λ b. queue_in xs topic queue ++ map stored_of (cond b (a ∷ []) [])) is

-- with one record more of another
not_more : (xs : List Added) (a : Added) (topic : List ℕ) (queue : ℕ) → is_in topic queue a ≡ false → queue_in (xs ++ a ∷ []) topic queue ≡ queue_in xs topic queue
not_more xs a topic queue is =
    queue_in-append xs (a ∷ []) topic queue ∙ ap (λ b. queue_in xs topic queue ++ map stored_of (cond b (a ∷ []) [])) is ∙ append-nil (queue_in xs topic queue)

is_same : (a : Added) (topic : List ℕ) (queue : ℕ) → a.topic ≡ topic → a.queue ≡ queue → is_in topic queue a ≡ true
is_same a topic queue same_topic same_queue =
    ap (λ b. b && (a.queue == queue)) ((bytes_eq-Decides a.topic topic).1 same_topic) ∙ (Decides-eqb a.queue queue).1 same_queue

is_other : (a : Added) (topic : List ℕ) (queue : ℕ) → (a.topic ≡ topic → a.queue ≡ queue → ⊥) → is_in topic queue a ≡ false
is_other a topic queue other =
    false_from_ne_true (is_in topic queue a) (λ both.
    let parts = and_parts (bytes_eq a.topic topic) (a.queue == queue) both in
    other ((bytes_eq-Decides a.topic topic).0 parts.0) ((Decides-eqb a.queue queue).0 parts.1))

take_front : {A : Type 0} (xs ys : List A) → take (length xs) (xs ++ ys) ≡ xs
take_front [] ys = refl
take_front (x ∷ xs) ys = ap (λ (zs : List _). x ∷ zs) (take_front xs ys)

take_within : {A : Type 0} (xs ys : List A) (n : ℕ) → n ≤ length xs → take n (xs ++ ys) ≡ take n xs
take_within xs ys zero low = refl
take_within [] ys (suc n) low = absurd (let none : ⊥ = omega (arith, low) in none)
take_within (x ∷ xs) ys (suc n) low = ap (λ (zs : List _). x ∷ zs) (take_within xs ys n (omega (arith, low)))

pub in_front : (added : List Added) (n : ℕ) (topic : List ℕ) (queue : ℕ) → queue_in added topic queue ≡ queue_in (take n added) topic queue ++ queue_in (drop n added) topic queue
in_front added n topic queue = ap (λ (rs : List Added). queue_in rs topic queue) (sym (take-append-drop n added)) ∙ queue_in-append (take n added) (drop n added) topic queue

pub none_in_front : (added : List Added) (n : ℕ) (topic : List ℕ) (queue : ℕ) → queue_in added topic queue ≡ [] → 0 ≡ length (queue_in (take n added) topic queue)
none_in_front added n topic queue none =
    let total : 0 ≡ length (queue_in (take n added) topic queue) + length (queue_in (drop n added) topic queue) =
    ap length (sym none) ∙ ap length (in_front added n topic queue) ∙ length-append (queue_in (take n added) topic queue) (queue_in (drop n added) topic queue) in
    omega (arith, total)

-- consumers see the units of the first n records
pub seen_is : (low : List ℕ → ℕ → ℕ) (added : List Added) (n : ℕ) (t : Table) → IsTableOf low added n t → take t.seen t.units ≡ queue_in (take n added) t.topic t.queue
seen_is low added n t is =
    ap (λ m. take m t.units) is.seen ∙ ap (λ (us : List StoredUnit). take (length (queue_in (take n added) t.topic t.queue)) us) (is.units ∙ in_front added n t.topic t.queue)
    ∙ take_front (queue_in (take n added) t.topic t.queue) (queue_in (drop n added) t.topic t.queue)

-- ---- one table changes

pub get_set : {A : Type 0} (xs : List A) (j k : ℕ) (x y : A) → slice_get (slice_set xs k x) j ≡ Some y → ((j ≡ k) × (y ≡ x)) ⊎ ((j ≢ k) × (slice_get xs j ≡ Some y))
get_set [] j k x y at = cc at
get_set (z ∷ xs) zero zero x y at = inl (refl, sym (some_one at))
get_set (z ∷ xs) zero (suc k) x y at = inr ((λ e. let none : ⊥ = omega (arith, e) in none), at)
get_set (z ∷ xs) (suc j) zero x y at = inr ((λ e. let none : ⊥ = omega (arith, e) in none), at)
get_set (z ∷ xs) (suc j) (suc k) x y at =
    ⊎_elim (λ (same : (j ≡ k) × (y ≡ x)). inl (ap (λ n. suc n) same.0, same.1))
    (λ (other : (j ≢ k) × (slice_get xs j ≡ Some y)). inr ((λ e. other.0 (omega (arith, e))), other.1)) (get_set xs j k x y at)

-- where one table changed, they are the tables of other records if that one is, and the others stay theirs
pub set_tables : (low : List ℕ → ℕ → ℕ) (added more : List Added) (n m : ℕ) (old new : List Table) (k : ℕ) (t u : Table) → AreTablesOf low added n old → slice_get old k ≡ Some t
    → u.topic ≡ t.topic → u.queue ≡ t.queue → new ≡ slice_set old k u → IsTableOf low more m u
    → ((v : Table) → (t.topic ≡ v.topic → t.queue ≡ v.queue → ⊥) → IsTableOf low added n v → IsTableOf low more m v)
    → ((topic : List ℕ) (queue : ℕ) → (t.topic ≡ topic → t.queue ≡ queue → ⊥) → queue_in added topic queue ≡ [] → queue_in more topic queue ≡ [])
    → AreTablesOf low more m new
set_tables low added more n m old new k t u are at same_topic same_queue is_new this_one others nothing =
    let mine = are.found k t at in
    let numbers : (topic : List ℕ) (queue : ℕ) → number_of new topic queue ≡ number_of old topic queue = λ topic queue.
    ap (λ (ts : List Table). number_of ts topic queue) is_new ∙ number_of-set old k t u at same_topic same_queue topic queue in
    record {
      each = λ j v v_at.
          ⊎_elim (λ (same : (j ≡ k) × (v ≡ u)). subst (λ (w : Table). IsTableOf low more m w) (sym same.1) this_one)
          (λ (other : (j ≢ k) × (slice_get old j ≡ Some v)).
          others v (λ its_topic its_queue. other.0
          (some_one (sym (are.found j v other.1) ∙ ap (λ (name : List ℕ). number_of old name v.queue) (sym its_topic) ∙ ap (λ q. number_of old t.topic q) (sym its_queue) ∙ mine)))
          (are.each j v other.1))
          (get_set old j k u v (subst (λ (ts : List Table). slice_get ts j ≡ Some v) is_new v_at));
      found = λ j v v_at.
          numbers v.topic v.queue ∙
          ⊎_elim (λ (same : (j ≡ k) × (v ≡ u)).
          ap (λ (w : Table). number_of old w.topic w.queue) same.1 ∙ ap (λ (name : List ℕ). number_of old name u.queue) same_topic ∙ ap (λ q. number_of old t.topic q) same_queue
          ∙ mine ∙ ap (λ i. Some i) (sym same.0))
          (λ (other : (j ≢ k) × (slice_get old j ≡ Some v)). are.found j v other.1)
          (get_set old j k u v (subst (λ (ts : List Table). slice_get ts j ≡ Some v) is_new v_at));
      none = λ topic queue absent.
          let before = sym (numbers topic queue) ∙ absent in
          let gone_too = are.none topic queue before in
          (gone_too.0, nothing topic queue (λ same_t same_q. let bad : Some k ≡ None = sym mine ∙ ap (λ (name : List ℕ). number_of old name t.queue) same_t ∙ ap (λ q. number_of old topic q) same_q ∙ before in cc bad) gone_too.1);
    }

-- a record was added to its table
pub with_added : (low : List ℕ → ℕ → ℕ) (added : List Added) (n : ℕ) (old new : List Table) (k : ℕ) (t u : Table) (a : Added) → AreTablesOf low added n old → n ≤ length added → slice_get old k ≡ Some t
    → a.topic ≡ t.topic → a.queue ≡ t.queue → u.topic ≡ t.topic → u.queue ≡ t.queue → u.low ≡ t.low → u.seen ≡ t.seen → u.units ≡ t.units ++ stored_of a ∷ [] → new ≡ slice_set old k u
    → AreTablesOf low (added ++ a ∷ []) n new
with_added low added n old new k t u a are within at of_topic of_queue same_topic same_queue same_low same_seen units is_new =
    let is = are.each k t at in
    let front : take n (added ++ a ∷ []) ≡ take n added = take_within added (a ∷ []) n within in
    let its_queue : (rs : List Added) → queue_in rs t.topic t.queue ≡ queue_in rs u.topic u.queue = λ rs.
    ap (λ (name : List ℕ). queue_in rs name t.queue) (sym same_topic) ∙ ap (λ q. queue_in rs u.topic q) (sym same_queue) in
    set_tables low added (added ++ a ∷ []) n n old new k t u are at same_topic same_queue is_new
    (record {
      first = same_low ∙ is.first ∙ ap (λ (name : List ℕ). low name t.queue) (sym same_topic) ∙ ap (λ q. low u.topic q) (sym same_queue);
      units = units ∙ ap (λ (us : List StoredUnit). us ++ stored_of a ∷ []) is.units ∙ sym (in_more added a t.topic t.queue (is_same a t.topic t.queue of_topic of_queue)) ∙ its_queue (added ++ a ∷ []);
      seen = same_seen ∙ is.seen ∙ ap length (ap (λ (rs : List Added). queue_in rs t.topic t.queue) (sym front) ∙ its_queue (take n (added ++ a ∷ [])));
    })
    (λ v other its. record {
      first = its.first;
      units = its.units ∙ sym (not_more added a v.topic v.queue (is_other a v.topic v.queue (λ x y. other (sym of_topic ∙ x) (sym of_queue ∙ y))));
      seen = its.seen ∙ ap (λ (rs : List Added). length (queue_in rs v.topic v.queue)) (sym front);
    })
    (λ topic queue other none. not_more added a topic queue (is_other a topic queue (λ x y. other (sym of_topic ∙ x) (sym of_queue ∙ y))) ∙ none)

-- consumers see one record more
pub with_seen : (low : List ℕ → ℕ → ℕ) (added : List Added) (n : ℕ) (old new : List Table) (k : ℕ) (t u : Table) (a : Added) → AreTablesOf low added n old → slice_get added n ≡ Some a → slice_get old k ≡ Some t
    → a.topic ≡ t.topic → a.queue ≡ t.queue → u.topic ≡ t.topic → u.queue ≡ t.queue → u.low ≡ t.low → u.units ≡ t.units → u.seen ≡ t.seen + 1 → new ≡ slice_set old k u
    → AreTablesOf low added (n + 1) new
with_seen low added n old new k t u a are next at of_topic of_queue same_topic same_queue same_low same_units seen is_new =
    let is = are.each k t at in
    let front : take (n + 1) added ≡ take n added ++ a ∷ [] = ap (λ m. take m added) (let e : n + 1 ≡ suc n = omega arith in e) ∙ take_next added n a next in
    let its_queue : (rs : List Added) → queue_in rs t.topic t.queue ≡ queue_in rs u.topic u.queue = λ rs.
    ap (λ (name : List ℕ). queue_in rs name t.queue) (sym same_topic) ∙ ap (λ q. queue_in rs u.topic q) (sym same_queue) in
    set_tables low added added n (n + 1) old new k t u are at same_topic same_queue is_new
    (record {
      first = same_low ∙ is.first ∙ ap (λ (name : List ℕ). low name t.queue) (sym same_topic) ∙ ap (λ q. low u.topic q) (sym same_queue);
      units = same_units ∙ is.units ∙ its_queue added;
      seen = seen ∙ ap (λ m. m + 1) is.seen ∙ sym (length-append (queue_in (take n added) t.topic t.queue) (stored_of a ∷ []))
          ∙ ap length (sym (in_more (take n added) a t.topic t.queue (is_same a t.topic t.queue of_topic of_queue)) ∙ ap (λ (rs : List Added). queue_in rs t.topic t.queue) (sym front) ∙ its_queue (take (n + 1) added));
    })
    (λ v other its. record {
      first = its.first;
      units = its.units;
      seen = its.seen ∙ ap length (sym (not_more (take n added) a v.topic v.queue (is_other a v.topic v.queue (λ x y. other (sym of_topic ∙ x) (sym of_queue ∙ y)))) ∙ ap (λ (rs : List Added). queue_in rs v.topic v.queue) (sym front));
    })
    (λ topic queue other none. none)

-- a table has more room
pub with_more_room : (low : List ℕ → ℕ → ℕ) (added : List Added) (n : ℕ) (old new : List Table) (k : ℕ) (t u : Table) → AreTablesOf low added n old → slice_get old k ≡ Some t
    → u.topic ≡ t.topic → u.queue ≡ t.queue → u.low ≡ t.low → u.units ≡ t.units → u.seen ≡ t.seen → new ≡ slice_set old k u → AreTablesOf low added n new
with_more_room low added n old new k t u are at same_topic same_queue same_low same_units same_seen is_new =
    let is = are.each k t at in
    let its_queue : (rs : List Added) → queue_in rs t.topic t.queue ≡ queue_in rs u.topic u.queue = λ rs.
    ap (λ (name : List ℕ). queue_in rs name t.queue) (sym same_topic) ∙ ap (λ q. queue_in rs u.topic q) (sym same_queue) in
    set_tables low added added n n old new k t u are at same_topic same_queue is_new
    (record {
      first = same_low ∙ is.first ∙ ap (λ (name : List ℕ). low name t.queue) (sym same_topic) ∙ ap (λ q. low u.topic q) (sym same_queue);
      units = same_units ∙ is.units ∙ its_queue added;
      seen = same_seen ∙ is.seen ∙ ap length (its_queue (take n added));
    })
    (λ v other its. its) (λ topic queue other none. none)

-- ---- one table more

get_push : {A : Type 0} (xs : List A) (x y : A) (k : ℕ) → slice_get (xs ++ x ∷ []) k ≡ Some y → (slice_get xs k ≡ Some y) ⊎ ((k ≡ length xs) × (y ≡ x))
get_push [] x y zero e = inr (refl, sym (some_one e))
get_push [] x y (suc k) e = cc e
get_push (z ∷ xs) x y zero e = inl e
get_push (z ∷ xs) x y (suc k) e = ⊎_elim (λ old. inl old) (λ (new : (k ≡ length xs) × (y ≡ x)). inr (ap (λ n. suc n) new.0, new.1)) (get_push xs x y k e)

-- with the table of a queue that had none
pub with_table : (low more : List ℕ → ℕ → ℕ) (added : List Added) (n : ℕ) (old new : List Table) (topic : List ℕ) (queue min spare : ℕ) → AreTablesOf low added n old → number_of old topic queue ≡ None
    → new ≡ old ++ empty_table topic queue min spare ∷ [] → more topic queue ≡ min → ((other : List ℕ) (at : ℕ) → (topic ≡ other → queue ≡ at → ⊥) → more other at ≡ low other at) → AreTablesOf more added n new
with_table low more added n old new topic queue min spare are absent is_new is_min rest =
    let t = empty_table topic queue min spare in
    let nothing = are.none topic queue absent in
    let differs : (k : ℕ) (v : Table) → slice_get old k ≡ Some v → topic ≡ v.topic → queue ≡ v.queue → ⊥ = λ k v at same_topic same_queue.
    let bad : Some k ≡ None = sym (are.found k v at) ∙ ap (λ (name : List ℕ). number_of old name v.queue) (sym same_topic) ∙ ap (λ q. number_of old topic q) (sym same_queue) ∙ absent in cc bad in
    record {
      each = λ k v at.
          ⊎_elim (λ (before : slice_get old k ≡ Some v).
          let its = are.each k v before in
          record { first = its.first ∙ sym (rest v.topic v.queue (differs k v before)); units = its.units; seen = its.seen })
          (λ (last : (k ≡ length old) × (v ≡ t)).
          subst (λ (w : Table). IsTableOf more added n w) (sym last.1)
          (record { first = sym is_min; units = sym nothing.1; seen = none_in_front added n topic queue nothing.1 }))
          (get_push old t v k (subst (λ (ts : List Table). slice_get ts k ≡ Some v) is_new at));
      found = λ k v at.
          ap (λ (ts : List Table). number_of ts v.topic v.queue) is_new ∙
          ⊎_elim (λ (before : slice_get old k ≡ Some v). number_of-kept old t v.topic v.queue k (are.found k v before))
          (λ (last : (k ≡ length old) × (v ≡ t)).
          ap (λ (w : Table). number_of (old ++ t ∷ []) w.topic w.queue) last.1
          ∙ number_of-push old (old ++ t ∷ []) t topic queue (length old) refl refl refl refl absent ∙ ap (λ i. Some i) (sym last.0))
          (get_push old t v k (subst (λ (ts : List Table). slice_get ts k ≡ Some v) is_new at));
      none = λ other at gone.
          let before = number_of-none old t other at (ap (λ (ts : List Table). number_of ts other at) (sym is_new) ∙ gone) in
          let gone_too = are.none other at before.0 in
          let apart : topic ≡ other → queue ≡ at → ⊥ = λ same_topic same_queue.
          let its : is_of other at t ≡ true = ap (λ b. b && (queue == at)) ((bytes_eq-Decides topic other).1 same_topic) ∙ (Decides-eqb queue at).1 same_queue in
          let bad : true ≡ false = sym its ∙ before.1 in cc bad in
          (rest other at apart ∙ gone_too.0, gone_too.1);
    }

-- where none were removed of the queue
pub with_empty : (low : List ℕ → ℕ → ℕ) (added : List Added) (n : ℕ) (old new : List Table) (topic : List ℕ) (queue spare : ℕ) → AreTablesOf low added n old → number_of old topic queue ≡ None
    → new ≡ old ++ empty_table topic queue 0 spare ∷ [] → AreTablesOf low added n new
with_empty low added n old new topic queue spare are absent is_new =
    with_table low low added n old new topic queue 0 spare are absent is_new (are.none topic queue absent).0 (λ other at apart. refl)

-- where some were
pub with_start : (low : List ℕ → ℕ → ℕ) (added : List Added) (n : ℕ) (old new : List Table) (topic : List ℕ) (queue min spare : ℕ) → AreTablesOf low added n old → number_of old topic queue ≡ None
    → new ≡ old ++ empty_table topic queue min spare ∷ [] → AreTablesOf (with_low low topic queue min) added n new
with_start low added n old new topic queue min spare are absent is_new =
    with_table low (with_low low topic queue min) added n old new topic queue min spare are absent is_new
    (ap (λ b. cond b min (low topic queue)) (ap (λ b. b && (queue == queue)) ((bytes_eq-Decides topic topic).1 refl) ∙ (Decides-eqb queue queue).1 refl))
    (λ other at apart. ap (λ b. cond b min (low other at))
    (false_from_ne_true (bytes_eq topic other && (queue == at)) (λ both.
    let parts = and_parts (bytes_eq topic other) (queue == at) both in apart ((bytes_eq-Decides topic other).0 parts.0) ((Decides-eqb queue at).0 parts.1))))

-- ---- as the calls need it

there : {A : Type 0} (xs : List A) (k : ℕ) → k < length xs → (x : A) × (slice_get xs k ≡ Some x)
there [] k h = absurd (let none : ⊥ = omega (arith, h) in none)
there (x ∷ xs) zero h = (x, refl)
there (x ∷ xs) (suc k) h = there xs k (omega (arith, h))

-- one table has more room
pub room_tables : (low : List ℕ → ℕ → ℕ) (added : List Added) (n : ℕ) (old new : List Table) (k : ℕ) → AreTablesOf low added n old → k < length old
    → ((t : Table) → slice_get old k ≡ Some t → (s : ℕ) × (new ≡ slice_set old k (with_room t s))) → AreTablesOf low added n new
room_tables low added n old new k are within changed =
    let t = there old k within in
    let room = changed t.0 t.1 in
    with_more_room low added n old new k t.0 (with_room t.0 room.0) are t.1 refl refl refl refl refl room.1

-- a table was made, or nothing changed
pub made_tables : {A E : Type 0} (result : Result A E) (low : List ℕ → ℕ → ℕ) (added : List Added) (n : ℕ) (old new : List Table) (topic : List ℕ) (queue additional : ℕ) → number_of old topic queue ≡ None
    → OnOk result ((s : ℕ) × (additional ≤ s) × (new ≡ old ++ empty_table topic queue 0 s ∷ [])) → OnErr result (new ≡ old) → AreTablesOf low added n old → AreTablesOf low added n new
made_tables (Ok value) low added n old new topic queue additional absent made same are = with_empty low added n old new topic queue made.0 are absent made.2
made_tables (Err fault) low added n old new topic queue additional absent made same are = subst (λ (ts : List Table). AreTablesOf low added n ts) (sym same) are

-- a table was started
pub started_tables : {A E : Type 0} (result : Result A E) (low : List ℕ → ℕ → ℕ) (added : List Added) (n : ℕ) (old new : List Table) (topic : List ℕ) (queue min additional : ℕ) → number_of old topic queue ≡ None
    → OnOk result ((s : ℕ) × (additional ≤ s) × (new ≡ old ++ empty_table topic queue min s ∷ [])) → AreTablesOf low added n old → OnOk result (AreTablesOf (with_low low topic queue min) added n new)
started_tables (Ok value) low added n old new topic queue min additional absent made are = with_start low added n old new topic queue min made.0 are absent made.2
started_tables (Err fault) low added n old new topic queue min additional absent made are = tt

-- a pull of a table is one of its queue
pub among_is : (low : List ℕ → ℕ → ℕ) (added : List Added) (n : ℕ) (tables : List Table) (k : ℕ) (t : Table) (from most : ℤ) (tags : Tags) → AreTablesOf low added n tables → slice_get tables k ≡ Some t
    → pulled_of t from most tags ≡ pulled_among (low t.topic t.queue) (queue_in (take n added) t.topic t.queue) from most tags
among_is low added n tables k t from most tags are at =
    let is = are.each k t at in
    ap (λ m. pulled this m (seen_units t) from (asked_number 32 most) (tags_take tags)) is.first
    ∙ ap (λ (us : List StoredUnit). pulled this (low t.topic t.queue) (map unit_in us) from (asked_number 32 most) (tags_take tags)) (seen_is low added n t is)

-- and a search
pub search_among : (low : List ℕ → ℕ → ℕ) (added : List Added) (n : ℕ) (tables : List Table) (k : ℕ) (t : Table) (time : ℤ) → AreTablesOf low added n tables → slice_get tables k ≡ Some t
    → first_from time t ≡ first_among low (take n added) t.topic t.queue time
search_among low added n tables k t time are at =
    let is = are.each k t at in
    ap (λ m. m + position_or_len (λ stored. int_le time (pos (store_in stored))) (take t.seen t.units)) is.first
    ∙ ap (λ (us : List StoredUnit). low t.topic t.queue + position_or_len (λ stored. int_le time (pos (store_in stored))) us) (seen_is low added n t is)

-- the table that has more room
pub room_there : (old new : List Table) (k additional : ℕ) → k < length old → ((t : Table) → slice_get old k ≡ Some t → (s : ℕ) × (additional ≤ s) × (new ≡ slice_set old k (with_room t s)))
    → (t : Table) → slice_get new k ≡ Some t → additional ≤ t.spare
room_there old new k additional within changed t at =
    let was = there old k within in
    let room = changed was.0 was.1 in
    ⊎_elim (λ (same : (k ≡ k) × (t ≡ with_room was.0 room.0)). subst (λ (u : Table). additional ≤ u.spare) (sym same.1) room.1)
    (λ (other : (k ≢ k) × (slice_get old k ≡ Some t)). absurd (other.0 refl))
    (get_set old k k (with_room was.0 room.0) t (subst (λ (ts : List Table). slice_get ts k ≡ Some t) room.2 at))

-- and the table that was made
pub room_made : {A : Type 0} (result : Result ℕ A) (old new : List Table) (topic : List ℕ) (queue additional : ℕ) → IfOk result (λ k. k ≡ length old)
    → OnOk result ((s : ℕ) × (additional ≤ s) × (new ≡ old ++ empty_table topic queue 0 s ∷ []))
    → IfOk result (λ k. (t : Table) → slice_get new k ≡ Some t → additional ≤ t.spare)
room_made (Err fault) old new topic queue additional last made = tt
room_made (Ok k) old new topic queue additional last made = λ t at.
    ⊎_elim (λ (before : slice_get old k ≡ Some t). absurd (let within = get_within old k t before in let none : ⊥ = omega (arith, within, last) in none))
    (λ (new_one : (k ≡ length old) × (t ≡ empty_table topic queue 0 made.0)). subst (λ (u : Table). additional ≤ u.spare) (sym new_one.1) made.1)
    (get_push old (empty_table topic queue 0 made.0) t k (subst (λ (ts : List Table). slice_get ts k ≡ Some t) made.2 at))
