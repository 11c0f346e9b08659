-- One record more in a queue.
use Rattle.std.proofs.Common.{◌≡◌, ◌∙◌, ℕ, zero, suc, take, get_or, ◌+◌, ◌<◌, ◌≤◌, ◌++◌, List, [], ◌∷◌, length, slice_index, Bool, true, false, cond, ◌&&◌, ◌==◌, refl, ap, sym, arith, length-append}
use Rattle.std.proofs.lemmas.Grind.{common_steps}
use Rattle.std.proofs.lemmas.List.Elements.{filter-append}
use Rattle.std.proofs.lemmas.Bool.{and_parts}
use Rattle.std.proofs.lemmas.Slice.Eq.{bytes_eq-Decides}
use Rattle.std.proofs.lemmas.Bool.Decides.{Decides-eqb}
use Rattle.std.specs.Str.{bytes_eq}
use Rattle.std.specs.Prelude.{filter, String, Option, Some, Result, Ok, Err, OnErr}
use Rattle.std.specs.Option.{unwrap_or}
use Rattle.std.specs.BTreeMap.{BTreeMap, get_by_text}
use Rattle.std.specs.Map.{update}
use Rattle.log_recovery.specs.Counts.{count_in}
use Rattle.record_codec.specs.Entry.{Entry}
use Rattle.log_model.specs.Bases.{Base}
use Rattle.log_model.specs.Queues.{queue_end}
use Rattle.log_model.specs.Told.{with_count, with_counts}

one_or_none : (b : Bool) (r : Entry) → length (cond b (r ∷ []) []) ≡ cond b 1 0
one_or_none true r = refl
one_or_none false r = refl

-- the end of a queue behind one record more
pub queue_end_more : (base : Base) (log : List Entry) (r : Entry) (topic : List ℕ) (queue : ℕ)
    → queue_end base (log ++ r ∷ []) topic queue ≡ queue_end base log topic queue + cond (bytes_eq r.topic topic && (r.queue == queue)) 1 0
queue_end_more base log r topic queue =
    let p : Entry → Bool = λ e. bytes_eq e.topic topic && (e.queue == queue) in
    omega (arith, ap length (filter-append p log (r ∷ [])), length-append (filter p log) (filter p (r ∷ [])), one_or_none (p r) r)

by_case : (b : Bool) (after before new count old : ℕ) → after ≡ before + cond b 1 0 → new ≡ cond b (count + 1) old → (b ≡ true → count ≡ before) → old ≡ before → new ≡ after
by_case true after before new count old a n same o = omega (arith, a, n, same refl)
by_case false after before new count old a n same o = omega (arith, a, n, o)

-- what was counted for each queue is its end, with the record that came
pub count_more : (base : Base) (log : List Entry) (r : Entry) (topic other : List ℕ) (queue number count old new : ℕ) → r.topic ≡ topic → r.queue ≡ queue
    → count ≡ queue_end base log topic queue → old ≡ queue_end base log other number → new ≡ cond (bytes_eq topic other && (queue == number)) (count + 1) old
    → new ≡ queue_end base (log ++ r ∷ []) other number
count_more base log r topic other queue number count old new of_topic of_queue count_is old_is new_is =
    let more : queue_end base (log ++ r ∷ []) other number ≡ queue_end base log other number + cond (bytes_eq topic other && (queue == number)) 1 0 =
    queue_end_more base log r other number ∙ (λ i. queue_end base log other number + cond (bytes_eq (of_topic i) other && (of_queue i == number)) 1 0) in
    by_case (bytes_eq topic other && (queue == number)) _ (queue_end base log other number) new count old more new_is
    (λ both.
    let parts = and_parts (bytes_eq topic other) (queue == number) both in
    let same_topic : topic ≡ other = (bytes_eq-Decides topic other).0 parts.0 in
    let same_queue : queue ≡ number = (Decides-eqb queue number).0 parts.1 in
    count_is ∙ (λ i. queue_end base log (same_topic i) (same_queue i)))
    old_is

-- no count passes the number of the records
pub count_within : (b : Bool) (records count old new : ℕ) → count ≤ records → old ≤ records → new ≡ cond b (count + 1) old → new ≤ records + 1
count_within true records count old new c o n = omega (arith, c, n)
count_within false records count old new c o n = omega (arith, o, n)

-- what stands in a list with one number more
pub index_push : (xs : List ℕ) (y at other : ℕ) → length xs ≡ at → (was : ℕ) → slice_index xs other ≡ was → slice_index (xs ++ y ∷ []) other ≡ cond (at == other) y was
index_push xs y at other long was is = grind (arith, common_steps)

topic_cases : {A : Type 0} (b : Bool) (old : BTreeMap (String A) (List ℕ)) (found : Option (List ℕ)) (topic other was now : List ℕ) (queue number count : ℕ) → (b ≡ true → topic ≡ other)
    → found ≡ cond b (Some now) (get_by_text old other) → unwrap_or (get_by_text old topic) [] ≡ was → slice_index now number ≡ cond (queue == number) count (slice_index was number)
    → slice_index (unwrap_or found []) number ≡ cond (b && (queue == number)) count (count_in old other number)
topic_cases true old found topic other was now queue number count same is was_is set =
    ap (λ (o : Option (List ℕ)). slice_index (unwrap_or o []) number) is ∙ set
    ∙ ap (λ (l : List ℕ). cond (queue == number) count (slice_index l number)) (sym was_is ∙ ap (λ (t : List ℕ). unwrap_or (get_by_text old t) []) (same refl))
topic_cases false old found topic other was now queue number count same is was_is set = ap (λ (o : Option (List ℕ)). slice_index (unwrap_or o []) number) is

same_cases : {A : Type 0} (b : Bool) (old : BTreeMap (String A) (List ℕ)) (found : Option (List ℕ)) (topic other was now : List ℕ) (number : ℕ) → (b ≡ true → topic ≡ other)
    → found ≡ cond b (Some now) (get_by_text old other) → unwrap_or (get_by_text old topic) [] ≡ was → slice_index now number ≡ slice_index was number
    → slice_index (unwrap_or found []) number ≡ count_in old other number
same_cases true old found topic other was now number same is was_is set =
    ap (λ (o : Option (List ℕ)). slice_index (unwrap_or o []) number) is ∙ set
    ∙ ap (λ (l : List ℕ). slice_index l number) (sym was_is ∙ ap (λ (t : List ℕ). unwrap_or (get_by_text old t) []) (same refl))
same_cases false old found topic other was now number same is was_is set = ap (λ (o : Option (List ℕ)). slice_index (unwrap_or o []) number) is

-- what was counted for each queue, behind a change of one topic's counts
pub counted_after : {A : Type 0} (old new : BTreeMap (String A) (List ℕ)) (topic was now : List ℕ) (queue count : ℕ)
    → ((other : List ℕ) → get_by_text new other ≡ update bytes_eq (get_by_text old) topic (Some now) other) → unwrap_or (get_by_text old topic) [] ≡ was
    → ((number : ℕ) → slice_index now number ≡ cond (queue == number) count (slice_index was number))
    → (other : List ℕ) (number : ℕ) → count_in new other number ≡ cond (bytes_eq topic other && (queue == number)) count (count_in old other number)
counted_after old new topic was now queue count updates was_is set other number = topic_cases (bytes_eq topic other) old (get_by_text new other) topic other was now queue number count (λ yes. (bytes_eq-Decides topic other).0 yes) (updates other) was_is (set number)

-- and behind none
pub counted_same : {A : Type 0} (old new : BTreeMap (String A) (List ℕ)) (topic was now : List ℕ)
    → ((other : List ℕ) → get_by_text new other ≡ update bytes_eq (get_by_text old) topic (Some now) other) → unwrap_or (get_by_text old topic) [] ≡ was
    → ((number : ℕ) → slice_index now number ≡ slice_index was number) → (other : List ℕ) (number : ℕ) → count_in new other number ≡ count_in old other number
counted_same old new topic was now updates was_is same other number = same_cases (bytes_eq topic other) old (get_by_text new other) topic other was now number (λ yes. (bytes_eq-Decides topic other).0 yes) (updates other) was_is (same number)

-- what holds anyway holds of a fault
pub on_err : {A E : Type 0} {P : Type 0} (result : Result A E) → P → OnErr result P
on_err (Ok value) holds = tt
on_err (Err fault) holds = holds

-- an entry more is the last
pub with_counts-push : {A : Type 0} (entries : List (String A × ℕ × ℕ)) (entry : String A × ℕ × ℕ) (counts : List ℕ → ℕ → ℕ) (topic : List ℕ) (queue : ℕ)
    → with_counts (entries ++ entry ∷ []) counts topic queue ≡ with_count entry (with_counts entries counts) topic queue
with_counts-push [] entry counts topic queue = refl
with_counts-push (first ∷ entries) entry counts topic queue = with_counts-push entries entry (with_count first counts) topic queue

-- an element more of a list
pub take_or : {A : Type 0} (xs : List A) (i : ℕ) (d : A) → i < length xs → take (i + 1) xs ≡ take i xs ++ get_or xs i d ∷ []
take_or [] i d low = absurd (omega (arith, low))
take_or {A = A} (x ∷ xs) zero d low = refl
take_or {A = A} (x ∷ xs) (suc i) d low = let one : suc i + 1 ≡ suc (i + 1) = omega arith in
    ap (λ (n : ℕ). take n (x ∷ xs)) one ∙ ap (λ (l : List A). x ∷ l) (take_or xs i d (omega (arith, low)))
