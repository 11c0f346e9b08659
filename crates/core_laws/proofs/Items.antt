-- The items of a queue, in a front of the log and behind records that were removed.
use Rattle.std.proofs.Common.{◌≡◌, inl, inr, refl, ap, sym, ◌∙◌, subst, arith, ℕ, zero, suc, ◌-◌, ◌≤◌, List, [], ◌∷◌, ◌++◌, take, drop, filter, slice_get, Bool, true, false, cond, Some, None}
use Rattle.std.specs.Prelude.{◌&&◌, ◌==◌, nat_lt}
use Rattle.std.specs.Str.{bytes_eq}
use Rattle.std.proofs.lemmas.Bool.{cases_Bool, ltb-true, ltb-false, cond-true, cond-false}
use Rattle.record_codec.specs.Entry.{Entry}
use Rattle.log_model.specs.Numbered.{Log, item_at, queue_min, records_of}
use Rattle.log_model.specs.Queues.{queue_of}
use Rattle.core_laws.specs.Delays.{front}
use Rattle.core_laws.proofs.Lists.{get_left}

filter_on : (p : Entry → Bool) (xs ys : List Entry) → filter p (xs ++ ys) ≡ filter p xs ++ filter p ys
filter_on p [] ys = refl
filter_on p (x ∷ xs) ys =
    let rest = filter_on p xs ys in
    elim (p x) as (λ b. cond b (x ∷ filter p (xs ++ ys)) (filter p (xs ++ ys)) ≡ cond b (x ∷ filter p xs) (filter p xs) ++ filter p ys) [
      | true ↦ ap (λ (l : List Entry). x ∷ l) rest
      | false ↦ rest
    ]

pub queue_on : (xs ys : List Entry) (t : List ℕ) (q : ℕ) → queue_of (xs ++ ys) t q ≡ queue_of xs t q ++ queue_of ys t q
queue_on xs ys t q = filter_on (λ r. bytes_eq r.topic t && (r.queue == q)) xs ys

-- an item stands at its index in the queue
pub item_slice : (log : Log) (t : List ℕ) (q n : ℕ) (item : Entry) → item_at log t q n ≡ Some item
    → (queue_min log t q ≤ n) × (slice_get (queue_of log.records t q) (n - queue_min log t q) ≡ Some item)
item_slice log t q n item is = elim (cases_Bool (nat_lt n (queue_min log t q))) [
  | inl low ↦ absurd (let none : None ≡ Some item = sym (cond-true (nat_lt n (queue_min log t q)) None (slice_get (records_of log t q) (n - queue_min log t q)) low) ∙ is in cc)
  | inr high ↦ (ltb-false n (queue_min log t q) high, sym (cond-false (nat_lt n (queue_min log t q)) None (slice_get (records_of log t q) (n - queue_min log t q)) high) ∙ is)
]

pub slice_item : (log : Log) (t : List ℕ) (q n : ℕ) (item : Entry) → queue_min log t q ≤ n → slice_get (queue_of log.records t q) (n - queue_min log t q) ≡ Some item
    → item_at log t q n ≡ Some item
slice_item log t q n item low got = elim (cases_Bool (nat_lt n (queue_min log t q))) [
  | inl less ↦ absurd (omega (arith, ltb-true n (queue_min log t q) less, low))
  | inr high ↦ cond-false (nat_lt n (queue_min log t q)) None (slice_get (records_of log t q) (n - queue_min log t q)) high ∙ got
]

take_drop : (n : ℕ) (xs : List Entry) → take n xs ++ drop n xs ≡ xs
take_drop zero xs = refl
take_drop (suc n) [] = refl
take_drop (suc n) (x ∷ xs) = ap (λ (l : List Entry). x ∷ l) (take_drop n xs)

-- an item of a front of the log is one of the log
pub item_later : (log : Log) (n : ℕ) (t : List ℕ) (q k : ℕ) (item : Entry) → item_at (front log n) t q k ≡ Some item → item_at log t q k ≡ Some item
item_later log n t q k item is =
    let h = item_slice (front log n) t q k item is in
    let whole : queue_of log.records t q ≡ queue_of (take n log.records) t q ++ queue_of (drop n log.records) t q =
    ap (λ (l : List Entry). queue_of l t q) (sym (take_drop n log.records)) ∙ queue_on (take n log.records) (drop n log.records) t q in
    slice_item log t q k item h.0 (subst (λ (l : List Entry). slice_get l (k - queue_min log t q) ≡ Some item) (sym whole)
    (get_left (queue_of (take n log.records) t q) (queue_of (drop n log.records) t q) (k - queue_min log t q) item h.1))
