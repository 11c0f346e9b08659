-- The levels of a log with one record more, and with one dispatched.
use Rattle.std.proofs.Common.{◌≡◌, ◌∙◌, ◌≢◌, ◌⊎◌, inl, inr, ℕ, zero, suc, ◌+◌, ◌-◌, ◌<◌, ◌≤◌, Bool, true, false, cond, nat_lt, List, [], ◌∷◌, ◌++◌, map, length, set, take, slice_get, Some, None, refl, sym, ap, subst, arith, eq-eqb, length-set, append-nil}
use Rattle.std.specs.Prelude.{◌==◌, ◌&&◌, filter, count_by, Result, Ok, Err, OnOk}
use Rattle.std.specs.Str.{bytes_eq}
use Rattle.std.proofs.lemmas.Bool.{ne_eqb, ltb-false}
use Rattle.std.proofs.lemmas.List.{take-append-le, map-append, length_push}
use Rattle.std.proofs.lemmas.List.Elements.{filter-append}
use Rattle.std.proofs.lemmas.List.Sums.{sum_by-append}
use Rattle.record_codec.specs.Entry.{Entry}
use Rattle.log_model.specs.Admissible.{level_topic}
use Rattle.log_model.specs.Kinds.{is_delivery, is_delayed}
use Rattle.log_model.specs.Numbered.{Log, count_of, record_at, records_of, with_appended}
use Rattle.log_model.specs.Delays.{progress}
use Rattle.delay_view.specs.Levels.{Level, with_room, with_time, with_next_seen, with_next_copied}
use Rattle.delay_view.specs.OfLog.{delivery_time, IsLevelOf, AreLevelsOf, IsMessageOf, IsCopyOf, IsOther}

-- ---- lists

-- an item at each place within
pub get_there : {A : Type 0} (xs : List A) (k : ℕ) → k < length xs → (x : A) × (slice_get xs k ≡ Some x)
get_there [] k within = absurd (omega (arith, within))
get_there (x ∷ xs) zero within = (x, refl)
get_there (x ∷ xs) (suc k) within = get_there xs k (omega (arith, within))

pub get_within : {A : Type 0} (xs : List A) (k : ℕ) (x : A) → slice_get xs k ≡ Some x → k < length xs
get_within [] k x at = cc at
get_within (y ∷ xs) zero x at = omega arith
get_within (y ∷ xs) (suc k) x at = let low = get_within xs k x at in omega (arith, low)

-- what is at a place of a list where one was set
pub at_set : {A : Type 0} (xs : List A) (k j : ℕ) (y x : A) → slice_get (set xs k y) j ≡ Some x → ((j ≡ k) × (x ≡ y)) ⊎ ((j ≢ k) × (slice_get xs j ≡ Some x))
at_set [] k j y x at = cc at
at_set (z ∷ xs) zero zero y x at = inl (refl, cc at)
at_set (z ∷ xs) zero (suc j) y x at = inr ((λ same. absurd (omega (arith, same))), at)
at_set (z ∷ xs) (suc k) zero y x at = inr ((λ same. absurd (omega (arith, same))), at)
at_set (z ∷ xs) (suc k) (suc j) y x at = elim (at_set xs k j y x at) [
  | inl here ↦ inl (ap suc here.0, here.1)
  | inr other ↦ inr ((λ same. other.0 (omega (arith, same))), other.1)
]

take_next : {A : Type 0} (xs : List A) (n : ℕ) (x : A) → slice_get xs n ≡ Some x → take (suc n) xs ≡ take n xs ++ x ∷ []
take_next [] n x e = cc e
take_next {A = A} (y ∷ xs) zero x e = ap (λ (z : A). z ∷ []) (cc e)
take_next {A = A} (y ∷ xs) (suc n) x e = ap (λ (zs : List A). y ∷ zs) (take_next xs n x e)

map_cond : {A B : Type 0} (f : A → B) (b : Bool) (x : A) → map f (cond b (x ∷ []) []) ≡ cond b (f x ∷ []) []
map_cond f true x = refl
map_cond f false x = refl

length_cond : {A : Type 0} (b : Bool) (xs : List A) (x : A) → length (xs ++ cond b (x ∷ []) []) ≡ length xs + cond b 1 0
length_cond true xs x = length_push xs x
length_cond false xs x = let e = ap length (append-nil xs) in omega (arith, e)

-- ---- one level

count_one : (test : Entry → Bool) (r : Entry) → count_by test (r ∷ []) ≡ cond (test r) 1 0
count_one test r = let n = cond (test r) 1 0 in let e : count_by test (r ∷ []) ≡ n = omega arith in e

count_more : (test : Entry → Bool) (xs : List Entry) (r : Entry) → count_by test (xs ++ r ∷ []) ≡ count_by test xs + cond (test r) 1 0
count_more test xs r = sum_by-append (λ (x : Entry). cond (test x) 1 0) xs (r ∷ []) ∙ ap (λ (n : ℕ). count_by test xs + n) (count_one test r)

-- how far a level is with one record more
progress_more : (log : Log) (r : Entry) (level : ℕ) → progress (with_appended log (r ∷ [])) level ≡ progress log level + cond (is_delivery level r) 1 0
progress_more log r level =
    ap (λ (n : ℕ). log.base.levels level + n) (count_more (is_delivery level) log.records r)
    ∙ (let low = log.base.levels level in let n = count_by (is_delivery level) log.records in let one = cond (is_delivery level r) 1 0 in
    let e : low + (n + one) ≡ low + n + one = omega arith in e)

-- a record that stands at a number
standing : (b : Bool) (d base : ℕ) (records : List Entry) (r : Entry) → nat_lt d base ≡ b → cond b None (slice_get records (d - base)) ≡ Some r
    → (base ≤ d) × (slice_get records (d - base) ≡ Some r)
standing true d base records r is at = cc at
standing false d base records r is at = (ltb-false d base is, at)

-- the record is in the queue of the level
abbrev is_here : ℕ → Entry → Bool
is_here level r = bytes_eq r.topic level_topic && (r.queue == level - 1)

here_message : (level other : ℕ) (r : Entry) → IsMessageOf level r → other - 1 ≡ level - 1 → is_here other r ≡ true
here_message level other r is same =
    ap (λ (b : Bool). b && (r.queue == other - 1)) (ap (λ (t : List ℕ). bytes_eq t level_topic) is.topic ∙ refl)
    ∙ eq-eqb r.queue (other - 1) (is.queue ∙ sym same)

elsewhere_message : (level other : ℕ) (r : Entry) → IsMessageOf level r → other - 1 ≢ level - 1 → is_here other r ≡ false
elsewhere_message level other r is differs =
    ap (λ (b : Bool). b && (r.queue == other - 1)) (ap (λ (t : List ℕ). bytes_eq t level_topic) is.topic ∙ refl)
    ∙ ne_eqb r.queue (other - 1) (λ same. differs (sym same ∙ is.queue))

elsewhere_plain : (level : ℕ) (r : Entry) → is_delayed r ≡ false → is_here level r ≡ false
elsewhere_plain level r plain = ap (λ (b : Bool). b && (r.queue == level - 1)) plain

-- a level of a log with one record more
grown : (log : Log) (d level : ℕ) (r : Entry) (l m : Level) (here delivers : Bool) → IsLevelOf log d level l → d ≤ count_of log → is_here level r ≡ here → is_delivery level r ≡ delivers
    → m.low ≡ l.low → m.times ≡ l.times ++ cond here (delivery_time level r ∷ []) [] → m.seen ≡ l.seen → m.copied ≡ l.copied + cond delivers 1 0
    → IsLevelOf (with_appended log (r ∷ [])) d level m
grown log d level r l m here delivers is few at delivered low times seen copied =
    let all = records_of log level_topic (level - 1) in
    let f = delivery_time level in
    let test = λ (q : Entry). bytes_eq q.topic level_topic && (q.queue == level - 1) in
    record {
      low = low ∙ is.low;
      times =
          times ∙ ap (λ (ts : List ℕ). ts ++ cond here (f r ∷ []) []) is.times
          ∙ sym (ap (map f) (filter-append test log.records (r ∷ []))
          ∙ map-append f all (cond (is_here level r) (r ∷ []) [])
          ∙ ap (λ (ts : List ℕ). map f all ++ ts) (map_cond f (is_here level r) r ∙ ap (λ (b : Bool). cond b (f r ∷ []) []) at));
      seen =
          seen ∙ is.seen
          ∙ sym (ap (λ (rs : List Entry). length (filter test rs)) (take-append-le (d - log.base.records) log.records (r ∷ []) (omega (arith, few))));
      copied =
          copied ∙ ap (λ (n : ℕ). n + cond delivers 1 0) is.copied
          ∙ ap (λ (b : Bool). progress log level + cond b 1 0) (sym delivered)
          ∙ sym (progress_more log r level);
    }

-- a level of a log of which one record more was dispatched
dispatched : (log : Log) (d level : ℕ) (r : Entry) (l m : Level) (here : Bool) → IsLevelOf log d level l → record_at log d ≡ Some r → is_here level r ≡ here
    → m.low ≡ l.low → m.times ≡ l.times → m.seen ≡ l.seen + cond here 1 0 → m.copied ≡ l.copied → IsLevelOf log (d + 1) level m
dispatched log d level r l m here is at in_it low times seen copied =
    let test = λ (q : Entry). bytes_eq q.topic level_topic && (q.queue == level - 1) in
    let base = log.base.records in
    let there = standing (nat_lt d base) d base log.records r refl at in
    let one : d + 1 - base ≡ suc (d - base) = (let within = there.0 in omega (arith, within)) in
    record {
      low = low ∙ is.low;
      times = times ∙ is.times;
      seen =
          seen ∙ ap (λ (n : ℕ). n + cond here 1 0) is.seen ∙ ap (λ (b : Bool). length (filter test (take (d - base) log.records)) + cond b 1 0) (sym in_it)
          ∙ sym (length_cond (is_here level r) (filter test (take (d - base) log.records)) r)
          ∙ sym (ap (λ (n : ℕ). length (filter test (take n log.records))) one
          ∙ ap (λ (rs : List Entry). length (filter test rs)) (take_next log.records (d - base) r there.1)
          ∙ ap length (filter-append test (take (d - base) log.records) (r ∷ [])));
      copied = copied ∙ is.copied;
    }

-- ---- all levels

module _ (log : Log) (d : ℕ) (levels others : List Level) (level : ℕ) (l : Level) where
  -- more room changes nothing
  pub roomy_levels : (s : ℕ) → AreLevelsOf log d levels → slice_get levels (level - 1) ≡ Some l → others ≡ set levels (level - 1) (with_room l s) → AreLevelsOf log d others
  roomy_levels s are at is = record {
    all = ap length is ∙ length-set levels (level - 1) (with_room l s) ∙ are.all;
    each = λ k m there. elim (at_set levels (level - 1) k (with_room l s) m (subst (λ (ls : List Level). slice_get ls k ≡ Some m) is there)) [
      | inl here ↦
          (let same = are.each k l (subst (λ (n : ℕ). slice_get levels n ≡ Some l) (sym here.0) at) in
          subst (λ (x : Level). IsLevelOf log d (k + 1) x) (sym here.1) (record { low = same.low; times = same.times; seen = same.seen; copied = same.copied }))
      | inr other ↦ are.each k m other.1
    ];
  }

  -- a message is added
  pub added_levels : (r : Entry) (time s : ℕ) → 1 ≤ level → AreLevelsOf log d levels → d ≤ count_of log → IsMessageOf level r → time ≡ delivery_time level r
      → slice_get levels (level - 1) ≡ Some l → others ≡ set levels (level - 1) (with_time l time s) → AreLevelsOf (with_appended log (r ∷ [])) d others
  added_levels r time s some are few message timed at is = record {
    all = ap length is ∙ length-set levels (level - 1) (with_time l time s) ∙ are.all;
    each = λ k m there. elim (at_set levels (level - 1) k (with_time l time s) m (subst (λ (ls : List Level). slice_get ls k ≡ Some m) is there)) [
      | inl here ↦
          (let same = are.each k l (subst (λ (n : ℕ). slice_get levels n ≡ Some l) (sym here.0) at) in
          let this : k + 1 ≡ level = (let e = here.0 in omega (arith, e, some)) in
          subst (λ (x : Level). IsLevelOf (with_appended log (r ∷ [])) d (k + 1) x) (sym here.1)
          (grown log d (k + 1) r l (with_time l time s) true false same few (here_message level (k + 1) r message (ap (λ (n : ℕ). n - 1) this)) (message.none (k + 1))
          refl (ap (λ (t : ℕ). l.times ++ t ∷ []) (timed ∙ ap (λ (v : ℕ). delivery_time v r) (sym this))) refl (omega arith)))
      | inr other ↦
          (let differs : k + 1 - 1 ≢ level - 1 = λ same. other.0 (omega (arith, same)) in
          grown log d (k + 1) r m m false false (are.each k m other.1) few (elsewhere_message level (k + 1) r message differs) (message.none (k + 1))
          refl (sym (append-nil m.times)) refl (omega arith))
    ];
  }

  -- a message is delivered
  pub copied_levels : (r : Entry) → 1 ≤ level → AreLevelsOf log d levels → d ≤ count_of log → IsCopyOf level r
      → slice_get levels (level - 1) ≡ Some l → others ≡ set levels (level - 1) (with_next_copied l) → AreLevelsOf (with_appended log (r ∷ [])) d others
  copied_levels r some are few copy at is = record {
    all = ap length is ∙ length-set levels (level - 1) (with_next_copied l) ∙ are.all;
    each = λ k m there. elim (at_set levels (level - 1) k (with_next_copied l) m (subst (λ (ls : List Level). slice_get ls k ≡ Some m) is there)) [
      | inl here ↦
          (let same = are.each k l (subst (λ (n : ℕ). slice_get levels n ≡ Some l) (sym here.0) at) in
          let this : k + 1 ≡ level = (let e = here.0 in omega (arith, e, some)) in
          subst (λ (x : Level). IsLevelOf (with_appended log (r ∷ [])) d (k + 1) x) (sym here.1)
          (grown log d (k + 1) r l (with_next_copied l) false true same few (elsewhere_plain (k + 1) r copy.plain)
          (subst (λ (v : ℕ). is_delivery v r ≡ true) (sym this) copy.delivers)
          refl (sym (append-nil l.times)) refl refl))
      | inr other ↦
          (let differs : k + 1 ≢ level = λ same. other.0 (omega (arith, same)) in
          grown log d (k + 1) r m m false false (are.each k m other.1) few (elsewhere_plain (k + 1) r copy.plain) (copy.none (k + 1) differs)
          refl (sym (append-nil m.times)) refl (omega arith))
    ];
  }

  -- a message is dispatched
  pub seen_levels : (r : Entry) → 1 ≤ level → AreLevelsOf log d levels → record_at log d ≡ Some r → IsMessageOf level r
      → slice_get levels (level - 1) ≡ Some l → others ≡ set levels (level - 1) (with_next_seen l) → AreLevelsOf log (d + 1) others
  seen_levels r some are record_is message at is = record {
    all = ap length is ∙ length-set levels (level - 1) (with_next_seen l) ∙ are.all;
    each = λ k m there. elim (at_set levels (level - 1) k (with_next_seen l) m (subst (λ (ls : List Level). slice_get ls k ≡ Some m) is there)) [
      | inl here ↦
          (let same = are.each k l (subst (λ (n : ℕ). slice_get levels n ≡ Some l) (sym here.0) at) in
          let this : k + 1 - 1 ≡ level - 1 = (let e = here.0 in omega (arith, e)) in
          subst (λ (x : Level). IsLevelOf log (d + 1) (k + 1) x) (sym here.1)
          (dispatched log d (k + 1) r l (with_next_seen l) true same record_is (here_message level (k + 1) r message this) refl refl refl refl))
      | inr other ↦
          (let differs : k + 1 - 1 ≢ level - 1 = λ same. other.0 (omega (arith, same)) in
          dispatched log d (k + 1) r m m false (are.each k m other.1) record_is (elsewhere_message level (k + 1) r message differs) refl refl (omega arith) refl)
    ];
  }

-- another record is appended
pub other_appended : (log : Log) (d : ℕ) (r : Entry) (levels : List Level) → AreLevelsOf log d levels → d ≤ count_of log → IsOther r → AreLevelsOf (with_appended log (r ∷ [])) d levels
other_appended log d r levels are few other = record {
  all = are.all;
  each = λ k m at. grown log d (k + 1) r m m false false (are.each k m at) few (elsewhere_plain (k + 1) r other.plain) (other.none (k + 1))
      refl (sym (append-nil m.times)) refl (omega arith);
}

-- another record is dispatched
pub other_dispatched : (log : Log) (d : ℕ) (r : Entry) (levels : List Level) → AreLevelsOf log d levels → record_at log d ≡ Some r → is_delayed r ≡ false → AreLevelsOf log (d + 1) levels
other_dispatched log d r levels are at plain = record {
  all = are.all;
  each = λ k m there. dispatched log d (k + 1) r m m false (are.each k m there) at (elsewhere_plain (k + 1) r plain) refl refl (omega arith) refl;
}

-- a level has the room that was made
pub room_there : {A E : Type 0} (result : Result A E) (levels others : List Level) (k : ℕ) → k < length levels
    → ((l : Level) → slice_get levels k ≡ Some l → (s : ℕ) × (l.spare ≤ s) × (OnOk result (0 < s)) × (others ≡ set levels k (with_room l s)))
    → OnOk result ((l : Level) → slice_get others k ≡ Some l → 0 < l.spare)
room_there (Ok value) levels others k within made = λ l at.
    (let first = get_there levels k within in
    let changed = made first.0 first.1 in
    elim (at_set levels k k (with_room first.0 changed.0) l (subst (λ (ls : List Level). slice_get ls k ≡ Some l) changed.3 at)) [
      | inl here ↦ subst (λ (x : Level). 0 < x.spare) (sym here.1) changed.2
      | inr other ↦ absurd (other.0 refl)
    ])
room_there (Err fault) levels others k within made = tt
