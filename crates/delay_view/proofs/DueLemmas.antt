-- The level that is due is that of the log.
use Rattle.std.proofs.Common.{◌≡◌, ◌∙◌, ℕ, zero, suc, ◌+◌, ◌-◌, Bool, true, false, cond, is_some, ◌||◌, nat_le, nat_lt, List, [], ◌∷◌, map, length, take, drop, slice_get, Option, Some, None, refl, sym, ap, subst, arith}
use Rattle.std.specs.Prelude.{filter, option_map}
use Rattle.std.proofs.lemmas.List.{take-append-drop, take_at, take-map}
use Rattle.std.proofs.lemmas.List.Elements.{filter-append}
use Rattle.mq_bytes.specs.Delays.{level_delay}
use Rattle.record_codec.specs.Entry.{Entry}
use Rattle.log_model.specs.Admissible.{level_topic}
use Rattle.log_model.specs.Numbered.{Log, below, queue_min, records_of}
use Rattle.log_model.specs.Delays.{progress, next_delayed, due_here, due_among, due_delayed, levels}
use Rattle.delay_view.specs.Levels.{Level, next_time, has_come, is_any_due, due_from, due_of, empty_level}
use Rattle.delay_view.specs.OfLog.{delivery_time, IsLevelOf, AreLevelsOf}

-- the front of what a filter leaves is what it leaves of the front
filter_front : {A : Type 0} (test : A → Bool) (n : ℕ) (xs : List A) → take (length (filter test (take n xs))) (filter test xs) ≡ filter test (take n xs)
filter_front {A = A} test n xs =
    ap (λ (l : List A). take (length (filter test (take n xs))) (filter test l)) (sym (take-append-drop n xs))
    ∙ ap (take (length (filter test (take n xs)))) (filter-append test (take n xs) (drop n xs))
    ∙ take_at (filter test (take n xs)) (filter test (drop n xs)) (length (filter test (take n xs))) refl

slice_get-map : {A B : Type 0} (f : A → B) (xs : List A) (i : ℕ) → slice_get (map f xs) i ≡ option_map f (slice_get xs i)
slice_get-map f [] zero = refl
slice_get-map f [] (suc i) = refl
slice_get-map f (x ∷ xs) zero = refl
slice_get-map f (x ∷ xs) (suc i) = slice_get-map f xs i

item_by : (b : Bool) (f : Entry → ℕ) (xs : List Entry) (i : ℕ) → cond b None (slice_get (map f xs) i) ≡ option_map f (cond b None (slice_get xs i))
item_by true f xs i = refl
item_by false f xs i = slice_get-map f xs i

-- the next message of a level, by its delivery time
next_is : (log : Log) (d level : ℕ) (l : Level) → IsLevelOf log d level l → next_time l ≡ option_map (delivery_time level) (next_delayed log d level)
next_is log d level l is =
    let low = queue_min log level_topic (level - 1) in
    let offset = progress log level in
    let seen = records_of (below log d) level_topic (level - 1) in
    let all = records_of log level_topic (level - 1) in
    ap (λ (n : ℕ). cond (nat_lt n l.low) None (slice_get (take l.seen l.times) (n - l.low))) is.copied
    ∙ ap (λ (n : ℕ). cond (nat_lt offset n) None (slice_get (take l.seen l.times) (offset - n))) is.low
    ∙ ap (λ (ts : List ℕ). cond (nat_lt offset low) None (slice_get (take l.seen ts) (offset - low))) is.times
    ∙ ap (λ (n : ℕ). cond (nat_lt offset low) None (slice_get (take n (map (delivery_time level) all)) (offset - low))) is.seen
    ∙ ap (λ (ts : List ℕ). cond (nat_lt offset low) None (slice_get ts (offset - low))) (take-map (delivery_time level) (length seen) all)
    ∙ ap (λ (rs : List Entry). cond (nat_lt offset low) None (slice_get (map (delivery_time level) rs) (offset - low))) (filter_front _ (d - log.base.records) log.records)
    ∙ item_by (nat_lt offset low) (delivery_time level) seen (offset - low)

-- a level with the offset of its next message
abbrev pub offset_of : Log → ℕ × Entry → ℕ × ℕ
offset_of log next = (next.0, progress log next.0)

due_by : (b : Bool) (log : Log) (level : ℕ) (r : Entry) (more : Option (ℕ × Entry))
    → cond b (Some (level, progress log level)) (option_map (offset_of log) more) ≡ option_map (offset_of log) (cond b (Some (level, r)) more)
due_by true log level r more = refl
due_by false log level r more = refl

here_by : (log : Log) (now level : ℕ) (next : Option Entry) (more : Option (ℕ × Entry))
    → cond (has_come now (option_map (delivery_time level) next)) (Some (level, progress log level)) (option_map (offset_of log) more)
    ≡ option_map (offset_of log) (due_here now level next more)
here_by log now level None more = refl
here_by log now level (Some r) more = due_by (nat_le (r.store + level_delay level) now) log level r more

-- the numbers that follow one
AreFrom : ℕ → List ℕ → Type 0
AreFrom n [] = Unit {0}
AreFrom n (level ∷ more) = (level ≡ n) × AreFrom (n + 1) more

due_in : (log : Log) (d now n : ℕ) (ls : List Level) (vs : List ℕ) → length ls ≡ length vs → AreFrom n vs
    → ((k : ℕ) (l : Level) → slice_get ls k ≡ Some l → IsLevelOf log d (n + k) l) → due_from now n ls ≡ option_map (offset_of log) (due_among log d now vs)
unfolding AreFrom
due_in log d now n [] [] same from each = refl
due_in log d now n [] (v ∷ vs) same from each = absurd (omega (arith, same))
due_in log d now n (l ∷ ls) [] same from each = absurd (omega (arith, same))
due_in log d now n (l ∷ ls) (v ∷ vs) same from each =
    let is : IsLevelOf log d n l = subst (λ (m : ℕ). IsLevelOf log d m l) (let e : n + 0 ≡ n = omega arith in e) (each 0 l refl) in
    let rest = due_in log d now (n + 1) ls vs (omega (arith, same)) from.1
    (λ k x at. subst (λ (m : ℕ). IsLevelOf log d m x) (let e : n + suc k ≡ n + 1 + k = omega arith in e) (each (suc k) x at)) in
    ap (λ (o : Option ℕ). cond (has_come now o) (Some (n, l.copied)) (due_from now (n + 1) ls)) (next_is log d n l is)
    ∙ ap (λ (m : ℕ). cond (has_come now (option_map (delivery_time n) (next_delayed log d n))) (Some (n, m)) (due_from now (n + 1) ls)) is.copied
    ∙ ap (λ (o : Option (ℕ × ℕ)). cond (has_come now (option_map (delivery_time n) (next_delayed log d n))) (Some (n, progress log n)) o) rest
    ∙ here_by log now n (next_delayed log d n) (due_among log d now vs)
    ∙ ap (λ (m : ℕ). option_map (offset_of log) (due_here now m (next_delayed log d m) (due_among log d now vs))) (sym from.0)

from_one : AreFrom 1 levels
unfolding AreFrom
from_one = (refl, (refl, (refl, (refl, (refl, (refl, (refl, (refl, (refl, (refl, (refl, (refl, (refl, (refl, (refl, (refl, (refl, (refl, tt))))))))))))))))))

-- the lowest level that is due, with the offset of its next message
pub due_of_log : (log : Log) (d now : ℕ) (ls : List Level) → AreLevelsOf log d ls → due_of now ls ≡ option_map (offset_of log) (due_delayed log d now)
due_of_log log d now ls are =
    due_in log d now 1 ls levels are.all from_one
    (λ k l at. subst (λ (m : ℕ). IsLevelOf log d m l) (let e : k + 1 ≡ 1 + k = omega arith in e) (are.each k l at))

-- none of these levels has a message
pub AreEmpty : List Level → Type 0
AreEmpty ls = (k : ℕ) (l : Level) → slice_get ls k ≡ Some l → l ≡ empty_level l.spare

-- ---- when one is due

some_by : (b : Bool) (x : ℕ × ℕ) (more : Option (ℕ × ℕ)) → is_some (cond b (Some x) more) ≡ (b || is_some more)
some_by true x more = refl
some_by false x more = refl

-- a level is due where the time of one has come
pub any_due : (now n : ℕ) (ls : List Level) → is_some (due_from now n ls) ≡ is_any_due now ls
any_due now n [] = refl
any_due now n (l ∷ ls) =
    some_by (has_come now (next_time l)) (n, l.copied) (due_from now (n + 1) ls)
    ∙ ap (λ (b : Bool). has_come now (next_time l) || b) (any_due now (n + 1) ls)

some_mapped : (log : Log) (o : Option (ℕ × Entry)) → is_some (option_map (offset_of log) o) ≡ is_some o
some_mapped log None = refl
some_mapped log (Some next) = refl

-- a level is due where one of the log is
pub is_due_in_log : (log : Log) (d now : ℕ) (ls : List Level) → AreLevelsOf log d ls → is_some (due_of now ls) ≡ is_some (due_delayed log d now)
is_due_in_log log d now ls are = ap (λ (o : Option (ℕ × ℕ)). is_some o) (due_of_log log d now ls are) ∙ some_mapped log (due_delayed log d now)
