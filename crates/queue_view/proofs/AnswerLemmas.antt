-- What a pull answers, by where it begins.
use Rattle.std.proofs.Common.{◌≡◌, refl, ap, sym, ◌∙◌, subst, ℕ, ◌+◌, ◌-◌, ◌≤◌, ◌==◌, ◌&&◌, nat_lt, Bool, true, false, cond, ℤ, pos, negsuc, List, [], length, take, drop, filter, if◌then◌else◌}
use Rattle.std.proofs.lemmas.List.{length-take-le, length-map}
use Rattle.std.proofs.lemmas.List.Sums.{length-filter}
use Rattle.record_codec.specs.declared.unit.Unit.{Unit as QueueUnit}
use Rattle.log_model.specs.Pulls.{Pulled, pulled, nothing, after_looking, examined}
use Rattle.log_model.specs.Keys.{asked_number}
use Rattle.queue_view.specs.declared.bounds.Start.{Start}
use Rattle.queue_view.specs.declared.bounds.Start.TheVariants.{Within, AtEnd, Outside}
use Rattle.queue_view.specs.declared.tags.Tags.{Tags}
use Rattle.queue_view.specs.declared.pulled.Pulled.{Pulled as Answer}
use Rattle.queue_view.specs.Bounds.{start_of}
use Rattle.queue_view.specs.Subscriptions.{tags_take}
use Rattle.queue_view.specs.Tables.{Table, unit_in, seen_units, max_of}
use Rattle.queue_view.specs.Answers.{this, pulled_of, pulled_within, Answers}

-- what is said of a pull that begins there
abbrev answered : ℕ → ℕ → List QueueUnit → ℕ → (QueueUnit → Bool) → Start → Pulled QueueUnit
answered low high queue most test (Within from) = after_looking this from low high test (examined this most test [] (drop (from - low) queue))
answered low high queue most test (AtEnd next) = nothing 19 next low high
answered low high queue most test (Outside next) = nothing 21 next low high

by_start : {X Y : Type 0} (f : Y → X) (a b c d : Bool) (v w x y z : Y) → cond a (f v) (cond b (f w) (cond c (f x) (cond d (f y) (f z)))) ≡ f (cond a v (cond b w (cond c x (cond d y z))))
by_start f true b c d v w x y z = refl
by_start f false true c d v w x y z = refl
by_start f false false true d v w x y z = refl
by_start f false false false true v w x y z = refl
by_start f false false false false v w x y z = refl

pulled_is : (low : ℕ) (queue : List QueueUnit) (from : ℤ) (most : ℕ) (test : QueueUnit → Bool)
    → pulled this low queue from most test ≡ answered low (low + length queue) queue most test (start_of from low (low + length queue))
pulled_is low queue (negsuc from) most test = refl
pulled_is low queue (pos from) most test =
    by_start (answered low (low + length queue) queue most test) ((low + length queue == 0) && (from == 0)) (nat_lt from low) (from == low + length queue) (nat_lt (low + length queue) from)
    (AtEnd 0) (Outside low) (AtEnd (low + length queue)) (Outside (low + length queue)) (Within from)

-- how many units consumers see
pub seen_length : (t : Table) → t.seen ≤ length t.units → length (seen_units t) ≡ t.seen
seen_length t within = length-map (take t.seen t.units) unit_in ∙ length-take-le t.seen t.units within

-- a pull is what is said where it begins
pub pulled_at : (t : Table) (from most : ℤ) (tags : Tags) (low high : ℕ) (start : Start) → t.seen ≤ length t.units → low ≡ t.low → high ≡ max_of t → start ≡ start_of from low high
    → pulled_of t from most tags ≡ answered t.low (max_of t) (seen_units t) (asked_number 32 most) (tags_take tags) start
pulled_at t from most tags low high start within is_low is_high is =
    let long = seen_length t within in
    let test = tags_take tags in
    pulled_is t.low (seen_units t) from (asked_number 32 most) test
    ∙ ap (λ n. answered t.low (t.low + n) (seen_units t) (asked_number 32 most) test (start_of from t.low (t.low + n))) long
    ∙ ap (answered t.low (max_of t) (seen_units t) (asked_number 32 most) test) (ap (λ n. start_of from n (max_of t)) (sym is_low) ∙ ap (λ n. start_of from low n) (sym is_high) ∙ sym is)

-- where units are examined
pub answers_within : (t : Table) (from most : ℤ) (tags : Tags) (low high offset n : ℕ) (start : Start) → t.seen ≤ length t.units → low ≡ t.low → high ≡ max_of t → start ≡ start_of from low high
    → start ≡ Within offset → n ≡ asked_number 32 most → pulled_within t offset n tags ≡ pulled_of t from most tags
answers_within t from most tags low high offset n start within is_low is_high is begins asks =
    ap (λ m. pulled_within t offset m tags) asks
    ∙ sym (pulled_at t from most tags low high start within is_low is_high is ∙ ap (answered t.low (max_of t) (seen_units t) (asked_number 32 most) (tags_take tags)) begins)

-- where nothing is examined
answers_nothing : (t : Table) (from most : ℤ) (tags : Tags) (low high next code : ℕ) (start : Start) (a : Answer) → t.seen ≤ length t.units → low ≡ t.low → high ≡ max_of t → start ≡ start_of from low high
    → answered t.low (max_of t) (seen_units t) (asked_number 32 most) (tags_take tags) start ≡ nothing code next t.low (max_of t)
    → a.code ≡ pos code → a.next ≡ next → a.min ≡ low → a.max ≡ high → a.units.items ≡ [] → Answers (pulled_of t from most tags) a
answers_nothing t from most tags low high next code start a within is_low is_high is said is_code is_next is_min is_max none =
    subst (λ p. Answers p a) (sym (pulled_at t from most tags low high start within is_low is_high is ∙ said))
    (record { code = is_code; next = is_next; min = is_min ∙ is_low; max = is_max ∙ is_high; units = none })

-- at the end of the queue
pub answers_at_end : (t : Table) (from most : ℤ) (tags : Tags) (low high next : ℕ) (start : Start) (a : Answer) → t.seen ≤ length t.units → low ≡ t.low → high ≡ max_of t → start ≡ start_of from low high
    → start ≡ AtEnd next → a.code ≡ pos 19 → a.next ≡ next → a.min ≡ low → a.max ≡ high → a.units.items ≡ [] → Answers (pulled_of t from most tags) a
answers_at_end t from most tags low high next start a within is_low is_high is begins =
    answers_nothing t from most tags low high next 19 start a within is_low is_high is (ap (answered t.low (max_of t) (seen_units t) (asked_number 32 most) (tags_take tags)) begins)

-- and outside it
pub answers_outside : (t : Table) (from most : ℤ) (tags : Tags) (low high next : ℕ) (start : Start) (a : Answer) → t.seen ≤ length t.units → low ≡ t.low → high ≡ max_of t → start ≡ start_of from low high
    → start ≡ Outside next → a.code ≡ pos 21 → a.next ≡ next → a.min ≡ low → a.max ≡ high → a.units.items ≡ [] → Answers (pulled_of t from most tags) a
answers_outside t from most tags low high next start a within is_low is_high is begins =
    answers_nothing t from most tags low high next 21 start a within is_low is_high is (ap (answered t.low (max_of t) (seen_units t) (asked_number 32 most) (tags_take tags)) begins)

-- where units were examined
pub answers_examined : (t : Table) (tags : Tags) (from most : ℕ) (a : Answer) (count : ℕ) → count ≡ length (examined this most (tags_take tags) [] (drop (from - t.low) (seen_units t)))
    → a.units.items ≡ filter (tags_take tags) (examined this most (tags_take tags) [] (drop (from - t.low) (seen_units t)))
    → a.code ≡ pos (if length a.units.items == 0 then 20 else 0) → a.next ≡ from + count → a.min ≡ t.low → a.max ≡ max_of t → Answers (pulled_within t from most tags) a
answers_examined t tags from most a count is_count is_units is_code is_next is_min is_max =
    let test = tags_take tags in
    let seen = examined this most test [] (drop (from - t.low) (seen_units t)) in
    record {
      code = is_code ∙ ap (λ n. pos (if n == 0 then 20 else 0)) (ap length is_units ∙ length-filter test seen);
      next = is_next ∙ ap (λ n. from + n) is_count;
      min = is_min;
      max = is_max;
      units = is_units;
    }

-- pulls of one table with the same numbers are one
pub same_pull : (t u : Table) (from at most number : ℤ) (tags : Tags) → t ≡ u → from ≡ at → most ≡ number → pulled_of t from most tags ≡ pulled_of u at number tags
same_pull t u from at most number tags is_table is_from is_most =
    ap (λ (w : Table). pulled_of w from most tags) is_table ∙ ap (λ z. pulled_of u z most tags) is_from ∙ ap (λ z. pulled_of u at z tags) is_most
