-- What a record more delivers.
use Rattle.std.proofs.Common.{◌≡◌, ◌≢◌, ⊎_elim, refl, ap, sym, ◌∙◌, arith, ℕ, zero, suc, ◌+◌, ◌-◌, ◌≤◌, Bool, true, false, cond, count_by, eqb, List, [], ◌∷◌, length, set, slice_get, Option, Some, ◌||◌}
use Rattle.std.proofs.lemmas.Bool.Decides.{eqb_tells}
use Rattle.std.proofs.lemmas.Option.{get_or_from_slice_get}
use Rattle.std.specs.Prelude.{slice_index}
use Rattle.std.specs.Str.{bytes_eq}
use Rattle.mq_bytes.specs.Decimal.{digits_of}
use Rattle.log_replay.proofs.Growth.{count_by-more}
use Rattle.record_codec.specs.Entry.{Entry}
use Rattle.log_model.specs.Delays.{progress}
use Rattle.log_model.specs.Admissible.{level_topic, half_topic, op_topic, discard_topic, is_system_topic}
use Rattle.log_model.specs.Kinds.{is_delayed, is_delivery, is_text, level_part}
use Rattle.log_model.specs.Numbered.{Log, IsLawful, with_appended}
use Rattle.queue_view.proofs.Lists.{some_one}
use Rattle.log_model.specs.declared.base.Base.{Base as Told}
use Rattle.delay_view.proofs.GrowthLemmas.{get_there}
use Rattle.delay_view.specs.OfLog.{IsCopyOf}
use Rattle.table_check.proofs.LogLemmas.{follows}
use Rattle.table_check.specs.Beside.{AreDelivered, DeliversNothing, log_from}

progress_more : (log : Log) (r : Entry) (level : ℕ) (b : Bool) → is_delivery level r ≡ b → progress (with_appended log (r ∷ [])) level ≡ progress log level + cond b 1 0
progress_more log r level b is =
    let more = count_by-more (is_delivery level) log.records r ∙ ap (λ c. count_by (is_delivery level) log.records + cond c 1 0) is in
    let low = log.base.levels level in
    ap (λ (n : ℕ). low + n) more
    ∙ (let n = count_by (is_delivery level) log.records in let one = cond b 1 0 in let e : low + (n + one) ≡ low + n + one = omega arith in e)

its_own : (topic : List ℕ) → bytes_eq topic level_topic ≡ true → is_system_topic topic ≡ true
its_own topic is = ap (λ (b : Bool). b || bytes_eq topic half_topic || bytes_eq topic op_topic || bytes_eq topic discard_topic) is

-- a delayed message of a log delivers none
pub delayed_delivers_none : (segment : ℕ) (log : Log) (r : Entry) → IsLawful segment (with_appended log (r ∷ [])) → is_delayed r ≡ true → DeliversNothing r
delayed_delivers_none segment log r lawful is level =
    ap (λ (o : Option (List ℕ)). is_text (digits_of level) (level_part o)) ((follows segment log r lawful).admissible.undelivered (its_own r.topic is))

-- nothing: the numbers stay
pub none_delivered : (log : Log) (r : Entry) (delivered : List ℕ) → DeliversNothing r → AreDelivered log delivered → AreDelivered (with_appended log (r ∷ [])) delivered
none_delivered log r delivered nothing are k low =
    let e = progress_more log r (k + 1) false (nothing (k + 1)) in
    let same : progress log (k + 1) ≡ progress (with_appended log (r ∷ [])) (k + 1) = omega (arith, e) in
    are k low ∙ ap Some same

get_set : {A : Type 0} (xs : List A) (k : ℕ) (x y : A) → slice_get xs k ≡ Some y → slice_get (set xs k x) k ≡ Some x
get_set [] k x y at = cc at
get_set (z ∷ xs) zero x y at = refl
get_set (z ∷ xs) (suc k) x y at = get_set xs k x y at

get_other : {A : Type 0} (xs : List A) (k j : ℕ) (x : A) → j ≢ k → slice_get (set xs k x) j ≡ slice_get xs j
get_other [] k j x differs = refl
get_other (z ∷ xs) zero zero x differs = absurd (differs refl)
get_other (z ∷ xs) zero (suc j) x differs = refl
get_other (z ∷ xs) (suc k) zero x differs = refl
get_other (z ∷ xs) (suc k) (suc j) x differs = get_other xs k j x (λ same. differs (ap suc same))

-- a message of a level: its number grows
pub one_delivered : (log : Log) (r : Entry) (delivered : List ℕ) (level k : ℕ) → IsCopyOf level r → 1 ≤ level → k ≡ level - 1 → (n : ℕ) → slice_get delivered k ≡ Some n
    → AreDelivered log delivered → AreDelivered (with_appended log (r ∷ [])) (set delivered k (n + 1))
one_delivered log r delivered level k copy low index n at are j within = ⊎_elim
    (λ (here : (eqb j k ≡ true) × (j ≡ k)).
    let same = here.1 in
    let is : j + 1 ≡ level = omega (arith, same, index, low) in
    let was : Some n ≡ Some (progress log (j + 1)) = sym at ∙ ap (slice_get delivered) (sym same) ∙ are j within in
    let e = progress_more log r (j + 1) true (ap (λ (l : ℕ). is_delivery l r) is ∙ copy.delivers) in
    let grown : progress log (j + 1) + 1 ≡ progress (with_appended log (r ∷ [])) (j + 1) = omega (arith, e) in
    ap (slice_get (set delivered k (n + 1))) same ∙ get_set delivered k (n + 1) n at
    ∙ ap (λ (m : ℕ). Some (m + 1)) (some_one was)
    ∙ ap Some grown)
    (λ (other : (eqb j k ≡ false) × (j ≢ k)).
    let differs = other.1 in
    let e = progress_more log r (j + 1) false (copy.none (j + 1) (λ same. differs (omega (arith, same, index, low)))) in
    let kept : progress log (j + 1) ≡ progress (with_appended log (r ∷ [])) (j + 1) = omega (arith, e) in
    get_other delivered k j (n + 1) differs ∙ are j within ∙ ap Some kept)
    (eqb_tells j k)

-- of no records those before the base
pub none_yet : (base : Told) (levels : List ℕ) → levels ≡ base.levels → length levels ≡ 18 → AreDelivered (log_from base []) levels
none_yet base levels same all k below =
    let there = get_there levels k (omega (arith, below, all)) in
    let n = slice_index base.levels ((k + 1) - 1) in
    let index : (k + 1) - 1 ≡ k = omega arith in
    let read : n ≡ there.0 = ap (slice_index base.levels) index ∙ ap (λ (ls : List ℕ). slice_index ls k) (sym same) ∙ get_or_from_slice_get levels k there.0 0 there.1 in
    let more : n ≡ n + 0 = omega arith in
    there.1 ∙ ap Some (sym read ∙ more)
