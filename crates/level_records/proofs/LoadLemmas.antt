-- What the next record of a lawful log is to the levels.
use Rattle.std.proofs.Common.{◌≡◌, ◌∙◌, refl, ap, subst, arith, ℕ, ◌<◌, ◌≤◌, ◌||◌, Bool, true, false, List, [], ◌∷◌, ◌++◌, length, slice_get, Option, Some, None, codes}
use Rattle.std.specs.Prelude.{IfSome, MatchOption, if◌then◌else◌}
use Rattle.std.specs.Str.{bytes_eq}
use Rattle.std.proofs.lemmas.Bool.{cond-true}
use Rattle.std.proofs.lemmas.List.{take_at}
use Rattle.std.proofs.lemmas.Slice.Eq.{bytes_eq-Decides}
use Rattle.mq_bytes.specs.Decimal.{digits_of}
use Rattle.record_codec.specs.Entry.{Entry}
use Rattle.record_codec.specs.Props.{value_of}
use Rattle.log_model.specs.Admissible.{level_topic, half_topic, op_topic, discard_topic, is_system_topic}
use Rattle.log_model.specs.Bases.{geometry}
use Rattle.log_model.specs.Kinds.{delay_level, is_delayed, is_delivery, is_text, level_part}
use Rattle.log_model.specs.Log.{Follows}
use Rattle.log_model.specs.Numbered.{Log, IsLawful, with_appended}
use Rattle.log_model.specs.Queues.{queue_end}
use Rattle.delay_view.specs.OfLog.{IsCopyOf}
use Rattle.level_records.specs.Loads.{IsNextMessage}
use Rattle.level_records.proofs.DigitLemmas.{other_text}

-- ---- the next record

get_last : (xs : List Entry) (r : Entry) → slice_get (xs ++ r ∷ []) (length xs) ≡ Some r
get_last [] r = refl
get_last (x ∷ xs) r = get_last xs r

-- the record may stand behind the others
pub follows : (segment : ℕ) (log : Log) (r : Entry) → IsLawful segment (with_appended log (r ∷ [])) → Follows (geometry segment log.base) log.records r
follows segment log r lawful =
    subst (λ (rs : List Entry). Follows (geometry segment log.base) rs r) (take_at log.records (r ∷ []) (length log.records) refl)
    (lawful.each (length log.records) r (get_last log.records r))

-- ---- a delayed message

-- one without the property delivers nothing
pub none_delivered : (r : Entry) → value_of (codes "DELAY_FROM") r.props ≡ None → (level : ℕ) → is_delivery level r ≡ false
none_delivered r none level = ap (λ (o : Option (List ℕ)). is_text (digits_of level) (level_part o)) none

its_own : (topic : List ℕ) → bytes_eq topic level_topic ≡ true → is_system_topic topic ≡ true
its_own topic is = ap (λ (b : Bool). b || bytes_eq topic half_topic || bytes_eq topic op_topic || bytes_eq topic discard_topic) is

-- it is the next one of its level
pub next_message : (segment : ℕ) (log : Log) (r : Entry) → IsLawful segment (with_appended log (r ∷ [])) → is_delayed r ≡ true → IsNextMessage log r
next_message segment log r lawful is =
    let next = follows segment log r lawful in
    let topic = (bytes_eq-Decides r.topic level_topic).0 is in
    record {
      message = record {
        topic = topic;
        queue = omega arith;
        none = none_delivered r (next.admissible.undelivered (its_own r.topic is));
      };
      low = subst (λ (n : ℕ). r.queue < n) (cond-true (bytes_eq r.topic level_topic) 18 (if is_system_topic r.topic then 1 else 1024) is) next.admissible.queue;
      number = next.queue_offset ∙ ap (λ (t : List ℕ). queue_end log.base log.records t r.queue) topic;
      layout = next.layout;
    }

-- ---- a delivery

pub match_other : {A : Type 0} (o : Option A) (P Q : A → Type 0) → ((x : A) → P x → Q x) → MatchOption o ⊥ P → MatchOption o ⊥ Q
match_other (Some x) P Q with_it is = with_it x is
match_other None P Q with_it is = elim is [ ]

-- the record delivers the messages of the level that its property names
pub copy_of : (r : Entry) (level : ℕ) → level ≤ 18 → is_delayed r ≡ false → delay_level r ≡ Some (digits_of level) → IsCopyOf level r
copy_of r level high plain named = record {
  plain = plain;
  delivers = ap (λ (o : Option (List ℕ)). is_text (digits_of level) o) named ∙ (bytes_eq-Decides (digits_of level) (digits_of level)).1 refl;
  none = λ other differs. ap (λ (o : Option (List ℕ)). is_text (digits_of other) o) named ∙ other_text level other (omega (arith, high)) differs;
}

-- the level that was read of it
pub if_copy : (r : Entry) (o : Option ℕ) → is_delayed r ≡ false → IfSome o (λ level. (1 ≤ level) × (level ≤ 18))
    → MatchOption o ⊥ (λ level. delay_level r ≡ Some (digits_of level)) → IfSome o (λ level. IsCopyOf level r)
if_copy r (Some level) plain within named = copy_of r level within.1 plain named
if_copy r None plain within named = elim named [ ]
