-- A plain message is shaped, and names no half message.
use Rattle.std.proofs.Common.{◌≡◌, ◌∙◌, ℕ, ◌<◌, ◌||◌, List, Option, None, Bool, true, false, bytes_eq, sym, subst, arith}
use Rattle.std.specs.Prelude.{bit_and, codes, IfSome, IsSome}
use Rattle.std.proofs.lemmas.Bool.{cond-false}
use Rattle.record_codec.specs.Entry.{Entry}
use Rattle.record_codec.specs.Props.{value_of}
use Rattle.log_model.specs.Admissible.{level_topic, half_topic, op_topic, discard_topic, is_system_topic, most_queues, number_in, number_of, number_at, names_half, IsDelayFrom, IsAdmissible, NamesEarlier}

-- where none of four holds, each fails
none_of : (a b c d : Bool) → (a || b || c || d) ≡ false → (a ≡ false) × (b ≡ false) × (c ≡ false) × (d ≡ false)
none_of true b c d fails = absurd (cc)
none_of false true c d fails = absurd (cc)
none_of false false true d fails = absurd (cc)
none_of false false false true fails = absurd (cc)
none_of false false false false fails = (fails, fails, fails, fails)

never : {A : Type 0} (b : Bool) → b ≡ false → b ≡ true → A
never b fails holds = let full : false ≡ true = sym fails ∙ holds in absurd (cc)

module _ (S : ℕ) (r : Entry) (plain : is_system_topic r.topic ≡ false) where
  apart : (bytes_eq r.topic level_topic ≡ false) × (bytes_eq r.topic half_topic ≡ false) × (bytes_eq r.topic op_topic ≡ false) × (bytes_eq r.topic discard_topic ≡ false)
  apart = none_of (bytes_eq r.topic level_topic) (bytes_eq r.topic half_topic) (bytes_eq r.topic op_topic) (bytes_eq r.topic discard_topic) plain

  queues : most_queues r.topic ≡ 1024
  queues = cond-false (bytes_eq r.topic level_topic) 18 _ apart.0 ∙ cond-false (is_system_topic r.topic) 1 1024 plain

  pub plain_admissible : r.queue < 1024 → (bit_and r.sysflag 12 ≡ 8 → r.prepared < r.offset) → value_of (codes "DELAY_FROM") r.props ≡ None
      → value_of (codes "TRAN_PREPARED_QUEUE_OFFSET") r.props ≡ None → IsAdmissible S r
  plain_admissible low copy delivery renewal = record {
    queue = omega (arith, low, queues);
    copy = copy;
    discard = λ yes. never _ apart.3 yes;
    half = λ yes. never _ apart.1 yes;
    level = λ yes. never _ apart.0 yes;
    op = λ yes. never _ apart.2 yes;
    renewal = subst (λ (o : Option (List ℕ)). IfSome o (λ text. IsSome (number_in text))) (sym renewal) tt;
    delivery = subst (λ (o : Option (List ℕ)). IfSome o IsDelayFrom) (sym delivery) tt;
    undelivered = λ yes. never _ plain yes;
  }

  none : names_half r ≡ None
  none = cond-false (bytes_eq r.topic op_topic) (number_of r.body) _ apart.2 ∙ cond-false (bytes_eq r.topic half_topic) (number_at (value_of (codes "TRAN_PREPARED_QUEUE_OFFSET") r.props)) None apart.1

  pub plain_names : (halves : ℕ) → NamesEarlier halves r
  plain_names halves = subst (λ (o : Option ℕ). IfSome o (λ n. n < halves)) (sym none) tt
