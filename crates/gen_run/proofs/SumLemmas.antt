-- What the core's tables say of a log that consumers see whole.
use Rattle.std.proofs.Common.{◌≡◌, ◌∙◌, ◌⊎◌, inl, inr, ℕ, suc, ◌+◌, ◌-◌, List, [], ◌∷◌, length, take, sym, ap, subst, arith}
use Rattle.std.proofs.Math.Seq.{take-length}
use Rattle.record_codec.specs.Entry.{Entry}
use Rattle.log_model.specs.Admissible.{level_topic}
use Rattle.log_model.specs.Numbered.{Log, count_of, queue_max, queue_min, records_of}
use Rattle.log_model.specs.declared.origin.OriginState.{OriginState}
use Rattle.broker_model.specs.State.{State, seen}
use Rattle.gen_run.specs.Sums.{CountsOrigins, IsOriginIn, in_queue}

-- consumers see all of the log
pub seen_all : (s : State) → s.dispatched ≡ count_of s.log → seen s ≡ s.log
seen_all s all =
    let whole : s.dispatched - s.log.base.records ≡ length s.log.records = omega (arith, all) in
    let same : take (s.dispatched - s.log.base.records) s.log.records ≡ s.log.records = ap (λ (n : ℕ). take n s.log.records) whole ∙ take-length s.log.records in
    ap (λ (rs : List Entry). record { base = s.log.base; records = rs }) same

pub queue_seen : (s : State) (queue count : ℕ) → s.dispatched ≡ count_of s.log → count ≡ in_queue (seen s) queue → count ≡ in_queue s.log queue
queue_seen s queue count all is = is ∙ ap (λ (log : Log). in_queue log queue) (seen_all s all)

pub delayed_all : (s : State) (count : ℕ) → s.dispatched ≡ count_of s.log → count ≡ queue_min s.log level_topic 0 + length (records_of (seen s) level_topic 0) → count ≡ queue_max s.log level_topic 0
delayed_all s count all is = is ∙ ap (λ (log : Log). queue_min s.log level_topic 0 + length (records_of log level_topic 0)) (seen_all s all)

pub four_as : {a b c d a_is b_is c_is d_is : ℕ} → a ≡ a_is → b ≡ b_is → c ≡ c_is → d ≡ d_is → a ∷ b ∷ c ∷ d ∷ [] ≡ a_is ∷ b_is ∷ c_is ∷ d_is ∷ []
four_as first second third last = cc

-- one half message more
pub counts_more : (log : List Entry) (state : OriginState) (n before more : ℕ) → CountsOrigins log state n before
    → ((IsOriginIn log state n × (more ≡ 1)) ⊎ ((IsOriginIn log state n → ⊥) × (more ≡ 0))) → CountsOrigins log state (n + 1) (before + more)
counts_more log state n before more so_far (inl one) =
    let next : n + 1 ≡ suc n = omega arith in
    subst (λ (m : ℕ). CountsOrigins log state m (before + more)) (sym next) (before, so_far, inl (one.0, omega (arith, one.1)))
counts_more log state n before more so_far (inr none) =
    let next : n + 1 ≡ suc n = omega arith in
    subst (λ (m : ℕ). CountsOrigins log state m (before + more)) (sym next) (before, so_far, inr (none.0, omega (arith, none.1)))
