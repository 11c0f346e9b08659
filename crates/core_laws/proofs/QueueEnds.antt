-- The end of a queue, as consumers see it, never falls.
use Rattle.std.proofs.Common.{◌≡◌, ap, sym, ◌∙◌, arith, ℕ, ◌+◌, ◌-◌, ◌≤◌, List, ◌++◌, length, take, drop, length-append}
use Rattle.std.proofs.lemmas.List.{take_all}
use Rattle.record_codec.specs.Entry.{Entry}
use Rattle.log_model.specs.Queues.{queue_of}
use Rattle.log_model.specs.Numbered.{Log, queue_max, below, count_of}
use Rattle.broker_model.specs.State.{State, Setup, seen}
use Rattle.broker_model.specs.Run.{CanCrash, kept_log}
use Rattle.core_laws.specs.Sound.{IsSound, Grows}
use Rattle.core_laws.proofs.Lists.{take_left, length_take, drop_take}
use Rattle.core_laws.proofs.Bases.{take_plus, count_queue}
use Rattle.core_laws.proofs.Steps.{saved_ahead}

-- a longer front of a log has no fewer records of a queue
longer : (a b : ℕ) (log : List Entry) (t : List ℕ) (q : ℕ) → a ≤ b → length (queue_of (take a log) t q) ≤ length (queue_of (take b log) t q)
longer a b log t q low =
    let split : take b log ≡ take a log ++ take (b - a) (drop a log) = ap (λ (n : ℕ). take n log) (let e : b ≡ a + (b - a) = omega (arith, low) in e) ∙ take_plus a (b - a) log in
    omega (arith, ap (λ (l : List Entry). length (queue_of l t q)) split, count_queue (take a log) (take (b - a) (drop a log)) t q)

-- what consumers see of a queue never falls in a boot
pub max_grows : (p s : State) (t : List ℕ) (q : ℕ) → IsSound p → IsSound s → Grows p s → queue_max (seen p) t q ≤ queue_max (seen s) t q
max_grows p s t q before sound grows =
    let total : length (take grows.gone (p.log.records ++ grows.more)) ≡ grows.gone = length_take grows.gone (p.log.records ++ grows.more) (omega (arith, grows.low, length-append p.log.records grows.more)) in
    let records : s.log.base.records ≡ p.log.base.records + grows.gone = omega (arith, grows.base.records, total) in
    let front : take (p.dispatched - p.log.base.records) (p.log.records ++ grows.more) ≡ take (p.dispatched - p.log.base.records) p.log.records =
    take_left (p.dispatched - p.log.base.records) p.log.records grows.more (omega (arith, before.dispatched, before.flushed)) in
    let split : take (grows.gone + (s.dispatched - s.log.base.records)) (p.log.records ++ grows.more) ≡ take grows.gone (p.log.records ++ grows.more) ++ take (s.dispatched - s.log.base.records) s.log.records =
    take_plus grows.gone (s.dispatched - s.log.base.records) (p.log.records ++ grows.more) ∙ ap (λ (l : List Entry). take grows.gone (p.log.records ++ grows.more) ++ take (s.dispatched - s.log.base.records) l) (sym grows.log) in
    omega (
      arith,
      grows.base.queues t q,
      ap (λ (l : List Entry). length (queue_of l t q)) front,
      ap (λ (l : List Entry). length (queue_of l t q)) split,
      count_queue (take grows.gone (p.log.records ++ grows.more)) (take (s.dispatched - s.log.base.records) s.log.records) t q,
      longer (p.dispatched - p.log.base.records) (grows.gone + (s.dispatched - s.log.base.records)) (p.log.records ++ grows.more) t q (omega (arith, records, grows.dispatched, sound.within)),
    )

-- nor at a crash
pub max_kept : (s : State) (k : ℕ) (setup : Setup) (t : List ℕ) (q : ℕ) → CanCrash s k setup → IsSound s → queue_max (seen s) t q ≤ queue_max (kept_log s k) t q
max_kept s k setup t q can sound =
    let ahead = saved_ahead s sound in
    let long : sound.ahead ≤ length s.log.records = omega (arith, sound.within, sound.dispatched, sound.flushed) in
    let split : take (k - s.log.base.records) s.log.records ≡ take sound.ahead s.log.records ++ drop (s.saved.base.records - s.log.base.records) (take (k - s.log.base.records) s.log.records) =
    ap (λ (m : ℕ). take m s.log.records) (let e : k - s.log.base.records ≡ sound.ahead + ((k - s.log.base.records) - sound.ahead) = omega (arith, can.no_less, sound.within, sound.dispatched) in e)
    ∙ (take_plus sound.ahead ((k - s.log.base.records) - sound.ahead) s.log.records
    ∙ ap (λ (l : List Entry). take sound.ahead s.log.records ++ l) (sym (ap (λ (m : ℕ). drop m (take (k - s.log.base.records) s.log.records)) ahead ∙ drop_take sound.ahead (k - s.log.base.records) s.log.records))) in
    omega (
      arith,
      sound.saved.queues t q,
      ap (λ (l : List Entry). length (queue_of l t q)) split,
      count_queue (take sound.ahead s.log.records) (drop (s.saved.base.records - s.log.base.records) (take (k - s.log.base.records) s.log.records)) t q,
      longer (s.dispatched - s.log.base.records) (k - s.log.base.records) s.log.records t q (omega (arith, can.no_less, sound.dispatched)),
    )

-- where all is dispatched, consumers see all
pub all_seen : (log : Log) (t : List ℕ) (q : ℕ) → queue_max (below log (count_of log)) t q ≡ queue_max log t q
all_seen log t q = ap (λ (l : List Entry). log.base.queues t q + length (queue_of l t q)) (take_all (count_of log - log.base.records) log.records (omega arith))
