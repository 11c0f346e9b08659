-- The tables of a core beside its own log: they have what it says where consumers see all of it, and only there.
use Rattle.std.proofs.Common.{◌≡◌, ⊎_elim, refl, ap, sym, ◌∙◌, subst, arith, ℕ, suc, ◌+◌, ◌-◌, ◌<◌, ◌≤◌, ◌==◌, ◌&&◌, ◌↔◌, leb, Bool, true, false, cond, List, ◌∷◌, length, take, drop, Result, Ok, Err, IfOk, IsTrue, eq-eqb, length-append}
use Rattle.std.specs.Str.{bytes_eq}
use Rattle.std.proofs.lemmas.Bool.Decides.{leb_tells}
use Rattle.std.proofs.lemmas.List.{length-map, take_all}
use Rattle.std.proofs.lemmas.Slice.Eq.{bytes_eq-Decides}
use Rattle.record_codec.specs.Entry.{Entry}
use Rattle.log_model.specs.Numbered.{Log, IsLawful, count_of}
use Rattle.log_model.specs.Queues.{queue_of}
use Rattle.pending_log.proofs.ExtentLemmas.{alike_long}
use Rattle.queue_view.proofs.Lists.{drop_next}
use Rattle.broker_model.specs.State.{State}
use Rattle.core_log.specs.declared.parts.Parts.{Parts}
use Rattle.core_log.specs.Represents.{Represents, stored_unit}
use Rattle.core_log.proofs.SeenLemmas.{none_of, number_at, queue_parts}
use Rattle.core_log.proofs.TableLemmas.{there_is}
use Rattle.core_check.specs.Equal.{HasAllOf}
use Rattle.table_check.specs.Equal.{AreQueuesOf, AreSeen}

-- ---- all of it is seen

has_queues : (core : Parts) (s : State) → Represents core s → AreQueuesOf s.log core.queues
has_queues core s are = record {
  each = λ k t at. let is = are.queues.each k t at in record { low = is.low; units = is.units };
  apart = are.queues.one;
  none = λ topic queue none.
      let low = are.queues.known topic queue none in
      let empty : length (queue_of s.log.records topic queue) ≡ 0 = ap (λ (rs : List Entry). length rs) (none_of core.queues s.log.records core.rows.items topic queue are.rows.items are.tabled none) in
      omega (arith, low, empty);
}

has_all : (core : Parts) (s : State) → Represents core s → s.dispatched ≡ count_of s.log → HasAllOf s.log core
has_all core s are all = record {
  queues = has_queues core s are;
  seen = λ k t at. let is = are.queues.each k t at in
      is.seen
      ∙ ap (λ (rs : List Entry). length (queue_of rs t.topic t.queue)) (take_all (s.dispatched - s.log.base.records) s.log.records (omega (arith, all)))
      ∙ sym (ap (λ (us : List _). length us) is.units ∙ length-map (queue_of s.log.records t.topic t.queue) stored_unit);
  keys = are.keys;
  halves = are.halves.view;
  levels = record { all = are.levels.view.all; each = λ k l at. (are.levels.view.each k l at).copied };
}

-- ---- some of it isn't

its_own : (r : Entry) (records : List Entry) (topic : List ℕ) (queue : ℕ) → topic ≡ r.topic → queue ≡ r.queue → length (queue_of (r ∷ records) topic queue) ≡ suc (length (queue_of records topic queue))
its_own r records topic queue same_topic same_queue =
    let its : (bytes_eq r.topic topic && (r.queue == queue)) ≡ true = rw ((bytes_eq-Decides r.topic topic).1 (sym same_topic), eq-eqb r.queue queue (sym same_queue)) refl in
    ap (λ b. length (cond b (r ∷ queue_of records topic queue) (queue_of records topic queue))) its

-- a record that consumers don't see is missing in its table
misses : (core : Parts) (s : State) → Represents core s → AreSeen core.queues → s.dispatched < count_of s.log → ⊥
misses core s are seen_all less =
    let records = s.log.records in
    let n = s.dispatched - s.log.base.records in
    let base = are.state.base in
    let within : n < length records = omega (arith, base, less) in
    let r = there_is records n within in
    let many = alike_long core.rows.items records are.rows.items in
    let row = there_is core.rows.items n (omega (arith, within, many)) in
    let number = are.tabled n r.0 row.0 r.1 row.1 in
    let t = number_at core.queues r.0.topic r.0.queue row.0.table number in
    let is = are.queues.each row.0.table t.0 t.1 in
    let seen = seen_all row.0.table t.0 t.1 in
    let topic = t.0.topic in
    let queue = t.0.queue in
    let units : length t.0.units ≡ length (queue_of records topic queue) = ap (λ (us : List _). length us) is.units ∙ length-map (queue_of records topic queue) stored_unit in
    let parts : length (queue_of records topic queue) ≡ length (queue_of (take n records) topic queue) + length (queue_of (drop n records) topic queue) =
    ap (λ (rs : List Entry). length rs) (queue_parts records n topic queue) ∙ length-append (queue_of (take n records) topic queue) (queue_of (drop n records) topic queue) in
    let rest : length (queue_of (drop n records) topic queue) ≡ suc (length (queue_of (drop (suc n) records) topic queue)) =
    ap (λ (rs : List Entry). length (queue_of rs topic queue)) (drop_next records n r.0 r.1) ∙ its_own r.0 (drop (suc n) records) topic queue t.2 t.3 in
    let shown = is.seen in
    omega (arith, seen, units, parts, rest, shown)

at_most : (a b : ℕ) → a ≤ b → (a < b → ⊥) → a ≡ b
at_most a b low not_below = ⊎_elim
    (λ (below : (leb (suc a) b ≡ true) × (suc a ≤ b)). absurd (not_below (let h = below.1 in omega (arith, h))))
    (λ (above : (leb (suc a) b ≡ false) × (b < suc a)). let h = above.1 in omega (arith, h, low))
    (leb_tells (suc a) b)

pub own : (core : Parts) (s : State) → Represents core s → HasAllOf s.log core ↔ (s.dispatched ≡ count_of s.log)
own core s are = (
  λ (equal : HasAllOf s.log core).
      let dispatched = are.state.dispatched in
      let flushed = are.state.flushed in
      at_most s.dispatched (count_of s.log) (omega (arith, dispatched, flushed)) (misses core s are equal.seen),
  has_all core s are,
)

-- what was answered of a core and a log that is its own
pub own_answer : {E : Type 0} (result : Result Bool E) (core : Parts) (s : State) (log : Log) → log ≡ s.log → Represents core s
    → ((segment : ℕ) → IsLawful segment log → IfOk result (λ b. IsTrue b ↔ HasAllOf log core)) → IfOk result (λ b. IsTrue b ↔ (s.dispatched ≡ count_of s.log))
own_answer (Err e) core s log is_log are told = tt
own_answer (Ok b) core s log is_log are told =
    let here : IsTrue b ↔ HasAllOf s.log core = subst (λ (l : Log). IsTrue b ↔ HasAllOf l core) is_log (told s.setup.segment (subst (λ (l : Log). IsLawful s.setup.segment l) (sym is_log) are.state.log)) in
    let mine = own core s are in
    (λ (equal : IsTrue b). mine.0 (here.0 equal), λ (seen : s.dispatched ≡ count_of s.log). here.1 (mine.1 seen))
