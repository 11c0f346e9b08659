-- The delayed messages among records that are seen.
use Rattle.std.proofs.Common.{◌≡◌, ◌∙◌, refl, ap, subst, arith, ℕ, ◌+◌, ◌-◌, ◌<◌, ◌≤◌, Bool, true, false, cond, List, length, slice_get, Option, Some, None}
use Rattle.std.specs.Prelude.{nat_lt}
use Rattle.std.proofs.lemmas.Bool.{cond-false, le-ltb}
use Rattle.std.proofs.lemmas.List.{length-map}
use Rattle.mq_bytes.specs.Decimal.{digits_of}
use Rattle.record_codec.specs.Entry.{Entry}
use Rattle.log_model.specs.Admissible.{level_topic, is_system_topic, most_queues}
use Rattle.log_model.specs.Kinds.{is_delayed, is_text, level_part}
use Rattle.log_model.specs.Numbered.{Log, IsLawful, records_of, below}
use Rattle.queue_view.specs.Tables.{Table}
use Rattle.delay_view.specs.Levels.{Level}
use Rattle.delay_view.specs.OfLog.{IsMessageOf, IsLevelOf, delivery_time}
pub use Rattle.delay_view.proofs.GrowthLemmas.{get_within}
use Rattle.delay_view.proofs.GrowthLemmas.{other_dispatched}
use Rattle.level_records.specs.OfLog.{HasLevels}
use Rattle.level_records.specs.declared.levels.Levels.{Levels}
use Rattle.core_log.specs.Sees.{IsNextSeen}
use Rattle.core_log.specs.Represents.{AreTabled}
use Rattle.core_log.proofs.SeeLemmas.{more_units, row_leads}
use Rattle.pending_log.specs.Rows.{AreRowsOf}
use Rattle.pending_log.specs.Tables.{RowTable}
use Rattle.pending_log.specs.declared.rows.Row.{Row}

-- the record stands there
standing : (b : Bool) (d base : ℕ) (records : List Entry) (r : Entry) → nat_lt d base ≡ b → cond b None (slice_get records (d - base)) ≡ Some r → slice_get records (d - base) ≡ Some r
standing true d base records r is at = absurd (let bad : None ≡ Some r = at in cc bad)
standing false d base records r is at = at

module _ (segment d table : ℕ) (log : Log) (r : Entry) (tables : List Table) (levels : Levels) (is : IsNextSeen segment log d r tables table levels) where
  pub here : slice_get log.records (d - log.base.records) ≡ Some r
  here = standing (nat_lt d log.base.records) d log.base.records log.records r refl is.at

  -- a record of the level topic is a message of a level
  pub message : r.topic ≡ level_topic → IsMessageOf (r.queue + 1) r × (r.queue < 18)
  message topic =
      let admissible = (is.lawful.each (d - log.base.records) r here).admissible in
      let own : is_system_topic r.topic ≡ true = ap is_system_topic topic ∙ refl in
      let none = admissible.undelivered own in
      let low : r.queue < most_queues r.topic = admissible.queue in
      let most : most_queues r.topic ≡ 18 = ap most_queues topic ∙ refl in (
        record {
          topic = topic;
          queue = (let e : r.queue ≡ r.queue + 1 - 1 = omega arith in e);
          none = λ other. ap (λ (o : Option (List ℕ)). is_text (digits_of other) (level_part o)) none;
        },
        omega (arith, low, most),
      )

  -- its level has a message that isn't seen
  pub unseen : (k : ℕ) (l : Level) → r.topic ≡ level_topic → r.queue ≡ k → slice_get levels.view k ≡ Some l → l.seen < length l.times
  unseen k l topic queue there =
      let its : IsLevelOf log d (k + 1) l = is.has.view.each k l there in
      let same : k + 1 - 1 ≡ k = omega arith in
      let more = more_units log.records (d - log.base.records) r level_topic k here topic queue in
      let seen : l.seen ≡ length (records_of (below log d) level_topic k) = its.seen ∙ ap (λ (n : ℕ). length (records_of (below log d) level_topic n)) same in
      let times : length l.times ≡ length (records_of log level_topic k) =
      ap (λ (ts : List ℕ). length ts) its.times ∙ length-map (records_of log level_topic (k + 1 - 1)) (delivery_time (k + 1)) ∙ ap (λ (n : ℕ). length (records_of log level_topic n)) same in
      omega (arith, more, seen, times)

  -- another record changes no level
  pub other_seen : is_delayed r ≡ false → HasLevels log (d + 1) levels
  other_seen plain = record { view = other_dispatched log d r levels.view is.has.view is.at plain; waiting = is.has.waiting }

-- the record with this number is next
pub next_seen : (segment : ℕ) (log : Log) (rows : RowTable) (n : ℕ) (row : Row) (tables : List Table) (levels : Levels) → IsLawful segment log → AreRowsOf log rows → AreTabled tables log.records rows.items
    → rows.first ≤ n → slice_get rows.items (n - rows.first) ≡ Some row → HasLevels log n levels → (r : Entry) × IsNextSeen segment log n r tables row.table levels
next_seen segment log rows n row tables levels lawful of tabled from at has =
    let first = of.first in
    let same : n - rows.first ≡ n - log.base.records = ap (λ (k : ℕ). n - k) first in
    let led = row_leads tables log.records rows.items (n - log.base.records) row of.items tabled (subst (λ (k : ℕ). slice_get rows.items k ≡ Some row) same at) in (
      led.entry,
      record {
        lawful = lawful;
        at = cond-false (nat_lt n log.base.records) None (slice_get log.records (n - log.base.records)) (le-ltb n log.base.records (omega (arith, first, from))) ∙ led.at;
        t = led.table;
        there = led.there;
        topic = led.topic;
        queue = led.queue;
        has = has;
      },
    )
