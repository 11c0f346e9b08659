-- The run of a delayed message is one.
use Rattle.std.proofs.Common.{◌≡◌, ℕ, refl, ap, arith, List, [], ◌∷◌, map, slice_get, Option, Some, None}
use Rattle.std.proofs.lemmas.Option.{same_Some}
use Rattle.std.specs.Prelude.{codes}
use Rattle.std.specs.Fmt.{digits}
use Rattle.mq_bytes.specs.Decimal.{decimal_value}
use Rattle.mq_bytes.specs.Delays.{level_delay}
use Rattle.record_codec.specs.LaxProps.{read_props, pieces}
use Rattle.record_codec.specs.Props.{pair_in, until, value_of}
use Rattle.record_codec.specs.Entry.{Entry}
use Rattle.log_model.specs.Drafts.{delivery_text}
use Rattle.log_model.specs.Numbered.{count_of}
use Rattle.broker_model.specs.Events
use Rattle.broker_model.specs.Refusals.{refusal_of}
use Rattle.broker_model.specs.Appended.{appended, is_refused, drafts_of}
use Rattle.broker_model.specs.Answers.{answer_of, carried_out_answer, request_answer}
use Rattle.broker_model.specs.Step.{after, changed, request_changed, IsPossible}
use Rattle.broker_model.specs.Run.{Crashes, Goes, Run}
use Rattle.broker_model.specs.Acknowledged.{StandsAt}
use Rattle.core_laws.specs.Delays.{Delivers}
use Rattle.core_laws.specs.Examples.{setup, at_opening}
use Rattle.core_laws.specs.DeliveryExamples.{sends_delayed, at_delayed, at_batch, at_stored, at_seen, at_delivery, at_second_batch, at_delivered, until_delivered, at_crash, at_again, until_again}
use Rattle.core_laws.proofs.Examples.{goes}

first_flush : IsPossible at_batch.now (Events.Flushed 1)
unfolding read_props pieces pair_in until decimal_value digits after changed request_changed is_refused drafts_of refusal_of answer_of
    carried_out_answer request_answer appended level_delay
first_flush = refl

second_flush : IsPossible at_second_batch.now (Events.Flushed 1)
unfolding read_props pieces pair_in until decimal_value digits after changed request_changed is_refused drafts_of refusal_of answer_of
    carried_out_answer request_answer appended level_delay
second_flush = refl

pub marks_are : map (λ r. value_of (codes "DELAY_FROM") r.props) at_delivered.now.log.records ≡ None ∷ Some (delivery_text 1 0) ∷ []
unfolding read_props pieces pair_in until decimal_value digits after changed request_changed is_refused drafts_of refusal_of answer_of
    carried_out_answer request_answer appended level_delay
marks_are = refl

pub flushed_is_2 : at_delivered.now.flushed ≡ 2
unfolding read_props pieces pair_in until decimal_value digits after changed request_changed is_refused drafts_of refusal_of answer_of
    carried_out_answer request_answer appended level_delay
flushed_is_2 = refl

count_is_2 : count_of at_delivered.now.log ≡ 2
unfolding read_props pieces pair_in until decimal_value digits after changed request_changed is_refused drafts_of refusal_of answer_of
    carried_out_answer request_answer appended level_delay
count_is_2 = refl

segment_stays : setup.segment ≡ at_delivered.now.setup.segment
unfolding read_props pieces pair_in until decimal_value digits after changed request_changed is_refused drafts_of refusal_of answer_of
    carried_out_answer request_answer appended level_delay
segment_stays = refl

pub marks_stay : map (λ r. value_of (codes "DELAY_FROM") r.props) at_again.now.log.records ≡ None ∷ Some (delivery_text 1 0) ∷ []
unfolding read_props pieces pair_in until decimal_value digits after changed request_changed is_refused drafts_of refusal_of answer_of
    carried_out_answer request_answer appended level_delay
marks_stay = refl

base_is_0 : at_delivered.now.log.base.records ≡ 0
unfolding read_props pieces pair_in until decimal_value digits after changed request_changed is_refused drafts_of refusal_of answer_of
    carried_out_answer request_answer appended level_delay
base_is_0 = refl

base_stays : at_again.now.log.base.records ≡ 0
unfolding read_props pieces pair_in until decimal_value digits after changed request_changed is_refused drafts_of refusal_of answer_of
    carried_out_answer request_answer appended level_delay
base_stays = refl

-- the record that has this mark
marked : (log : List Entry) → map (λ r. value_of (codes "DELAY_FROM") r.props) log ≡ None ∷ Some (delivery_text 1 0) ∷ []
    → (r : Entry) × (slice_get log 1 ≡ Some r) × Delivers 1 0 r
marked [] marks = absurd cc
marked (a ∷ []) marks = absurd cc
marked (a ∷ b ∷ log) marks = (b, refl, same_Some _ _ (ap (λ (l : List (Option (List ℕ))). slice_get l 1) marks))

pub delivery_stands : (x : Entry) × StandsAt at_delivered.now 1 x × Delivers 1 0 x
delivery_stands =
    let there = marked at_delivered.now.log.records marks_are in
    (there.0, record { index = 1; number = omega (arith, base_is_0); stands = there.1 }, there.2)

pub delivery_stays : (y : Entry) × StandsAt at_again.now 1 y × Delivers 1 0 y
delivery_stays =
    let there = marked at_again.now.log.records marks_stay in
    (there.0, record { index = 1; number = omega (arith, base_stays); stands = there.1 }, there.2)

pub crashes : Goes at_delivered (Crashes 2 setup) at_crash
crashes = (record { no_less = omega (arith, flushed_is_2); no_more = omega (arith, count_is_2); segment = segment_stays }, refl)

pub runs_again : Run at_delivered until_again at_again
runs_again = (
  at_crash,
  crashes,
  tt,
  (at_again, goes at_crash (Events.Deliver 5000) tt, tt, refl),
)

pub delivery_runs : Run at_opening until_delivered at_delivered
delivery_runs = (
  at_delayed,
  goes at_opening sends_delayed tt,
  tt,
  (
    at_batch,
    goes at_delayed Events.Take tt,
    tt,
    (
      at_stored,
      goes at_batch (Events.Flushed 1) first_flush,
      tt,
      (
        at_seen,
        goes at_stored (Events.Dispatch 1) tt,
        tt,
        (
          at_delivery,
          goes at_seen (Events.Deliver 2000) tt,
          tt,
          (
            at_second_batch,
            goes at_delivery Events.Take tt,
            tt,
            (at_delivered, goes at_second_batch (Events.Flushed 1) second_flush, tt, refl),
          ),
        ),
      ),
    ),
  ),
)
