-- The run of the examples is one.
use Rattle.std.proofs.Common.{◌≡◌, inl, refl, arith, ◌+◌, [], ◌∷◌, true, Some, slice_get, map}
use Rattle.std.specs.Prelude.{codes}
use Rattle.std.specs.Fmt.{digits}
use Rattle.log_model.specs.Numbered.{IsLawful, count_of}
use Rattle.broker_model.specs.Tables.{OffsetRow}
use Rattle.mq_bytes.specs.Decimal.{decimal_value}
use Rattle.record_codec.specs.LaxProps.{read_props, pieces}
use Rattle.record_codec.specs.Props.{pair_in, until}
use Rattle.broker_model.specs.State.{State}
use Rattle.broker_model.specs.Events
use Rattle.broker_model.specs.Refusals.{refusal_of}
use Rattle.broker_model.specs.Appended.{appended, is_refused, drafts_of}
use Rattle.broker_model.specs.Answers.{answer_of, carried_out_answer, request_answer}
use Rattle.broker_model.specs.Step.{after, changed, request_changed, IsPossible, offset_row}
use Rattle.broker_model.specs.Run.{Boot, Steps, SavesOffsets, Crashes, Goes, Run, RunWith, IsOpening}
use Rattle.broker_model.specs.Acknowledged.{IsAcknowledged}
use Rattle.broker_model.specs.StepExamples.{sends, stores}
use Rattle.broker_model.specs.Examples.{no_log}
use Rattle.core_laws.specs.Offsets.{StoresOnly}
use Rattle.core_laws.specs.Replay.{StandsFor}
use Rattle.core_laws.specs.Examples.{setup, at_opening, stepped, answered, at_send, at_take, at_flush, at_look, hi_record, hi_reply, at_dispatch, asked_pull, pull_said, at_pull, until_dispatch, at_store, at_saving, until_saving, until_crash, from_pull, is_one, at_crash, at_cut, tables_of}

-- what may happen happens
pub goes : (b : Boot) (e : Events.Event) → IsPossible b.now e → Goes b (answered b e) (stepped b e)
goes b e possible = ((possible, refl, refl), refl)

-- no record is a lawful log
empty_is_lawful : IsLawful 1073741824 no_log
empty_is_lawful = record {
  segment = record { low = omega arith; high = omega arith; begins = refl; within = omega arith; some = omega arith; counted = λ topic queue. omega arith };
  each = λ k r at. absurd (cc);
}

pub is_opening : IsOpening at_opening
is_opening = record { lawful = empty_is_lawful; base = refl; state = refl; before = refl }

pub cut_is_opening : IsOpening at_cut
cut_is_opening = record { lawful = empty_is_lawful; base = refl; state = refl; before = refl }

pub saved_offset_is_cut : map (λ (row : OffsetRow). row.offset) at_cut.now.offsets ≡ 0 ∷ []
saved_offset_is_cut = refl

-- ---- answers and numbers, computed

send_answer : Events.After hi_reply 0 0 ≡ answer_of at_opening.now (sends [])
unfolding read_props pieces pair_in until decimal_value digits after changed request_changed is_refused drafts_of refusal_of answer_of
    carried_out_answer request_answer appended
send_answer = refl

flush_is_of_the_batch : IsPossible at_take.now (Events.Flushed 1)
unfolding read_props pieces pair_in until decimal_value digits after changed request_changed is_refused drafts_of refusal_of answer_of
    carried_out_answer request_answer appended
flush_is_of_the_batch = refl

look_answer : Events.Looked Events.IsFlushed ≡ answer_of at_flush.now (Events.Look 0 0)
unfolding read_props pieces pair_in until decimal_value digits after changed request_changed is_refused drafts_of refusal_of answer_of
    carried_out_answer request_answer appended
look_answer = refl

pull_answer : Events.Replies pull_said ≡ answer_of at_dispatch.now (Events.Asks asked_pull)
unfolding read_props pieces pair_in until decimal_value digits after changed request_changed is_refused drafts_of refusal_of answer_of
    carried_out_answer request_answer appended
pull_answer = refl

record_is_sent : slice_get at_send.now.log.records 0 ≡ Some hi_record
unfolding read_props pieces pair_in until decimal_value digits after changed request_changed is_refused drafts_of refusal_of answer_of
    carried_out_answer request_answer appended
record_is_sent = refl

pub record_is_pulled : slice_get pull_said.body 0 ≡ Some hi_record
unfolding read_props pieces pair_in until decimal_value digits after changed request_changed is_refused drafts_of refusal_of answer_of
    carried_out_answer request_answer appended
record_is_pulled = refl

pub offset_is_stored : map (λ (row : OffsetRow). row.offset) at_store.now.offsets ≡ 1 ∷ []
unfolding read_props pieces pair_in until decimal_value digits after changed request_changed is_refused drafts_of refusal_of answer_of
    carried_out_answer request_answer appended
offset_is_stored = refl

pub offset_is_kept : map (λ (row : OffsetRow). row.offset) at_crash.now.offsets ≡ 1 ∷ []
unfolding read_props pieces pair_in until decimal_value digits after changed request_changed is_refused drafts_of refusal_of answer_of
    carried_out_answer request_answer appended
offset_is_kept = refl

pub record_is_kept : slice_get at_crash.now.log.records 0 ≡ Some hi_record
unfolding read_props pieces pair_in until decimal_value digits after changed request_changed is_refused drafts_of refusal_of answer_of
    carried_out_answer request_answer appended
record_is_kept = refl

flushed_is_1 : at_saving.now.flushed ≡ 1
unfolding read_props pieces pair_in until decimal_value digits after changed request_changed is_refused drafts_of refusal_of answer_of
    carried_out_answer request_answer appended
flushed_is_1 = refl

count_is_1 : count_of at_saving.now.log ≡ 1
unfolding read_props pieces pair_in until decimal_value digits after changed request_changed is_refused drafts_of refusal_of answer_of
    carried_out_answer request_answer appended
count_is_1 = refl

stored_is_1 : is_one (offset_row at_pull.now (codes "G") (codes "T") 0 9) ≡ true
unfolding read_props pieces pair_in until decimal_value digits after changed request_changed is_refused drafts_of refusal_of answer_of
    carried_out_answer request_answer appended
stored_is_1 = refl

segment_stays : setup.segment ≡ at_saving.now.setup.segment
unfolding read_props pieces pair_in until decimal_value digits after changed request_changed is_refused drafts_of refusal_of answer_of
    carried_out_answer request_answer appended
segment_stays = refl

number_is_0 : 0 ≡ at_send.now.log.base.records + 0
unfolding read_props pieces pair_in until decimal_value digits after changed request_changed is_refused drafts_of refusal_of answer_of
    carried_out_answer request_answer appended
number_is_0 = refl

-- ---- the moves

sends_it : Goes at_opening (Steps (sends []) (Some (Events.After hi_reply 0 0))) at_send
sends_it = ((tt, send_answer, refl), refl)

takes_it : Goes at_send (answered at_send Events.Take) at_take
takes_it = goes at_send Events.Take tt

flushes_it : Goes at_take (answered at_take (Events.Flushed 1)) at_flush
flushes_it = goes at_take (Events.Flushed 1) flush_is_of_the_batch

looks_at_it : Goes at_flush (Steps (Events.Look 0 0) (Some (Events.Looked Events.IsFlushed))) at_look
looks_at_it = ((tt, look_answer, refl), refl)

dispatches_it : Goes at_look (answered at_look (Events.Dispatch 1)) at_dispatch
dispatches_it = goes at_look (Events.Dispatch 1) tt

pub pulls_it : Goes at_dispatch (Steps (Events.Asks asked_pull) (Some (Events.Replies pull_said))) at_pull
pulls_it = ((tt, pull_answer, refl), refl)

stores_it : Goes at_pull (answered at_pull (stores 9)) at_store
stores_it = goes at_pull (stores 9) tt

saves_it : Goes at_store SavesOffsets at_saving
saves_it = (at_store.now, inl refl, refl)

pub crashes : Goes at_saving (Crashes 1 setup) at_crash
crashes = (record { no_less = omega (arith, flushed_is_1); no_more = omega (arith, count_is_1); segment = segment_stays }, refl)

-- ---- runs

pub hi_is_acknowledged : IsAcknowledged at_opening until_crash at_crash 0 hi_record
hi_is_acknowledged = record {
  event = sends [];
  reply = hi_reply;
  last = 0;
  answers = record {
    turn = 0;
    before = [];
    waiting = answered at_send Events.Take ∷ answered at_take (Events.Flushed 1) ∷ [];
    later = answered at_look (Events.Dispatch 1) ∷ Steps (Events.Asks asked_pull) (Some (Events.Replies pull_said)) ∷ answered at_pull (stores 9)
        ∷ SavesOffsets ∷ Crashes 1 setup ∷ [];
    asked = at_opening;
    heard = at_send;
    looked = at_flush;
    answered = at_look;
    moves_are = refl;
    first = refl;
    asks = sends_it;
    boot = (λ crash. crash, (λ crash. crash, tt));
    waits = (at_take, takes_it, tt, (at_flush, flushes_it, tt, refl));
    looks = looks_at_it;
    rest = (at_dispatch, dispatches_it, tt, (at_pull, pulls_it, tt, (at_store, stores_it, tt, (at_saving, saves_it, tt, (at_crash, crashes, tt, refl)))));
  };
  appended = record { low = omega arith; high = omega arith; stands = record { index = 0; number = number_is_0; stands = record_is_sent } };
}

pub run_to_dispatch : Run at_opening until_dispatch at_dispatch
run_to_dispatch = (at_send, sends_it, tt, (at_take, takes_it, tt, (at_flush, flushes_it, tt, (at_look, looks_at_it, tt, (at_dispatch, dispatches_it, tt, refl)))))

pub run_from_pull : Run at_pull from_pull at_crash
run_from_pull = (at_store, stores_it, tt, (at_saving, saves_it, tt, (at_crash, crashes, tt, refl)))

pub run_to_saving : RunWith (StoresOnly is_one) at_opening until_saving at_saving
run_to_saving = (at_send, sends_it, tt, (at_take, takes_it, tt, (at_flush, flushes_it, tt, (at_look, looks_at_it, tt, (at_dispatch, dispatches_it, tt, (at_pull, pulls_it, tt, (at_store, stores_it, stored_is_1, (at_saving, saves_it, tt, refl))))))))

pub stands_for : (s : State) → StandsFor (tables_of s) s
stands_for s = record { queues = λ topic queue. refl; keys = λ hash. refl; states = λ h. refl; levels = λ level. refl }
