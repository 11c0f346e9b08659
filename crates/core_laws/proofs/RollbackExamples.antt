-- The run of a half message that is rolled back is one.
use Rattle.std.proofs.Common.{◌≡◌, refl, arith, [], ◌∷◌, true, false, Some}
use Rattle.std.specs.Fmt.{digits}
use Rattle.mq_bytes.specs.Decimal.{decimal_value}
use Rattle.record_codec.specs.LaxProps.{read_props, pieces}
use Rattle.record_codec.specs.Props.{pair_in, until}
use Rattle.log_model.specs.Numbered.{count_of}
use Rattle.log_model.specs.Transactions.{RolledBack, transaction_state}
use Rattle.broker_model.specs.Events
use Rattle.broker_model.specs.Refusals.{refusal_of, named_half}
use Rattle.broker_model.specs.Appended.{appended, is_refused, drafts_of}
use Rattle.broker_model.specs.Answers.{answer_of, carried_out_answer, request_answer, done_reply, half_waits}
use Rattle.broker_model.specs.Step.{after, changed, request_changed, IsPossible}
use Rattle.broker_model.specs.Run.{Steps, Crashes, Goes}
use Rattle.broker_model.specs.Acknowledged.{AnswersAfter, AnswersAtOnce, is_verdict_on}
use Rattle.broker_model.specs.Examples.{half_props}
use Rattle.broker_model.specs.StepExamples.{sends}
use Rattle.core_laws.specs.Examples.{setup, at_opening, answered}
use Rattle.core_laws.specs.CommitExamples.{at_half, at_turn, at_flushed, commits, rolls_back, rollback_said, at_rolled_back, at_op_turn, at_op_flushed, at_undone, until_rolled_back, at_kept_op, at_undone_again, until_undone_again}
use Rattle.core_laws.proofs.Examples.{goes}
use Rattle.core_laws.proofs.CommitExamples.{sends_half, takes_half, flushes_half}

-- ---- answers and numbers, computed

rollback_answer : Events.After done_reply 1 1 ≡ answer_of at_flushed.now rolls_back
unfolding read_props pieces pair_in until decimal_value digits after changed request_changed is_refused drafts_of refusal_of answer_of
    carried_out_answer request_answer appended
rollback_answer = refl

op_flush : IsPossible at_op_turn.now (Events.Flushed 1)
unfolding read_props pieces pair_in until decimal_value digits after changed request_changed is_refused drafts_of refusal_of answer_of
    carried_out_answer request_answer appended
op_flush = refl

told_answer : Events.Looked Events.IsFlushed ≡ answer_of at_op_flushed.now (Events.Look 1 1)
unfolding read_props pieces pair_in until decimal_value digits after changed request_changed is_refused drafts_of refusal_of answer_of
    carried_out_answer request_answer appended
told_answer = refl

again_answer : Events.Replies done_reply ≡ answer_of at_kept_op.now rolls_back
unfolding read_props pieces pair_in until decimal_value digits after changed request_changed is_refused drafts_of refusal_of answer_of
    carried_out_answer request_answer appended
again_answer = refl

flushed_is_2 : at_op_flushed.now.flushed ≡ 2
unfolding read_props pieces pair_in until decimal_value digits after changed request_changed is_refused drafts_of refusal_of answer_of
    carried_out_answer request_answer appended
flushed_is_2 = refl

count_is_2 : count_of at_op_flushed.now.log ≡ 2
unfolding read_props pieces pair_in until decimal_value digits after changed request_changed is_refused drafts_of refusal_of answer_of
    carried_out_answer request_answer appended
count_is_2 = refl

segment_stays : setup.segment ≡ at_op_flushed.now.setup.segment
unfolding read_props pieces pair_in until decimal_value digits after changed request_changed is_refused drafts_of refusal_of answer_of
    carried_out_answer request_answer appended
segment_stays = refl

rollback_is_verdict : is_verdict_on at_flushed.now 0 12 rolls_back ≡ true
unfolding read_props pieces pair_in until decimal_value digits after changed request_changed is_refused drafts_of refusal_of answer_of
    carried_out_answer request_answer appended
rollback_is_verdict = refl

again_is_verdict : is_verdict_on at_kept_op.now 0 12 rolls_back ≡ true
unfolding read_props pieces pair_in until decimal_value digits after changed request_changed is_refused drafts_of refusal_of answer_of
    carried_out_answer request_answer appended
again_is_verdict = refl

again_in_sync : at_kept_op.now.setup.sync ≡ true
unfolding read_props pieces pair_in until decimal_value digits after changed request_changed is_refused drafts_of refusal_of answer_of
    carried_out_answer request_answer appended
again_in_sync = refl

half_is_waited_for : half_waits (named_half at_kept_op.now rollback_said) ≡ true
unfolding read_props pieces pair_in until decimal_value digits after changed request_changed is_refused drafts_of refusal_of answer_of
    carried_out_answer request_answer appended
half_is_waited_for = refl

pub undone_rolled_back : transaction_state at_undone.now.log.records 0 ≡ RolledBack
unfolding read_props pieces pair_in until decimal_value digits after changed request_changed is_refused drafts_of refusal_of answer_of
    carried_out_answer request_answer appended
undone_rolled_back = refl

pub again_rolled_back : transaction_state at_undone_again.now.log.records 0 ≡ RolledBack
unfolding read_props pieces pair_in until decimal_value digits after changed request_changed is_refused drafts_of refusal_of answer_of
    carried_out_answer request_answer appended
again_rolled_back = refl

pub commit_is_refused : is_verdict_on at_undone_again.now 0 8 commits ≡ false
unfolding read_props pieces pair_in until decimal_value digits after changed request_changed is_refused drafts_of refusal_of answer_of
    carried_out_answer request_answer appended
commit_is_refused = refl

-- ---- the moves

rolls_back_half : Goes at_flushed (Steps rolls_back (Some (Events.After done_reply 1 1))) at_rolled_back
rolls_back_half = ((tt, rollback_answer, refl), refl)

takes_op : Goes at_rolled_back (answered at_rolled_back Events.Take) at_op_turn
takes_op = goes at_rolled_back Events.Take tt

flushes_op : Goes at_op_turn (answered at_op_turn (Events.Flushed 1)) at_op_flushed
flushes_op = goes at_op_turn (Events.Flushed 1) op_flush

tells : Goes at_op_flushed (Steps (Events.Look 1 1) (Some (Events.Looked Events.IsFlushed))) at_undone
tells = ((tt, told_answer, refl), refl)

crashes : Goes at_op_flushed (Crashes 2 setup) at_kept_op
crashes = (record { no_less = omega (arith, flushed_is_2); no_more = omega (arith, count_is_2); segment = segment_stays }, refl)

says_again : Goes at_kept_op (Steps rolls_back (Some (Events.Replies done_reply))) at_undone_again
says_again = ((tt, again_answer, refl), refl)

-- ---- the answers

pub rollback_is_answered : (answers : AnswersAfter at_opening until_rolled_back at_undone rolls_back done_reply 1) × (is_verdict_on answers.asked.now 0 12 rolls_back ≡ true)
rollback_is_answered = (
  record {
    turn = 1;
    before = answered at_opening (sends half_props) ∷ answered at_half Events.Take ∷ answered at_turn (Events.Flushed 1) ∷ [];
    waiting = answered at_rolled_back Events.Take ∷ answered at_op_turn (Events.Flushed 1) ∷ [];
    later = [];
    asked = at_flushed;
    heard = at_rolled_back;
    looked = at_op_flushed;
    answered = at_undone;
    moves_are = refl;
    first = (at_half, sends_half, tt, (at_turn, takes_half, tt, (at_flushed, flushes_half, tt, refl)));
    asks = rolls_back_half;
    boot = (λ crash. crash, (λ crash. crash, tt));
    waits = (at_op_turn, takes_op, tt, (at_op_flushed, flushes_op, tt, refl));
    looks = tells;
    rest = refl;
  },
  rollback_is_verdict,
)

pub rollback_is_answered_again : (answers : AnswersAtOnce at_opening until_undone_again at_undone_again rolls_back done_reply)
    × (is_verdict_on answers.asked.now 0 12 rolls_back ≡ true) × (answers.asked.now.setup.sync ≡ true) × (half_waits (named_half answers.asked.now rollback_said) ≡ true)
rollback_is_answered_again = (
  record {
    before = answered at_opening (sends half_props) ∷ answered at_half Events.Take ∷ answered at_turn (Events.Flushed 1)
        ∷ Steps rolls_back (Some (Events.After done_reply 1 1)) ∷ answered at_rolled_back Events.Take ∷ answered at_op_turn (Events.Flushed 1)
        ∷ Crashes 2 setup ∷ [];
    later = [];
    asked = at_kept_op;
    heard = at_undone_again;
    moves_are = refl;
    first = (
      at_half,
      sends_half,
      tt,
      (at_turn, takes_half, tt, (at_flushed, flushes_half, tt, (at_rolled_back, rolls_back_half, tt, (at_op_turn, takes_op, tt, (at_op_flushed, flushes_op, tt, (at_kept_op, crashes, tt, refl)))))),
    );
    asks = says_again;
    rest = refl;
  },
  again_is_verdict,
  again_in_sync,
  half_is_waited_for,
)
