-- The run of a half message is one.
use Rattle.std.proofs.Common.{◌≡◌, ◌≤◌, refl, ap, arith, List, [], ◌∷◌, map, slice_get, Bool, true, false, Some}
use Rattle.std.specs.Fmt.{digits}
use Rattle.mq_bytes.specs.Decimal.{decimal_value}
use Rattle.record_codec.specs.LaxProps.{read_props, pieces}
use Rattle.record_codec.specs.Props.{pair_in, until}
use Rattle.record_codec.specs.Entry.{Entry}
use Rattle.log_model.specs.Kinds.{is_copy}
use Rattle.log_model.specs.Numbered.{count_of}
use Rattle.log_model.specs.Transactions.{Committed, RolledBack, copies, transaction_state}
use Rattle.broker_model.specs.Events
use Rattle.broker_model.specs.Refusals.{refusal_of, named_half}
use Rattle.broker_model.specs.Appended.{appended, is_refused, drafts_of}
use Rattle.broker_model.specs.Answers.{answer_of, carried_out_answer, request_answer, done_reply, half_waits}
use Rattle.broker_model.specs.Step.{after, changed, request_changed, IsPossible}
use Rattle.broker_model.specs.Run.{Steps, Crashes, Goes, RunWith}
use Rattle.broker_model.specs.Acknowledged.{AnswersAfter, AnswersAtOnce, StandsAt, is_verdict_on}
use Rattle.broker_model.specs.Examples.{half_props}
use Rattle.broker_model.specs.StepExamples.{sends}
use Rattle.core_laws.specs.Examples.{setup, at_opening, answered}
use Rattle.core_laws.specs.CommitExamples.{at_half, at_turn, at_flushed, commits, at_commit, at_next_turn, at_both_flushed, at_told, until_told, at_kept_copy, at_again, until_again, commit_said, rolls_back, at_rolled_back, at_refused, until_refused}
use Rattle.core_laws.specs.Halves.{NoCommitOn}
use Rattle.core_laws.proofs.Examples.{goes}
use Rattle.core_laws.proofs.RemovalExamples.{at_map}

-- ---- answers and numbers, computed

first_flush : IsPossible at_turn.now (Events.Flushed 1)
unfolding read_props pieces pair_in until decimal_value digits after changed request_changed is_refused drafts_of refusal_of answer_of
    carried_out_answer request_answer appended
first_flush = refl

commit_answer : Events.After done_reply 2 1 ≡ answer_of at_flushed.now commits
unfolding read_props pieces pair_in until decimal_value digits after changed request_changed is_refused drafts_of refusal_of answer_of
    carried_out_answer request_answer appended
commit_answer = refl

second_flush : IsPossible at_next_turn.now (Events.Flushed 2)
unfolding read_props pieces pair_in until decimal_value digits after changed request_changed is_refused drafts_of refusal_of answer_of
    carried_out_answer request_answer appended
second_flush = refl

told_answer : Events.Looked Events.IsFlushed ≡ answer_of at_both_flushed.now (Events.Look 2 1)
unfolding read_props pieces pair_in until decimal_value digits after changed request_changed is_refused drafts_of refusal_of answer_of
    carried_out_answer request_answer appended
told_answer = refl

again_answer : Events.Replies done_reply ≡ answer_of at_kept_copy.now commits
unfolding read_props pieces pair_in until decimal_value digits after changed request_changed is_refused drafts_of refusal_of answer_of
    carried_out_answer request_answer appended
again_answer = refl

flushed_is_1 : at_commit.now.flushed ≡ 1
unfolding read_props pieces pair_in until decimal_value digits after changed request_changed is_refused drafts_of refusal_of answer_of
    carried_out_answer request_answer appended
flushed_is_1 = refl

count_is_3 : count_of at_commit.now.log ≡ 3
unfolding read_props pieces pair_in until decimal_value digits after changed request_changed is_refused drafts_of refusal_of answer_of
    carried_out_answer request_answer appended
count_is_3 = refl

segment_stays : setup.segment ≡ at_commit.now.setup.segment
unfolding read_props pieces pair_in until decimal_value digits after changed request_changed is_refused drafts_of refusal_of answer_of
    carried_out_answer request_answer appended
segment_stays = refl

commit_is_verdict : is_verdict_on at_flushed.now 0 8 commits ≡ true
unfolding read_props pieces pair_in until decimal_value digits after changed request_changed is_refused drafts_of refusal_of answer_of
    carried_out_answer request_answer appended
commit_is_verdict = refl

again_is_verdict : is_verdict_on at_kept_copy.now 0 8 commits ≡ true
unfolding read_props pieces pair_in until decimal_value digits after changed request_changed is_refused drafts_of refusal_of answer_of
    carried_out_answer request_answer appended
again_is_verdict = refl

pub one_copy : copies at_commit.now.log.records 0 ≡ 1
unfolding read_props pieces pair_in until decimal_value digits after changed request_changed is_refused drafts_of refusal_of answer_of
    carried_out_answer request_answer appended
one_copy = refl

copies_are : map is_copy at_commit.now.log.records ≡ false ∷ true ∷ false ∷ []
unfolding read_props pieces pair_in until decimal_value digits after changed request_changed is_refused drafts_of refusal_of answer_of
    carried_out_answer request_answer appended
copies_are = refl

base_is_0 : at_commit.now.log.base.records ≡ 0
unfolding read_props pieces pair_in until decimal_value digits after changed request_changed is_refused drafts_of refusal_of answer_of
    carried_out_answer request_answer appended
base_is_0 = refl

one_before : count_of at_flushed.now.log ≡ 1
unfolding read_props pieces pair_in until decimal_value digits after changed request_changed is_refused drafts_of refusal_of answer_of
    carried_out_answer request_answer appended
one_before = refl

pub still_one_copy : copies at_again.now.log.records 0 ≡ 1
unfolding read_props pieces pair_in until decimal_value digits after changed request_changed is_refused drafts_of refusal_of answer_of
    carried_out_answer request_answer appended
still_one_copy = refl

pub told_committed : transaction_state at_told.now.log.records 0 ≡ Committed
unfolding read_props pieces pair_in until decimal_value digits after changed request_changed is_refused drafts_of refusal_of answer_of
    carried_out_answer request_answer appended
told_committed = refl

pub again_committed : transaction_state at_again.now.log.records 0 ≡ Committed
unfolding read_props pieces pair_in until decimal_value digits after changed request_changed is_refused drafts_of refusal_of answer_of
    carried_out_answer request_answer appended
again_committed = refl

again_in_sync : at_kept_copy.now.setup.sync ≡ true
unfolding read_props pieces pair_in until decimal_value digits after changed request_changed is_refused drafts_of refusal_of answer_of
    carried_out_answer request_answer appended
again_in_sync = refl

half_is_waited_for : half_waits (named_half at_kept_copy.now commit_said) ≡ true
unfolding read_props pieces pair_in until decimal_value digits after changed request_changed is_refused drafts_of refusal_of answer_of
    carried_out_answer request_answer appended
half_is_waited_for = refl

rollback_is_no_commit : is_verdict_on at_flushed.now 0 8 rolls_back ≡ false
unfolding read_props pieces pair_in until decimal_value digits after changed request_changed is_refused drafts_of refusal_of answer_of
    carried_out_answer request_answer appended
rollback_is_no_commit = refl

refused_is_no_commit : is_verdict_on at_rolled_back.now 0 8 commits ≡ false
unfolding read_props pieces pair_in until decimal_value digits after changed request_changed is_refused drafts_of refusal_of answer_of
    carried_out_answer request_answer appended
refused_is_no_commit = refl

send_is_no_commit : is_verdict_on at_opening.now 0 8 (sends half_props) ≡ false
unfolding read_props pieces pair_in until decimal_value digits after changed request_changed is_refused drafts_of refusal_of answer_of
    carried_out_answer request_answer appended
send_is_no_commit = refl

pub refused_rolled_back : transaction_state at_refused.now.log.records 0 ≡ RolledBack
unfolding read_props pieces pair_in until decimal_value digits after changed request_changed is_refused drafts_of refusal_of answer_of
    carried_out_answer request_answer appended
refused_rolled_back = refl

-- ---- the moves

pub sends_half : Goes at_opening (answered at_opening (sends half_props)) at_half
sends_half = goes at_opening (sends half_props) tt

pub takes_half : Goes at_half (answered at_half Events.Take) at_turn
takes_half = goes at_half Events.Take tt

pub flushes_half : Goes at_turn (answered at_turn (Events.Flushed 1)) at_flushed
flushes_half = goes at_turn (Events.Flushed 1) first_flush

pub commits_half : Goes at_flushed (Steps commits (Some (Events.After done_reply 2 1))) at_commit
commits_half = ((tt, commit_answer, refl), refl)

takes_copy : Goes at_commit (answered at_commit Events.Take) at_next_turn
takes_copy = goes at_commit Events.Take tt

flushes_copy : Goes at_next_turn (answered at_next_turn (Events.Flushed 2)) at_both_flushed
flushes_copy = goes at_next_turn (Events.Flushed 2) second_flush

tells : Goes at_both_flushed (Steps (Events.Look 2 1) (Some (Events.Looked Events.IsFlushed))) at_told
tells = ((tt, told_answer, refl), refl)

pub crashes : Goes at_commit (Crashes 2 setup) at_kept_copy
crashes = (record { no_less = omega (arith, flushed_is_1); no_more = omega (arith, count_is_3); segment = segment_stays }, refl)

says_again : Goes at_kept_copy (Steps commits (Some (Events.Replies done_reply))) at_again
says_again = ((tt, again_answer, refl), refl)

pub copy_is_appended : (copy : Entry) × StandsAt at_commit.now 1 copy × (is_copy copy ≡ true) × (count_of at_flushed.now.log ≤ 1)
copy_is_appended =
    let there = at_map is_copy at_commit.now.log.records 1 true (ap (λ (l : List Bool). slice_get l 1) copies_are) in
    (there.0, record { index = 1; number = omega (arith, base_is_0); stands = there.1 }, there.2, omega (arith, one_before))

-- ---- the answers

pub commit_is_answered : (answers : AnswersAfter at_opening until_told at_told commits done_reply 2) × (is_verdict_on answers.asked.now 0 8 commits ≡ true)
commit_is_answered = (
  record {
    turn = 1;
    before = answered at_opening (sends half_props) ∷ answered at_half Events.Take ∷ answered at_turn (Events.Flushed 1) ∷ [];
    waiting = answered at_commit Events.Take ∷ answered at_next_turn (Events.Flushed 2) ∷ [];
    later = [];
    asked = at_flushed;
    heard = at_commit;
    looked = at_both_flushed;
    answered = at_told;
    moves_are = refl;
    first = (at_half, sends_half, tt, (at_turn, takes_half, tt, (at_flushed, flushes_half, tt, refl)));
    asks = commits_half;
    boot = (λ crash. crash, (λ crash. crash, tt));
    waits = (at_next_turn, takes_copy, tt, (at_both_flushed, flushes_copy, tt, refl));
    looks = tells;
    rest = refl;
  },
  commit_is_verdict,
)

pub commit_is_answered_again : (answers : AnswersAtOnce at_opening until_again at_again commits done_reply) × (is_verdict_on answers.asked.now 0 8 commits ≡ true)
    × (answers.asked.now.setup.sync ≡ true) × (half_waits (named_half answers.asked.now commit_said) ≡ true)
commit_is_answered_again = (
  record {
    before = answered at_opening (sends half_props) ∷ answered at_half Events.Take ∷ answered at_turn (Events.Flushed 1)
        ∷ Steps commits (Some (Events.After done_reply 2 1)) ∷ Crashes 2 setup ∷ [];
    later = [];
    asked = at_kept_copy;
    heard = at_again;
    moves_are = refl;
    first = (at_half, sends_half, tt, (at_turn, takes_half, tt, (at_flushed, flushes_half, tt, (at_commit, commits_half, tt, (at_kept_copy, crashes, tt, refl)))));
    asks = says_again;
    rest = refl;
  },
  again_is_verdict,
  again_in_sync,
  half_is_waited_for,
)

pub run_to_refused : RunWith (NoCommitOn 0) at_opening until_refused at_refused
run_to_refused = (
  at_half,
  sends_half,
  send_is_no_commit,
  (
    at_turn,
    takes_half,
    refl,
    (
      at_flushed,
      flushes_half,
      refl,
      (at_rolled_back, goes at_flushed rolls_back tt, rollback_is_no_commit, (at_refused, goes at_rolled_back commits tt, refused_is_no_commit, refl)),
    ),
  ),
)
