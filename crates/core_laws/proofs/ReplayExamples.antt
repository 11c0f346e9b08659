-- The opening over a log is one, and the tables of worked states are computed.
use Rattle.std.proofs.Common.{◌≡◌, refl, subst, arith, ℕ, zero, suc, ◌<◌, List, [], ◌∷◌, length, take, slice_get, true, pos, Some, FitsSigned, w32}
use Rattle.std.specs.Prelude.{codes}
use Rattle.std.specs.List.{AllByRecursion}
use Rattle.std.specs.Str.{chars, is_utf8}
use Rattle.std.specs.Fmt.{digits}
use Rattle.std.proofs.lemmas.Int.{fits_signed_from_abs}
use Rattle.std.proofs.lemmas.Option.{same_Some}
use Rattle.mq_bytes.specs.Bytes.{AreBytes}
use Rattle.mq_bytes.specs.Decimal.{decimal_value}
use Rattle.mq_bytes.specs.Delays.{level_delay}
use Rattle.mq_bytes.specs.Hashes.{java_hash, key_hash}
use Rattle.record_codec.specs.Entry.{Entry}
use Rattle.record_codec.specs.Layout.{is_entry, size, IsRecord}
use Rattle.record_codec.specs.LaxProps.{read_props, pieces}
use Rattle.record_codec.specs.Props.{pair_in, until, written}
use Rattle.log_model.specs.Admissible.{IsAdmissible}
use Rattle.log_model.specs.Bases.{geometry, no_base}
use Rattle.log_model.specs.Log.{Follows}
use Rattle.log_model.specs.Numbered.{IsLawful, count_of}
use Rattle.log_model.specs.Transactions.{Committed}
use Rattle.broker_model.specs.Refusals.{refusal_of}
use Rattle.broker_model.specs.Appended.{appended, is_refused, drafts_of}
use Rattle.broker_model.specs.Answers.{answer_of, carried_out_answer, request_answer}
use Rattle.broker_model.specs.Step.{after, changed, request_changed}
use Rattle.broker_model.specs.Run.{IsOpening}
use Rattle.core_laws.specs.CommitExamples as commits
use Rattle.core_laws.specs.DeliveryExamples as deliveries
use Rattle.core_laws.specs.Examples.{at_look, at_dispatch, hi_record, tables_of}
use Rattle.core_laws.specs.ReplayExamples.{keyed_record, hash_of_key, keyed_log, at_keyed}

-- ---- the log is lawful

bytes_nil : AreBytes []
bytes_nil i = omega arith

bytes_cons : (x : ℕ) (bytes : List ℕ) → x < 256 → AreBytes bytes → AreBytes (x ∷ bytes)
bytes_cons x bytes first others zero = first
bytes_cons x bytes first others (suc i) = others i

bytes_all : (bytes : List ℕ) → AllByRecursion (λ b. b < 256) bytes → AreBytes bytes
bytes_all [] are = bytes_nil
bytes_all (b ∷ bytes) are = bytes_cons b bytes are.0 (bytes_all bytes are.1)

host_is_bytes : AreBytes (127 ∷ 0 ∷ 0 ∷ 1 ∷ 0 ∷ 0 ∷ 42 ∷ 159 ∷ [])
host_is_bytes = bytes_all (127 ∷ 0 ∷ 0 ∷ 1 ∷ 0 ∷ 0 ∷ 42 ∷ 159 ∷ [])
    (omega arith, (omega arith, (omega arith, (omega arith, (omega arith, (omega arith, (omega arith, (omega arith, tt))))))))

hi_is_bytes : AreBytes (104 ∷ 105 ∷ [])
hi_is_bytes = bytes_all (104 ∷ 105 ∷ []) (omega arith, (omega arith, tt))

zero_fits : FitsSigned w32 (pos 0)
zero_fits = fits_signed_from_abs w32 (pos 0) (omega arith)

has_entry : is_entry keyed_record ≡ true
unfolding is_entry is_utf8 chars read_props pieces pair_in until decimal_value digits lib.Utf8.encode
has_entry = refl

props_are_short : length (written keyed_record.props) ≡ 8
unfolding read_props pieces pair_in until decimal_value digits
props_are_short = refl

takes_116 : size keyed_record ≡ 116
unfolding read_props pieces pair_in until decimal_value digits
takes_116 = refl

has_layout : IsRecord keyed_record
unfolding read_props pieces pair_in until decimal_value digits
has_layout = record {
  entry = has_entry;
  queue = omega arith;
  flag = zero_fits;
  sysflag = omega arith;
  reconsume = zero_fits;
  born_host = (refl, host_is_bytes);
  store_host = (refl, host_is_bytes);
  body = hi_is_bytes;
  props = omega (arith, props_are_short);
  size = omega (arith, takes_116);
}

is_admissible : IsAdmissible 1073741824 keyed_record
unfolding read_props pieces pair_in until decimal_value digits
is_admissible = record {
  queue = omega arith;
  copy = λ is. absurd cc;
  discard = λ is. absurd cc;
  half = λ is. absurd cc;
  level = λ is. absurd cc;
  op = λ is. absurd cc;
  renewal = tt;
  delivery = tt;
  undelivered = λ is. absurd cc;
}

begins_log : Follows (geometry 1073741824 no_base) [] keyed_record
unfolding read_props pieces pair_in until decimal_value digits
begins_log = record {
  layout = has_layout;
  place = refl;
  room = omega (arith, takes_116);
  low = omega (arith, takes_116);
  queue_offset = refl;
  store = λ k earlier at. absurd cc;
  admissible = is_admissible;
  names = tt;
}

is_lawful : IsLawful 1073741824 keyed_log
is_lawful = record {
  segment = record { low = omega arith; high = omega arith; begins = refl; within = omega arith; some = omega arith; counted = λ topic queue. omega arith };
  each = only;
}
  where
    only : (k : ℕ) (r : Entry) → slice_get keyed_log.records k ≡ Some r → Follows (geometry 1073741824 no_base) (take k keyed_log.records) r
    only zero r at = subst (λ (x : Entry). Follows (geometry 1073741824 no_base) [] x) (same_Some keyed_record r at) begins_log
    only (suc k) r at = absurd cc

pub is_opening : IsOpening at_keyed
is_opening = record { lawful = is_lawful; base = refl; state = refl; before = refl }

-- ---- tables, computed

pub queue_of_opening : (tables_of at_keyed.now).queues (codes "T") 0 ≡ keyed_record ∷ []
unfolding read_props pieces pair_in until decimal_value digits
queue_of_opening = refl

pub key_of_opening : (tables_of at_keyed.now).keys hash_of_key ≡ keyed_record ∷ []
unfolding read_props pieces pair_in until decimal_value digits java_hash key_hash chars
key_of_opening = refl

pub one_waits : count_of at_look.now.log ≡ 1
unfolding read_props pieces pair_in until decimal_value digits after changed request_changed is_refused drafts_of refusal_of answer_of
    carried_out_answer request_answer appended
one_waits = refl

pub queue_of_waiting : (tables_of at_look.now).queues (codes "T") 0 ≡ []
unfolding read_props pieces pair_in until decimal_value digits after changed request_changed is_refused drafts_of refusal_of answer_of
    carried_out_answer request_answer appended
queue_of_waiting = refl

pub all_is_dispatched : at_dispatch.now.dispatched ≡ count_of at_dispatch.now.log
unfolding read_props pieces pair_in until decimal_value digits after changed request_changed is_refused drafts_of refusal_of answer_of
    carried_out_answer request_answer appended
all_is_dispatched = refl

pub queue_of_dispatched : (tables_of at_dispatch.now).queues (codes "T") 0 ≡ hi_record ∷ []
unfolding read_props pieces pair_in until decimal_value digits after changed request_changed is_refused drafts_of refusal_of answer_of
    carried_out_answer request_answer appended
queue_of_dispatched = refl

pub half_of_crashed : (tables_of commits.at_kept_copy.now).states 0 ≡ Committed
unfolding read_props pieces pair_in until decimal_value digits after changed request_changed is_refused drafts_of refusal_of answer_of
    carried_out_answer request_answer appended
half_of_crashed = refl

pub level_of_crashed : (tables_of deliveries.at_crash.now).levels 1 ≡ 1
unfolding read_props pieces pair_in until decimal_value digits after changed request_changed is_refused drafts_of refusal_of answer_of
    carried_out_answer request_answer appended level_delay
level_of_crashed = refl
