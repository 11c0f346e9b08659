-- The run of a removal is one.
use Rattle.std.proofs.Common.{◌≡◌, inl, refl, ap, sym, ◌∙◌, subst, arith, ℕ, zero, suc, ◌-◌, ◌*◌, ◌/◌, ◌<◌, ◌≤◌, List, [], ◌∷◌, ◌++◌, length, map, take, drop, slice_get, Bool, true, false, Some}
use Rattle.std.specs.Prelude.{◌&&◌, ◌||◌, ◌==◌}
use Rattle.std.specs.List.{list_any}
use Rattle.std.specs.Fmt.{digits}
use Rattle.std.specs.Str.{bytes_eq}
use Rattle.std.proofs.lemmas.Bool.{and_parts}
use Rattle.std.proofs.lemmas.Option.{same_Some}
use Rattle.mq_bytes.specs.Decimal.{decimal_value}
use Rattle.mq_bytes.specs.Delays.{level_delay}
use Rattle.record_codec.specs.Entry.{Entry}
use Rattle.record_codec.specs.LaxProps.{read_props, pieces}
use Rattle.record_codec.specs.Props.{pair_in, until}
use Rattle.log_model.specs.Bases.{Base, no_base}
use Rattle.log_model.specs.Kinds.{is_half, is_delayed, is_text, origin_text}
use Rattle.log_model.specs.Log.{end_from}
use Rattle.log_model.specs.Numbered.{Log, place_end}
use Rattle.log_model.specs.Transactions.{is_origin, is_renewal}
use Rattle.broker_model.specs.State.{Setup}
use Rattle.broker_model.specs.Events
use Rattle.broker_model.specs.Refusals.{refusal_of}
use Rattle.broker_model.specs.Appended.{appended, is_refused, drafts_of}
use Rattle.broker_model.specs.Answers.{answer_of, carried_out_answer, request_answer}
use Rattle.broker_model.specs.Step.{after, changed, request_changed}
use Rattle.broker_model.specs.Removal.{IsBaseAfter, IsCutAt, IsRemovable, AreWholeFamilies, is_named, has_queue, settled_number}
use Rattle.broker_model.specs.Run.{Boot, Move, SavesBase, Crashes, Goes, Run, IsOpening}
use Rattle.broker_model.specs.Acknowledged.{StandsAt}
use Rattle.core_laws.specs.Examples.{stepped, answered}
use Rattle.core_laws.specs.RemovalExamples.{small, boot_after, moves_of, ArePossible, at_empty, events, at_full, base_of_first, next_base, at_saved, until_saved, at_removed, at_restart}
use Rattle.core_laws.proofs.Examples.{goes}
use Rattle.core_laws.proofs.Lists.{get_drop, length_take}

-- ---- several events

-- what may happen is a run
runs : (b : Boot) (events : List Events.Event) → ArePossible b events → Run b (moves_of b events) (boot_after b events)
runs b [] possible = refl
runs b (e ∷ events) possible = (stepped b e, goes b e possible.0, tt, runs (stepped b e) events possible.1)

-- one move more
one_more : (b c d : Boot) (moves : List Move) (move : Move) → Run b moves c → Goes c move d → Run b (moves ++ move ∷ []) d
one_more b c d [] move run goes = subst (λ (x : Boot). Run x (move ∷ []) d) run (d, goes, tt, refl)
one_more b c d (first ∷ moves) move run goes = (run.0, run.1, tt, one_more run.0 c d moves move run.3 goes)

-- ---- what is computed

are_possible : ArePossible at_empty events
unfolding read_props pieces pair_in until decimal_value digits after changed request_changed is_refused drafts_of refusal_of answer_of
    carried_out_answer request_answer appended level_delay
are_possible = (tt, (tt, (tt, (tt, (tt, (refl, (tt, (tt, (tt, (tt, (tt, (refl, (tt, (refl, (tt, tt)))))))))))))))

eight_records : length at_full.now.log.records ≡ 8
unfolding read_props pieces pair_in until decimal_value digits after changed request_changed is_refused drafts_of refusal_of answer_of
    carried_out_answer request_answer appended level_delay
eight_records = refl

all_dispatched : at_full.now.dispatched ≡ 8
unfolding read_props pieces pair_in until decimal_value digits after changed request_changed is_refused drafts_of refusal_of answer_of
    carried_out_answer request_answer appended level_delay
all_dispatched = refl

all_flushed : at_full.now.flushed ≡ 8
unfolding read_props pieces pair_in until decimal_value digits after changed request_changed is_refused drafts_of refusal_of answer_of
    carried_out_answer request_answer appended level_delay
all_flushed = refl

all_done : settled_number at_full.now ≡ 8
unfolding read_props pieces pair_in until decimal_value digits after changed request_changed is_refused drafts_of refusal_of answer_of
    carried_out_answer request_answer appended level_delay
all_done = refl

setup_stays : at_full.now.setup ≡ small
unfolding read_props pieces pair_in until decimal_value digits after changed request_changed is_refused drafts_of refusal_of answer_of
    carried_out_answer request_answer appended level_delay
setup_stays = refl

base_stays : at_full.now.log.base ≡ no_base
unfolding read_props pieces pair_in until decimal_value digits after changed request_changed is_refused drafts_of refusal_of answer_of
    carried_out_answer request_answer appended level_delay
base_stays = refl

saved_base_stays : at_full.now.saved.base ≡ no_base
unfolding read_props pieces pair_in until decimal_value digits after changed request_changed is_refused drafts_of refusal_of answer_of
    carried_out_answer request_answer appended level_delay
saved_base_stays = refl

front_ends : end_from 0 (take 7 at_full.now.log.records) ≡ 2755
unfolding read_props pieces pair_in until decimal_value digits after changed request_changed is_refused drafts_of refusal_of answer_of
    carried_out_answer request_answer appended level_delay
front_ends = refl

log_ends : place_end at_full.now.log ≡ 5902
unfolding read_props pieces pair_in until decimal_value digits after changed request_changed is_refused drafts_of refusal_of answer_of
    carried_out_answer request_answer appended level_delay
log_ends = refl

next_place : map (λ r. r.offset) (drop 7 at_full.now.log.records) ≡ 4096 ∷ []
unfolding read_props pieces pair_in until decimal_value digits after changed request_changed is_refused drafts_of refusal_of answer_of
    carried_out_answer request_answer appended level_delay
next_place = refl

no_half_behind : map is_half (drop 7 at_full.now.log.records) ≡ false ∷ []
unfolding read_props pieces pair_in until decimal_value digits after changed request_changed is_refused drafts_of refusal_of answer_of
    carried_out_answer request_answer appended level_delay
no_half_behind = refl

origins_are : map (is_origin 0) at_full.now.log.records ≡ true ∷ false ∷ false ∷ false ∷ false ∷ false ∷ false ∷ false ∷ []
unfolding read_props pieces pair_in until decimal_value digits after changed request_changed is_refused drafts_of refusal_of answer_of
    carried_out_answer request_answer appended level_delay
origins_are = refl

renewals_are : map (is_renewal 0) at_full.now.log.records ≡ false ∷ true ∷ false ∷ false ∷ false ∷ false ∷ false ∷ false ∷ []
unfolding read_props pieces pair_in until decimal_value digits after changed request_changed is_refused drafts_of refusal_of answer_of
    carried_out_answer request_answer appended level_delay
renewals_are = refl

delayed_are : map is_delayed at_full.now.log.records ≡ false ∷ false ∷ false ∷ false ∷ true ∷ false ∷ false ∷ false ∷ []
unfolding read_props pieces pair_in until decimal_value digits after changed request_changed is_refused drafts_of refusal_of answer_of
    carried_out_answer request_answer appended level_delay
delayed_are = refl

pub base_after_removal : at_removed.now.log.base.records ≡ 7
unfolding read_props pieces pair_in until decimal_value digits after changed request_changed is_refused drafts_of refusal_of answer_of
    carried_out_answer request_answer appended level_delay
base_after_removal = refl

pub left_after_removal : map (λ r. r.offset) at_removed.now.log.records ≡ 4096 ∷ []
unfolding read_props pieces pair_in until decimal_value digits after changed request_changed is_refused drafts_of refusal_of answer_of
    carried_out_answer request_answer appended level_delay
left_after_removal = refl

pub left_after_crash : map (λ r. r.offset) at_restart.now.log.records ≡ 4096 ∷ []
unfolding read_props pieces pair_in until decimal_value digits after changed request_changed is_refused drafts_of refusal_of answer_of
    carried_out_answer request_answer appended level_delay
left_after_crash = refl

-- ---- the base may come next

-- what is at an index of a list is at it of the list's images
pub map_at : {B : Type 0} (f : Entry → B) (xs : List Entry) (k : ℕ) (r : Entry) → slice_get xs k ≡ Some r → slice_get (map f xs) k ≡ Some (f r)
map_at f [] k r got = absurd (cc)
map_at {B = B} f (x ∷ xs) zero r got = ap (λ (y : Entry). Some (f y)) (same_Some x r got)
map_at f (x ∷ xs) (suc k) r got = map_at f xs k r got

-- and what is at an index of the images comes from the list
pub at_map : (f : Entry → Bool) (xs : List Entry) (k : ℕ) (b : Bool) → slice_get (map f xs) k ≡ Some b → (r : Entry) × (slice_get xs k ≡ Some r) × (f r ≡ b)
at_map f [] k b got = absurd (cc)
at_map f (x ∷ xs) zero b got = (x, refl, same_Some (f x) b got)
at_map f (x ∷ xs) (suc k) b got = at_map f xs k b got

-- the queues of some records are named
named_first : (place n : ℕ) (log : Log) (topic : List ℕ) (queue : ℕ) → is_named (base_of_first n log place) topic queue ≡ has_queue (take n log.records) topic queue
named_first place n log topic queue = all (take n log.records)
  where
    all : (records : List Entry) → list_any (λ (named : List ℕ × ℕ). bytes_eq named.0 topic && (named.1 == queue)) (map (λ (r : Entry). (r.topic, r.queue)) records) ≡ has_queue records topic queue
    all [] = refl
    all (r ∷ records) = ap (λ (b : Bool). (bytes_eq r.topic topic && (r.queue == queue)) || b) (all records)

seven_long : 7 ≤ length at_full.now.log.records
seven_long = omega (arith, eight_records)

counts : IsBaseAfter at_full.now.log.base (take 7 at_full.now.log.records) next_base
counts = record {
  records = omega (arith, length_take 7 at_full.now.log.records seven_long, ap (λ (b : Base). b.records) base_stays);
  queues = λ topic queue. omega (arith, ap (λ (b : Base). b.queues topic queue) base_stays);
  levels = λ level low high. omega (arith, ap (λ (b : Base). b.levels level) base_stays);
}

-- the only record behind it stands at its place, and is no half message
place_behind_it : (r : Entry) → slice_get at_full.now.log.records 7 ≡ Some r → 4096 ≡ r.offset
place_behind_it r at =
    let got = map_at (λ r. r.offset) (drop 7 at_full.now.log.records) 0 r (get_drop 7 7 at_full.now.log.records r (omega arith) at) in
    same_Some 4096 r.offset (sym (ap (λ (l : List ℕ). slice_get l 0) next_place) ∙ got)

half_behind_it : (k : ℕ) (r : Entry) → 7 ≤ k → slice_get at_full.now.log.records k ≡ Some r → is_half r ≡ false
half_behind_it k r high at =
    let got = map_at is_half (drop 7 at_full.now.log.records) (k - 7) r (get_drop 7 k at_full.now.log.records r high at) in
    only (k - 7) (sym (ap (λ (l : List Bool). slice_get l (k - 7)) no_half_behind) ∙ got)
  where
    only : (j : ℕ) → slice_get (false ∷ []) j ≡ Some (is_half r) → is_half r ≡ false
    only zero got = sym (same_Some false (is_half r) got)
    only (suc j) got = absurd (cc)

whole_families : AreWholeFamilies at_full.now.log.records 7
whole_families i k origin r low at is high got renewal =
    let half = (and_parts (is_half r) (is_text _ (origin_text r)) renewal).0 in
    let e : true ≡ false = sym half ∙ half_behind_it k r high got in cc

cut : IsCutAt at_full.now.setup.segment at_full.now.log 7 next_base
cut = record {
  long = seven_long;
  counts = counts;
  named = λ topic queue. named_first 4096 7 at_full.now.log topic queue
      ∙ sym (ap (λ (b : Base). is_named b topic queue || has_queue (take 7 at_full.now.log.records) topic queue) base_stays);
  begins = subst (λ (x : Setup). 4096 ≡ 4096 / x.segment * x.segment) (sym setup_stays) refl;
  behind = omega (arith, ap (λ (b : Base). end_from b.place (take 7 at_full.now.log.records)) base_stays, front_ends);
  before = λ r at. omega (arith, place_behind_it r at);
  within = omega (arith, log_ends);
}

is_removable : IsRemovable at_full.now next_base
is_removable = record {
  count = 7;
  cut = cut;
  dispatched = omega (arith, all_dispatched);
  done = omega (arith, all_done);
  stands = omega (arith, all_flushed);
  families = whole_families;
}

-- ---- the run

pub is_opening : IsOpening at_empty
is_opening = record {
  lawful = record {
    segment = record { low = omega arith; high = omega arith; begins = refl; within = omega arith; some = omega arith; counted = λ topic queue. omega arith };
    each = λ k r at. absurd (cc);
  };
  base = refl;
  state = refl;
  before = refl;
}

saves_it : Goes at_full (SavesBase next_base) at_saved
saves_it = (at_full.now, inl refl, is_removable, omega (arith, ap (λ (b : Base). b.records) saved_base_stays), refl)

pub run_to_saved : Run at_empty until_saved at_saved
run_to_saved = one_more at_empty at_full at_saved (moves_of at_empty events) (SavesBase next_base) (runs at_empty events are_possible) saves_it

pub removes_it : Goes at_saved (answered at_saved (Events.Trim next_base)) at_removed
removes_it = goes at_saved (Events.Trim next_base) (refl, omega (arith, ap (λ (b : Base). b.records) base_stays))

pub crashes : Goes at_saved (Crashes 8 small) at_restart
crashes = (
  record {
    no_less = omega (arith, all_flushed);
    no_more = omega (arith, eight_records, ap (λ (b : Base). b.records) base_stays);
    segment = ap (λ (x : Setup). x.segment) (sym setup_stays);
  },
  refl,
)

-- ---- what the saved base counts

stands_in : (k : ℕ) (r : Entry) → slice_get at_full.now.log.records k ≡ Some r → StandsAt at_saved.now k r
stands_in k r at = record { index = k; number = omega (arith, ap (λ (b : Base). b.records) base_stays); stands = at }

pub half_is_counted : (origin : Entry) × StandsAt at_saved.now 0 origin × (is_origin 0 origin ≡ true) × (0 < at_saved.now.saved.base.records)
half_is_counted =
    let there = at_map (is_origin 0) at_full.now.log.records 0 true (ap (λ (l : List Bool). slice_get l 0) origins_are) in
    (there.0, stands_in 0 there.0 there.1, there.2, omega arith)

pub renewal_is_counted : (renewal : Entry) × StandsAt at_saved.now 1 renewal × (is_renewal 0 renewal ≡ true)
renewal_is_counted =
    let there = at_map (is_renewal 0) at_full.now.log.records 1 true (ap (λ (l : List Bool). slice_get l 1) renewals_are) in
    (there.0, stands_in 1 there.0 there.1, there.2)

pub delayed_is_counted : (item : Entry) × StandsAt at_saved.now 4 item × (is_delayed item ≡ true) × (4 < at_saved.now.saved.base.records)
delayed_is_counted =
    let there = at_map is_delayed at_full.now.log.records 4 true (ap (λ (l : List Bool). slice_get l 4) delayed_are) in
    (there.0, stands_in 4 there.0 there.1, there.2, omega arith)
