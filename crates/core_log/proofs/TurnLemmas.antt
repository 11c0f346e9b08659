-- The parts and the state when a flush turn begins or fails, when somebody looks, and when a link ends.
use Rattle.std.proofs.Common.{◌≡◌, ⊎_elim, ◌↔◌, refl, ap, sym, ◌∙◌, subst, arith, ℕ, zero, suc, ◌+◌, ◌-◌, ◌<◌, ◌≤◌, nat_lt, true, false, List, [], ◌∷◌, ◌++◌, length, take, filter, slice_get, Option, Some, None, IfSome, IsSome, IsNone, if◌then◌else◌, Result, Ok, Err, IfOk, OnErr, is_some}
use Rattle.std.proofs.lemmas.List.{length-drop}
use Rattle.mq_outside.specs.Covers.{HasRange, HoldsRange}
use Rattle.mq_outside.specs.declared.frozen.Frozen.{Frozen}
use Rattle.mq_outside.specs.declared.frozen_ranges.FrozenRanges.{FrozenRanges}
use Rattle.record_codec.specs.Entry.{Entry}
use Rattle.record_codec.specs.Layout.{size, layout}
use Rattle.log_model.specs.declared.batch.Batch.{Batch}
use Rattle.log_model.specs.Batches.{blank_between}
use Rattle.log_model.specs.Numbered.{Log, IsLawful, count_of, place_end, below}
use Rattle.log_model.specs.Segments.{layouts}
use Rattle.pending_log.specs.Parts.{PendingPart, turned}
use Rattle.pending_log.specs.Pending.{IsPendingOf, IsNextBatch, HasTaken, IsIdle, after_failed, with_failed}
use Rattle.pending_log.specs.Rows.{AreRowsOf}
use Rattle.pending_log.specs.Extents as extents
use Rattle.pending_log.specs.Looks.{KeepsLast, AreInOrder, kept_look}
use Rattle.pending_log.specs.Looks as looks
use Rattle.pending_log.specs.declared.turn.Out.{Out}
use Rattle.pending_log.specs.declared.turn.Look.{Look}
use Rattle.pending_log.specs.declared.turn.Look.TheVariants as look
use Rattle.pending_log.proofs.ExtentLemmas.{batch_front}
use Rattle.pending_log.proofs.Lists.{get_drop}
use Rattle.pending_log.proofs.LookLemmas.{kept_answers, kept_last}
use Rattle.broker_model.specs.State as model
use Rattle.broker_model.specs.State.{State, pending, same_segment, next_batch}
use Rattle.broker_model.specs.Events as events
use Rattle.broker_model.specs.Clients.{after_leave}
use Rattle.broker_model.specs.Lawful.{IsState}
use Rattle.broker_model.specs.Appended.{is_refused, drafts_of}
use Rattle.broker_model.specs.Answers.{answer_of, carried_out_answer, taken, taken_of, looked, last_count, holds_up}
use Rattle.broker_model.specs.Step.{after, changed, out_of, failed_turns, next_turn}
use Rattle.broker_events.specs.Steps.{IsBatchFor, IsTakenAs}
use Rattle.core_log.specs.declared.parts.Parts.{Parts}
use Rattle.core_log.specs.Represents.{Represents, AreOut, AreCovered, HasRoom, turn_of}
use Rattle.core_log.specs.Carries.{Carries, Stays}
use Rattle.core_log.proofs.StateLemmasTurns.{taken_state, failed_state}

-- ---- what the model says

same_time : (s : State) (t : Option events.Taken) → record (out_of s t) { now = s.now } ≡ out_of s t
same_time s None = refl
same_time s (Some t) = refl

pub after_take : (s : State) → after s events.Take ≡ out_of s (taken s)
unfolding after is_refused drafts_of changed
after_take s = same_time s (taken s)

pub answer_take : (s : State) → answer_of s events.Take ≡ events.Batch (taken s)
unfolding answer_of is_refused drafts_of carried_out_answer
answer_take s = refl

pub after_failure : (s : State) (count : ℕ) → after s (events.FlushFailed count) ≡ record s { failed = failed_turns s count s.out; out = None }
unfolding after is_refused drafts_of changed
after_failure s count = refl

pub answer_failure : (s : State) (count : ℕ) → answer_of s (events.FlushFailed count) ≡ events.Done
unfolding answer_of is_refused drafts_of carried_out_answer
answer_failure s count = refl

pub after_look : (s : State) (number turn : ℕ) → after s (events.Look number turn) ≡ s
unfolding after is_refused drafts_of changed
after_look s number turn = refl

pub answer_look : (s : State) (number turn : ℕ) → answer_of s (events.Look number turn) ≡ events.Looked (looked s number turn)
unfolding answer_of is_refused drafts_of carried_out_answer
answer_look s number turn = refl

pub after_leaving : (s : State) (link : ℕ) → after s (events.Leave link) ≡ record s { clients = after_leave link s.clients }
unfolding after is_refused drafts_of changed
after_leaving s link = refl

pub answer_leaving : (s : State) (link : ℕ) → answer_of s (events.Leave link) ≡ events.Done
unfolding answer_of is_refused drafts_of carried_out_answer
answer_leaving s link = refl

-- ---- a turn begins

-- nothing is something
no_some : IsSome (let none : Option Out = None in none) → ⊥
no_some e = cc e

-- no turn is out
out_none : (p : Option Out) (o : Option model.Out) → p ≡ None → AreOut p o → o ≡ None
out_none None None e are = refl
out_none None (Some out) e are = absurd are
out_none (Some turn) o e are = cc e

-- the pieces are the same
pub covered_still : (old new : FrozenRanges) (log : Log) (flushed : ℕ) → new.pieces.items ≡ old.pieces.items → new.end ≡ old.end → AreCovered old log flushed → AreCovered new log flushed
covered_still old new log flushed items end are = record {
  each = λ k r low at. let is = are.each k r low at in record {
    range = subst (λ (ps : List Frozen). HasRange ps r.offset (size r)) (sym items) is.range;
    held = subst (λ (ps : List Frozen). HoldsRange ps r.offset (layout r)) (sym items) is.held;
  };
  end = subst (λ n. n ≤ place_end (below log flushed)) (sym end) are.end;
}

-- room was made, and no turn is out
pub represents_room : (old : Parts) (s : State) (stored : FrozenRanges) → old.pending.out ≡ None → stored.pieces.items ≡ old.stored.pieces.items → stored.end ≡ old.stored.end
    → Represents old s → Represents (record old { stored = stored }) s
represents_room old s stored none items end are = record {
  state = are.state;
  numbers = record { setup = are.numbers.setup; segment = are.numbers.segment; flushed = are.numbers.flushed; dispatched = are.numbers.dispatched; turns = are.numbers.turns; bounded = are.numbers.bounded; now = are.numbers.now; few = are.numbers.few; low = are.numbers.low };
  pending = are.pending;
  out = are.out;
  failed = are.failed;
  rows = are.rows;
  tabled = are.tabled;
  queues = are.queues;
  stored = covered_still old.stored stored s.log s.flushed items end are.stored;
  room = subst (λ (o : Option Out). IfSome o (λ out. HasRoom stored)) (sym none) tt;
  topics = are.topics;
  clients = are.clients;
  offsets = are.offsets;
  locks = are.locks;
  names = are.names;
  kept = are.kept;
  halves = are.halves;
  levels = are.levels;
  keys = are.keys;
}

empty_list : {A : Type 0} (xs : List A) → length xs ≡ 0 → xs ≡ []
empty_list [] e = refl
empty_list (x ∷ xs) e = absurd (let none : ⊥ = omega (arith, e) in none)

-- nothing is taken where nothing is pending
taken_none : (s : State) → s.out ≡ None → count_of s.log ≡ s.flushed → s.log.base.records ≤ s.flushed → taken s ≡ None
taken_none s none all low =
    let records = pending s in
    let long : length records ≡ length s.log.records - (s.flushed - s.log.base.records) = length-drop (s.flushed - s.log.base.records) s.log.records in
    let empty : records ≡ [] = empty_list records (omega (arith, long, all, low)) in
    ap (λ (o : Option model.Out). taken_of s o (next_batch s)) none ∙ ap (λ (rs : List Entry). taken_of s None (same_segment s.setup.segment rs)) empty

same_front : (S : ℕ) (records : List Entry) → extents.same_segment S records ≡ same_segment S records
same_front S [] = refl
same_front S (r ∷ records) = refl

-- what is taken, where the batch is of these records
batch_for : (s : State) (b : Batch) (xs : List Entry) → 0 < length xs → b.from ≡ s.flushed → b.count ≡ length xs → ((r : Entry) (more : List Entry) → xs ≡ r ∷ more → b.place ≡ r.offset)
    → b.blank ≡ blank_between (place_end (below s.log s.flushed)) b.place → b.bytes ≡ layouts xs
    → (t : events.Taken) × (taken_of s None xs ≡ Some t) × IsBatchFor b t × (length t.records ≡ length xs)
batch_for s b [] some from count place blank bytes = absurd (let none : ⊥ = omega (arith, some) in none)
batch_for s b (r ∷ xs) some from count place blank bytes =
    let here = place r xs refl in (
      record { from = s.flushed; records = r ∷ xs; blank = blank_between (place_end (below s.log s.flushed)) r.offset },
      refl,
      record { from = from; count = count; place = here; blank = blank ∙ ap (λ n. blank_between (place_end (below s.log s.flushed)) n) here; bytes = bytes },
      refl,
    )

front_first : {A : Type 0} (xs more : List A) (n : ℕ) (x : A) → take n xs ≡ x ∷ more → slice_get xs 0 ≡ Some x
front_first xs more zero x e = cc e
front_first [] more (suc n) x e = cc e
front_first (y ∷ xs) more (suc n) x e = cc e

-- the turn of the model is that of the batch
next_taken : (s : State) (b : Batch) → s.out ≡ None → s.log.base.records ≤ s.flushed → IsNextBatch s.setup.segment s.log s.flushed b
    → (t : events.Taken) × (taken s ≡ Some t) × IsBatchFor b t
next_taken s b none low next =
    let S = s.setup.segment in
    let f = s.flushed - s.log.base.records in
    let xs = next_batch s in
    let is = next.is in
    let count : b.count ≡ length xs = next.longest ∙ ap (λ (rs : List Entry). length rs) (same_front S (pending s)) in
    let front : xs ≡ take b.count (pending s) =
    sym (same_front S (pending s)) ∙ (batch_front S (pending s) ∙ ap (λ n. take n (pending s)) (ap (λ (rs : List Entry). length rs) (same_front S (pending s)) ∙ sym count)) in
    let some = is.some in
    let from = is.from in
    let found = batch_for s b xs (omega (arith, some, count)) (omega (arith, from, low)) count
    (λ r more e. is.place r (subst (λ k. slice_get s.log.records k ≡ Some r) (let z : f + 0 ≡ f = omega arith in z) (get_drop s.log.records f 0 r (front_first (pending s) more b.count r (sym front ∙ e)))))
    is.blank (is.bytes ∙ ap layouts (sym front)) in
    (found.0, ap (λ (o : Option model.Out). taken_of s o xs) none ∙ found.1, found.2)

-- the parts of the turn
represents_turn : (old : Parts) (s : State) (stored : FrozenRanges) (b : Batch) (count end : ℕ) → Represents old s → old.pending.out ≡ None → stored.pieces.items ≡ old.stored.pieces.items → stored.end ≡ old.stored.end → HasRoom stored
    → IsPendingOf s.log (turned old.pending (record { batch = b; held = old.pending.count; end = end })) → b.count ≡ count → 0 < b.count → s.flushed + b.count ≤ count_of s.log
    → Represents (record old { stored = stored; pending = turned old.pending (record { batch = b; held = old.pending.count; end = end }) })
    (record s { out = Some (record { count = count; held = count_of s.log }); turns = next_turn s.turns })
represents_turn old s stored b count end are none items ends room pending same some within = record {
  state = taken_state s count are.state are.numbers.bounded (omega (arith, some, same)) (omega (arith, within, same));
  numbers = record {
    setup = are.numbers.setup;
    segment = are.numbers.segment;
    flushed = are.numbers.flushed;
    dispatched = are.numbers.dispatched;
    turns = ap (λ n. next_turn n) are.numbers.turns;
    bounded = omega arith;
    now = are.numbers.now;
    few = are.numbers.few;
    low = are.numbers.low;
  };
  pending = pending;
  out = (same, are.pending.count);
  failed = are.failed;
  rows = are.rows;
  tabled = are.tabled;
  queues = are.queues;
  stored = covered_still old.stored stored s.log s.flushed items ends are.stored;
  room = room;
  topics = are.topics;
  clients = are.clients;
  offsets = are.offsets;
  locks = are.locks;
  names = are.names;
  kept = are.kept;
  halves = are.halves;
  levels = are.levels;
  keys = are.keys;
}

-- what a call that may begin a turn says, by its batch
takes_one : (old : Parts) (s : State) (stored : FrozenRanges) (pending : PendingPart) (batch : Option Batch) → Represents old s → old.pending.out ≡ None
    → stored.pieces.items ≡ old.stored.pieces.items → stored.end ≡ old.stored.end → HasRoom stored
    → (IsNone batch ↔ IsIdle old.pending) → (IsNone batch → pending ≡ old.pending)
    → IfSome batch (λ b. (log : Log) → IsLawful old.pending.segment log → IsPendingOf log old.pending → AreRowsOf log old.rows → IsNextBatch old.pending.segment log old.pending.flushed b)
    → IfSome batch (λ b. HasTaken old.pending b pending) → IsPendingOf s.log pending
    → IsTakenAs batch (answer_of s events.Take) × Represents (record old { stored = stored; pending = pending }) (after s events.Take)
takes_one old s stored pending None are none items end room idle same next turn is =
    let free = out_none old.pending.out s.out none are.out in
    let all : old.pending.count ≡ old.pending.flushed =
    ⊎_elim (λ (empty : old.pending.count ≡ old.pending.flushed). empty) (λ (out : IsSome old.pending.out). absurd (no_some (subst (λ (o : Option Out). IsSome o) none out))) (idle.0 refl) in
    let nothing = taken_none s free (sym are.pending.count ∙ (all ∙ are.numbers.flushed)) (let low = are.state.base in let high = are.state.dispatched in omega (arith, low, high)) in
    let stays : after s events.Take ≡ s = after_take s ∙ ap (λ (t : Option events.Taken). out_of s t) nothing in (
      (None, (answer_take s ∙ ap (λ (t : Option events.Taken). events.Batch t) nothing), tt),
      subst (λ (t : State). Represents (record old { stored = stored; pending = pending }) t) (sym stays)
          (subst (λ (p : PendingPart). Represents (record old { stored = stored; pending = p }) s) (sym (same refl)) (represents_room old s stored none items end are)),
    )
takes_one old s stored pending (Some b) are none items end room idle same next turn is =
    let free = out_none old.pending.out s.out none are.out in
    let low : s.log.base.records ≤ s.flushed = (let base = are.state.base in let high = are.state.dispatched in omega (arith, base, high)) in
    let lawful : IsLawful old.pending.segment s.log = subst (λ n. IsLawful n s.log) (sym are.numbers.segment) are.state.log in
    let of : IsNextBatch s.setup.segment s.log s.flushed b =
    subst (λ n. IsNextBatch n s.log s.flushed b) are.numbers.segment
    (subst (λ n. IsNextBatch old.pending.segment s.log n b) are.numbers.flushed (next s.log lawful are.pending are.rows)) in
    let found = next_taken s b free low of in
    let within = of.is.within in
    let goes : after s events.Take ≡ out_of s (Some found.0) = after_take s ∙ ap (λ (t : Option events.Taken). out_of s t) found.1 in
    let new = turned old.pending (record { batch = b; held = old.pending.count; end = turn.end }) in (
      (Some found.0, (answer_take s ∙ ap (λ (t : Option events.Taken). events.Batch t) found.1), found.2),
      subst (λ (t : State). Represents (record old { stored = stored; pending = pending }) t) (sym goes)
          (subst (λ (p : PendingPart). Represents (record old { stored = stored; pending = p }) (out_of s (Some found.0))) (sym turn.is)
          (represents_turn old s stored b (length found.0.records) turn.end are none items end room (subst (λ (p : PendingPart). IsPendingOf s.log p) turn.is is) found.2.count of.is.some (omega (arith, within, low)))),
    )

-- what a call that may begin a turn says, by its result
pub takes : {E : Type 0} (old : Parts) (stored : FrozenRanges) (pending : PendingPart) (result : Result (Option Batch) E) → old.pending.out ≡ None
    → stored.pieces.items ≡ old.stored.pieces.items → stored.end ≡ old.stored.end → HasRoom stored
    → IfOk result (λ taken. IsNone taken ↔ IsIdle old.pending) → IfOk result (λ taken. IsNone taken → pending ≡ old.pending)
    → IfOk result (λ taken. IfSome taken (λ b. (log : Log) → IsLawful old.pending.segment log → IsPendingOf log old.pending → AreRowsOf log old.rows → IsNextBatch old.pending.segment log old.pending.flushed b))
    → IfOk result (λ taken. IfSome taken (λ b. HasTaken old.pending b pending))
    → ((log : Log) → IsLawful old.pending.segment log → IsPendingOf log old.pending → AreRowsOf log old.rows → IsPendingOf log pending)
    → IfOk result (λ batch. Carries old events.Take (IsTakenAs batch) (record old { stored = stored; pending = pending }))
takes old stored pending (Ok batch) none items end room idle same next turn keeps = λ s are.
    takes_one old s stored pending batch are none items end room idle same next turn
    (keeps s.log (subst (λ n. IsLawful n s.log) (sym are.numbers.segment) are.state.log) are.pending are.rows)
takes old stored pending (Err fault) none items end room idle same next turn keeps = tt

-- where memory ran out nothing changed but for the room
pub stays_taken : {E : Type 0} (old : Parts) (stored : FrozenRanges) (pending : PendingPart) (result : Result (Option Batch) E) → old.pending.out ≡ None
    → stored.pieces.items ≡ old.stored.pieces.items → stored.end ≡ old.stored.end → OnErr result (pending ≡ old.pending)
    → OnErr result (Stays old (record old { stored = stored; pending = pending }))
stays_taken old stored pending (Ok batch) none items end same = tt
stays_taken old stored pending (Err fault) none items end same = λ s are.
    subst (λ (p : PendingPart). Represents (record old { stored = stored; pending = p }) s) (sym same) (represents_room old s stored none items end are)

-- what the test tells
pub is_out-some : (o : Option Out) → is_some o ≡ true → IsSome o
is_out-some o e = e

pub is_out-none : (o : Option Out) → is_some o ≡ false → o ≡ None
is_out-none None e = refl
is_out-none (Some out) e = cc e

-- where a turn is out nothing is taken
out_some : (p : Option Out) (o : Option model.Out) → IsSome p → AreOut p o → (out : model.Out) × (o ≡ Some out)
out_some None o some are = absurd (no_some some)
out_some (Some turn) None some are = absurd are
out_some (Some turn) (Some out) some are = (out, refl)

pub takes_none : (old : Parts) (s : State) → Represents old s → IsSome old.pending.out → IsTakenAs None (answer_of s events.Take) × Represents old (after s events.Take)
takes_none old s are some =
    let out = out_some old.pending.out s.out some are.out in
    let nothing : taken s ≡ None = ap (λ (o : Option model.Out). taken_of s o (next_batch s)) out.1 in
    let stays : after s events.Take ≡ s = after_take s ∙ ap (λ (t : Option events.Taken). out_of s t) nothing in
    ((None, (answer_take s ∙ ap (λ (t : Option events.Taken). events.Batch t) nothing), tt), subst (λ (t : State). Represents old t) (sym stays) are)

-- ---- a turn fails

represents_failed : (old : Parts) (s : State) (count : ℕ) (turn : Out) (out : model.Out) → Represents old s → old.pending.out ≡ Some turn → s.out ≡ Some out → turn.held ≡ out.held
    → IsPendingOf s.log (with_failed old.pending count (Some turn))
    → Represents (record old { pending = with_failed old.pending count (Some turn) }) (record s { failed = failed_turns s count (Some out); out = None })
represents_failed old s count turn out are there is held pending = record {
  state = failed_state s out count are.state is;
  numbers = record { setup = are.numbers.setup; segment = are.numbers.segment; flushed = are.numbers.flushed; dispatched = are.numbers.dispatched; turns = are.numbers.turns; bounded = are.numbers.bounded; now = are.numbers.now; few = are.numbers.few; low = are.numbers.low };
  pending = pending;
  out = tt;
  failed =
      let last : model.FailedTurn = record { turn = s.turns; from = s.flushed; held = out.held; count = count } in
      subst (λ n. KeepsLast turn_of (s.failed ++ last ∷ []) (Some (record { turn = n; held = turn.held; count = count }))) (sym are.numbers.turns)
      (subst (λ n. KeepsLast turn_of (s.failed ++ last ∷ []) (Some (record { turn = s.turns; held = n; count = count }))) (sym held) (kept_last turn_of s.failed last));
  rows = are.rows;
  tabled = are.tabled;
  queues = are.queues;
  stored = are.stored;
  room = tt;
  topics = are.topics;
  clients = are.clients;
  offsets = are.offsets;
  locks = are.locks;
  names = are.names;
  kept = are.kept;
  halves = are.halves;
  levels = are.levels;
  keys = are.keys;
}

fails_one : (old : Parts) (s : State) (count : ℕ) (p : Option Out) (o : Option model.Out) → Represents old s → old.pending.out ≡ p → s.out ≡ o → IsSome p → AreOut p o → IsPendingOf s.log (with_failed old.pending count p)
    → Represents (record old { pending = with_failed old.pending count p }) (record s { failed = failed_turns s count o; out = None })
fails_one old s count None o are there is some outs pending = absurd (no_some some)
fails_one old s count (Some turn) None are there is some outs pending = absurd outs
fails_one old s count (Some turn) (Some out) are there is some outs pending = represents_failed old s count turn out are there is outs.1 pending

-- the turn that is out failed
pub fails : (old : Parts) (s : State) (count : ℕ) (pending : PendingPart) → Represents old s → IsSome old.pending.out → pending ≡ after_failed old.pending count → IsPendingOf s.log pending
    → (answer_of s (events.FlushFailed count) ≡ events.Done) × Represents (record old { pending = pending }) (after s (events.FlushFailed count))
fails old s count pending are some is of = (
  answer_failure s count,
  subst (λ (t : State). Represents (record old { pending = pending }) t) (sym (after_failure s count))
      (subst (λ (p : PendingPart). Represents (record old { pending = p }) (record s { failed = failed_turns s count s.out; out = None })) (sym is)
      (fails_one old s count old.pending.out s.out are refl refl some are.out (subst (λ (p : PendingPart). IsPendingOf s.log p) is of))),
)

-- ---- looks

-- what a look tells, as the model has it
abbrev pub told : Look → events.Awaited
told look.Flushed = events.IsFlushed
told (look.Failed count) = events.HasFailed count
told look.NotYet = events.NotYet

told_last : (turns : List model.FailedTurn) → told (looks.last_count turn_of turns) ≡ last_count turns
told_last [] = refl
told_last (f ∷ []) = refl
told_last (f ∷ g ∷ turns) = told_last (g ∷ turns)

told_looked : (s : State) (number turn : ℕ) → told (looks.looked turn_of s.flushed s.failed number turn) ≡ looked s number turn
told_looked s number turn =
    elim (nat_lt number s.flushed) as (λ b. told (if b then look.Flushed else looks.last_count turn_of (filter (λ t. looks.holds_up number turn (turn_of t)) s.failed)) ≡ (if b then events.IsFlushed else last_count (filter (holds_up number turn) s.failed))) [
      | true ↦ refl
      | false ↦ told_last (filter (holds_up number turn) s.failed)
    ]

in_order : (s : State) → IsState s → AreInOrder turn_of s.flushed s.failed
in_order s is = record { from = λ k d h. (is.failed k d h).from; later = is.order }

-- what the parts tell is what the model does
pub looks_up : (old : Parts) (s : State) (number turn : ℕ) (what : Look) → Represents old s → what ≡ (if nat_lt number old.pending.flushed then look.Flushed else kept_look old.pending.failed number turn)
    → (answer_of s (events.Look number turn) ≡ events.Looked (told what)) × Represents old (after s (events.Look number turn))
looks_up old s number turn what are is =
    let here : what ≡ looks.looked turn_of s.flushed s.failed number turn =
    is ∙ (ap (λ n. if nat_lt number n then look.Flushed else kept_look old.pending.failed number turn) are.numbers.flushed
    ∙ kept_answers turn_of s.flushed number turn s.failed old.pending.failed (in_order s are.state) are.failed) in (
      answer_look s number turn ∙ ap (λ (a : events.Awaited). events.Looked a) (sym (ap told here ∙ told_looked s number turn)),
      subst (λ (t : State). Represents old t) (sym (after_look s number turn)) are,
    )
