-- The parts and the state when a batch is on the disk: each of its records lies in the piece, since records of one segment stand
-- one behind another.
use Rattle.std.proofs.Common.{◌≡◌, ◌⊎◌, ⊎_elim, inl, inr, refl, ap, sym, ◌∙◌, subst, arith, ℕ, zero, suc, ◌+◌, ◌-◌, ◌*◌, ◌/◌, ◌%◌, ◌^◌, ◌<◌, ◌≤◌, true, false, List, [], ◌∷◌, ◌++◌, length, take, drop, slice_get, Option, Some, None, IfSome}
use Rattle.std.proofs.lemmas.Bool.{cases_Bool, cond-true, cond-false}
use Rattle.std.proofs.lemmas.Grind.{flat_map-append}
use Rattle.std.proofs.lemmas.List.{length-append, length-drop, length-take, take-append-drop}
use Rattle.std.proofs.lemmas.Nat.{le-div}
use Rattle.std.proofs.Math.Nat.{div-mul-le_self, mul-div_left}
use Rattle.std.proofs.Math.Seq.{drop-append_seam, take-append_seam, take-length}
use Rattle.mq_outside.specs.Covers.{piece_start, piece_end, Covers, HasRange, HoldsRange, PieceHolds}
use Rattle.mq_outside.specs.Readings.{HasAt}
use Rattle.mq_outside.specs.declared.frozen.Frozen.{Frozen}
use Rattle.mq_outside.specs.declared.frozen_ranges.FrozenRanges.{FrozenRanges}
use Rattle.record_codec.specs.Entry.{Entry}
use Rattle.record_codec.specs.Layout.{size, layout}
use Rattle.record_codec.proofs.LayoutLengths.{length-layout}
use Rattle.log_model.specs.Bases.{Geometry, geometry}
use Rattle.log_model.specs.Batches.{IsBatchOf, IsReceiptFor}
use Rattle.log_model.specs.declared.batch.Batch.{Batch}
use Rattle.log_model.specs.declared.batch.Receipt.{Receipt}
use Rattle.log_model.specs.Log.{end_of, fits, place_after, IsWellFormed}
use Rattle.log_model.specs.Numbered.{Log, IsLawful, count_of, place_end, below}
use Rattle.log_model.specs.Segments.{layouts}
use Rattle.pending_log.specs.declared.turn.Out.{Out}
use Rattle.pending_log.specs.Parts.{PendingPart}
use Rattle.pending_log.specs.Pending.{IsPendingOf, IsOutOf, IsReceiptOf, with_flushed, after_flushed}
use Rattle.pending_log.proofs.Lists.{get_there, get_within, drop_get, take_next}
use Rattle.pending_log.proofs.LogLemmas.{place_past, ends_with, places_rise}
use Rattle.queue_view.proofs.Lists.{take_get, drop_next}
use Rattle.broker_model.specs.State.{State}
use Rattle.broker_model.specs.Events as events
use Rattle.broker_model.specs.Appended.{is_refused, drafts_of}
use Rattle.broker_model.specs.Answers.{answer_of, carried_out_answer}
use Rattle.broker_model.specs.Step.{after, changed}
use Rattle.core_log.specs.declared.parts.Parts.{Parts}
use Rattle.core_log.specs.Represents.{Represents, IsCovered, HasRoom}
use Rattle.broker_events.specs.Shown.{Shown, after_batch}
use Rattle.core_log.specs.Shows.{batch_of, shown_in}
use Rattle.core_log.proofs.StateLemmasTurns.{flushed_state}

-- ---- what the model says

pub after_flush : (s : State) (count : ℕ) → after s (events.Flushed count) ≡ record s { flushed = s.flushed + count; out = None }
unfolding after is_refused drafts_of changed
after_flush s count = refl

pub answer_flush : (s : State) (count : ℕ) → answer_of s (events.Flushed count) ≡ events.Done
unfolding answer_of is_refused drafts_of carried_out_answer
answer_flush s count = refl

-- ---- records of one segment stand one behind another

-- a record behind an end in its own segment begins at that end
next_here : (S end n place low : ℕ) → 0 < S → place ≡ place_after S end n → low ≤ end → place / S ≡ low / S → place ≡ end
next_here S end n place low some is up same =
    ⊎_elim (λ (here : fits S (end % S) n ≡ true). is ∙ cond-true _ end ((end / S + 1) * S) here)
    (λ (next : fits S (end % S) n ≡ false).
    let at : place ≡ (end / S + 1) * S = is ∙ cond-false _ end ((end / S + 1) * S) next in
    let number : place / S ≡ end / S + 1 = ap (λ m. m / S) at ∙ mul-div_left (end / S + 1) some in
    let floor : low / S * S ≤ low = div-mul-le_self low S in
    let high : low / S ≤ end / S = le-div (low / S) end S some (omega (arith, floor, up)) in
    absurd (let none : ⊥ = omega (arith, number, same, high) in none))
    (cases_Bool (fits S (end % S) n))

-- the records of a batch
abbrev pub batch_records : List Entry → ℕ → ℕ → List Entry
batch_records records f n = take n (drop f records)

batch_get : (records : List Entry) (f n i : ℕ) (r : Entry) → i < n → slice_get records (f + i) ≡ Some r → slice_get (batch_records records f n) i ≡ Some r
batch_get records f n i r low at = take_get (drop f records) n i r low (drop_get records f i r at)

-- the bytes up to the next record
next_bytes : (xs : List Entry) (i : ℕ) (r : Entry) → slice_get xs i ≡ Some r → length (layouts (take (suc i) xs)) ≡ length (layouts (take i xs)) + size r
next_bytes xs i r at =
    let parts : layouts (take (suc i) xs) ≡ layouts (take i xs) ++ layouts (r ∷ []) = ap layouts (take_next xs i r at) ∙ flat_map-append layout (take i xs) (r ∷ []) in
    let long = ap (λ (bs : List ℕ). length bs) parts ∙ length-append (layouts (take i xs)) (layouts (r ∷ [])) in
    let one : length (layouts (r ∷ [])) ≡ length (layout r) + 0 = length-append (layout r) [] in
    let same = length-layout r in
    omega (arith, long, one, same)

-- each record of a batch begins behind the bytes of those before it
placed_in : (S : Geometry) (records : List Entry) (f : ℕ) (b : Batch) → IsWellFormed S records → IsBatchOf S records f b
    → (i : ℕ) (r : Entry) → i < b.count → slice_get records (f + i) ≡ Some r → r.offset ≡ b.place + length (layouts (take i (batch_records records f b.count)))
placed_in S records f b well is zero r low at =
    let here = is.place r (subst (λ k. slice_get records k ≡ Some r) (let z : f + 0 ≡ f = omega arith in z) at) in
    omega (arith, here)
placed_in S records f b well is (suc i) r low at =
    let xs = batch_records records f b.count in
    let inside = get_within records (f + suc i) r at in
    let before = get_there records (f + i) (omega (arith, inside)) in
    let q = before.0 in
    let placed = placed_in S records f b well is i q (omega (arith, low)) before.1 in
    let follows = well.each (f + suc i) r at in
    let number : suc (f + i) ≡ f + suc i = omega arith in
    let end_is : end_of S.base (take (f + suc i) records) ≡ q.offset + size q =
    subst (λ m. end_of S.base (take m records) ≡ q.offset + size q) number (ends_with S.base records (f + i) q before.1) in
    let same : r.offset / S.size ≡ q.offset / S.size = is.segment (suc i) r low at ∙ sym (is.segment i q (omega (arith, low)) before.1) in
    let here : r.offset ≡ end_of S.base (take (f + suc i) records) =
    next_here S.size (end_of S.base (take (f + suc i) records)) (size r) r.offset q.offset (let some = well.segment.low in omega (arith, some)) follows.place (omega (arith, end_is)) same in
    let bytes = next_bytes xs i q (batch_get records f b.count i q (omega (arith, low)) before.1) in
    omega (arith, here, end_is, placed, bytes)

-- ---- the piece has them

-- the bytes at an offset between others
has_at : (held : Option (List ℕ)) (all before bytes behind : List ℕ) (at : ℕ) → IfSome held (λ h. h ≡ all) → all ≡ before ++ (bytes ++ behind) → at ≡ length before → HasAt held at bytes
has_at None all before bytes behind at is parts place = tt
has_at (Some h) all before bytes behind at is parts place =
    sym (ap (λ (hs : List ℕ). take (length bytes) (drop at hs)) (is ∙ parts)
    ∙ (ap (λ n. take (length bytes) (drop n (before ++ (bytes ++ behind)))) place
    ∙ (ap (λ (hs : List ℕ). take (length bytes) hs) (drop-append_seam before (bytes ++ behind)) ∙ take-append_seam bytes behind)))

-- the layouts of records, parted at one of them
parted_at : (xs : List Entry) (i : ℕ) (r : Entry) → slice_get xs i ≡ Some r → layouts xs ≡ layouts (take i xs) ++ (layout r ++ layouts (drop (suc i) xs))
parted_at xs i r at =
    ap layouts (sym (take-append-drop i xs)) ∙ (flat_map-append layout (take i xs) (drop i xs) ∙ ap (λ (rs : List Entry). layouts (take i xs) ++ layouts rs) (drop_next xs i r at))

-- what the piece of a batch has of one of its records
pub record IsInPiece (piece : Frozen) (place : ℕ) (r : Entry) : Type 0 where
  pub from : place ≤ r.offset
  pub covers : Covers piece r.offset (size r)
  pub holds : PieceHolds piece r.offset (layout r)

in_piece : (S : Geometry) (records : List Entry) (f : ℕ) (b : Batch) (receipt : Receipt) → IsWellFormed S records → IsBatchOf S records f b → IsReceiptFor b receipt
    → (i : ℕ) (r : Entry) → i < b.count → slice_get records (f + i) ≡ Some r → IsInPiece receipt.piece b.place r
in_piece S records f b receipt well is of i r low at =
    let xs = batch_records records f b.count in
    let placed = placed_in S records f b well is i r low at in
    let parts = parted_at xs i r (batch_get records f b.count i r low at) in
    let long = ap (λ (bs : List ℕ). length bs) (is.bytes ∙ parts) ∙ length-append (layouts (take i xs)) (layout r ++ layouts (drop (suc i) xs)) in
    let rest = length-append (layout r) (layouts (drop (suc i) xs)) in
    let same = length-layout r in
    let place = of.place in
    let len = of.size in
    record {
      from = omega (arith, placed);
      covers = record { from = omega (arith, placed, place); to = omega (arith, placed, place, len, long, rest, same) };
      holds = λ covers. has_at receipt.piece.held b.bytes (layouts (take i xs)) (layout r) (layouts (drop (suc i) xs)) (r.offset - piece_start receipt.piece) of.held (is.bytes ∙ parts)
          (omega (arith, placed, place));
    }

-- ---- all that is flushed is covered

-- the piece was added to the others
pub record HasPushed (old : FrozenRanges) (piece : Frozen) (new : FrozenRanges) : Type 0 where
  pub added : (place n : ℕ) → Covers piece place n → HasRange new.pieces.items place n
  pub kept : (place n : ℕ) → HasRange old.pieces.items place n → HasRange new.pieces.items place n
  pub holds : (place : ℕ) (bytes : List ℕ) → HoldsRange old.pieces.items place bytes → PieceHolds piece place bytes → HoldsRange new.pieces.items place bytes
  pub fresh : (place : ℕ) (bytes : List ℕ) → old.end ≤ place → 0 < length bytes → PieceHolds piece place bytes → HoldsRange new.pieces.items place bytes
  pub end : new.end ≡ piece_end piece

-- the batch of a turn that is out, and its receipt
pub record IsEnd (log : Log) (segment f : ℕ) (b : Batch) (receipt : Receipt) : Type 0 where
  pub lawful : IsLawful segment log
  pub batch : IsBatchOf (geometry segment log.base) log.records f b
  pub of : IsReceiptFor b receipt

-- where the records before the batch end, or behind
begins_behind : (log : Log) (segment f : ℕ) (b : Batch) (receipt : Receipt) → IsEnd log segment f b receipt → end_of log.base (take f log.records) ≤ b.place
begins_behind log segment f b receipt is =
    let some = is.batch.some in
    let within = is.batch.within in
    let first = get_there log.records f (omega (arith, some, within)) in
    let follows = is.lawful.each f first.0 first.1 in
    let past = place_past segment (end_of log.base (take f log.records)) (size first.0) (let low = is.lawful.segment.low in omega (arith, low)) in
    let place = is.batch.place first.0 first.1 in
    omega (arith, past, follows.place, place)

-- the last record of the batch ends where its bytes do
ends_there : (log : Log) (segment f : ℕ) (b : Batch) (receipt : Receipt) → IsEnd log segment f b receipt
    → (piece_end receipt.piece ≡ end_of log.base (take (f + b.count) log.records)) × (piece_end receipt.piece ≤ 2 ^ 62)
ends_there log segment f b receipt is =
    let some = is.batch.some in
    let within = is.batch.within in
    let n = b.count - 1 in
    let xs = batch_records log.records f b.count in
    let last = get_there log.records (f + n) (omega (arith, some, within)) in
    let r = last.0 in
    let placed = placed_in (geometry segment log.base) log.records f b is.lawful is.batch n r (omega (arith, some)) last.1 in
    let number : suc (f + n) ≡ f + b.count = omega (arith, some) in
    let end_is : end_of log.base (take (f + b.count) log.records) ≡ r.offset + size r =
    subst (λ m. end_of log.base (take m log.records) ≡ r.offset + size r) number (ends_with log.base log.records (f + n) r last.1) in
    let bytes = next_bytes xs n r (batch_get log.records f b.count n r (omega (arith, some)) last.1) in
    let long : length xs ≡ suc n = length-take b.count (drop f log.records) ∙ (let left = length-drop f log.records in omega (arith, left, within, some)) in
    let all : length (layouts xs) ≡ length (layouts (take (suc n) xs)) = ap (λ (rs : List Entry). length (layouts rs)) (sym (ap (λ m. take m xs) (sym long) ∙ take-length xs)) in
    let size_is : length b.bytes ≡ length (layouts xs) = ap (λ (bs : List ℕ). length bs) is.batch.bytes in
    let place = is.of.place in
    let len = is.of.size in
    let low = (is.lawful.each (f + n) r last.1).low in
    (omega (arith, placed, end_is, bytes, all, size_is, place, len), omega (arith, placed, low, bytes, all, size_is, place, len))

-- an index below the end of the batch is one before it, or one in it
parted : (f n k : ℕ) → k < f + n → (k < f) ⊎ ((j : ℕ) × (k ≡ f + j) × (j < n))
parted zero n k h = inr (k, (let e : k ≡ 0 + k = omega arith in e), omega (arith, h))
parted (suc f) n zero h = inl (omega arith)
parted (suc f) n (suc k) h = ⊎_elim (λ (old : k < f). inl (omega (arith, old))) (λ (new : (j : ℕ) × (k ≡ f + j) × (j < n)). inr (new.0, (let e : suc k ≡ suc f + new.0 = omega (arith, new.1) in e), new.2)) (parted f n k (omega (arith, h)))

-- a record has some bytes
has_bytes : (r : Entry) → 0 < size r
has_bytes r = omega arith

covered_more : (log : Log) (segment f : ℕ) (b : Batch) (receipt : Receipt) (old new : FrozenRanges) → IsEnd log segment f b receipt → HasPushed old receipt.piece new
    → old.end ≤ end_of log.base (take f log.records) → ((k : ℕ) (r : Entry) → k < f → slice_get log.records k ≡ Some r → IsCovered old r)
    → (k : ℕ) (r : Entry) → k < f + b.count → slice_get log.records k ≡ Some r → IsCovered new r
covered_more log segment f b receipt old new is pushed end before k r low at =
    let behind = begins_behind log segment f b receipt is in
    let place = is.of.place in
    let some = has_bytes r in
    let long = length-layout r in
    ⊎_elim (λ (early : k < f).
    let had = before k r early at in
    let first = get_there log.records f (let one = is.batch.some in let within = is.batch.within in omega (arith, one, within)) in
    let rise = places_rise (geometry segment log.base) log.records is.lawful k f r first.0 early at first.1 in
    let begin = is.batch.place first.0 first.1 in
    record {
      range = pushed.kept r.offset (size r) had.range;
      held = pushed.holds r.offset (layout r) had.held (λ covers. let from = covers.from in absurd (let none : ⊥ = omega (arith, from, rise, begin, place, some) in none));
    })
    (λ (new_one : (j : ℕ) × (k ≡ f + j) × (j < b.count)).
    let has = in_piece (geometry segment log.base) log.records f b receipt is.lawful is.batch is.of new_one.0 r new_one.2 (subst (λ m. slice_get log.records m ≡ Some r) new_one.1 at) in
    let from = has.from in
    record {
      range = pushed.added r.offset (size r) has.covers;
      held = pushed.fresh r.offset (layout r) (omega (arith, end, behind, from)) (omega (arith, some, long)) has.holds;
    })
    (parted f b.count k low)

-- ---- the parts

-- the batch that is out and its receipt, and what its piece is like
pub record IsTurnEnd (old : Parts) (s : State) (receipt : Receipt) (turn : Out) : Type 0 where
  pub there : old.pending.out ≡ Some turn
  pub is : IsEnd s.log s.setup.segment (s.flushed - s.log.base.records) turn.batch receipt
  pub low : s.log.base.records ≤ s.flushed
  pub within : s.flushed + turn.batch.count ≤ count_of s.log
  pub behind : old.stored.end ≤ end_of s.log.base (take (s.flushed - s.log.base.records) s.log.records)
  pub room : HasRoom old.stored
  pub end : turn.end ≡ place_end (below s.log (s.flushed + turn.batch.count))

turn_end : (old : Parts) (s : State) (receipt : Receipt) (o : Option Out) → Represents old s → old.pending.out ≡ o → IsReceiptOf o receipt → (turn : Out) × IsTurnEnd old s receipt turn
turn_end old s receipt None are there of = absurd of
turn_end old s receipt (Some turn) are there of =
    let out : IsOutOf s.setup.segment s.log s.flushed turn =
    subst (λ n. IsOutOf s.setup.segment s.log n turn) are.numbers.flushed
    (subst (λ n. IsOutOf n s.log old.pending.flushed turn) are.numbers.segment
    (subst (λ (o : Option Out). IfSome o (IsOutOf old.pending.segment s.log old.pending.flushed)) there are.pending.out)) in
    let held = out.held in
    let within = out.within in (
      turn,
      record {
        there = there;
        is = record { lawful = are.state.log; batch = out.batch; of = of };
        low = (let base = are.state.base in let high = are.state.dispatched in omega (arith, base, high));
        within = omega (arith, held, within);
        behind = are.stored.end;
        room = subst (λ (o : Option Out). IfSome o (λ out. HasRoom old.stored)) there are.room;
        end = out.end;
      },
    )

-- the turn that ends with this receipt
pub ends : (old : Parts) (s : State) (receipt : Receipt) → Represents old s → IsReceiptOf old.pending.out receipt → (turn : Out) × IsTurnEnd old s receipt turn
ends old s receipt are of = turn_end old s receipt old.pending.out are refl of

-- the piece comes behind the others, and ends low enough
pub piece_fits : (old : Parts) (s : State) (receipt : Receipt) → Represents old s → IsReceiptOf old.pending.out receipt
    → HasRoom old.stored × (old.stored.end ≤ piece_start receipt.piece) × (piece_end receipt.piece < 2 ^ 64)
piece_fits old s receipt are of =
    let turn = ends old s receipt are of in
    let e = turn.1 in
    let f = s.flushed - s.log.base.records in
    let begin = begins_behind s.log s.setup.segment f turn.0.batch receipt e.is in
    let last = (ends_there s.log s.setup.segment f turn.0.batch receipt e.is).1 in
    let behind = e.behind in
    let place = e.is.of.place in
    (e.room, omega (arith, behind, begin, place), omega (arith, last))

represents_flushed : (old : Parts) (s : State) (receipt : Receipt) (turn : Out) (stored : FrozenRanges) → Represents old s → IsTurnEnd old s receipt turn → HasPushed old.stored receipt.piece stored
    → IsPendingOf s.log (with_flushed old.pending (Some turn))
    → Represents (record old { stored = stored; pending = with_flushed old.pending (Some turn) }) (record s { flushed = s.flushed + turn.batch.count; out = None })
represents_flushed old s receipt turn stored are e pushed pending =
    let f = s.flushed - s.log.base.records in
    let low = e.low in
    let number : f + turn.batch.count ≡ (s.flushed + turn.batch.count) - s.log.base.records = omega (arith, low) in
    let last = (ends_there s.log s.setup.segment f turn.batch receipt e.is).0 in
    record {
      state = flushed_state s turn.batch.count are.state e.within;
      numbers = record { setup = are.numbers.setup; segment = are.numbers.segment; flushed = ap (λ n. n + turn.batch.count) are.numbers.flushed; dispatched = are.numbers.dispatched; turns = are.numbers.turns; bounded = are.numbers.bounded; now = are.numbers.now; few = are.numbers.few; low = are.numbers.low };
      pending = pending;
      out = tt;
      failed = are.failed;
      rows = are.rows;
      tabled = are.tabled;
      queues = are.queues;
      stored = record {
        each = λ k r below at. covered_more s.log s.setup.segment f turn.batch receipt old.stored stored e.is pushed e.behind are.stored.each k r (omega (arith, below, number)) at;
        end = let same = pushed.end ∙ (last ∙ ap (λ n. end_of s.log.base (take n s.log.records)) number) in omega (arith, same);
      };
      room = tt;
      topics = are.topics;
      clients = are.clients;
      offsets = are.offsets;
      locks = are.locks;
      names = are.names;
      kept = are.kept;
      halves = are.halves;
      levels = are.levels;
      keys = are.keys;
    }

-- the turn that is out has written its batch
pub flushes : (old : Parts) (s : State) (receipt : Receipt) (stored : FrozenRanges) (pending : PendingPart) → Represents old s → IsReceiptOf old.pending.out receipt → HasPushed old.stored receipt.piece stored
    → pending ≡ after_flushed old.pending → IsPendingOf s.log pending
    → (answer_of s (events.Flushed receipt.count) ≡ events.Done) × Represents (record old { stored = stored; pending = pending }) (after s (events.Flushed receipt.count))
flushes old s receipt stored pending are of pushed is kept =
    let turn = ends old s receipt are of in
    let out = turn.0 in
    let same : pending ≡ with_flushed old.pending (Some out) = is ∙ ap (λ (o : Option Out). with_flushed old.pending o) turn.1.there in
    let count : receipt.count ≡ out.batch.count = turn.1.is.of.count in (
      answer_flush s receipt.count,
      subst (λ (t : State). Represents (record old { stored = stored; pending = pending }) t) (sym (after_flush s receipt.count))
          (subst (λ n. Represents (record old { stored = stored; pending = pending }) (record s { flushed = s.flushed + n; out = None })) (sym count)
          (subst (λ (p : PendingPart). Represents (record old { stored = stored; pending = p }) (record s { flushed = s.flushed + out.batch.count; out = None })) (sym same)
          (represents_flushed old s receipt out stored are turn.1 pushed (subst (λ (p : PendingPart). IsPendingOf s.log p) same kept)))),
    )

-- ---- what is shown

-- what is shown once the turn that is out has written its batch
pub shown_flushed : (old : Parts) (s : State) (receipt : Receipt) (pending : PendingPart) → Represents old s → IsReceiptOf old.pending.out receipt → pending ≡ after_flushed old.pending
    → shown_in pending ≡ after_batch (shown_in old.pending) (batch_of old.pending.out)
shown_flushed old s receipt pending are of is =
    let turn = ends old s receipt are of in
    let out = turn.0 in
    let e = turn.1 in
    let f = s.flushed - s.log.base.records in
    let low = e.low in
    let number : f + out.batch.count ≡ (s.flushed + out.batch.count) - s.log.base.records = omega (arith, low) in
    let last = (ends_there s.log s.setup.segment f out.batch receipt e.is).0 in
    let place = e.is.of.place in
    let len = e.is.of.size in
    let behind : end_of s.log.base (take (f + out.batch.count) s.log.records) ≡ place_end (below s.log (s.flushed + out.batch.count)) = ap (λ n. end_of s.log.base (take n s.log.records)) number in
    let end : out.end ≡ out.batch.place + length out.batch.bytes = e.end ∙ (sym behind ∙ (sym last ∙ (let z : piece_end receipt.piece ≡ out.batch.place + length out.batch.bytes = omega (arith, place, len) in z))) in
    ap (λ (p : PendingPart). shown_in p) (is ∙ ap (λ (o : Option Out). with_flushed old.pending o) e.there)
    ∙ (ap (λ (n : ℕ). let shown : Shown = record { flushed = old.pending.flushed + out.batch.count; end = n; out = None } in shown) end
    ∙ ap (λ (o : Option Out). after_batch (shown_in old.pending) (batch_of o)) (sym e.there))
