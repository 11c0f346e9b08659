-- A log that is open for batches: where a batch goes from there, and that it is open again behind the turn.
use Rattle.std.proofs.Common.{◌≡◌, ◌⊎◌, inl, inr, ⊎_elim, ℕ, ◌+◌, ◌-◌, ◌*◌, ◌≤◌, Bool, true, false, List, ◌++◌, [], length, take, slice_get, Option, Some, refl, sym, ◌∙◌, ap, subst, arith}
use Rattle.std.proofs.lemmas.Bool.{le-leb, lt-leb}
use Rattle.std.proofs.lemmas.List.{append-nil, take_at, take-append-le}
use Rattle.mq_bytes.specs.Names.{log_file}
use Rattle.mq_outside.specs.Files.{bytes_in}
use Rattle.mq_outside.specs.Counts.{Counted}
use Rattle.mq_outside.specs.Disk.{DiskState, EachImage}
use Rattle.record_codec.specs.Entry.{Entry}
use Rattle.log_model.specs.Bases.{Geometry}
use Rattle.log_model.specs.Batches.{IsBatchOf}
use Rattle.log_model.specs.Log.{IsWellFormed, end_of}
use Rattle.log_model.specs.Segments.{Shape, opened, used, segment_start, end_in, shape_of, next_segment}
use Rattle.log_model.specs.Store.{IsAt, IsBatch, IsLaid, StoresAt}
use Rattle.log_model.specs.Stored.{Stored, HasFirst, LogStays, flushed_of, with_flushed, with_more}
use Rattle.log_model.specs.declared.batch.Batch.{Batch}
use Rattle.log_model.proofs.BatchLemmas.{batch_goes, GoesHere, GoesNext}
use Rattle.log_model.proofs.Lists.{get_within, get_take}
use Rattle.log_model.proofs.Longer.{stores_longer}
use Rattle.log_model.proofs.OutsideLemmas.{in_folder, stores_as}
use Rattle.log_model.proofs.Places.{placed_log, placed_number, placed_offset, well_formed_take}
use Rattle.log_model.proofs.StoreLemmas.{laid_room}
use Rattle.segment_files.specs.Turn.{IsInside, WritesAt, GoesOn, Growing, growing, IsReady, CanTurn, IsLaidFor, NextOpens, GoesToEnd, GoesToNext, IsPlaced, GoesToPlace, IsOpened, is_due, opens_segment, shape_behind, unless_opened, base_behind, syncs_of}
use Rattle.segment_files.specs.declared.last_file.LastFile.{LastFile}
use Rattle.segment_files.proofs.Turns.{used_batch, writes_moved}

-- the segments of the flushed records
abbrev laid_of : Stored → Shape
laid_of it = shape_of it.geometry (flushed_of it)

-- a segment that is opened is another
opened_apart : (shape : Shape) → shape ≡ opened shape → ⊥
opened_apart shape same = omega (arith, ap (λ (s : Shape). length s.older) same)

-- ---- where a batch goes

-- from these segments on: here or behind a blank, and if the turn stops behind the blank, the next record still opens that segment
pub record Goes (it : Stored) (batch : Batch) (file : LastFile) (shape : Shape) : Type 0 where
  pub goes_on : GoesOn it.geometry it.log it.flushed shape (opens_segment file batch) batch
  pub laid : IsLaidFor it (shape_behind (opens_segment file batch) shape)
  pub due : opens_segment file batch ≡ true → (shape ≡ laid_of it) × NextOpens it
  pub opens : shape ≡ laid_of it → NextOpens it → opens_segment file batch ≡ true
  pub place : batch.place ≡ end_in it.geometry (shape_behind (opens_segment file batch) shape)

-- where the batch lies in the last segment, its first record opens none
here_opens : (it : Stored) (batch : Batch) → IsWellFormed it.geometry it.log → IsBatchOf it.geometry it.log it.flushed batch → GoesHere it.geometry it.log it.flushed batch → NextOpens it → ⊥
here_opens it batch well is here opens =
    let placed = placed_log it.geometry (flushed_of it) (well_formed_take it.geometry it.flushed it.log well) in
    opens.apart (sym (is.place opens.next opens.is) ∙ here.place ∙ sym placed.end)

-- where it goes behind a blank, its first record opens the segment
next_opens : (it : Stored) (batch : Batch) → IsWellFormed it.geometry it.log → IsBatchOf it.geometry it.log it.flushed batch → GoesNext it.geometry it.log it.flushed batch → NextOpens it
next_opens it batch well is next =
    let placed = placed_log it.geometry (flushed_of it) (well_formed_take it.geometry it.flushed it.log well) in
    let got = get_within it.log it.flushed (omega (arith, is.some, is.within)) in
    record { next = got.0; is = got.1; apart = λ same. omega (arith, same, is.place got.0 got.1, next.place, placed.end, placed.room) }

goes_here : (it : Stored) (batch : Batch) (file : LastFile) (shape : Shape) → IsWellFormed it.geometry it.log → IsBatchOf it.geometry it.log it.flushed batch → IsLaidFor it shape
    → GoesHere it.geometry it.log it.flushed batch → Goes it batch file shape
goes_here it batch file shape well is laid here =
    let stays : opens_segment file batch ≡ false = ap (is_due file.base) here.blank in
    let same : shape ≡ laid_of it = ⊎_elim
    (λ (s : shape ≡ laid_of it). s)
    (λ (opened_there : (shape ≡ opened (laid_of it)) × NextOpens it). absurd (here_opens it batch well is here opened_there.1))
    laid in
    record {
      goes_on = record {
        records = subst (λ (d : Bool). IsBatch it.geometry it.log it.flushed batch.count (shape_behind d shape) batch.bytes) (sym stays)
            (subst (λ (s : Shape). IsBatch it.geometry it.log it.flushed batch.count s batch.bytes) (sym same) here.is);
        opens = λ due. let full : false ≡ true = sym stays ∙ due in absurd (cc);
      };
      laid = subst (λ (d : Bool). IsLaidFor it (shape_behind d shape)) (sym stays) (inl same);
      due = λ due. let full : false ≡ true = sym stays ∙ due in absurd (cc);
      opens = λ at_end opens. absurd (here_opens it batch well is here opens);
      place = here.place ∙ ap (end_in it.geometry) (sym same) ∙ ap (λ (d : Bool). end_in it.geometry (shape_behind d shape)) (sym stays);
    }

goes_next : (it : Stored) (batch : Batch) (file : LastFile) (shape : Shape) → IsWellFormed it.geometry it.log → IsBatchOf it.geometry it.log it.flushed batch → IsLaidFor it shape
    → file.base ≡ segment_start it.geometry shape → GoesNext it.geometry it.log it.flushed batch → Goes it batch file shape
goes_next it batch file shape well is laid first next =
    let placed = placed_log it.geometry (flushed_of it) (well_formed_take it.geometry it.flushed it.log well) in
    let opens : NextOpens it = next_opens it batch well is next in
    let end : ℕ = end_in it.geometry (laid_of it) in
    let begins : batch.place ≡ end_in it.geometry (opened (laid_of it)) = omega (arith, next.place) in
    ⊎_elim
    (λ (same : shape ≡ laid_of it).
    let due : opens_segment file batch ≡ true = ap (is_due file.base) next.blank ∙ le-leb file.base end (omega (arith, first, ap (segment_start it.geometry) same)) in
    record {
      goes_on = record {
        records = subst (λ (d : Bool). IsBatch it.geometry it.log it.flushed batch.count (shape_behind d shape) batch.bytes) (sym due)
            (subst (λ (s : Shape). IsBatch it.geometry it.log it.flushed batch.count (opened s) batch.bytes) (sym same) next.is);
        opens = λ _. record {
          is = same;
          filled = next.blank ∙ ap (λ (s : Shape). Some (end_in it.geometry s, it.geometry.size - used s)) (sym same);
          begins = next.place ∙ ap (λ (s : Shape). segment_start it.geometry (opened s)) (sym same);
        };
      };
      laid = subst (λ (d : Bool). IsLaidFor it (shape_behind d shape)) (sym due) (inr (ap opened same, opens));
      due = λ _. (same, opens);
      opens = λ at_end opening. due;
      place = begins ∙ ap (λ (s : Shape). end_in it.geometry (opened s)) (sym same) ∙ ap (λ (d : Bool). end_in it.geometry (shape_behind d shape)) (sym due);
    })
    (λ (opened_there : (shape ≡ opened (laid_of it)) × NextOpens it).
    let stays : opens_segment file batch ≡ false = ap (is_due file.base) next.blank
    ∙ lt-leb file.base end (omega (arith, first, ap (segment_start it.geometry) opened_there.0, placed.room)) in
    record {
      goes_on = record {
        records = subst (λ (d : Bool). IsBatch it.geometry it.log it.flushed batch.count (shape_behind d shape) batch.bytes) (sym stays)
            (subst (λ (s : Shape). IsBatch it.geometry it.log it.flushed batch.count s batch.bytes) (sym opened_there.0) next.is);
        opens = λ due. let full : false ≡ true = sym stays ∙ due in absurd (cc);
      };
      laid = subst (λ (d : Bool). IsLaidFor it (shape_behind d shape)) (sym stays) laid;
      due = λ due. let full : false ≡ true = sym stays ∙ due in absurd (cc);
      opens = λ at_end opening. absurd (opened_apart (laid_of it) (sym at_end ∙ opened_there.0));
      place = begins ∙ ap (end_in it.geometry) (sym opened_there.0) ∙ ap (λ (d : Bool). end_in it.geometry (shape_behind d shape)) (sym stays);
    })
    laid

pub goes : (it : Stored) (batch : Batch) (file : LastFile) (shape : Shape) → IsWellFormed it.geometry it.log → IsBatchOf it.geometry it.log it.flushed batch → IsLaidFor it shape
    → file.base ≡ segment_start it.geometry shape → Goes it batch file shape
goes it batch file shape well is laid first = ⊎_elim
    (λ (here : GoesHere it.geometry it.log it.flushed batch). goes_here it batch file shape well is laid here)
    (λ (next : GoesNext it.geometry it.log it.flushed batch). goes_next it batch file shape well is laid first next)
    (batch_goes it.geometry it.log it.flushed batch well is)

-- ---- what a turn starts from

pub record Starts (it : Stored) (behind : ℕ) (batch : Batch) (at : Growing) : Type 0 where
  pub shape : Shape
  pub reach : ℕ
  pub writes : WritesAt it shape reach at.file.base at.file.offset at.disk
  pub goes : Goes it batch at.file shape
  pub ahead : at.file.ahead ≤ it.geometry.size
  pub short : unless_opened (opens_segment at.file batch) reach ≤ unless_opened (opens_segment at.file batch) at.file.offset + behind

opened_short : (due : Bool) (reach offset behind : ℕ) → (due ≡ false → reach ≤ offset + behind) → unless_opened due reach ≤ unless_opened due offset + behind
opened_short true reach offset behind low = omega arith
opened_short false reach offset behind low = low refl

pub starts : (it : Stored) (behind : ℕ) (batch : Batch) (at : Growing) → CanTurn it behind batch at → Starts it behind batch at
starts it behind batch at can =
    let ready = can.ready in
    let where_to = goes it batch at.file ready.shape ready.writes.stores.well_formed can.next ready.laid ready.writes.place.last in
    record {
      shape = ready.shape;
      reach = ready.reach;
      writes = ready.writes;
      goes = where_to;
      ahead = ready.ahead;
      short = opened_short (opens_segment at.file batch) ready.reach at.file.offset behind (λ stays. ⊎_elim
          (λ (low : ready.reach ≤ at.file.offset + behind). low)
          (λ (opens : (ready.shape ≡ laid_of it) × NextOpens it). let full : false ≡ true = sym stays ∙ where_to.opens opens.0 opens.1 in absurd (cc))
          ready.short);
    }

-- ---- a longer log

next_more : (it : Stored) (more : List Entry) → it.flushed ≤ length it.log → NextOpens it → NextOpens (with_more more it)
next_more it more within opens =
    let front : take (length it.log) (it.log ++ more) ≡ it.log = take_at it.log more (length it.log) refl in
    let same : flushed_of (with_more more it) ≡ flushed_of it = take-append-le it.flushed it.log more within in
    record {
      next = opens.next;
      is = (get_take (length it.log) it.flushed (it.log ++ more) opens.next (subst (λ (l : List Entry). slice_get l it.flushed ≡ Some opens.next) (sym front) opens.is)).0;
      apart = λ at_end. opens.apart (at_end ∙ ap (end_of it.geometry.base) same);
    }

pub ready_more : (it : Stored) (more : List Entry) (behind : ℕ) (at : Growing) → IsWellFormed it.geometry (it.log ++ more) → IsReady it behind at → IsReady (with_more more it) behind at
ready_more it more behind at well ready =
    let within = ready.writes.stores.within in
    let same : laid_of (with_more more it) ≡ laid_of it = ap (shape_of it.geometry) (take-append-le it.flushed it.log more within) in
    record {
      shape = ready.shape;
      reach = ready.reach;
      writes = record {
        stores = stores_longer it.geometry it.log more it.flushed ready.shape ready.reach at.disk well ready.writes.stores;
        place = ready.writes.place;
        low = ready.writes.low;
      };
      laid = ⊎_elim
          (λ (at_end : ready.shape ≡ laid_of it). inl (at_end ∙ sym same))
          (λ (at_next : (ready.shape ≡ opened (laid_of it)) × NextOpens it). inr (at_next.0 ∙ ap opened (sym same), next_more it more within at_next.1))
          ready.laid;
      ahead = ready.ahead;
      short = ⊎_elim
          (λ (low : ready.reach ≤ at.file.offset + behind). inl low)
          (λ (opens : (ready.shape ≡ laid_of it) × NextOpens it). inr (opens.0 ∙ sym same, next_more it more within opens.1))
          ready.short;
    }

-- each batch that comes next can be written
pub ready_turns : (it : Stored) (behind : ℕ) (at : Growing) → IsReady it behind at → (more : List Entry) (next : Batch) → IsWellFormed it.geometry (it.log ++ more)
    → IsBatchOf it.geometry (it.log ++ more) it.flushed next → CanTurn (with_more more it) behind next at
ready_turns it behind at ready more next well is = record { ready = ready_more it more behind at well ready; next = is }

-- ---- behind a turn

-- after a fault before the blank was synced
pub ready_first : {it : Stored} {behind : ℕ} {batch : Batch} {old : Growing} (most reach : ℕ) (new : Growing) (start : Starts it behind batch old)
    → WritesAt it start.shape reach new.file.base new.file.offset new.disk → new.file.ahead ≡ old.file.ahead → opens_segment old.file batch ≡ true → IsReady it most new
ready_first most reach new start writes same due =
    let here = start.goes.due due in
    record { shape = start.shape; reach = reach; writes = writes; laid = inl here.0; ahead = omega (arith, same, start.ahead); short = inr here }

-- after a fault behind it
pub ready_second : {it : Stored} {behind : ℕ} {batch : Batch} {old : Growing} (most reach : ℕ) (new : Growing) (start : Starts it behind batch old)
    → WritesAt it (shape_behind (opens_segment old.file batch) start.shape) reach new.file.base new.file.offset new.disk → new.file.ahead ≡ old.file.ahead
    → reach ≤ new.file.offset + most → IsReady it most new
ready_second {batch = batch} {old = old} most reach new start writes same low = record {
  shape = shape_behind (opens_segment old.file batch) start.shape;
  reach = reach;
  writes = writes;
  laid = start.goes.laid;
  ahead = omega (arith, same, start.ahead);
  short = inl low;
}

-- after Ok
pub ready_flushed : (it : Stored) (count rest reach : ℕ) (new : Growing)
    → WritesAt (with_flushed count it) (shape_of it.geometry (take (it.flushed + count) it.log)) reach new.file.base new.file.offset new.disk → new.file.ahead ≤ it.geometry.size
    → reach ≤ new.file.offset + rest → IsReady (with_flushed count it) rest new
ready_flushed it count rest reach new writes ahead low =
    record { shape = laid_of (with_flushed count it); reach = reach; writes = writes; laid = inl refl; ahead = ahead; short = inl low }

-- an Ok has synced the blank, if one is due, and the batch
pub synced_both : (due : Bool) (first next last : ℕ) → (due ≡ true → Counted 1 first next) → (due ≡ false → next ≡ first) → Counted 1 next last → Counted (syncs_of due) first last
synced_both true first next last opened stays synced = omega (arith, opened refl, synced)
synced_both false first next last opened stays synced = omega (arith, stays refl, synced)

-- a log of which the same batch can come again is open for batches
pub fault_ready : (it : Stored) (behind most : ℕ) (batch : Batch) (old new : Growing) → CanTurn it behind batch old
    → ((more : List Entry) (next : Batch) → IsWellFormed it.geometry (it.log ++ more) → IsBatchOf it.geometry (it.log ++ more) it.flushed next → CanTurn (with_more more it) most next new)
    → IsReady it most new
fault_ready it behind most batch old new can fault =
    let none : it.log ++ [] ≡ it.log = append-nil it.log in
    let again = fault [] batch (subst (IsWellFormed it.geometry) (sym none) can.ready.writes.stores.well_formed)
    (subst (λ (l : List Entry). IsBatchOf it.geometry l it.flushed batch) (sym none) can.next) in
    subst (λ (l : List Entry). IsReady (record { geometry = it.geometry; log = l; flushed = it.flushed }) most new) none again.ready

-- ---- a log whose files stay

pub ready_as : (it : Stored) (behind : ℕ) (file : LastFile) (old new : DiskState) → LogStays old new → IsReady it behind (growing file old) → IsReady it behind (growing file new)
ready_as it behind file old new stays ready = record {
  shape = ready.shape;
  reach = ready.reach;
  writes = record {
    stores = stores_as it.geometry it.log it.flushed ready.shape ready.reach old new stays ready.writes.stores;
    place = ready.writes.place;
    low = ready.writes.low;
  };
  laid = ready.laid;
  ahead = ready.ahead;
  short = ready.short;
}

-- the same file, but how far zeros are written ahead
pub ready_ahead : (it : Stored) (behind : ℕ) (file other : LastFile) (disk : DiskState) → other.base ≡ file.base → other.offset ≡ file.offset → other.ahead ≤ it.geometry.size
    → IsReady it behind (growing file disk) → IsReady it behind (growing other disk)
ready_ahead it behind file other disk same same_offset ahead ready = record {
  shape = ready.shape;
  reach = ready.reach;
  writes = writes_moved ready.writes same same_offset;
  laid = ready.laid;
  ahead = ahead;
  short = subst (λ (n : ℕ). (ready.reach ≤ n + behind) ⊎ ((ready.shape ≡ laid_of it) × NextOpens it)) (sym same_offset) ready.short;
}

-- ---- where the next bytes go

-- behind these segments
end_at : (it : Stored) (file : LastFile) → IsWellFormed it.geometry it.log → GoesToEnd it file → IsAt it.geometry (laid_of it) file.base file.offset
end_at it file well to_end =
    let placed = placed_log it.geometry (flushed_of it) (well_formed_take it.geometry it.flushed it.log well) in
    record {
      last = to_end.base ∙ ap (λ (n : ℕ). n * it.geometry.size) (placed_number it.geometry (flushed_of it) (laid_of it) placed);
      end = to_end.offset ∙ placed_offset it.geometry (flushed_of it) (laid_of it) placed;
    }

at_end_of : (it : Stored) (file : LastFile) → IsWellFormed it.geometry it.log → IsAt it.geometry (laid_of it) file.base file.offset → GoesToEnd it file
at_end_of it file well at =
    let placed = placed_log it.geometry (flushed_of it) (well_formed_take it.geometry it.flushed it.log well) in
    record {
      base = at.last ∙ ap (λ (n : ℕ). n * it.geometry.size) (sym (placed_number it.geometry (flushed_of it) (laid_of it) placed));
      offset = at.end ∙ sym (placed_offset it.geometry (flushed_of it) (laid_of it) placed);
    }

next_at : (it : Stored) (file : LastFile) → IsWellFormed it.geometry it.log → GoesToNext it file → IsAt it.geometry (opened (laid_of it)) file.base file.offset
next_at it file well to_next =
    let placed = placed_log it.geometry (flushed_of it) (well_formed_take it.geometry it.flushed it.log well) in
    record {
      last = to_next.base ∙ ap (λ (n : ℕ). (n + 1) * it.geometry.size) (placed_number it.geometry (flushed_of it) (laid_of it) placed) ∙ omega arith;
      end = to_next.offset;
    }

at_next_of : (it : Stored) (file : LastFile) → IsWellFormed it.geometry it.log → NextOpens it → IsAt it.geometry (opened (laid_of it)) file.base file.offset → GoesToNext it file
at_next_of it file well opens at =
    let placed = placed_log it.geometry (flushed_of it) (well_formed_take it.geometry it.flushed it.log well) in
    let number = placed_number it.geometry (flushed_of it) (laid_of it) placed in
    let start : segment_start it.geometry (opened (laid_of it)) ≡ (next_segment it.geometry (laid_of it).older + 1) * it.geometry.size = omega arith in
    record { opens = opens; base = at.last ∙ start ∙ ap (λ (n : ℕ). (n + 1) * it.geometry.size) (sym number); offset = at.end }

placed_of : (it : Stored) (file : LastFile) (shape : Shape) → IsWellFormed it.geometry it.log → IsLaidFor it shape → IsAt it.geometry shape file.base file.offset → IsPlaced it file
placed_of it file shape well laid at = ⊎_elim
    (λ (same : shape ≡ laid_of it). inl (at_end_of it file well (subst (λ (s : Shape). IsAt it.geometry s file.base file.offset) same at)))
    (λ (next : (shape ≡ opened (laid_of it)) × NextOpens it). inr (at_next_of it file well next.1 (subst (λ (s : Shape). IsAt it.geometry s file.base file.offset) next.0 at)))
    laid

-- segments of the flushed records, at whose end the next bytes go
record Lies (it : Stored) (file : LastFile) : Type 0 where
  shape : Shape
  laid : IsLaidFor it shape
  at : IsAt it.geometry shape file.base file.offset

lies : (it : Stored) (file : LastFile) → IsWellFormed it.geometry it.log → IsPlaced it file → Lies it file
lies it file well placed = ⊎_elim
    (λ (to_end : GoesToEnd it file). record { shape = laid_of it; laid = inl refl; at = end_at it file well to_end })
    (λ (to_next : GoesToNext it file). record { shape = opened (laid_of it); laid = inr (refl, to_next.opens); at = next_at it file well to_next })
    placed

-- behind the blank, if one is due
behind_at : (S : Geometry) (due : Bool) (shape : Shape) (base offset place : ℕ) → IsAt S shape base offset → (due ≡ true → place ≡ segment_start S (opened shape))
    → IsAt S (shape_behind due shape) (base_behind due place base) (unless_opened due offset)
behind_at S true shape base offset place at begins = record { last = begins refl; end = refl }
behind_at S false shape base offset place at begins = at

at_by : {S : Geometry} {shape : Shape} {base offset : ℕ} (b o : ℕ) → b ≡ base → o ≡ offset → IsAt S shape base offset → IsAt S shape b o
at_by b o same same_offset at = record { last = same ∙ at.last; end = same_offset ∙ at.end }

-- whatever the disk tells
pub places_on : (it : Stored) (batch : Batch) (old new : LastFile) → IsWellFormed it.geometry it.log → IsBatchOf it.geometry it.log it.flushed batch → IsPlaced it old
    → (new.base ≡ base_behind (opens_segment old batch) batch.place old.base → new.offset ≡ unless_opened (opens_segment old batch) old.offset + length batch.bytes → GoesToEnd (with_flushed batch.count it) new)
    × ((((new.base ≡ old.base) × (new.offset ≡ old.offset)) ⊎ IsOpened batch old new) → IsPlaced it new)
places_on it batch old new well is placed =
    let there = lies it old well placed in
    let where_to = goes it batch old there.shape well is there.laid there.at.last in
    let due : Bool = opens_segment old batch in
    let behind = behind_at it.geometry due there.shape old.base old.offset batch.place there.at (λ yes. (where_to.goes_on.opens yes).begins) in
    let rule = where_to.goes_on.records.rule in (
      (λ base offset. at_end_of (with_flushed batch.count it) new well (record {
        last = base ∙ behind.last ∙ ap (segment_start it.geometry) (sym rule);
        end = omega (arith, offset, behind.end, used_batch where_to.goes_on.records);
      })),
      (λ moved. ⊎_elim
          (λ (stays : (new.base ≡ old.base) × (new.offset ≡ old.offset)). placed_of it new there.shape well there.laid (at_by new.base new.offset stays.0 stays.1 there.at))
          (λ (opened_file : IsOpened batch old new). placed_of it new (shape_behind due there.shape) well where_to.laid (at_by new.base new.offset opened_file.base opened_file.offset behind))
          moved),
    )

-- segments with a new one behind them, or without, hold these records
laid_records : (it : Stored) (shape : Shape) → IsLaidFor it shape → IsLaid it.geometry (flushed_of it) shape
laid_records it shape laid = ⊎_elim
    (λ (same : shape ≡ laid_of it). inl same)
    (λ (next : (shape ≡ opened (laid_of it)) × NextOpens it). inr next.0)
    laid

-- a batch of the log is written from its place on
pub goes_to_place : (it : Stored) (batch : Batch) (file : LastFile) → IsWellFormed it.geometry it.log → IsBatchOf it.geometry it.log it.flushed batch → IsPlaced it file → GoesToPlace file batch
goes_to_place it batch file well is placed =
    let there = lies it file well placed in
    let where_to = goes it batch file there.shape well is there.laid there.at.last in
    let due : Bool = opens_segment file batch in
    let behind = behind_at it.geometry due there.shape file.base file.offset batch.place there.at (λ yes. (where_to.goes_on.opens yes).begins) in
    let low : used there.shape + 8 ≤ it.geometry.size = laid_room it.geometry it.log it.flushed there.shape well (laid_records it there.shape there.laid) in
    let room : used (shape_of it.geometry (take (it.flushed + batch.count) it.log)) + 8 ≤ it.geometry.size =
    laid_room it.geometry it.log (it.flushed + batch.count) (shape_of it.geometry (take (it.flushed + batch.count) it.log)) well (inl refl) in
    record {
      place = omega (arith, behind.last, behind.end, where_to.place);
      room = omega (arith, used_batch where_to.goes_on.records, room, low, there.at.end, well.segment.high);
    }

-- ---- from a stored log

pub stored_ready : (it : Stored) (reach : ℕ) (file : LastFile) (disk : DiskState) → GoesToEnd it file → file.ahead ≤ it.geometry.size → reach ≤ it.geometry.size
    → StoresAt it.geometry it.log it.flushed (laid_of it) reach disk → IsReady it (reach - file.offset) (growing file disk)
stored_ready it reach file disk to_end ahead low stores = record {
  shape = laid_of it;
  reach = reach;
  writes = record { stores = stores; place = end_at it file stores.well_formed to_end; low = low };
  laid = inl refl;
  ahead = ahead;
  short = inl (omega arith);
}

pub ready_placed : (it : Stored) (behind : ℕ) (file : LastFile) (disk : DiskState) → IsReady it behind (growing file disk) → IsPlaced it file
ready_placed it behind file disk ready = placed_of it file ready.shape ready.writes.stores.well_formed ready.laid ready.writes.place

pub ready_first_records : (it : Stored) (behind : ℕ) (file : LastFile) (disk : DiskState) → IsReady it behind (growing file disk) → EachImage (HasFirst it.geometry it.log it.flushed) disk
ready_first_records it behind file disk ready = record {
  at = λ files image. record {
    number = it.flushed;
    low = omega arith;
    high = ready.writes.stores.within;
    has = record { shape = ready.shape; reach = ready.reach; laid = laid_records it ready.shape ready.laid; stands = ready.writes.stores.each.at files image };
  };
}

pub inside_as : (file_base offset : ℕ) (old new : DiskState) → LogStays old new → IsInside file_base offset old → IsInside file_base offset new
inside_as file_base offset old new stays inside =
    let same : new.reads (log_file file_base) ≡ old.reads (log_file file_base) = stays.reads (log_file file_base) (in_folder file_base refl) in
    omega (arith, inside, ap (λ (o : Option (List ℕ)). length (bytes_in o)) same)
