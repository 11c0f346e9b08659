-- What the steps of a turn keep of a log's records.
use Rattle.std.proofs.Common.{◌≡◌, inl, ℕ, ◌+◌, ◌-◌, ◌*◌, ◌/◌, ◌%◌, ◌<◌, ◌≤◌, max, List, ◌++◌, length, take, drop, refl, sym, ◌∙◌, ap, subst, arith, length-append}
use Rattle.std.specs.Prelude.{Result, Ok, Err, OnErr}
use Rattle.std.proofs.lemmas.List.{length-take}
use Rattle.std.proofs.lemmas.Nat.{mod-mul-add, div-mul-add}
use Rattle.std.proofs.lemmas.List.Concat.{flat_map-append}
use Rattle.mq_bytes.specs.Names.{log_file}
use Rattle.mq_outside.specs.Files.{Files, Same, At, Torn, bytes_of}
use Rattle.mq_outside.specs.Disk.{DiskState, IsCrashImage, EachImage, Moves, Throughout}
use Rattle.mq_outside.specs.Pieces.{HasPiece}
use Rattle.mq_outside.proofs.Moments.{at_end, weaker, at_start, goes_on, each_same}
use Rattle.record_codec.specs.Entry.{Entry}
use Rattle.record_codec.specs.Layout.{layout}
use Rattle.log_model.specs.Bases.{Geometry}
use Rattle.log_model.specs.Log.{end_of}
use Rattle.log_model.specs.Segments.{Shape, layouts, blank_of, opened, used, segment_start, end_in, shape_of, last_bytes, AreSegmentFiles, next_segment}
use Rattle.log_model.specs.Store.{Stands, IsBatch, IsLaid, StoresAt}
use Rattle.log_model.proofs.Places.{placed_log, well_formed_take}
use Rattle.log_model.proofs.Steps.{each_torn, each_more, each_has, stands_more, length-blank_of}
use Rattle.log_model.proofs.StoreLemmas.{laid_room, stores_named, stores_still, stores_batch, stores_opened, stores_exact}
use Rattle.log_model.specs.Stored.{HasRecords, stored}
use Rattle.segment_files.specs.Turn.{IsInside, WritesAt, IsBehind, zeros_to}
use Rattle.segment_files.specs.declared.last_file.LastFile.{LastFile}

-- ---- what holds at each moment

-- files with the records of these segments
pub has_records : {S : Geometry} (log : List Entry) (flushed : ℕ) {shape : Shape} {more : ℕ} {old new : DiskState} → IsLaid S (take flushed log) shape
    → Throughout old new (Stands S shape more) → Throughout old new (HasRecords S (take flushed log))
has_records log flushed {shape = shape} {more = more} laid so_far = weaker so_far (λ files stands. record { shape = shape; reach = more; laid = laid; stands = stands })

-- one call more that changes nothing
pub same_on : {old mid new : DiskState} {P : Files → Type 0} → Throughout old mid P → Moves Same mid new → Throughout old new P
same_on so_far moves = goes_on so_far moves (each_same moves (at_end so_far))

-- the disk stores the log as before, with a longer reach
pub writes_still : {S : Geometry} {log : List Entry} {flushed : ℕ} {shape : Shape} {reach more file_base offset : ℕ} {old new : DiskState}
    → WritesAt (stored S log flushed) shape reach file_base offset old → more ≤ S.size → Throughout old new (Stands S shape more) → WritesAt (stored S log flushed) shape more file_base offset new
writes_still {S = S} {log = log} {flushed = flushed} {shape = shape} {reach = reach} {more = more} {old = old} {new = new} writes low so_far = record {
  stores = stores_still S log flushed shape reach more old new writes.stores so_far;
  place = writes.place;
  low = low;
}

pub writes_same : {S : Geometry} {log : List Entry} {flushed : ℕ} {shape : Shape} {reach file_base offset : ℕ} {old new : DiskState}
    → WritesAt (stored S log flushed) shape reach file_base offset old → Moves Same old new → WritesAt (stored S log flushed) shape reach file_base offset new
writes_same writes moves = record {
  stores = record { well_formed = writes.stores.well_formed; within = writes.stores.within; laid = writes.stores.laid; each = each_same moves writes.stores.each };
  place = writes.place;
  low = writes.low;
}

-- ---- a blank

pub end_behind : {S : Geometry} {log : List Entry} {flushed : ℕ} {shape : Shape} {reach file_base offset : ℕ} {disk : DiskState} {name : List ℕ}
    → WritesAt (stored S log flushed) shape reach file_base offset disk → name ≡ log_file file_base → IsBehind S shape name offset
end_behind {S = S} {log = log} {flushed = flushed} {shape = shape} {reach = reach} {disk = disk} writes named =
    let is_named = stores_named S log flushed shape reach disk writes.stores in
    record { some = is_named.some; low = is_named.low; named = named ∙ ap log_file writes.place.last; behind = omega (arith, writes.place.end) }

-- the blank ends where the segment does
pub blank_fits : {S : Geometry} {log : List Entry} {flushed : ℕ} {shape : Shape} {reach file_base offset size : ℕ} {disk : DiskState}
    → WritesAt (stored S log flushed) shape reach file_base offset disk → size ≡ S.size - used shape → offset + length (blank_of size) ≤ S.size
blank_fits {S = S} {log = log} {flushed = flushed} {shape = shape} {size = size} writes fills =
    let room : used shape + 8 ≤ S.size = laid_room S log flushed shape writes.stores.well_formed writes.stores.laid in
    omega (arith, length-blank_of size (omega (arith, fills, room)), writes.place.end, fills, room)

pub each_to_end : {S : Geometry} {log : List Entry} {flushed : ℕ} {shape : Shape} {reach file_base offset : ℕ} {disk : DiskState}
    → WritesAt (stored S log flushed) shape reach file_base offset disk → EachImage (Stands S shape S.size) disk
each_to_end {S = S} {shape = shape} {reach = reach} writes = record { at = λ files image. stands_more S shape reach S.size files writes.low (writes.stores.each.at files image) }

-- behind a blank that was synced the next segment is opened
pub writes_opened : {S : Geometry} {log : List Entry} {flushed : ℕ} {shape : Shape} {reach file_base offset size next : ℕ} {old new : DiskState}
    → WritesAt (stored S log flushed) shape reach file_base offset old → shape ≡ shape_of S (take flushed log) → size ≡ S.size - used shape → next ≡ segment_start S (opened shape)
    → EachImage (HasPiece file_base offset (blank_of size)) new → EachImage (Stands S shape S.size) new → WritesAt (stored S log flushed) (opened shape) 0 next 0 new
writes_opened {S = S} {log = log} {flushed = flushed} {shape = shape} {file_base = file_base} {offset = offset} {new = new} writes is fills next has still =
    let blank : EachImage (HasPiece file_base offset (blank_of (S.size - used shape))) new =
    subst (λ (n : ℕ). EachImage (HasPiece file_base offset (blank_of n)) new) fills has in
    record {
      stores = stores_opened S log flushed shape S.size new writes.stores.well_formed writes.stores.within is (omega arith) (each_has writes.place blank still);
      place = record { last = next; end = refl };
      low = omega arith;
    }

-- ---- a batch

-- the records of a batch behind those of the segment
pub used_batch : {S : Geometry} {log : List Entry} {flushed count : ℕ} {shape : Shape} {batch : List ℕ} → IsBatch S log flushed count shape batch
    → used (shape_of S (take (flushed + count) log)) ≡ used shape + length batch
used_batch {S = S} {log = log} {flushed = flushed} {count = count} {shape = shape} {batch = batch} is =
    let records : List Entry = take count (drop flushed log) in
    let all : layouts (shape.last ++ records) ≡ layouts shape.last ++ batch =
    flat_map-append layout shape.last records ∙ ap (λ (l : List ℕ). layouts shape.last ++ l) (sym is.bytes) in
    ap used is.rule ∙ ap length all ∙ length-append (layouts shape.last) batch

-- a batch leaves room for a blank, and the zeros behind it end with the segment
pub batch_low : {S : Geometry} {log : List Entry} {flushed count : ℕ} {shape : Shape} {batch : List ℕ} {reach file_base offset : ℕ} {disk : DiskState} (file : LastFile)
    → WritesAt (stored S log flushed) shape reach file_base offset disk → IsBatch S log flushed count shape batch → file.ahead ≤ S.size → max reach (zeros_to file (offset + length batch)) ≤ S.size
batch_low {S = S} {log = log} {flushed = flushed} {count = count} {shape = shape} {batch = batch} {reach = reach} {offset = offset} file writes is low =
    let end : offset + length batch ≤ S.size =
    omega (arith, laid_room S log (flushed + count) (shape_of S (take (flushed + count) log)) writes.stores.well_formed (inl refl), used_batch is, writes.place.end) in
    omega (arith, end, low, writes.low)

pub write_stands : {S : Geometry} {log : List Entry} {flushed : ℕ} {shape : Shape} {reach file_base offset n : ℕ} {old new : DiskState} {name : List ℕ} (most : ℕ)
    → WritesAt (stored S log flushed) shape reach file_base offset old → name ≡ log_file file_base → offset + n ≤ most → Moves (At name (Torn offset n)) old new
    → Throughout old new (Stands S shape (max reach most))
write_stands {S = S} {log = log} {flushed = flushed} {shape = shape} {reach = reach} {offset = offset} {n = n} {old = old} {new = new} most writes named low moves =
    let is_named = stores_named S log flushed shape reach old writes.stores in
    let to_end = goes_on (at_start _ (Stands S shape (max reach (offset + n))) (each_more offset n writes.stores.each)) moves (each_torn is_named named writes.place moves writes.stores.each) in
    weaker to_end (λ files stands. stands_more S shape (max reach (offset + n)) (max reach most) files (omega (arith, low)) stands)

-- an offset behind the one that the next bytes go to
pub behind_end : {S : Geometry} {log : List Entry} {flushed : ℕ} {shape : Shape} {reach file_base offset end : ℕ} {disk : DiskState} {name : List ℕ}
    → WritesAt (stored S log flushed) shape reach file_base offset disk → name ≡ log_file file_base → offset ≤ end → IsBehind S shape name end
behind_end writes named low =
    let here = end_behind writes named in
    record { some = here.some; low = here.low; named = here.named; behind = omega (arith, here.behind, low) }

-- a batch that was written and synced is flushed
pub writes_batch : {S : Geometry} {log : List Entry} {flushed count : ℕ} {shape : Shape} {reach most file_base offset : ℕ} {old new : DiskState} {batch : List ℕ}
    → WritesAt (stored S log flushed) shape reach file_base offset old → IsBatch S log flushed count shape batch → most ≤ S.size
    → EachImage (HasPiece file_base offset batch) new → EachImage (Stands S shape most) new
    → WritesAt (stored S log (flushed + count)) (shape_of S (take (flushed + count) log)) most file_base (offset + length batch) new
writes_batch {S = S} {log = log} {flushed = flushed} {count = count} {shape = shape} {most = most} {new = new} {batch = batch} writes is low has still =
    let stores = stores_batch S log flushed count shape most batch new writes.stores.well_formed is (each_has writes.place has still) in
    record {
      stores = subst (λ (s : Shape). StoresAt S log (flushed + count) s most new) (sym is.rule) stores;
      place = record { last = writes.place.last ∙ ap (segment_start S) (sym is.rule); end = omega (arith, used_batch is, writes.place.end) };
      low = low;
    }

-- the same by equal numbers
pub writes_moved : {S : Geometry} {log : List Entry} {flushed : ℕ} {shape : Shape} {reach b o now_b now_o : ℕ} {disk : DiskState}
    → WritesAt (stored S log flushed) shape reach b o disk → now_b ≡ b → now_o ≡ o → WritesAt (stored S log flushed) shape reach now_b now_o disk
writes_moved {S = S} {log = log} {flushed = flushed} {shape = shape} {reach = reach} {b = b} {now_o = now_o} {disk = disk} writes same same_offset =
    subst (λ (k : ℕ). WritesAt (stored S log flushed) shape reach k now_o disk) (sym same) (subst (λ (k : ℕ). WritesAt (stored S log flushed) shape reach b k disk) (sym same_offset) writes)

pub has_moved : {b o now_b now_o : ℕ} {piece now_piece : List ℕ} {disk : DiskState} → now_b ≡ b → now_o ≡ o → piece ≡ now_piece → EachImage (HasPiece b o piece) disk
    → EachImage (HasPiece now_b now_o now_piece) disk
has_moved {o = o} {now_b = now_b} {now_o = now_o} {piece = piece} {disk = disk} same same_offset is each =
    subst (λ (l : List ℕ). EachImage (HasPiece now_b now_o l) disk) is (subst (λ (k : ℕ). EachImage (HasPiece now_b k piece) disk) (sym same_offset)
    (subst (λ (k : ℕ). EachImage (HasPiece k o piece) disk) (sym same) each))

-- ---- where the next bytes go

-- they go on inside the file as it is read
pub writes_inside : {S : Geometry} {log : List Entry} {flushed : ℕ} {shape : Shape} {reach file_base offset : ℕ} {disk : DiskState}
    → WritesAt (stored S log flushed) shape reach file_base offset disk → IsCrashImage disk disk.reads → IsInside file_base offset disk
writes_inside {S = S} {shape = shape} {file_base = file_base} {offset = offset} {disk = disk} writes read =
    let stands = writes.stores.each.at disk.reads read in
    let long : offset ≤ length (last_bytes S shape disk.reads) = omega (arith, ap length stands.last, length-take (used shape) (last_bytes S shape disk.reads), writes.place.end) in
    subst (λ (b : ℕ). offset ≤ length (bytes_of disk.reads (log_file b))) (sym writes.place.last) long

-- from the end of the records on
pub writes_from : (S : Geometry) (log : List Entry) (flushed reach end file_base offset : ℕ) (disk : DiskState) → StoresAt S log flushed (shape_of S (take flushed log)) reach disk → reach ≤ S.size
    → end ≡ end_of S.base (take flushed log) → file_base ≡ end / S.size * S.size → offset ≡ end % S.size → WritesAt (stored S log flushed) (shape_of S (take flushed log)) reach file_base offset disk
writes_from S log flushed reach end file_base offset disk stores low ends first behind =
    let front : List Entry = take flushed log in
    let shape : Shape = shape_of S front in
    let placed = placed_log S front (well_formed_take S flushed log stores.well_formed) in
    let small : used shape < S.size = omega (arith, placed.room) in
    let here : end ≡ end_in S shape = ends ∙ placed.end in
    let number : end / S.size ≡ next_segment S shape.older = ap (λ (n : ℕ). n / S.size) here ∙ div-mul-add (next_segment S shape.older) S.size (used shape) small in
    record {
      stores = stores;
      place = record { last = first ∙ ap (λ (n : ℕ). n * S.size) number; end = behind ∙ ap (λ (n : ℕ). n % S.size) here ∙ mod-mul-add (next_segment S shape.older) S.size (used shape) small };
      low = low;
    }

-- where nothing longer was written, the files are exactly those of the flushed records
pub writes_exact : {S : Geometry} {log : List Entry} {flushed most file_base offset : ℕ} {disk : DiskState} → most ≡ offset
    → WritesAt (stored S log flushed) (shape_of S (take flushed log)) most file_base offset disk → EachImage (AreSegmentFiles S (take flushed log)) disk
writes_exact {S = S} {log = log} {flushed = flushed} {disk = disk} same writes =
    let shape : Shape = shape_of S (take flushed log) in
    stores_exact S log flushed shape disk (subst (λ (r : ℕ). StoresAt S log flushed shape r disk) (same ∙ writes.place.end) writes.stores)

-- what holds anyway holds of a fault
pub on_err : {A E : Type 0} {P : Type 0} (result : Result A E) → P → OnErr result P
on_err (Ok value) holds = tt
on_err (Err fault) holds = holds
