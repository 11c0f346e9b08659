-- What is written in pieces, one behind another, behind the records of the last segment.
use Rattle.std.proofs.Common.{◌≡◌, ℕ, ◌+◌, ◌-◌, ◌≤◌, max, List, ◌++◌, length, take, drop, replicate, Option, Some, refl, sym, ◌∙◌, ap, subst, arith, append_assoc, length-append}
use Rattle.std.proofs.lemmas.List.{append-nil, take-take, take_at, length-take, length-replicate, replicate-append-replicate, take-replicate, take-append-drop}
use Rattle.std.proofs.lemmas.Slice.{drop-append-drop}
use Rattle.std.proofs.Transfers.{drop-appended}
use Rattle.mq_bytes.specs.Names.{log_file}
use Rattle.mq_outside.specs.Files.{Files, Same, bytes_in, bytes_of, At, Torn, overwritten}
use Rattle.mq_outside.specs.Disk.{DiskState, AgreesOn, EachImage, Freshens, IsFreshDurable, Moves, Throughout}
use Rattle.mq_outside.specs.Pieces.{HasPiece}
use Rattle.mq_outside.proofs.Moments.{each_step, goes_on, at_end}
use Rattle.record_codec.specs.Blanks.{blank_front}
use Rattle.log_model.specs.Bases.{Geometry}
use Rattle.log_model.specs.Segments.{Shape, used, last_name, next_segment}
use Rattle.log_model.specs.Store.{Stands}
use Rattle.log_model.proofs.FileNames.{IsNamed}
use Rattle.log_model.proofs.Steps.{torn_stands}
use Rattle.segment_files.specs.Turn.{HasZeros, IsBehind, blank_to}

-- ---- the bytes

-- a piece behind a piece is one piece
pub overwritten_more : (at : ℕ) (a b old : List ℕ) → at ≤ length old → overwritten (at + length a) b (overwritten at a old) ≡ overwritten at (a ++ b) old
overwritten_more at a b old low =
    let front : List ℕ = take at old ++ a in
    let n : ℕ = at + length a in
    let behind : List ℕ = drop (n + length b) old in
    let size : length (take at old ++ a) ≡ at + length a = omega (arith, length-append (take at old) a, length-take at old, low) in
    let before : take n (overwritten at a old) ≡ front = take_at front (drop n old) n size in
    let rest : drop (n + length b) (overwritten at a old) ≡ behind = drop-append-drop n old front (n + length b) (omega arith) size in
    let end : n + length b ≡ at + length (a ++ b) = omega (arith, length-append a b) in
    (λ i. before i ++ b ++ rest i) ∙ ap (λ (l : List ℕ). l ++ behind) (append_assoc (take at old) a b)
    ∙ ap (λ (k : ℕ). take at old ++ (a ++ b) ++ drop k old) end

pub length-blank_to : (size done : ℕ) → 8 ≤ done → length (blank_to size done) ≡ done
length-blank_to size done low = omega (arith, length-append (blank_front size) (replicate (done - 8) 0), length-replicate {A = ℕ} (done - 8) 0, low)

-- more zeros
pub blank_more : (size done n : ℕ) → 8 ≤ done → blank_to size done ++ replicate n 0 ≡ blank_to size (done + n)
blank_more size done n low =
    let more : done - 8 + n ≡ done + n - 8 = omega (arith, low) in
    append_assoc (blank_front size) (replicate (done - 8) 0) (replicate n 0)
    ∙ ap (λ (l : List ℕ). blank_front size ++ l) (replicate-append-replicate (done - 8) n 0 ∙ ap (λ (k : ℕ). replicate k 0) more)

-- the next piece of a blank
pub blank_grows : (at size done n : ℕ) (old : List ℕ) → at ≤ length old → 8 ≤ done
    → overwritten (at + done) (replicate n 0) (overwritten at (blank_to size done) old) ≡ overwritten at (blank_to size (done + n)) old
blank_grows at size done n old inside low =
    subst (λ (k : ℕ). overwritten (at + k) (replicate n 0) (overwritten at (blank_to size done) old) ≡ overwritten at (blank_to size (done + n)) old)
    (length-blank_to size done low)
    (overwritten_more at (blank_to size done) (replicate n 0) old inside ∙ ap (λ (l : List ℕ). overwritten at l old) (blank_more size done n low))

-- a blank of which so much is written, and the next piece of zeros
pub blank_next : (at size done n : ℕ) (zeros old : List ℕ) {mid new : Option (List ℕ)} → zeros ≡ replicate (length zeros) 0 → n ≤ length zeros → at ≤ length old → 8 ≤ done
    → mid ≡ Some (overwritten at (blank_to size done) old) → new ≡ Some (overwritten (at + done) (take n zeros) (bytes_in mid))
    → new ≡ Some (overwritten at (blank_to size (done + n)) old)
blank_next at size done n zeros old are small inside low was wrote =
    let piece : take n zeros ≡ replicate n 0 = ap (λ (l : List ℕ). take n l) are ∙ take-replicate n (length zeros) 0 small in
    wrote ∙ (λ i. Some (overwritten (at + done) (piece i) (bytes_in (was i))))
    ∙ ap (λ (l : List ℕ). Some l) (blank_grows at size done n old inside low)

-- what was written lies in the file
pub reaches : (at : ℕ) (piece old : List ℕ) → at ≤ length old → at + length piece ≤ length (overwritten at piece old)
reaches at piece old low = omega (arith, length-append (take at old ++ piece) (drop (at + length piece) old), length-append (take at old) piece, length-take at old, low)

-- ---- zeros ahead

-- none are written yet
pub zeros_start : (disk : DiskState) (name : List ℕ) (at : ℕ) → HasZeros name at 0 disk disk
zeros_start disk name at =
    let was : List ℕ = bytes_of disk.reads name in
    let front : take at was ++ replicate 0 0 ≡ take at was = append-nil (take at was) in
    let rest : drop (at + length (replicate {A = ℕ} 0 0)) was ≡ drop at was = ap (λ (k : ℕ). drop k was) (omega arith) in
    record {
      bytes = sym ((λ i. front i ++ rest i) ∙ take-append-drop at was);
      fresh = λ from before ends is. subst (λ (k : ℕ). disk.fresh name from k) (omega arith) is;
    }

-- the file has those that are written
pub zeros_inside : {name : List ℕ} {at n : ℕ} {old new : DiskState} → at ≤ length (bytes_of old.reads name) → HasZeros name at n old new → at + n ≤ length (bytes_of new.reads name)
zeros_inside {name = name} {at = at} {n = n} {old = old} low has =
    omega (arith, ap (λ (l : List ℕ). length l) has.bytes, reaches at (replicate n 0) (bytes_of old.reads name) low, length-replicate {A = ℕ} n 0)

-- the next piece of zeros
pub zeros_next : {name : List ℕ} {at n next : ℕ} {old mid new : DiskState} (k : ℕ) (zeros : List ℕ) → next ≡ at + n → zeros ≡ replicate (length zeros) 0 → k ≤ length zeros
    → at ≤ length (bytes_of old.reads name) → HasZeros name at n old mid
    → new.reads name ≡ Some (overwritten next (take k zeros) (bytes_of mid.reads name)) → Freshens name next (length (take k zeros)) mid new → HasZeros name at (n + k) old new
zeros_next {name = name} {at = at} {n = n} {next = next} {old = old} {new = new} k zeros here are small low has wrote freshens =
    let was : List ℕ = bytes_of old.reads name in
    let long : length (replicate n 0) ≡ n = length-replicate {A = ℕ} n 0 in
    let piece : take k zeros ≡ replicate k 0 = ap (λ (l : List ℕ). take k l) are ∙ take-replicate k (length zeros) 0 small in
    let front : overwritten (at + n) (replicate k 0) (overwritten at (replicate n 0) was) ≡ overwritten at (replicate n 0 ++ replicate k 0) was =
    subst (λ (m : ℕ). overwritten (at + m) (replicate k 0) (overwritten at (replicate n 0) was) ≡ overwritten at (replicate n 0 ++ replicate k 0) was) long
    (overwritten_more at (replicate n 0) (replicate k 0) was low) in
    record {
      bytes = ap bytes_in wrote ∙ (λ i. overwritten (here i) (piece i) (has.bytes i)) ∙ front
          ∙ ap (λ (l : List ℕ). overwritten at l was) (replicate-append-replicate n k 0);
      fresh = λ from before ends is.
          let there : from + (before + n) ≡ next = omega (arith, ends, here) in
          subst (λ (m : ℕ). new.fresh name from m) (omega (arith, length-take k zeros, small)) (freshens.longer from (before + n) there (has.fresh from before ends is));
    }

-- ---- the crash images

torn_from : (start at n : ℕ) (old new : Option (List ℕ)) → start ≤ at → Torn at n old new → Torn start (at + n - start) old new
torn_from start at n old new low torn =
    let end : at + n ≡ start + (at + n - start) = omega (arith, low) in
    record {
      there = torn.there;
      before = sym (take-take start at (bytes_in new) low) ∙ ap (λ (l : List ℕ). take start l) torn.before ∙ take-take start at (bytes_in old) low;
      after = subst (λ (k : ℕ). drop k (bytes_in new) ≡ drop k (bytes_in old)) end torn.after;
      no_shorter = torn.no_shorter;
      no_longer = omega (arith, end, torn.no_longer);
    }

-- a torn write somewhere behind the records, within the reach
behind_stands : (S : Geometry) (shape : Shape) (reach : ℕ) (name : List ℕ) (at n : ℕ) (old new : Files) → IsBehind S shape name at → at + n ≤ reach
    → At name (Torn at n) old new → Stands S shape reach old → Stands S shape reach new
behind_stands S shape reach name at n old new behind low step stands =
    let named : IsNamed S (next_segment S shape.older) = record { some = behind.some; low = behind.low } in
    let here : At (last_name S shape) (Torn at n) old new = subst (λ (l : List ℕ). At l (Torn at n) old new) behind.named step in
    let whole : At (last_name S shape) (Torn (used shape) (at + n - used shape)) old new =
    record { here = torn_from (used shape) at n (old (last_name S shape)) (new (last_name S shape)) behind.behind here.here; others = here.others } in
    let most : max reach (used shape + (at + n - used shape)) ≡ reach = omega (arith, behind.behind, low) in
    subst (λ (r : ℕ). Stands S shape r new) most (torn_stands S shape reach (at + n - used shape) old new named whole stands)

pub each_behind : {S : Geometry} {shape : Shape} {reach : ℕ} {name : List ℕ} {at n : ℕ} {old new : DiskState} → IsBehind S shape name at → at + n ≤ reach
    → Moves (At name (Torn at n)) old new → EachImage (Stands S shape reach) old → EachImage (Stands S shape reach) new
each_behind {S = S} {shape = shape} {reach = reach} {name = name} {at = at} {n = n} behind low moves each =
    each_step moves (λ before after torn stands. behind_stands S shape reach name at n before after behind low torn stands) each

-- one write more, at an offset that is no earlier
pub writes_on : {S : Geometry} {shape : Shape} {reach : ℕ} {name : List ℕ} {at next n : ℕ} {first old new : DiskState} → IsBehind S shape name at → at ≤ next → next + n ≤ reach
    → Moves (At name (Torn next n)) old new → Throughout first old (Stands S shape reach) → Throughout first new (Stands S shape reach)
writes_on {S = S} {shape = shape} {name = name} {next = next} behind later low moves so_far =
    let there : IsBehind S shape name next = record { some = behind.some; low = behind.low; named = behind.named; behind = omega (arith, behind.behind, later) } in
    goes_on so_far moves (each_behind there low moves (at_end so_far))

-- a piece that is written and synced stands in every image
pub each_piece : (old : DiskState) (file_base : ℕ) {mid new : DiskState} {name piece : List ℕ} {at : ℕ} → name ≡ log_file file_base → at ≤ length (bytes_of old.reads name)
    → bytes_of mid.reads name ≡ overwritten at piece (bytes_of old.reads name) → Moves Same mid new → EachImage (AgreesOn name at (length piece) new.reads) new
    → EachImage (HasPiece file_base at piece) new
each_piece old file_base {new = new} {name = name} {piece = piece} {at = at} named inside wrote moves synced = record {
  at = λ files image.
      let was : List ℕ = bytes_of old.reads name in
      let rest : List ℕ = drop (at + length piece) was in
      let now : bytes_of new.reads name ≡ overwritten at piece was = ap (λ (f : Files). bytes_of f name) moves.reads ∙ wrote in
      let front : length (take at was) ≡ at = omega (arith, length-take at was, inside) in
      let behind : drop at (overwritten at piece was) ≡ piece ++ rest =
      subst (λ (k : ℕ). drop k (overwritten at piece was) ≡ piece ++ rest) front
      (drop-appended (take at was) (overwritten at piece was) (piece ++ rest) (append_assoc (take at was) piece rest)) in
      let has : take (length piece) (drop at (bytes_of files name)) ≡ piece =
      synced.at files image ∙ ap (λ (l : List ℕ). take (length piece) (drop at l)) now
      ∙ ap (λ (l : List ℕ). take (length piece) l) behind ∙ take_at piece rest (length piece) refl in
      subst (λ (l : List ℕ). take (length piece) (drop at (bytes_of files l)) ≡ piece) named has;
}

-- what stands in front of more stands there
has_front : (file_base at : ℕ) (piece more : List ℕ) (files : Files) → HasPiece file_base at (piece ++ more) files → HasPiece file_base at piece files
has_front file_base at piece more files has =
    let there : List ℕ = drop at (bytes_of files (log_file file_base)) in
    let low : length piece ≤ length (piece ++ more) = omega (arith, length-append piece more) in
    sym (take-take (length piece) (length (piece ++ more)) there low) ∙ ap (λ (l : List ℕ). take (length piece) l) has ∙ take_at piece more (length piece) refl

-- a piece that is written, with zeros behind it, and synced stands in every image
pub each_written : (old : DiskState) (file_base n : ℕ) {mid wrote new : DiskState} {name piece : List ℕ} {at end : ℕ} → name ≡ log_file file_base → at ≤ length (bytes_of old.reads name)
    → mid.reads name ≡ Some (overwritten at piece (bytes_of old.reads name)) → mid.fresh name at (length piece) → end ≡ at + length piece → HasZeros name end n mid wrote
    → Moves Same wrote new → IsFreshDurable name wrote new → EachImage (HasPiece file_base at piece) new
each_written old file_base n {mid = mid} {wrote = wrote} {new = new} {name = name} {piece = piece} {at = at} {end = end} named inside was fresh ends zeros moves durable =
    let first : List ℕ = bytes_of old.reads name in
    let all : List ℕ = piece ++ replicate n 0 in
    let bytes : bytes_of wrote.reads name ≡ overwritten at all first =
    zeros.bytes ∙ (λ i. overwritten (ends i) (replicate n 0) (bytes_in (was i))) ∙ overwritten_more at piece (replicate n 0) first inside in
    let long : length piece + n ≡ length all = omega (arith, length-append piece (replicate n 0), length-replicate {A = ℕ} n 0) in
    let is_fresh : wrote.fresh name at (length all) = subst (λ (k : ℕ). wrote.fresh name at k) long (zeros.fresh at (length piece) (sym ends) fresh) in
    let has = each_piece old file_base {mid = wrote} {new = new} {name = name} {piece = all} {at = at} named inside bytes moves (durable at (length all) is_fresh) in
    record { at = λ files image. has_front file_base at piece (replicate n 0) files (has.at files image) }
