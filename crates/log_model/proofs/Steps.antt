-- What a write at the end of the log and a sync do to the crash images.
use Rattle.std.proofs.Common.{◌≡◌, ◌≢◌, ⊎_elim, ℕ, suc, ◌+◌, ◌-◌, ◌<◌, ◌≤◌, max, List, [], ◌∷◌, ◌++◌, length, take, drop, replicate, Option, Some, None, refl, sym, ◌∙◌, ap, subst, arith, length-append}
use Rattle.std.proofs.lemmas.List.{take-take, take_at, take_all, length-take, length-replicate}
use Rattle.std.proofs.lemmas.List.Concat.{flat_map-append}
use Rattle.std.proofs.Math.Seq.{take-add}
use Rattle.mq_bytes.specs.Names.{log_file}
use Rattle.mq_outside.specs.Files.{Files, bytes_in, bytes_of, At, Torn, Shortened, Vanished}
use Rattle.mq_outside.specs.Disk.{DiskState, EachImage, Moves}
use Rattle.mq_outside.specs.Pieces.{HasPiece}
use Rattle.mq_outside.proofs.Moments.{each_step}
use Rattle.record_codec.specs.Entry.{Entry}
use Rattle.record_codec.specs.Layout.{layout}
use Rattle.record_codec.specs.Blanks.{blank_front}
use Rattle.log_model.specs.Bases.{Geometry}
use Rattle.log_model.specs.Segments.{layouts, blank_of, Shape, added, opened, used, segment_file, last_name, last_bytes, closed, AreClosed, NoOther, AreFilesOf, next_segment}
use Rattle.log_model.specs.Store.{Stands, Has, IsAt}
use Rattle.log_model.proofs.FileNames.{IsNamed, names_apart, next_absent, less_other}

-- ---- what a change of the last file leaves

-- the older segments stay where a later file changes
pub closed_stay : (S : Geometry) (n : ℕ) (older : List (List Entry)) (old new : Files) → IsNamed S n → next_segment S older ≤ n
    → ((other : List ℕ) → other ≢ segment_file S n → new other ≡ old other) → AreClosed S older old → AreClosed S older new
closed_stay S n [] old new named low others are = are
closed_stay S n (records ∷ older) old new named low others are = (
  others (segment_file S (next_segment S older)) (names_apart S n (next_segment S older) n named (omega (arith, low)) (omega arith) (λ is. omega (arith, is, low))) ∙ are.0,
  closed_stay S n older old new named (omega (arith, low)) others are.1,
)

-- no further file comes where the last one changes
none_comes : (S : Geometry) (n : ℕ) (old new : Files) → ((other : List ℕ) → other ≢ segment_file S n → new other ≡ old other) → NoOther S n old → NoOther S n new
none_comes S n old new others none = λ name in_folder apart. others name (apart n (omega arith)) ∙ none name in_folder apart

-- a longer reach
pub stands_more : (S : Geometry) (shape : Shape) (reach more : ℕ) (files : Files) → reach ≤ more → Stands S shape reach files → Stands S shape more files
stands_more S shape reach more files low stands = record {
  older = stands.older;
  last = stands.last;
  short = omega (arith, low, stands.short);
  others = stands.others;
}

pub each_more : {S : Geometry} {shape : Shape} {reach : ℕ} (at n : ℕ) {disk : DiskState} → EachImage (Stands S shape reach) disk → EachImage (Stands S shape (max reach (at + n))) disk
each_more {S = S} {shape = shape} {reach = reach} at n each = record { at = λ files image. stands_more S shape reach (max reach (at + n)) files (omega arith) (each.at files image) }

-- a torn write behind the records
pub torn_stands : (S : Geometry) (shape : Shape) (reach n : ℕ) (old new : Files) → IsNamed S (next_segment S shape.older)
    → At (last_name S shape) (Torn (used shape) n) old new → Stands S shape reach old → Stands S shape (max reach (used shape + n)) new
torn_stands S shape reach n old new named step stands = record {
  older = closed_stay S (next_segment S shape.older) shape.older old new named (omega arith) step.others stands.older;
  last = step.here.before ∙ stands.last;
  short = omega (arith, step.here.no_longer, stands.short);
  others = none_comes S (next_segment S shape.older) old new step.others stands.others;
}

pub each_torn : {S : Geometry} {shape : Shape} {reach : ℕ} {old new : DiskState} {name : List ℕ} {at n file_base : ℕ} → IsNamed S (next_segment S shape.older)
    → name ≡ log_file file_base → IsAt S shape file_base at
    → Moves (At name (Torn at n)) old new → EachImage (Stands S shape reach) old → EachImage (Stands S shape (max reach (at + n))) new
each_torn {S = S} {shape = shape} {reach = reach} {name = name} {at = at} {n = n} is_named named place moves each = each_step moves
    (λ before after torn stands.
    let step = subst (λ (a : ℕ). At (last_name S shape) (Torn a n) before after) place.end
    (subst (λ (l : List ℕ). At l (Torn at n) before after) (named ∙ ap log_file place.last) torn) in
    subst (λ (a : ℕ). Stands S shape (max reach (a + n)) after) (sym place.end) (torn_stands S shape reach n before after is_named step stands))
    each

-- a cut at the end of the records, or behind it
pub cut_stands : (S : Geometry) (shape : Shape) (reach len : ℕ) (old new : Files) → IsNamed S (next_segment S shape.older) → used shape ≤ len
    → At (last_name S shape) (Shortened len) old new → Stands S shape reach old → Stands S shape reach new
cut_stands S shape reach len old new named low step stands =
    let was : List ℕ = last_bytes S shape old in
    let is : List ℕ = last_bytes S shape new in
    let front : take (length is) was ≡ is = step.here.front in
    let long : used shape ≤ length was = omega (arith, ap length stands.last, length-take (used shape) was) in
    let still : used shape ≤ length is = omega (arith, step.here.no_shorter, long, low) in
    record {
      older = closed_stay S (next_segment S shape.older) shape.older old new named (omega arith) step.others stands.older;
      last = ap (λ (l : List ℕ). take (used shape) l) (sym front) ∙ take-take (used shape) (length is) was still ∙ stands.last;
      short = omega (arith, ap length front, length-take (length is) was, stands.short);
      others = none_comes S (next_segment S shape.older) old new step.others stands.others;
    }

-- ---- what stands there after a write that was synced

-- a piece behind the records that every image has
pub each_has : {S : Geometry} {shape : Shape} {reach : ℕ} {disk : DiskState} {piece : List ℕ} {at file_base : ℕ} → IsAt S shape file_base at
    → EachImage (HasPiece file_base at piece) disk → EachImage (Stands S shape reach) disk → EachImage (Has S shape reach piece) disk
each_has {S = S} {shape = shape} {piece = piece} {file_base = file_base} place each still = record {
  at = λ files image.
      let stands = still.at files image in
      let there : take (length piece) (drop (used shape) (last_bytes S shape files)) ≡ piece =
      subst (λ (b : ℕ). take (length piece) (drop (used shape) (bytes_of files (log_file b))) ≡ piece) place.last
      (subst (λ (k : ℕ). take (length piece) (drop k (bytes_of files (log_file file_base))) ≡ piece) place.end (each.at files image)) in
      record {
        older = stands.older;
        last = take-add (used shape) (length piece) (last_bytes S shape files) ∙ (λ i. stands.last i ++ there i);
        short = stands.short;
        others = stands.others;
      };
}

-- behind a batch the records of the batch stand too
pub batch_stands : (S : Geometry) (shape : Shape) (reach : ℕ) (records : List Entry) (batch : List ℕ) (files : Files) → batch ≡ layouts records
    → Has S shape reach batch files → Stands S (added shape records) reach files
batch_stands S shape reach records batch files is has =
    let all : layouts (shape.last ++ records) ≡ layouts shape.last ++ batch =
    flat_map-append layout shape.last records ∙ ap (λ (l : List ℕ). layouts shape.last ++ l) (sym is) in
    let size : length (layouts (shape.last ++ records)) ≡ used shape + length batch = ap length all ∙ length-append (layouts shape.last) batch in
    record {
      older = has.older;
      last = ap (λ (k : ℕ). take k (last_bytes S shape files)) size ∙ has.last ∙ sym all;
      short = has.short;
      others = has.others;
    }

pub length-blank_of : (n : ℕ) → 8 ≤ n → length (blank_of n) ≡ n
length-blank_of n low = omega (arith, length-append (blank_front n) (replicate (n - 8) 0), length-replicate {A = ℕ} (n - 8) 0, low)

-- a file that has bytes is there
there_if_some : (file : Option (List ℕ)) (bytes : List ℕ) → bytes_in file ≡ bytes → 0 < length bytes → file ≡ Some bytes
there_if_some None bytes is some = absurd (omega (arith, ap length is, some))
there_if_some (Some held) bytes is some = ap (λ (l : List ℕ). Some l) is

-- behind a blank the next segment is opened
pub blank_opens : (S : Geometry) (shape : Shape) (reach : ℕ) (files : Files) → used shape + 8 ≤ S.size → reach ≤ S.size → IsNamed S (suc (next_segment S shape.older))
    → Has S shape reach (blank_of (S.size - used shape)) files → Stands S (opened shape) 0 files
blank_opens S shape reach files room low named has =
    let size : length (blank_of (S.size - used shape)) ≡ S.size - used shape = length-blank_of (S.size - used shape) (omega (arith, room)) in
    let whole : last_bytes S shape files ≡ closed S shape.last =
    sym (take_all (used shape + length (blank_of (S.size - used shape))) (last_bytes S shape files) (omega (arith, size, has.short, room, low))) ∙ has.last in
    let some : 0 < length (closed S shape.last) = omega (arith, size, room, length-append (layouts shape.last) (blank_of (S.size - used shape))) in
    let none : files (segment_file S (suc (next_segment S shape.older))) ≡ None = next_absent S (next_segment S shape.older) files named has.others in
    record {
      older = (there_if_some (files (last_name S shape)) (closed S shape.last) whole some, has.older);
      last = refl;
      short = subst (λ (o : Option (List ℕ)). length (bytes_in o) ≤ 0) (sym none) (omega arith);
      others = λ name in_folder apart. has.others name in_folder (λ k within. apart k (omega (arith, within)));
    }

-- where nothing was written past the records, the files are exactly theirs
pub stands_exact : (S : Geometry) (shape : Shape) (files : Files) → Stands S shape (used shape) files → AreFilesOf S shape files
stands_exact S shape files stands = record {
  older = stands.older;
  last = sym (take_all (used shape) (last_bytes S shape files) stands.short) ∙ stands.last;
  others = stands.others;
}

-- and the files of a log have its records
pub exact_stands : (S : Geometry) (shape : Shape) (files : Files) → AreFilesOf S shape files → Stands S shape (used shape) files
exact_stands S shape files are = record {
  older = are.older;
  last = ap (λ (l : List ℕ). take (used shape) l) are.last ∙ take_all (used shape) (layouts shape.last) (omega arith);
  short = omega (arith, ap length are.last);
  others = are.others;
}

-- ---- what recovery does to the last file

-- the last file is removed, or was to be
pub vanished_stands : (S : Geometry) (shape : Shape) (reach : ℕ) (old new : Files) → IsNamed S (suc (next_segment S shape.older)) → At (last_name S (opened shape)) Vanished old new
    → Stands S (opened shape) reach old → Stands S (opened shape) reach new
vanished_stands S shape reach old new named step stands = record {
  older = closed_stay S (suc (next_segment S shape.older)) (shape.last ∷ shape.older) old new named (omega arith) step.others stands.older;
  last = refl;
  short = ⊎_elim
      (λ (gone : new (last_name S (opened shape)) ≡ None). omega (arith, ap (λ (o : Option (List ℕ)). length (bytes_in o)) gone))
      (λ (same : new (last_name S (opened shape)) ≡ old (last_name S (opened shape))). omega (arith, ap (λ (o : Option (List ℕ)). length (bytes_in o)) same, stands.short))
      step.here;
  others = none_comes S (suc (next_segment S shape.older)) old new step.others stands.others;
}

-- where the file of a new segment is absent, the one before it is the last, with its blank
pub opened_closes : (S : Geometry) (shape : Shape) (reach : ℕ) (files : Files) → used shape + 8 ≤ S.size → files (last_name S (opened shape)) ≡ None
    → Stands S (opened shape) reach files → Stands S shape S.size files
opened_closes S shape reach files room none stands =
    let bytes : last_bytes S shape files ≡ closed S shape.last = ap bytes_in stands.older.0 in
    let size : length (closed S shape.last) ≡ S.size =
    omega (arith, length-append (layouts shape.last) (blank_of (S.size - used shape)), length-blank_of (S.size - used shape) (omega (arith, room)), room) in
    record {
      older = stands.older.1;
      last = ap (λ (l : List ℕ). take (used shape) l) bytes ∙ take_at (layouts shape.last) (blank_of (S.size - used shape)) (used shape) refl;
      short = omega (arith, ap length bytes, size);
      others = less_other S (next_segment S shape.older) files none stands.others;
    }
