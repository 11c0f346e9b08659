-- A file's bytes, once its piece was added.
use Rattle.std.proofs.Common.{◌≡◌, ◌≢◌, ◌^◌, ◌⊎◌, ⊎_elim, inl, inr, ap, sym, ◌∙◌, subst, arith, ℕ, ◌+◌, ◌-◌, ◌*◌, ◌/◌, ◌%◌, ◌<◌, ◌≤◌, List, [], length, take, drop, Option, Some, None, IfSome, IsSome, refl}
use Rattle.std.proofs.lemmas.Bool.{cases_lt}
use Rattle.std.proofs.lemmas.List.{drop-take, take-take}
use Rattle.std.proofs.Math.Nat.{mul-le-mul_right, div-add-mod, mod-lt}
use Rattle.mq_bytes.specs.Names.{log_file}
use Rattle.mq_bytes.proofs.NameLaws.{log_file-injective}
use Rattle.mq_outside.specs.Covers.{piece_start, piece_end, Covers, HasRange, HoldsRange, PieceHolds}
use Rattle.mq_outside.specs.Readings.{HasAt}
use Rattle.mq_outside.specs.Files.{Files, bytes_in, bytes_of}
use Rattle.mq_outside.specs.declared.frozen.Frozen.{Frozen}
use Rattle.mq_outside.specs.declared.frozen_ranges.FrozenRanges.{FrozenRanges}
use Rattle.log_model.specs.Bases.{whole}
use Rattle.log_model.specs.Segments.{segment_file}
use Rattle.log_opening.specs.Freezes.{ArePieces, HasUpTo}

-- what comes of a piece that is added
pub record HasAdded (old : FrozenRanges) (piece : Frozen) (new : FrozenRanges) : Type 0 where
  pub added : (place n : ℕ) → Covers piece place n → HasRange new.pieces.items place n
  pub kept : (place n : ℕ) → HasRange old.pieces.items place n → HasRange new.pieces.items place n
  pub holds : (place : ℕ) (bytes : List ℕ) → HoldsRange old.pieces.items place bytes → PieceHolds piece place bytes → HoldsRange new.pieces.items place bytes
  pub end : new.end ≡ piece_end piece

-- the piece is of the first bytes of this segment's file, so many
pub record IsPieceOf (tells : Type 0) (segment number len : ℕ) (files : Files) (piece : Frozen) : Type 0 where
  pub base : piece.base ≡ number * segment
  pub from : piece.from ≡ 0
  pub len_is : piece.len ≡ len
  pub held : tells → piece.held ≡ Some (take len (bytes_of files (segment_file (whole segment) number)))
  pub no_others : IfSome piece.held (λ held. tells)

-- a segment before another ends where the other begins, or before
ends_first : (k number segment : ℕ) → k < number → k * segment + segment ≤ number * segment
ends_first k number segment less =
    let up : (k + 1) * segment ≤ number * segment = mul-le-mul_right segment (omega (arith, less)) in
    omega (arith, up)

-- a range of a segment that meets a piece of another's file is none
same_file : (k number offset n len segment : ℕ) → 0 < n → offset + n ≤ segment → len ≤ segment → number * segment ≤ k * segment + offset → k * segment + offset + n ≤ number * segment + len → k ≡ number
same_file k number offset n len segment some short low from to = ⊎_elim
    (λ (less : k < number). absurd (let none : ⊥ = omega (arith, ends_first k number segment less, from, some, short) in none))
    (λ (more : number ≤ k). ⊎_elim
    (λ (past : number < k). absurd (let none : ⊥ = omega (arith, ends_first number k segment past, to, some, low) in none))
    (λ (within : k ≤ number). omega (arith, more, within))
    (cases_lt number k))
    (cases_lt k number)

-- a part of a file's first bytes is the same part of the file
part_of : (bytes file : List ℕ) (offset len : ℕ) → offset + length bytes ≤ len → take (length bytes) (drop offset file) ≡ bytes → bytes ≡ take (length bytes) (drop offset (take len file))
part_of bytes file offset len within is =
    let long : len ≡ offset + (len - offset) = omega (arith, within) in
    let cut : drop offset (take len file) ≡ take (len - offset) (drop offset file) = ap (λ (n : ℕ). drop offset (take n file)) long ∙ drop-take offset (len - offset) file in
    sym (ap (λ (l : List ℕ). take (length bytes) l) cut ∙ (take-take (length bytes) (len - offset) (drop offset file) (omega (arith, within)) ∙ is))

-- a piece that holds nothing holds what may be asked of it, and one that holds bytes is of a disk that tells
unless_held : (tells : Type 0) (held : Option (List ℕ)) → IfSome held (λ bytes. tells) → ((at : ℕ) (bytes : List ℕ) → HasAt held at bytes) ⊎ tells
unless_held tells None is = inl (λ at bytes. tt)
unless_held tells (Some bytes) is = inr is

module _ (tells : Type 0) (segment number len : ℕ) (files : Files) (old new : FrozenRanges) (piece : Frozen) (short : len ≤ segment) (are : ArePieces tells segment (number * segment) files old)
    (is : IsPieceOf tells segment number len files piece) (has : HasAdded old piece new) where
  starts : piece_start piece ≡ number * segment
  starts = let base = is.base in let from = is.from in omega (arith, base, from)

  ends : piece_end piece ≡ number * segment + len
  ends = let base = is.base in let from = is.from in let long = is.len_is in omega (arith, base, from, long)

  more_range : (k offset n : ℕ) → 0 < n → offset + n ≤ segment → k * segment + offset + n ≤ number * segment + len → HasRange new.pieces.items (k * segment + offset) n
  more_range k offset n some low to = ⊎_elim
      (λ (past : number * segment < k * segment + offset + n). ⊎_elim
      (λ (less : k < number). absurd (let none : ⊥ = omega (arith, ends_first k number segment less, past, low) in none))
      (λ (more : number ≤ k).
      let up : number * segment ≤ k * segment = mul-le-mul_right segment more in
      has.added (k * segment + offset) n (record { from = omega (arith, starts, up); to = omega (arith, ends, to) }))
      (cases_lt k number))
      (λ (before : k * segment + offset + n ≤ number * segment). has.kept (k * segment + offset) n (are.range k offset n some low before))
      (cases_lt (number * segment) (k * segment + offset + n))

  more_held : tells → (k offset : ℕ) (bytes : List ℕ) → 0 < length bytes → offset + length bytes ≤ segment → take (length bytes) (drop offset (bytes_of files (segment_file (whole segment) k))) ≡ bytes
      → HoldsRange new.pieces.items (k * segment + offset) bytes
  more_held told k offset bytes some low read = has.holds (k * segment + offset) bytes (are.held told k offset bytes some low read) (λ covers.
      let from : number * segment ≤ k * segment + offset = let at = covers.from in omega (arith, starts, at) in
      let to : k * segment + offset + length bytes ≤ number * segment + len = let at = covers.to in omega (arith, ends, at) in
      let same : k ≡ number = same_file k number offset (length bytes) len segment some low short from to in
      let at : k * segment + offset - piece_start piece ≡ offset = let rise = ap (λ (j : ℕ). j * segment) same in omega (arith, rise, starts) in
      let within : offset + length bytes ≤ len = let rise = ap (λ (j : ℕ). j * segment) same in omega (arith, rise, to) in
      let here : take (length bytes) (drop offset (bytes_of files (segment_file (whole segment) number))) ≡ bytes =
      subst (λ (j : ℕ). take (length bytes) (drop offset (bytes_of files (segment_file (whole segment) j))) ≡ bytes) same read in
      subst (λ (held : Option (List ℕ)). HasAt held (k * segment + offset - piece_start piece) bytes) (sym (is.held told))
      (subst (λ (j : ℕ). bytes ≡ take (length bytes) (drop j (take len (bytes_of files (segment_file (whole segment) number))))) (sym at)
      (part_of bytes (bytes_of files (segment_file (whole segment) number)) offset len within here)))

  more_none : ((place : ℕ) (bytes : List ℕ) → HoldsRange new.pieces.items place bytes) ⊎ tells
  more_none = ⊎_elim
      (λ (nothing : (place : ℕ) (bytes : List ℕ) → HoldsRange old.pieces.items place bytes). ⊎_elim
      (λ (holds : (at : ℕ) (bytes : List ℕ) → HasAt piece.held at bytes). inl (λ place bytes. has.holds place bytes (nothing place bytes) (λ covers. holds (place - piece_start piece) bytes)))
      (λ (told : tells). inr told)
      (unless_held tells piece.held is.no_others))
      (λ (told : tells). inr told)
      are.none

  pub file_added : ArePieces tells segment (number * segment + len) files new
  file_added = record { end = let end = has.end in omega (arith, ends, end); range = more_range; held = more_held; none = more_none }

-- no pieces, at the start of the log
pub no_files : (tells : Type 0) (segment : ℕ) (files : Files) (stored : FrozenRanges) → stored.pieces.items ≡ [] → stored.end ≡ 0 → ArePieces tells segment 0 files stored
no_files tells segment files stored items end = record {
  end = omega (arith, end);
  range = λ k offset n some low to. absurd (let none : ⊥ = omega (arith, some, to) in none);
  held = λ told k offset bytes some low read. subst (λ (ps : List Frozen). HoldsRange ps (k * segment + offset) bytes) (sym items) tt;
  none = inl (λ place bytes. subst (λ (ps : List Frozen). HoldsRange ps place bytes) (sym items) tt);
}

-- more room changes nothing
pub pieces_same : (tells : Type 0) (segment place : ℕ) (files : Files) (old new : FrozenRanges) → new.pieces.items ≡ old.pieces.items → new.end ≡ old.end → ArePieces tells segment place files old
    → ArePieces tells segment place files new
pieces_same tells segment place files old new items end are = record {
  end = let low = are.end in omega (arith, end, low);
  range = λ k offset n some low to. subst (λ (ps : List Frozen). HasRange ps (k * segment + offset) n) (sym items) (are.range k offset n some low to);
  held = λ told k offset bytes some low read. subst (λ (ps : List Frozen). HoldsRange ps (k * segment + offset) bytes) (sym items) (are.held told k offset bytes some low read);
  none = ⊎_elim
      (λ (nothing : (at : ℕ) (bytes : List ℕ) → HoldsRange old.pieces.items at bytes). inl (λ at bytes. subst (λ (ps : List Frozen). HoldsRange ps at bytes) (sym items) (nothing at bytes)))
      (λ (told : tells). inr told)
      are.none;
}

-- a whole segment more
pub segments_low : (segment k count : ℕ) → k < count → k * segment + segment ≤ count * segment
segments_low segment k count less = ends_first k count segment less

pub one_more : (segment k : ℕ) → k * segment + segment ≡ (k + 1) * segment
one_more segment k = omega arith

-- the whole segments, and what is left
pub whole_and_rest : (segment first second end : ℕ) → first ≡ segment → second ≡ segment → end / first * segment + end % second ≡ end
whole_and_rest segment first second end is same =
    let number : end / first * segment ≡ end / segment * segment = ap (λ (n : ℕ). end / n * segment) is in
    let rest : end % second ≡ end % segment = ap (λ (n : ℕ). end % n) same in
    let both = div-add-mod end segment in
    omega (arith, number, rest, both)

-- a file that has bytes is there
there_if_some : (file : Option (List ℕ)) → 0 < length (bytes_in file) → IsSome file
there_if_some None some = absurd (let none : ⊥ = omega (arith, some) in none)
there_if_some (Some bytes) some = refl

-- the file of each segment that the log reaches is there
pub reached_is_there : (segment end k : ℕ) (files : Files) → 0 < segment → HasUpTo segment end files → k * segment < end → IsSome (files (segment_file (whole segment) k))
reached_is_there segment end k files some has low =
    let all = div-add-mod end segment in
    let file = files (segment_file (whole segment) k) in
    there_if_some file (⊎_elim
    (λ (whole_one : k < end / segment). let long = has.before k whole_one in omega (arith, long, some))
    (λ (last : end / segment ≤ k).
    let up : end / segment * segment ≤ k * segment = mul-le-mul_right segment last in
    let left : 0 < end % segment = omega (arith, up, low, all) in
    let no_more : k ≤ end / segment = ⊎_elim
    (λ (past : end / segment < k). absurd (let none : ⊥ = omega (arith, ends_first (end / segment) k segment past, low, all, mod-lt end {m = segment} some) in none))
    (λ (within : k ≤ end / segment). within)
    (cases_lt (end / segment) k) in
    let same : end / segment ≡ k = omega (arith, last, no_more) in
    subst (λ (j : ℕ). 0 < length (bytes_of files (segment_file (whole segment) j))) same (omega (arith, left, has.last)))
    (cases_lt k (end / segment)))

-- files that begin at different places have different names
pub files_apart : (a b : ℕ) → a < b → b < 2 ^ 64 → log_file a ≢ log_file b
files_apart a b less low same =
    let is : a ≡ b = log_file-injective a b (omega (arith, less, low)) low same in
    let none : ⊥ = omega (arith, is, less) in none
