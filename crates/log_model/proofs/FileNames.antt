-- The files of different segments have different names.
use Rattle.std.proofs.Common.{◌≡◌, ◌≢◌, ⊎_elim, ℕ, suc, ◌+◌, ◌*◌, ◌^◌, ◌<◌, ◌≤◌, true, false, bytes_eq, List, codes, None, refl, sym, ◌∙◌, ap, arith}
use Rattle.std.proofs.lemmas.List.{take_at}
use Rattle.std.proofs.lemmas.Bool.{cases_order, cases_Bool, cases_eq}
use Rattle.std.proofs.lemmas.Slice.Eq.{bytes_eq-Decides}
use Rattle.std.proofs.Math.Nat.{mul-le-mul_right, mul-lt-mul_of_pos_right}
use Rattle.mq_bytes.specs.Names.{twenty_digits, log_file}
use Rattle.mq_bytes.proofs.NameLaws.{log_file-injective}
use Rattle.mq_outside.specs.Files.{Files}
use Rattle.record_codec.specs.Entry.{Entry}
use Rattle.log_model.specs.Bases.{Geometry}
use Rattle.log_model.specs.Log.{IsGeometry, IsWellFormed, end_of}
use Rattle.log_model.specs.Segments.{segment_start, opened, shape_of, segment_file, IsLogFile, NoOther, next_segment}
use Rattle.log_model.proofs.Places.{placed_log, end_low}

-- the files of segments 0 to n have names of 20 digits, each its own
pub record IsNamed (S : Geometry) (n : ℕ) : Type 0 where
  pub some : 0 < S.size
  pub low : n * S.size < 2 ^ 64

base_low : (S : Geometry) (n k : ℕ) → IsNamed S n → k ≤ n → k * S.size < 2 ^ 64
base_low S n k named within = omega (arith, named.low, mul-le-mul_right S.size within)

pub names_apart : (S : Geometry) (n j k : ℕ) → IsNamed S n → j ≤ n → k ≤ n → j ≢ k → segment_file S j ≢ segment_file S k
names_apart S n j k named j_within k_within apart same =
    let bases : j * S.size ≡ k * S.size = log_file-injective (j * S.size) (k * S.size) (base_low S n j named j_within) (base_low S n k named k_within) same in
    ⊎_elim apart (λ order. ⊎_elim
    (λ (less : j < k). absurd (omega (arith, bases, mul-lt-mul_of_pos_right less named.some)))
    (λ (more : k < j). absurd (omega (arith, bases, mul-lt-mul_of_pos_right more named.some))) order) (cases_order j k)

pub is_log_file : (S : Geometry) (k : ℕ) → IsLogFile (segment_file S k)
unfolding log_file
is_log_file S k = take_at (codes "commitlog/") (twenty_digits (k * S.size)) 10 refl

-- the next file is absent where there is no other
pub next_absent : (S : Geometry) (n : ℕ) (files : Files) → IsNamed S (suc n) → NoOther S n files → files (segment_file S (suc n)) ≡ None
next_absent S n files named others = others (segment_file S (suc n)) (is_log_file S (suc n))
    (λ k within. names_apart S (suc n) (suc n) k named (omega arith) (omega (arith, within)) (λ is. omega (arith, is, within)))

-- where the last file is absent, there is none behind the one before it
pub less_other : (S : Geometry) (n : ℕ) (files : Files) → files (segment_file S (suc n)) ≡ None → NoOther S (suc n) files → NoOther S n files
less_other S n files none others name in_folder apart = ⊎_elim
    (λ (same : bytes_eq name (segment_file S (suc n)) ≡ true). ap files ((bytes_eq-Decides _ _).0 same) ∙ none)
    (λ (other : bytes_eq name (segment_file S (suc n)) ≡ false). others name in_folder (λ k within is. ⊎_elim
    (λ (last : k ≡ suc n). let full : false ≡ true = sym other ∙ (bytes_eq-Decides _ _).1 (is ∙ ap (segment_file S) last) in absurd (cc))
    (λ (earlier : k ≡ suc n → ⊥). apart k (omega (arith, within, earlier)) is)
    (cases_eq k (suc n))))
    (cases_Bool (bytes_eq name (segment_file S (suc n))))

-- a segment that has a name below 2^63 is named with those before it
pub named_low : (S : Geometry) (n : ℕ) → 0 < S.size → n * S.size < 2 ^ 63 → IsNamed S n
named_low S n some low = record { some = some; low = omega (arith, low) }

-- a segment and the one behind it have names, where a log goes so far
pub named_by : (S : Geometry) (n end : ℕ) → IsGeometry S → n * S.size ≤ end → end ≤ 2 ^ 62 → IsNamed S (suc (suc n))
named_by S n end segment within low =
    let next : suc (suc n) * S.size ≡ n * S.size + S.size + S.size = omega arith in
    record { some = omega (arith, segment.low); low = omega (arith, next, within, low, segment.high) }

pub shape_named : (S : Geometry) (log : List Entry) → IsWellFormed S log → IsNamed S (suc (suc (next_segment S (shape_of S log).older)))
shape_named S log well =
    let placed = placed_log S log well in
    named_by S (next_segment S (shape_of S log).older) (end_of S.base log) well.segment (omega (arith, placed.end)) (end_low S log well)

-- with fewer segments
pub named_less : (S : Geometry) (n m : ℕ) → m ≤ n → IsNamed S n → IsNamed S m
named_less S n m low named = record { some = named.some; low = base_low S n m named low }

-- no segment of a log, nor the one behind it, begins at 2^63 or later
pub shape_low : (S : Geometry) (log : List Entry) → IsWellFormed S log → segment_start S (opened (shape_of S log)) < 2 ^ 63
shape_low S log well =
    let placed = placed_log S log well in
    omega (arith, placed.end, end_low S log well, well.segment.high)
