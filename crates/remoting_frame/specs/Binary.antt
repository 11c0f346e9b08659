-- The header that bytes are in binary form, read from the left by places.
use Rattle.std.specs.Prelude.{ℕ, zero, suc, ◌+◌, ◌^◌, ◌==◌, not, ◌||◌, List, [], ◌∷◌, nat_lt}
use Rattle.std.specs.Prelude.{length, take, drop, Option, Some, None, if◌then◌else◌, option_map}
use Rattle.std.specs.Int.{Width, w16, w32, byte_len, from_be_bytes, cast_signed}
use Rattle.std.specs.Str.{is_utf8}
use Rattle.std.specs.Ordering.{nat_cmp}
use Rattle.std.specs.Cmp.Lexicographic.{slice_cmp}
use Rattle.std.specs.BTreeMap.{insert_entry}
use Rattle.remoting_frame.specs.Gives.{◌>>=◌}
use Rattle.remoting_frame.specs.Head.{Head}

-- the number at a place
abbrev pub number_at : Width → ℕ → List ℕ → ℕ
number_at w at bytes = from_be_bytes w (take (byte_len w) (drop at bytes))

-- the text that the bytes are
unfoldable pub text_of : List ℕ → Option (List ℕ)
text_of bytes = if is_utf8 bytes then Some bytes else None

-- ---- pairs: length of the name 2, name, length of the value 4, value

-- how long the value of the first pair is, if it fits, behind a name of so many bytes
unfoldable pub value_len_of : List ℕ → ℕ → ℕ → Option (ℕ × ℕ)
value_len_of bytes name value = if not (nat_lt value (2 ^ 31)) || nat_lt (length bytes) (6 + name + value) then None else Some (name, value)

unfoldable pub name_len_of : List ℕ → ℕ → Option (ℕ × ℕ)
name_len_of bytes name = if nat_lt (length bytes) (6 + name) then None else value_len_of bytes name (number_at w32 (2 + name) bytes)

-- how long the name and the value of the first pair are, if they fit
unfoldable pub lens_of : List ℕ → Option (ℕ × ℕ)
lens_of bytes = if nat_lt (length bytes) 6 then None else name_len_of bytes (number_at w16 0 bytes)

-- the first pair, and the bytes behind it
unfoldable pub first_pair : List ℕ → Option ((List ℕ × List ℕ) × List ℕ)
first_pair bytes = do
  lens ← lens_of bytes
  name ← text_of (take lens.0 (drop 2 bytes))
  value ← text_of (take lens.1 (drop (6 + lens.0) bytes))
  Some ((name, value), drop (6 + lens.0 + lens.1) bytes)

-- the pairs that the bytes are, of which there are at most n
abbrev pub pairs_within : ℕ → List ℕ → Option (List (List ℕ × List ℕ))
pairs_within n [] = Some []
pairs_within zero (b ∷ bytes) = None
pairs_within (suc n) (b ∷ bytes) = first_pair (b ∷ bytes) >>= λ first. option_map (λ others. first.0 ∷ others) (pairs_within n first.1)

-- the pairs that the bytes are, all of them
abbrev pub binary_pairs : List ℕ → Option (List (List ℕ × List ℕ))
binary_pairs bytes = pairs_within (length bytes) bytes

-- pairs in byte order of their names, and the value of a name put among them
abbrev pub put_pair : List (List ℕ × List ℕ) → List ℕ × List ℕ → List (List ℕ × List ℕ)
put_pair pairs p = insert_entry (slice_cmp nat_cmp) pairs p.0 p.1

abbrev pub put_all : List (List ℕ × List ℕ) → List (List ℕ × List ℕ) → List (List ℕ × List ℕ)
put_all pairs [] = pairs
put_all pairs (p ∷ others) = put_all (put_pair pairs p) others

-- the first pair put among those so far, and the bytes behind it
abbrev pub put_first_of : List (List ℕ × List ℕ) → List ℕ → Option (List (List ℕ × List ℕ) × List ℕ)
put_first_of pairs bytes = option_map (λ first. (put_pair pairs first.0, first.1)) (first_pair bytes)

-- each name once with its last value, in byte order
abbrev pub by_name : List (List ℕ × List ℕ) → List (List ℕ × List ℕ)
by_name pairs = put_all [] pairs

-- ---- the header: code 2, language 1, version 2, opaque 4, flag 4, length of the remark 4, remark, length of the pairs 4, pairs

unfoldable pub ext_len_of : List ℕ → ℕ → ℕ → Option ℕ
ext_len_of bytes remark ext = if nat_lt ext (2 ^ 31) then (if length bytes == 21 + remark + ext then Some remark else None) else None

unfoldable pub remark_fits : List ℕ → ℕ → Option ℕ
remark_fits bytes remark = if not (nat_lt remark (2 ^ 31)) || nat_lt (length bytes) (21 + remark) then None
    else ext_len_of bytes remark (number_at w32 (17 + remark) bytes)

-- how long the remark is, where it fits and the pairs end with the bytes
unfoldable pub remark_len_of : List ℕ → Option ℕ
remark_len_of bytes = if nat_lt (length bytes) 21 then None else remark_fits bytes (number_at w32 13 bytes)

unfoldable pub binary_header : List ℕ → Option Head
binary_header bytes = do
  len ← remark_len_of bytes
  remark ← text_of (take len (drop 17 bytes))
  ext ← option_map by_name (binary_pairs (drop (21 + len) bytes))
  Some (record {
    code = cast_signed w16 (number_at w16 0 bytes);
    version = cast_signed w16 (number_at w16 3 bytes);
    opaque = cast_signed w32 (number_at w32 5 bytes);
    flag = cast_signed w32 (number_at w32 9 bytes);
    remark = remark;
    ext = ext;
  })
